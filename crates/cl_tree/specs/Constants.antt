-- Constant expressions and their values (C99, 6.6): numbers, conversions, vector literals, `?:` and the operators of numbers and vectors.
use Rattle.std.specs.Prelude.{ℕ, ◌-◌, ◌%◌, ◌^◌, nat_eq, nat_lt, nat_le, not, ◌&&◌, ◌||◌, Bool, true, false, if◌then◌else◌, List, [], ◌∷◌, ◌++◌, map, replicate, Option, Some, None, bit_and, bit_or, bit_xor, int_lt}
use Rattle.clv_num.specs.Numbers.{signed_of, add_of, sub_of, mul_of, neg_of, udiv_of, urem_of, sdiv_of, srem_of, not_of, shl_of, lshr_of, ashr_of, convert_of}
use Rattle.clv_place.specs.declared.place.Place.{Place}
use Rattle.cl_types.specs.declared.types.ClType.{ClType}
use Rattle.cl_types.specs.declared.types.TypeId.{TypeId}
use Rattle.cl_types.specs.declared.operator.UnOp.{UnOp}
use Rattle.cl_types.specs.declared.operator.UnOp.TheVariants as un
use Rattle.cl_types.specs.declared.operator.BinOp.{BinOp}
use Rattle.cl_types.specs.declared.operator.BinOp.TheVariants as bin
use Rattle.cl_builtins.specs.declared.kind.Gentype.{Gentype}
use Rattle.cl_tree.specs.declared.shape.Shape.{Shape}
use Rattle.cl_tree.specs.declared.shape.Shape.TheVariants as shape
pub use Rattle.cl_tree.specs.declared.constant.Constancy.{Constancy}
pub use Rattle.cl_tree.specs.declared.constant.Constancy.TheVariants.{Varies, Divides, Is}
pub use Rattle.cl_tree.specs.declared.constant.Operands.{Operands}
pub use Rattle.cl_tree.specs.declared.constant.Operands.TheVariants.{Vary, Divide, Are}
use Rattle.cl_tree.specs.declared.expression.TExpr.{TExpr}
use Rattle.cl_tree.specs.declared.expression.TNode.TheOpen.{TExpr-F, TNode-F, Number, Convert, Unary, Binary, Cond, Vector}
use Rattle.cl_tree.specs.declared.expression.TNode.TheFolds.{fold-TExpr}
use Rattle.cl_tree.specs.Shapes.{shape_of, is_number, is_vector}

-- ---- operators on one component of w bits, signed or not: a pattern below 2 ^ w

abbrev pub truth : Bool → ℕ
truth true = 1
truth false = 0

abbrev pub is_least : ℕ → ℕ → ℕ → Bool
is_least w a b = nat_eq a (2 ^ (w - 1)) && nat_eq b (2 ^ w - 1)

-- a quotient by zero or out of range is none
abbrev pub quotient : ℕ → Bool → ℕ → ℕ → Option ℕ
quotient w signed a b =
    if nat_eq b 0 then None
    else if signed then (if is_least w a b then None else Some (sdiv_of w a b))
    else Some (udiv_of w a b)

abbrev pub remainder : ℕ → Bool → ℕ → ℕ → Option ℕ
remainder w signed a b = if nat_eq b 0 then None else if signed then Some (srem_of w a b) else Some (urem_of w a b)

abbrev pub is_less : ℕ → Bool → ℕ → ℕ → Bool
is_less w signed a b = if signed then int_lt (signed_of w a) (signed_of w b) else nat_lt a b

-- What an operator makes of two components; of a comparison the truth that stands for `true`, which is -1 in a vector.
abbrev pub component_of : BinOp → ℕ → Bool → ℕ → ℕ → ℕ → Option ℕ
component_of bin.Mul w signed holds a b = Some (mul_of w a b)
component_of bin.Div w signed holds a b = quotient w signed a b
component_of bin.Rem w signed holds a b = remainder w signed a b
component_of bin.Add w signed holds a b = Some (add_of w a b)
component_of bin.Sub w signed holds a b = Some (sub_of w a b)
component_of bin.Shl w signed holds a b = Some (shl_of w a (b % w))
component_of bin.Shr w signed holds a b = Some (if signed then ashr_of w a (b % w) else lshr_of w a (b % w))
component_of bin.Less w signed holds a b = Some (if is_less w signed a b then holds else 0)
component_of bin.Greater w signed holds a b = Some (if is_less w signed b a then holds else 0)
component_of bin.LessEqual w signed holds a b = Some (if is_less w signed b a then 0 else holds)
component_of bin.GreaterEqual w signed holds a b = Some (if is_less w signed a b then 0 else holds)
component_of bin.Equal w signed holds a b = Some (if nat_eq a b then holds else 0)
component_of bin.NotEqual w signed holds a b = Some (if nat_eq a b then 0 else holds)
component_of bin.And w signed holds a b = Some (bit_and a b)
component_of bin.Xor w signed holds a b = Some (bit_xor a b)
component_of bin.Or w signed holds a b = Some (bit_or a b)
component_of bin.LogicalAnd w signed holds a b = Some (truth (not (nat_eq a 0) && not (nat_eq b 0)))
component_of bin.LogicalOr w signed holds a b = Some (truth (not (nat_eq a 0) || not (nat_eq b 0)))

abbrev pub yes_of : Gentype → ℕ
yes_of t = if nat_eq t.count 1 then 1 else 2 ^ t.bits - 1

abbrev pub with : Option ℕ → Option (List ℕ) → Option (List ℕ)
with None rest = None
with (Some n) None = None
with (Some n) (Some ns) = Some (n ∷ ns)

-- The pattern that an operator takes of a number; `&&` and `||` ask of a number of any bits whether it is 0.
abbrev pub taken_by : BinOp → ℕ → ℕ → ℕ
taken_by bin.LogicalAnd w n = n
taken_by bin.LogicalOr w n = n
taken_by op w n = n % 2 ^ w

abbrev pub number_by : BinOp → Gentype → ℕ → ℕ → Option ℕ
number_by op t a b = component_of op t.bits t.signed (yes_of t) (taken_by op t.bits a) (taken_by op t.bits b)

abbrev pub components_of : BinOp → Gentype → List ℕ → List ℕ → Option (List ℕ)
components_of op t (a ∷ xs) (b ∷ ys) = with (number_by op t a b) (components_of op t xs ys)
components_of op t _ _ = Some []

abbrev pub unary_of : UnOp → ℕ → ℕ → ℕ
unary_of un.Minus w n = neg_of w (n % 2 ^ w)
unary_of un.Not w n = not_of w (n % 2 ^ w)
unary_of un.LogicalNot w n = truth (nat_eq n 0)
unary_of _ w n = n

abbrev pub unaries_of : UnOp → ℕ → List ℕ → List ℕ
unaries_of op w = map (unary_of op w)

-- ---- conversions

abbrev pub number_to : Shape → Shape → ℕ → ℕ
number_to from shape.Bool n = truth (not (nat_eq n 0))
number_to (shape.Integers f) (shape.Integers t) n = convert_of f.bits (n % 2 ^ f.bits) f.signed t.bits
number_to from to n = n

abbrev pub element_shape : Shape → Shape
element_shape (shape.Integers t) = shape.Integers (record t { count = 1 })
element_shape s = s

abbrev pub count_in : Shape → ℕ
count_in (shape.Integers t) = t.count
count_in s = 1

-- a number as a number, or repeated in a vector; any other value stays
abbrev pub convert_to : Shape → Shape → List ℕ → List ℕ
convert_to from to (n ∷ []) = replicate (count_in to) (number_to from (element_shape to) n)
convert_to from to ns = ns

-- ---- the constancy of an expression

pub record Known : Type 0 where
  pub ty : TypeId
  pub is : Constancy

abbrev pub GivenTypes : Type 0
GivenTypes = List ClType → Known

abbrev pub GivenNode : Type 0
GivenNode = List ClType → TypeId → Place → Constancy

-- ---- operands

abbrev pub and_first : TypeId → List ℕ → Operands → Operands
and_first t ns Vary = Vary
and_first t ns (Divide p) = Divide p
and_first t ns (Are ts nss) = Are (t ∷ ts) (ns ∷ nss)

abbrev pub first_divides : Place → Operands → Operands
first_divides p Vary = Vary
first_divides p rest = Divide p

abbrev pub and_known : TypeId → Constancy → Operands → Operands
and_known t Varies rest = Vary
and_known t (Divides p) rest = first_divides p rest
and_known t (Is ns) rest = and_first t ns rest

abbrev pub operands : List ClType → List GivenTypes → Operands
operands cs [] = Are [] []
operands cs (g ∷ gs) = and_known (g cs).ty (g cs).is (operands cs gs)

abbrev pub is_arithmetic : Shape → Bool
is_arithmetic s = is_number s || is_vector s

abbrev pub when_arithmetic : Shape → Constancy → Constancy
when_arithmetic s c = if is_arithmetic s then c else Varies

abbrev pub or_divides : Place → Option (List ℕ) → Constancy
or_divides p None = Divides p
or_divides p (Some ns) = Is ns

abbrev pub gentype_in : Shape → Gentype
gentype_in (shape.Integers t) = t
gentype_in s = record { bits = 8; signed = false; count = 1 }

abbrev pub joined : List (List ℕ) → List ℕ
joined [] = []
joined (ns ∷ nss) = ns ++ joined nss

abbrev pub repeated : ℕ → List ℕ → List ℕ
repeated n (x ∷ []) = replicate n x
repeated n xs = xs

abbrev pub is_zero : List ℕ → Bool
is_zero (n ∷ []) = nat_eq n 0
is_zero _ = true

-- what operators make of their operands' components, at this place and with this type
abbrev pub converted : Shape → List ClType → Operands → Constancy
converted to cs Vary = Varies
converted to cs (Divide p) = Divides p
converted to cs (Are (t ∷ []) (ns ∷ [])) = when_arithmetic to (Is (convert_to (shape_of cs t) to ns))
converted to cs (Are _ _) = Varies

abbrev pub has_value : UnOp → Bool
has_value un.Plus = true
has_value un.Minus = true
has_value un.Not = true
has_value un.LogicalNot = true
has_value _ = false

abbrev pub negated : UnOp → List ClType → Operands → Constancy
negated op cs Vary = Varies
negated op cs (Divide p) = if has_value op then Divides p else Varies
negated op cs (Are (t ∷ []) (ns ∷ [])) = if has_value op then Is (unaries_of op (gentype_in (shape_of cs t)).bits ns) else Varies
negated op cs (Are _ _) = Varies

abbrev pub calculated : BinOp → Place → List ClType → Operands → Constancy
calculated op p cs Vary = Varies
calculated op p cs (Divide q) = Divides q
calculated op p cs (Are (t ∷ u ∷ []) (ns ∷ ms ∷ [])) = or_divides p (components_of op (gentype_in (shape_of cs t)) ns ms)
calculated op p cs (Are _ _) = Varies

abbrev pub chosen : Operands → Constancy
chosen Vary = Varies
chosen (Divide p) = Divides p
chosen (Are _ (test ∷ ns ∷ ms ∷ [])) = Is (if is_zero test then ms else ns)
chosen (Are _ _) = Varies

abbrev pub literal : Shape → Operands → Constancy
literal to Vary = Varies
literal to (Divide p) = Divides p
literal to (Are ts nss) = Is (repeated (count_in to) (joined nss))

abbrev pub node_step : TNode-F GivenNode GivenTypes → GivenNode
node_step (Number bits) cs ty p = Is (bits.value ∷ [])
node_step (Convert args) cs ty p = converted (shape_of cs ty) cs (operands cs args.items)
node_step (Unary op args) cs ty p = negated op cs (operands cs args.items)
node_step (Binary op args) cs ty p = calculated op p cs (operands cs args.items)
node_step (Cond args) cs ty p = chosen (operands cs args.items)
node_step (Vector args) cs ty p = literal (shape_of cs ty) (operands cs args.items)
node_step _ cs ty p = Varies

abbrev pub expr_step : TExpr-F GivenNode GivenTypes → GivenTypes
expr_step e cs = record { ty = e.ty; is = e.node cs e.ty e.place }

abbrev pub known_of : TExpr → GivenTypes
known_of = fold-TExpr GivenNode GivenTypes node_step expr_step

abbrev pub constancy_of : List ClType → TExpr → Constancy
constancy_of cs e = (known_of e cs).is

-- ---- what is asked of constants

-- the place where a constant expression divides by zero or out of range
abbrev pub divides : Constancy → Option Place
divides (Divides p) = Some p
divides _ = None

-- the pattern of a constant number
abbrev pub number_in : Shape → Constancy → Option ℕ
number_in s (Is (n ∷ [])) = if is_number s then Some n else None
number_in s _ = None

abbrev pub number_of : List ClType → TExpr → Option ℕ
number_of cs e = number_in (shape_of cs (known_of e cs).ty) (constancy_of cs e)

-- a number that is greater than 0
abbrev pub is_negative : Shape → ℕ → Bool
is_negative (shape.Integers t) n = t.signed && nat_le (2 ^ (t.bits - 1)) n
is_negative s n = false

abbrev pub positive_in : Shape → Option ℕ → Option ℕ
positive_in s None = None
positive_in s (Some n) = if nat_eq n 0 || is_negative s n then None else Some n

abbrev pub positive_of : List ClType → TExpr → Option ℕ
positive_of cs e = positive_in (shape_of cs (known_of e cs).ty) (number_of cs e)
