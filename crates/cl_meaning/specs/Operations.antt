-- What operators make of what was evaluated (C99, 6.5; OpenCL C 1.2, 6.2 to 6.4 and 6.12).
use Rattle.std.specs.Prelude.{ℕ, ◌*◌, ◌%◌, ◌^◌, nat_lt, false, if◌then◌else◌, List, [], ◌∷◌, map, length, reverse, take, drop, get_or, Option, Some, None, unwrap_or, slice_index, pos, ◌-ℤ◌, int_div}
use Rattle.clv_num.specs.Numbers.{pattern_of}
use Rattle.cl_types.specs.declared.types.ClType.{ClType}
use Rattle.cl_types.specs.declared.operator.BinOp.{BinOp}
use Rattle.cl_types.specs.declared.operator.BinOp.TheVariants as bin
use Rattle.cl_tree.specs.declared.shape.Shape.{Shape}
use Rattle.cl_tree.specs.Constants.{number_by, unaries_of, convert_to, joined, repeated}
use Rattle.cl_common.specs.Operators.{each_from, given, filled, applied}
pub use Rattle.cl_meaning.specs.declared.operation.Operation.{Operation}
pub use Rattle.cl_meaning.specs.declared.operation.Operation.TheVariants.{Push, Drop, DropSecond, Swap, Keep, Sure, Follow, Address, Part, Select, Offset, Compare, Elements, Convert, Unary, Slice, Components, Element, Vector, Fill, Apply}
use Rattle.cl_meaning.specs.Values.{Scalar, Pattern, Points, patterns_in, patterns, Entry, Value, Missing, Place, Pointer, Amount, Forth, Back, opposite, amount_in, moved, part_of, same_array}

-- the values of the n newest entries, the newest last
abbrev pub scalars_in : Entry → List Scalar
scalars_in (Value v) = v
scalars_in _ = []

abbrev pub newest : ℕ → List Entry → List (List Scalar)
newest n st = reverse (map scalars_in (take n st))

-- ---- places and pointers

-- components of components
abbrev pub selected : List ℕ → Option (List ℕ) → List ℕ
selected at None = at
selected at (Some old) = map (slice_index old) at

abbrev pub directed : BinOp → Amount → Amount
directed bin.Sub n = opposite n
directed op n = n

-- the distance in elements, an int; of a comparison 1 or 0
abbrev pub compared : BinOp → ℕ → Pointer → Pointer → ℕ
compared bin.Sub size p q = pattern_of 32 (int_div (pos p.offset -ℤ pos q.offset) (pos size))
compared op size p q = unwrap_or (number_by op (record { bits = 64; signed = false; count = 1 }) p.offset q.offset) 0

abbrev pub and_pointer : List Entry → Option Pointer → Option (List Entry)
and_pointer st None = None
and_pointer st (Some p) = Some (Value (Points p ∷ []) ∷ st)

abbrev pub and_place : List Entry → Option (List ℕ) → Option Pointer → Option (List Entry)
and_place st at None = None
and_place st at (Some p) = Some (Place p at ∷ st)

-- ---- values

-- a pointer stays as it is
abbrev pub converted : Shape → Shape → List Scalar → List Scalar
converted from to (Points p ∷ []) = Points p ∷ []
converted from to v = patterns (convert_to from to (patterns_in v))

abbrev pub components : List ℕ → List Scalar → List Scalar
components at v = map (λ k. get_or v k (Pattern 0)) at

-- the element at an index, which must be inside
abbrev pub element : ℕ → ℕ → List Scalar → Amount → Option (List Scalar)
element count len v (Forth i) = if nat_lt i len then Some (take count (drop (i * count) v)) else None
element count len v (Back i) = None

abbrev pub and_value : List Entry → Option (List Scalar) → Option (List Entry)
and_value st None = None
and_value st (Some v) = Some (Value v ∷ st)

-- ---- the operations

-- The stack after an operation; None where it is undefined. An operation to which the entries don't belong, which no unit has, does nothing.
abbrev pub operated : List ClType → Operation → List Entry → Option (List Entry)
operated cs (Push e) st = Some (e ∷ st)
operated cs Drop (e ∷ st) = Some st
operated cs DropSecond (a ∷ b ∷ st) = Some (a ∷ st)
operated cs Swap (a ∷ b ∷ st) = Some (b ∷ a ∷ st)
operated cs Keep (a ∷ b ∷ st) = Some (a ∷ b ∷ a ∷ st)
operated cs Sure (Missing ∷ st) = None
operated cs Follow (Value (Points p ∷ []) ∷ st) = Some (Place p None ∷ st)
operated cs Address (Place p at ∷ st) = Some (Value (Points p ∷ []) ∷ st)
operated cs (Part whole far bytes) (Place p at ∷ st) = and_place st None (part_of whole far bytes p)
operated cs (Select at) (Place p old ∷ st) = Some (Place p (Some (selected at old)) ∷ st)
operated cs (Offset op index size) (Value (Pattern i ∷ []) ∷ Value (Points p ∷ []) ∷ st) = and_pointer st (moved (directed op (amount_in index i)) size p)
operated cs (Compare op size) (Value (Points q ∷ []) ∷ Value (Points p ∷ []) ∷ st) = if same_array p q then Some (Value (Pattern (compared op size p q) ∷ []) ∷ st) else None
operated cs (Elements n size) (Value (Points p ∷ []) ∷ Value (Pattern k ∷ []) ∷ st) = and_place st (Some (each_from (λ i. i) 0 n)) (moved (Forth ((k * n) % 2 ^ 32)) size p)
operated cs (Convert from to) (Value v ∷ st) = Some (Value (converted from to v) ∷ st)
operated cs (Unary op operand) (Value v ∷ st) = Some (Value (patterns (unaries_of op operand.bits (patterns_in v))) ∷ st)
operated cs (Slice from count) (Value v ∷ st) = Some (Value (take count (drop from v)) ∷ st)
operated cs (Components at) (Value v ∷ st) = Some (Value (components at v) ∷ st)
operated cs (Element index count len) (Value (Pattern i ∷ []) ∷ Value v ∷ st) = and_value st (element count len v (amount_in index i))
operated cs (Vector parts count) st = Some (Value (patterns (repeated count (joined (map patterns_in (newest parts st))))) ∷ drop parts st)
operated cs (Fill types ty) st = Some (Value (patterns (filled cs ty (given types (map patterns_in (newest (length types) st))))) ∷ drop (length types) st)
operated cs (Apply f args from to) st = Some (Value (patterns (applied f from to (map patterns_in (newest args st)))) ∷ drop args st)
operated cs _ st = Some st
