-- Which typed expressions are typed by their operands, and what their parents have to know of them (C99, 6.5; OpenCL C 1.2, 6.2, 6.3).
use Rattle.std.specs.Prelude.{ℕ, zero, suc, ◌+◌, nat_eq, nat_lt, not, ◌&&◌, ◌||◌, Bool, true, false, if◌then◌else◌, List, [], ◌∷◌, length, map, Option, Some, None, slice_get}
use Rattle.cl_types.specs.declared.types.ClType.{ClType}
use Rattle.cl_types.specs.declared.types.Member.{Member}
use Rattle.cl_types.specs.declared.types.TypeId.{TypeId}
use Rattle.cl_types.specs.declared.space.Space.{Space}
use Rattle.cl_types.specs.declared.space.Space.TheVariants as space
use Rattle.cl_types.specs.declared.builtin.Builtin.{Builtin}
use Rattle.cl_types.specs.declared.operator.UnOp.{UnOp}
use Rattle.cl_types.specs.declared.operator.UnOp.TheVariants as un
use Rattle.cl_types.specs.declared.operator.BinOp.{BinOp}
use Rattle.cl_types.specs.declared.operator.BinOp.TheVariants as bin
use Rattle.cl_builtins.specs.declared.kind.Gentype.{Gentype}
use Rattle.cl_builtins.specs.declared.kind.Kind.{Kind}
use Rattle.cl_builtins.specs.Kinds.{int, element_of, usual, is_same, kind_of}
use Rattle.cl_tree.specs.declared.shape.Shape.{Shape}
use Rattle.cl_tree.specs.declared.shape.Shape.TheVariants as shape
use Rattle.cl_tree.specs.declared.expression.Facts.{Facts}
use Rattle.cl_tree.specs.declared.expression.TExpr.{TExpr}
use Rattle.cl_tree.specs.declared.expression.TNode.TheOpen.{TExpr-F, TNode-F, Param, Var, Constant, Number, Convert, Unary, Binary, Assign, Cond, Vector, Call, Builtin as BuiltinCall, Index, Member as MemberOf, Components, Fill, Comma}
use Rattle.cl_tree.specs.declared.expression.TNode.TheFolds.{fold-TExpr}
use Rattle.cl_tree.specs.declared.unit.Variable.{Variable}
use Rattle.cl_tree.specs.BuiltinCalls.{fits_call}
use Rattle.cl_tree.specs.Shapes.{shape_of, same_type, same_space, is_void, is_bool, is_array, is_number, is_type, is_steppable, is_pointer, takes_value, converts, promoted, relation_type, members_of}

-- ---- what names are numbers of

-- a function as a call sees it
pub record Callee : Type 0 where
  pub params : List TypeId
  pub result : TypeId
  pub kernel : Bool

pub record Lists : Type 0 where
  pub types : List ClType
  pub params : List Variable
  pub vars : List Variable
  pub constants : List Variable
  pub functions : List Callee

-- ---- small words

abbrev pub when : {A : Type 0} → Bool → A → Option A
when true a = Some a
when false a = None

abbrev pub bind : {A B : Type 0} → Option A → (A → Option B) → Option B
bind None f = None
bind (Some a) f = f a

abbrev pub is_some : {A : Type 0} → Option A → Bool
is_some None = false
is_some (Some a) = true

abbrev pub shape_at : Lists → Facts → Shape
shape_at l f = shape_of l.types f.ty

-- a value, a place, and a part of what an operand is, which is a place where that is one
abbrev pub value : TypeId → Facts
value ty = record { ty = ty; lies = None; component = false }

abbrev pub place : TypeId → Space → Facts
place ty s = record { ty = ty; lies = Some s; component = false }

abbrev pub part : TypeId → Facts → Facts
part ty f = record { ty = ty; lies = f.lies; component = false }

abbrev pub component : TypeId → Facts → Facts
component ty f = record { ty = ty; lies = f.lies; component = true }

-- ---- names and numbers

abbrev pub named : TypeId → Option Variable → Option Facts
named ty None = None
named ty (Some v) = when (same_type ty v.ty) (place ty v.space)

-- An array of which the first length is missing is named in its own initialiser before it has its length.
abbrev pub same_elements : Shape → Shape → Bool
same_elements (shape.Array a m o) (shape.Array b n p) = same_type a b
same_elements _ _ = false

abbrev pub variable : Lists → TypeId → Option Variable → Option Facts
variable l ty None = None
variable l ty (Some v) = when (same_type ty v.ty || same_elements (shape_of l.types ty) (shape_of l.types v.ty)) (place ty v.space)

abbrev pub has_bits : ℕ → Shape → Bool
has_bits w (shape.Integers t) = nat_eq t.count 1 && nat_eq w t.bits
has_bits w _ = false

abbrev pub number : Lists → TypeId → ℕ → Option Facts
number l ty width = when (has_bits width (shape_of l.types ty)) (value ty)

-- ---- conversions

-- the address space into which a pointer points; an array that is a place stands for a pointer to its first element
abbrev pub points_into : Shape → Option Space → Option Space
points_into (shape.Pointer s to readonly restricted) lies = Some s
points_into (shape.Array elem len nested) lies = lies
points_into _ lies = None

abbrev pub is_into : Space → Option Space → Bool
is_into s None = false
is_into s (Some own) = same_space s own

-- a pointer converts to each pointer into its address space; that a cast may change what it points to is judged where objects are known
abbrev pub converts_to : Lists → Facts → TypeId → Shape → Bool
converts_to l f ty (shape.Pointer s to readonly restricted) = is_into s (points_into (shape_at l f) f.lies)
converts_to l f ty to = converts (shape_at l f) f.ty to ty

abbrev pub converted : Lists → TypeId → List Facts → Option Facts
converted l ty (f ∷ []) = when (converts_to l f ty (shape_of l.types ty)) (value ty)
converted l ty _ = None

-- ---- operators on one operand

-- a place in memory that isn't constant
abbrev pub is_writable : Option Space → Bool
is_writable None = false
is_writable (Some space.Constant) = false
is_writable (Some s) = true

abbrev pub is_promoted : Shape → Bool
is_promoted (shape.Integers t) = is_same t (promoted t)
is_promoted _ = false

abbrev pub dereferenced : TypeId → Facts → Shape → Option Facts
dereferenced ty f (shape.Pointer s to readonly restricted) = when (same_type ty to) (place ty s)
dereferenced ty f (shape.Array elem len nested) = when (same_type ty elem) (part ty f)
dereferenced ty f _ = None

-- what `&` takes: a place that is no component, no void, no bool, no array and no pointer
abbrev pub has_address : Facts → Shape → Bool
has_address f s = is_some f.lies && not f.component && not (is_void s) && not (is_bool s) && not (is_array s) && not (is_pointer s)

abbrev pub is_pointer_to : Facts → Shape → Bool
is_pointer_to f (shape.Pointer s to readonly restricted) = is_into s f.lies && same_type to f.ty && not restricted
is_pointer_to f _ = false

abbrev pub stepped : Lists → TypeId → Facts → Option Facts
stepped l ty f = when (is_writable f.lies && is_steppable (shape_at l f) && same_type ty f.ty) (value ty)

abbrev pub unary : UnOp → Lists → TypeId → Facts → Option Facts
unary un.Plus l ty f = when (is_promoted (shape_at l f) && same_type ty f.ty) (value ty)
unary un.Minus l ty f = when (is_promoted (shape_at l f) && same_type ty f.ty) (value ty)
unary un.Not l ty f = when (is_promoted (shape_at l f) && same_type ty f.ty) (value ty)
unary un.LogicalNot l ty f = when (is_number (shape_at l f) && is_type int (shape_of l.types ty)) (value ty)
unary un.Deref l ty f = dereferenced ty f (shape_at l f)
unary un.Address l ty f = when (has_address f (shape_at l f) && is_pointer_to f (shape_of l.types ty)) (value ty)
unary un.PreInc l ty f = stepped l ty f
unary un.PreDec l ty f = stepped l ty f
unary un.PostInc l ty f = stepped l ty f
unary un.PostDec l ty f = stepped l ty f
unary un.Sizeof l ty f = None

abbrev pub unary_at : UnOp → Lists → TypeId → List Facts → Option Facts
unary_at op l ty (f ∷ []) = unary op l ty f
unary_at op l ty _ = None

-- ---- operators between two operands

-- an integer type has this type, both operands have one type, and the amount of a shift is one of its kind
abbrev pub of_type : Lists → TypeId → Facts → Facts → Bool
of_type l ty a b = is_promoted (shape_at l a) && same_type a.ty b.ty && same_type ty a.ty

abbrev pub is_amount : Shape → Shape → Bool
is_amount (shape.Integers a) (shape.Integers b) = is_promoted (shape.Integers b) && nat_eq a.count b.count
is_amount _ _ = false

abbrev pub shifted : Lists → TypeId → Facts → Facts → Option Facts
shifted l ty a b = when (is_promoted (shape_at l a) && is_amount (shape_at l a) (shape_at l b) && same_type ty a.ty) (value ty)

-- pointers to arrays are in no expression
abbrev pub is_plain_pointer : Lists → Shape → Bool
is_plain_pointer l (shape.Pointer s to readonly restricted) = not (is_array (shape_of l.types to))
is_plain_pointer l _ = false

abbrev pub gives_relation : Lists → TypeId → Shape → Bool
gives_relation l ty (shape.Integers t) = is_promoted (shape.Integers t) && is_type (relation_type t) (shape_of l.types ty)
gives_relation l ty s = is_plain_pointer l s && is_type int (shape_of l.types ty)

abbrev pub related : Lists → TypeId → Facts → Facts → Option Facts
related l ty a b = when (same_type a.ty b.ty && gives_relation l ty (shape_at l a)) (value ty)

abbrev pub joined : Lists → TypeId → Facts → Facts → Option Facts
joined l ty a b = when (is_number (shape_at l a) && is_number (shape_at l b) && is_type int (shape_of l.types ty)) (value ty)

abbrev pub calculated : Lists → TypeId → Facts → Facts → Option Facts
calculated l ty a b = when (of_type l ty a b) (value ty)

-- an offset from a pointer
abbrev pub moved : Lists → TypeId → Facts → Facts → Bool
moved l ty p n = is_plain_pointer l (shape_at l p) && is_number (shape_at l n) && same_type ty p.ty

-- the distance of two pointers
abbrev pub apart : Lists → TypeId → Facts → Facts → Bool
apart l ty a b = is_plain_pointer l (shape_at l a) && same_type a.ty b.ty && is_type int (shape_of l.types ty)

abbrev pub binary : BinOp → Lists → TypeId → Facts → Facts → Option Facts
binary bin.Add l ty a b = when (of_type l ty a b || moved l ty a b || moved l ty b a) (value ty)
binary bin.Sub l ty a b = when (of_type l ty a b || moved l ty a b || apart l ty a b) (value ty)
binary bin.Shl l ty a b = shifted l ty a b
binary bin.Shr l ty a b = shifted l ty a b
binary bin.Less l ty a b = related l ty a b
binary bin.Greater l ty a b = related l ty a b
binary bin.LessEqual l ty a b = related l ty a b
binary bin.GreaterEqual l ty a b = related l ty a b
binary bin.Equal l ty a b = related l ty a b
binary bin.NotEqual l ty a b = related l ty a b
binary bin.LogicalAnd l ty a b = joined l ty a b
binary bin.LogicalOr l ty a b = joined l ty a b
binary _ l ty a b = calculated l ty a b

abbrev pub binary_at : BinOp → Lists → TypeId → List Facts → Option Facts
binary_at op l ty (a ∷ b ∷ []) = binary op l ty a b
binary_at op l ty _ = None

-- ---- assignments

-- the value of a compound assignment has the type of the operator's right operand, where its left one is the place converted to it
abbrev pub takes_right : Shape → Shape → Bool
takes_right (shape.Integers t) (shape.Integers v) = if nat_eq t.count 1 then nat_eq v.count 1 && is_same v (usual t v) else is_same t v
takes_right shape.Bool (shape.Integers v) = nat_eq v.count 1 && is_same v (usual int v)
takes_right _ _ = false

abbrev pub is_shifted : Shape → Shape → Bool
is_shifted (shape.Integers t) v = is_amount (shape.Integers (promoted t)) v
is_shifted shape.Bool v = is_amount (shape.Integers int) v
is_shifted _ v = false

abbrev pub moves : Shape → Shape → Bool
moves (shape.Pointer s to readonly restricted) n = is_number n
moves _ n = false

-- operators that have an assignment
abbrev pub changes : BinOp → Shape → Shape → Bool
changes bin.Add p v = takes_right p v || moves p v
changes bin.Sub p v = takes_right p v || moves p v
changes bin.Shl p v = is_shifted p v
changes bin.Shr p v = is_shifted p v
changes bin.Mul p v = takes_right p v
changes bin.Div p v = takes_right p v
changes bin.Rem p v = takes_right p v
changes bin.And p v = takes_right p v
changes bin.Xor p v = takes_right p v
changes bin.Or p v = takes_right p v
changes _ p v = false

abbrev pub sets : Option BinOp → Lists → Facts → Facts → Bool
sets None l p v = takes_value (shape_at l p) && same_type p.ty v.ty
sets (Some op) l p v = changes op (shape_at l p) (shape_at l v)

abbrev pub assigned : Option BinOp → Lists → TypeId → List Facts → Option Facts
assigned op l ty (p ∷ v ∷ []) = when (is_writable p.lies && same_type ty p.ty && sets op l p v) (value ty)
assigned op l ty _ = None

-- ---- the other operators

abbrev pub chosen : Lists → TypeId → List Facts → Option Facts
chosen l ty (test ∷ a ∷ b ∷ []) = when (is_number (shape_at l test) && same_type a.ty b.ty && same_type ty a.ty && not (is_array (shape_at l a))) (value ty)
chosen l ty _ = None

-- the components of a vector's parts, which are numbers of its element type and vectors of it
abbrev pub is_of : Gentype → Shape → Bool
is_of t (shape.Integers x) = is_same (element_of t) (element_of x)
is_of t _ = false

abbrev pub count_of : Shape → ℕ
count_of (shape.Integers t) = t.count
count_of _ = 1

abbrev pub counts : Lists → List Facts → ℕ
counts l [] = 0
counts l (f ∷ fs) = count_of (shape_at l f) + counts l fs

abbrev pub all_of : Lists → Gentype → List Facts → Bool
all_of l t [] = true
all_of l t (f ∷ fs) = is_of t (shape_at l f) && all_of l t fs

abbrev pub makes_vector : Lists → List Facts → Shape → Bool
makes_vector l fs (shape.Integers t) = not (nat_eq t.count 1) && all_of l t fs && (nat_eq (counts l fs) t.count || nat_eq (counts l fs) 1)
makes_vector l fs _ = false

abbrev pub vector : Lists → TypeId → List Facts → Option Facts
vector l ty fs = when (makes_vector l fs (shape_of l.types ty)) (value ty)

abbrev pub same_types : List TypeId → List Facts → Bool
same_types [] [] = true
same_types (t ∷ ts) (f ∷ fs) = same_type t f.ty && same_types ts fs
same_types [] (f ∷ fs) = false
same_types (t ∷ ts) [] = false

-- no kernel is called
abbrev pub called : Lists → TypeId → Option Callee → List Facts → Option Facts
called l ty None fs = None
called l ty (Some c) fs = when (not c.kernel && same_type ty c.result && same_types c.params fs) (value ty)

abbrev pub kind_at : Lists → Facts → Kind
kind_at l f = kind_of l.types f.ty

-- an atomic's pointer points into global or local memory, as its form says
abbrev pub built_in : Builtin → Lists → TypeId → List Facts → Option Facts
built_in b l ty fs = when (fits_call b (map (kind_at l) fs) (kind_of l.types ty)) (value ty)

abbrev pub indexed : Lists → TypeId → List Facts → Option Facts
indexed l ty (p ∷ i ∷ []) = if is_number (shape_at l i) then dereferenced ty p (shape_at l p) else None
indexed l ty _ = None

abbrev pub member_of : TypeId → Facts → Option Member → Option Facts
member_of ty f None = None
member_of ty f (Some m) = when (same_type ty m.ty) (part ty f)

abbrev pub member : ℕ → Lists → TypeId → List Facts → Option Facts
member k l ty (f ∷ []) = member_of ty f (slice_get (members_of l.types f.ty) k)
member k l ty _ = None

abbrev pub are_below : ℕ → List ℕ → Bool
are_below n [] = true
are_below n (k ∷ ks) = nat_lt k n && are_below n ks

abbrev pub selects : List ℕ → Shape → Shape → Bool
selects at (shape.Integers t) (shape.Integers to) = not (nat_eq t.count 1) && is_same (element_of t) (element_of to) && nat_eq to.count (length at) && are_below t.count at
selects at _ _ = false

abbrev pub selected : List ℕ → Lists → TypeId → List Facts → Option Facts
selected at l ty (f ∷ []) = when (selects at (shape_at l f) (shape_of l.types ty)) (component ty f)
selected at l ty _ = None

abbrev pub last_of : Facts → List Facts → Facts
last_of f [] = f
last_of f (g ∷ gs) = last_of g gs

abbrev pub comma : Lists → TypeId → List Facts → Option Facts
comma l ty [] = None
comma l ty (f ∷ fs) = when (same_type ty (last_of f fs).ty) (value ty)

-- ---- initialiser lists (C99, 6.7.8)

-- Whether an operand stands for a whole part: a list in braces does, whose type is the part's; so does a struct's value.
abbrev pub is_whole : TypeId → List Facts → Bool
is_whole t [] = false
is_whole t (f ∷ fs) = same_type t f.ty

abbrev pub behind : List Facts → List Facts
behind [] = []
behind (f ∷ fs) = fs

-- n parts filled from the first operands on, as far as these go
abbrev pub fill_each : (List Facts → Option (List Facts)) → ℕ → List Facts → Option (List Facts)
fill_each one zero fs = Some fs
fill_each one (suc n) [] = Some []
fill_each one (suc n) (f ∷ fs) = bind (one (f ∷ fs)) (fill_each one n)

abbrev pub fill_members : (TypeId → List Facts → Option (List Facts)) → List Member → List Facts → Option (List Facts)
fill_members one [] fs = Some fs
fill_members one (m ∷ ms) [] = Some []
fill_members one (m ∷ ms) (f ∷ fs) = bind (one m.ty (f ∷ fs)) (fill_members one ms)

-- What the elements or members of a part leave of the operands, where braces are left out.
abbrev pub fill_inside : (TypeId → List Facts → Option (List Facts)) → Lists → TypeId → Shape → List Facts → Option (List Facts)
fill_inside one l t (shape.Array elem len nested) fs = fill_each (one elem) len fs
fill_inside one l t shape.Struct fs = fill_members one (members_of l.types t) fs
fill_inside one l t s fs = None

-- What a part of this type leaves: one operand stands for it as a whole, or its elements or members take theirs. Types nest so deep.
abbrev pub fill_part : ℕ → Lists → TypeId → List Facts → Option (List Facts)
fill_part zero l t fs = when (is_whole t fs) (behind fs)
fill_part (suc deep) l t fs = if is_whole t fs then Some (behind fs) else fill_inside (fill_part deep l) l t (shape_of l.types t) fs

abbrev pub is_done : Option (List Facts) → Bool
is_done (Some []) = true
is_done _ = false

-- a list fills an array or a struct by its parts, and anything else by one operand
abbrev pub fills : Lists → TypeId → Shape → List Facts → Bool
fills l t (shape.Array elem len nested) fs = is_done (fill_inside (fill_part 16 l) l t (shape.Array elem len nested) fs)
fills l t shape.Struct fs = is_done (fill_inside (fill_part 16 l) l t shape.Struct fs)
fills l t shape.Void fs = false
fills l t s (f ∷ []) = same_type t f.ty
fills l t s _ = false

abbrev pub filled : Lists → TypeId → List Facts → Option Facts
filled l ty fs = when (fills l ty (shape_of l.types ty) fs) (value ty)

-- ---- the facts of an expression, where it is typed by its operands

-- given the lists; of a node besides its type
abbrev pub Given : Type 0
Given = Lists → Option Facts

abbrev pub GivenType : Type 0
GivenType = Lists → TypeId → Option Facts

abbrev pub before : Option (List Facts) → Facts → Option (List Facts)
before None f = None
before (Some fs) f = Some (f ∷ fs)

abbrev pub each : Lists → List Given → Option (List Facts)
each l [] = Some []
each l (g ∷ gs) = bind (g l) (before (each l gs))

abbrev pub node_step : TNode-F GivenType Given → GivenType
node_step (Param k) l ty = named ty (slice_get l.params k)
node_step (Var k) l ty = variable l ty (slice_get l.vars k)
node_step (Constant k) l ty = named ty (slice_get l.constants k)
node_step (Number bits) l ty = number l ty bits.width
node_step (Convert args) l ty = bind (each l args.items) (converted l ty)
node_step (Unary op args) l ty = bind (each l args.items) (unary_at op l ty)
node_step (Binary op args) l ty = bind (each l args.items) (binary_at op l ty)
node_step (Assign op args) l ty = bind (each l args.items) (assigned op l ty)
node_step (Cond args) l ty = bind (each l args.items) (chosen l ty)
node_step (Vector args) l ty = bind (each l args.items) (vector l ty)
node_step (Call f args) l ty = bind (each l args.items) (called l ty (slice_get l.functions f))
node_step (BuiltinCall b args) l ty = bind (each l args.items) (built_in b l ty)
node_step (Index args) l ty = bind (each l args.items) (indexed l ty)
node_step (MemberOf k args) l ty = bind (each l args.items) (member k l ty)
node_step (Components at args) l ty = bind (each l args.items) (selected at l ty)
node_step (Fill args) l ty = bind (each l args.items) (filled l ty)
node_step (Comma args) l ty = bind (each l args.items) (comma l ty)

abbrev pub expr_step : TExpr-F GivenType Given → Given
expr_step e l = e.node l e.ty

abbrev pub facts_of : TExpr → Given
facts_of = fold-TExpr GivenType Given node_step expr_step
