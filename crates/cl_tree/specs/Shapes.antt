-- What the types of a table are (OpenCL C 1.2, 6.1), and which values convert to which types (6.2).
use Rattle.std.specs.Prelude.{ℕ, nat_eq, nat_lt, not, ◌&&◌, ◌||◌, Bool, true, false, if◌then◌else◌, List, [], Option, Some, None, slice_get}
use Rattle.cl_types.specs.declared.types.ClType.{ClType}
use Rattle.cl_types.specs.declared.types.ClType.TheVariants as ty
use Rattle.cl_types.specs.declared.types.Member.{Member}
use Rattle.cl_types.specs.declared.types.TypeId.{TypeId}
use Rattle.cl_types.specs.declared.space.Space.{Space}
use Rattle.cl_types.specs.Same.{space_number}
use Rattle.cl_builtins.specs.declared.kind.Gentype.{Gentype}
use Rattle.cl_builtins.specs.Kinds.{int, is_same, integer_in}
use Rattle.cl_tree.specs.declared.shape.Shape.{Shape}
use Rattle.cl_tree.specs.declared.shape.Shape.TheVariants as shape

-- ---- shapes

-- a vector of so many components; no table has vectors of anything but integers
abbrev pub vector_shape : ℕ → Option Gentype → Shape
vector_shape n None = shape.Void
vector_shape n (Some e) = shape.Integers (record e { count = n })

-- whether a type is that of an array
abbrev pub holds_elements : Option ClType → Bool
holds_elements (Some (ty.Array elem len)) = true
holds_elements _ = false

abbrev pub shape_in : List ClType → Option ClType → Shape
shape_in cs None = shape.Void
shape_in cs (Some ty.Void) = shape.Void
shape_in cs (Some ty.Bool) = shape.Bool
shape_in cs (Some (ty.Int bits signed)) = shape.Integers (record { bits = bits; signed = signed; count = 1 })
shape_in cs (Some (ty.Vector elem n)) = vector_shape n (integer_in (slice_get cs elem.0))
shape_in cs (Some (ty.Array elem len)) = shape.Array elem len (holds_elements (slice_get cs elem.0))
shape_in cs (Some (ty.Struct name members)) = shape.Struct
shape_in cs (Some (ty.Pointer space to readonly restricted)) = shape.Pointer space to readonly restricted

-- what a type of a table is
abbrev pub shape_of : List ClType → TypeId → Shape
shape_of cs t = shape_in cs (slice_get cs t.0)

-- equal types have one number
abbrev pub same_type : TypeId → TypeId → Bool
same_type a b = nat_eq a.0 b.0

abbrev pub same_space : Space → Space → Bool
same_space a b = nat_eq (space_number a) (space_number b)

-- ---- kinds of types

abbrev pub is_void : Shape → Bool
is_void shape.Void = true
is_void _ = false

abbrev pub is_bool : Shape → Bool
is_bool shape.Bool = true
is_bool _ = false

abbrev pub is_array : Shape → Bool
is_array (shape.Array elem len nested) = true
is_array _ = false

abbrev pub is_struct : Shape → Bool
is_struct shape.Struct = true
is_struct _ = false

abbrev pub is_pointer : Shape → Bool
is_pointer (shape.Pointer space to readonly restricted) = true
is_pointer _ = false

-- an integer scalar or bool
abbrev pub is_number : Shape → Bool
is_number shape.Bool = true
is_number (shape.Integers t) = nat_eq t.count 1
is_number _ = false

abbrev pub is_vector : Shape → Bool
is_vector (shape.Integers t) = not (nat_eq t.count 1)
is_vector _ = false

abbrev pub is_type : Gentype → Shape → Bool
is_type t (shape.Integers x) = is_same t x
is_type t _ = false

-- a number, a vector or a pointer: what `++` and `--` take
abbrev pub is_steppable : Shape → Bool
is_steppable shape.Bool = true
is_steppable (shape.Integers t) = true
is_steppable (shape.Pointer space to readonly restricted) = true
is_steppable _ = false

-- ---- arithmetic types

-- the integer type that a value of arithmetic stands for: a bool for an int
abbrev pub arithmetic : Shape → Option Gentype
arithmetic shape.Bool = Some int
arithmetic (shape.Integers t) = Some t
arithmetic _ = None

-- The integer promotions (C99, 6.3.1.1): a scalar with fewer bits than int is one. A vector stays.
abbrev pub promoted : Gentype → Gentype
promoted t = if nat_eq t.count 1 && nat_lt t.bits 32 then int else t

-- the greatest bits that a scalar brings beside a vector; none from a bool (OpenCL C 1.2, 6.2.6)
abbrev pub rank : Shape → ℕ
rank (shape.Integers t) = t.bits
rank _ = 0

-- the type of a relation between values of this type: int, or signed components of the same width (OpenCL C 1.2, 6.3.d)
abbrev pub relation_type : Gentype → Gentype
relation_type t = if nat_eq t.count 1 then int else record t { signed = true }

-- ---- implicit conversions

-- A number converts to a number, and to a vector by standing for all components. Any other value has its own type alone, and
-- nothing has the type void or that of an array.
abbrev pub takes_value : Shape → Bool
takes_value shape.Void = false
takes_value (shape.Array elem len nested) = false
takes_value _ = true

abbrev pub converts : Shape → TypeId → Shape → TypeId → Bool
converts from own to wanted = (is_number from && (is_number to || is_vector to)) || (takes_value from && same_type own wanted)

-- ---- members

abbrev pub members_in : Option ClType → List Member
members_in (Some (ty.Struct name members)) = members
members_in _ = []

abbrev pub members_of : List ClType → TypeId → List Member
members_of cs t = members_in (slice_get cs t.0)
