-- Types, as the built-in functions tell them apart (OpenCL C 1.2, 6.1), and the conversions between them.
use Rattle.std.specs.Prelude.{ℕ, nat_eq, nat_lt, not, ◌&&◌, ◌||◌, Bool, true, false, if◌then◌else◌, List, Option, Some, None, slice_get}
use Rattle.cl_types.specs.declared.types.ClType.{ClType}
use Rattle.cl_types.specs.declared.types.ClType.TheVariants as ty
use Rattle.cl_types.specs.declared.types.TypeId.{TypeId}
use Rattle.cl_types.specs.declared.space.Space.{Space}
use Rattle.cl_types.specs.Layout.{is_width, is_count}
use Rattle.cl_builtins.specs.declared.kind.Gentype.{Gentype}
use Rattle.cl_builtins.specs.declared.kind.Kind.{Kind}
use Rattle.cl_builtins.specs.declared.kind.Kind.TheVariants as kind

-- ---- integer scalar and vector types

abbrev pub int : Gentype
int = record { bits = 32; signed = true; count = 1 }

abbrev pub uint : Gentype
uint = record { bits = 32; signed = false; count = 1 }

abbrev pub alike : Bool → Bool → Bool
alike true b = b
alike false b = not b

abbrev pub is_same : Gentype → Gentype → Bool
is_same a b = nat_eq a.bits b.bits && alike a.signed b.signed && nat_eq a.count b.count

-- the type of the components, and the unsigned form
abbrev pub element_of : Gentype → Gentype
element_of t = record t { count = 1 }

abbrev pub unsigned_of : Gentype → Gentype
unsigned_of t = record t { signed = false }

-- a scalar is promoted to int where that has more bits (C99, 6.3.1.1)
abbrev pub promoted : Gentype → Gentype
promoted t = if nat_lt t.bits 32 then int else t

-- of two promoted scalars the one with more bits; of as many, the unsigned one (C99, 6.3.1.8)
abbrev pub greater : Gentype → Gentype → Gentype
greater a b = if nat_lt a.bits b.bits then b else if nat_lt b.bits a.bits then a else if a.signed then b else a

abbrev pub usual : Gentype → Gentype → Gentype
usual a b = greater (promoted a) (promoted b)

-- ---- the types of a table

-- the types that a table can have
abbrev pub is_gentype : Gentype → Bool
is_gentype t = is_width t.bits && (nat_eq t.count 1 || is_count t.count)

abbrev pub integer_in : Option ClType → Option Gentype
integer_in (Some (ty.Int bits signed)) = Some (record { bits = bits; signed = signed; count = 1 })
integer_in _ = None

abbrev pub vector_in : TypeId → ℕ → Option Gentype → Kind
vector_in t n (Some e) = kind.Integers (record e { count = n })
vector_in t n None = kind.Other t

abbrev pub pointer_in : TypeId → Space → Bool → Option Gentype → Kind
pointer_in t space readonly (Some to) = kind.Pointer t space readonly to
pointer_in t space readonly None = kind.Other t

abbrev pub kind_in : List ClType → TypeId → Option ClType → Kind
kind_in cs t (Some ty.Void) = kind.Void
kind_in cs t (Some ty.Bool) = kind.Bool
kind_in cs t (Some (ty.Int bits signed)) = kind.Integers (record { bits = bits; signed = signed; count = 1 })
kind_in cs t (Some (ty.Vector elem n)) = vector_in t n (integer_in (slice_get cs elem.0))
kind_in cs t (Some (ty.Pointer space to readonly restricted)) = pointer_in t space readonly (integer_in (slice_get cs to.0))
kind_in cs t _ = kind.Other t

-- what a type of a table is. Pointers, and types that no built-in function takes, are told apart by their numbers.
abbrev pub kind_of : List ClType → TypeId → Kind
kind_of cs t = kind_in cs t (slice_get cs t.0)

-- ---- implicit conversions (OpenCL C 1.2, 6.2.1 and 6.2.2)

abbrev pub is_scalar : Kind → Bool
is_scalar kind.Bool = true
is_scalar (kind.Integers t) = nat_eq t.count 1
is_scalar _ = false

-- it is this type
abbrev pub is_type : Gentype → Kind → Bool
is_type t (kind.Integers x) = is_same t x
is_type t _ = false

-- a scalar converts to each scalar type, and to each vector type by standing for all components; any other value to its own
abbrev pub converts : Gentype → Kind → Bool
converts t k = is_scalar k || is_type t k
