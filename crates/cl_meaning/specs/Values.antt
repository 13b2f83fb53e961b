-- Objects, pointers and values (C99, 6.2.4 and 6.5.6; OpenCL C 1.2, 6.5).
use Rattle.std.specs.Prelude.{ℕ, suc, ◌+◌, ◌-◌, ◌*◌, ◌%◌, ◌^◌, nat_eq, nat_le, ◌&&◌, Bool, false, if◌then◌else◌, List, map, Option, Some, None, ℤ, pos, negsuc}
use Rattle.clv_num.specs.Numbers.{signed_of}
use Rattle.cl_builtins.specs.Kinds.{alike}
use Rattle.cl_tree.specs.declared.shape.Shape.{Shape}
use Rattle.cl_tree.specs.declared.shape.Shape.TheVariants as shape
use Rattle.cl_common.specs.Events.{same_nodes, same_shared}
pub use Rattle.cl_meaning.specs.declared.pointer.Name.{Name}
pub use Rattle.cl_meaning.specs.declared.pointer.Object.{Object}
pub use Rattle.cl_meaning.specs.declared.pointer.Object.TheVariants.{InShared, InPrivate}
pub use Rattle.cl_meaning.specs.declared.pointer.Pointer.{Pointer}
pub use Rattle.cl_meaning.specs.declared.pointer.Amount.{Amount}
pub use Rattle.cl_meaning.specs.declared.pointer.Amount.TheVariants.{Forth, Back}
pub use Rattle.cl_meaning.specs.declared.entry.Scalar.{Scalar}
pub use Rattle.cl_meaning.specs.declared.entry.Scalar.TheVariants.{Pattern, Points}
pub use Rattle.cl_meaning.specs.declared.entry.Entry.{Entry}
pub use Rattle.cl_meaning.specs.declared.entry.Entry.TheVariants.{Value, Missing, Place}

-- ---- objects

abbrev pub same_name : Name → Name → Bool
same_name a b = nat_eq a.number b.number && alike a.is_param b.is_param && same_nodes a.calls b.calls

abbrev pub same_object : Object → Object → Bool
same_object (InShared a) (InShared b) = same_shared a b
same_object (InPrivate a) (InPrivate b) = same_name a b
same_object _ _ = false

-- ---- pointers

-- the whole of an object of so many bytes
abbrev pub whole_of : Object → ℕ → Pointer
whole_of object size = record { object = object; offset = 0; start = 0; end = size }

abbrev pub amount_of : ℤ → Amount
amount_of (pos n) = Forth n
amount_of (negsuc n) = Back (suc n)

-- the number that a pattern of this type stands for
abbrev pub amount_in : Shape → ℕ → Amount
amount_in (shape.Integers t) n = if t.signed then amount_of (signed_of t.bits (n % 2 ^ t.bits)) else Forth n
amount_in s n = Forth n

abbrev pub opposite : Amount → Amount
opposite (Forth n) = Back n
opposite (Back n) = Forth n

-- So many elements of `size` bytes further. It is undefined where this leaves the array and isn't one past its end either.
abbrev pub moved : Amount → ℕ → Pointer → Option Pointer
moved (Forth n) size p = if nat_le (p.offset + n * size) p.end then Some (record p { offset = p.offset + n * size }) else None
moved (Back n) size p = if nat_le (p.start + n * size) p.offset then Some (record p { offset = p.offset - n * size }) else None

-- whether so many bytes there are inside of the array
abbrev pub is_inside : ℕ → Pointer → Bool
is_inside bytes p = nat_le p.start p.offset && nat_le (p.offset + bytes) p.end

-- A part of the `whole` bytes there, `far` behind their start: an array of its own, of so many bytes. It is undefined where the whole isn't inside of
-- the array, or the part of the whole.
abbrev pub part_of : ℕ → ℕ → ℕ → Pointer → Option Pointer
part_of whole far bytes p = if is_inside whole p && nat_le (far + bytes) whole then Some (record p { offset = p.offset + far; start = p.offset + far; end = p.offset + far + bytes }) else None

abbrev pub same_array : Pointer → Pointer → Bool
same_array p q = same_object p.object q.object && nat_eq p.start q.start && nat_eq p.end q.end

-- ---- values

abbrev pub pattern_in : Scalar → ℕ
pattern_in (Pattern n) = n
pattern_in (Points p) = 0

abbrev pub patterns_in : List Scalar → List ℕ
patterns_in = map pattern_in

abbrev pub patterns : List ℕ → List Scalar
patterns = map Pattern
