-- Objects, and the places in them that indices and members lead to (OpenCL C 1.2, 6.5; C99, 6.5.2.1 and 6.5.2.3).
use Rattle.std.specs.Prelude.{ℕ, ◌+◌, ◌-◌, ◌*◌, ◌/◌, nat_eq, nat_lt, ◌&&◌, Bool, if◌then◌else◌, List, [], ◌∷◌, map, Option, Some, None, slice_get, slice_index}
use Rattle.cl_types.specs.declared.types.ClType.{ClType}
use Rattle.cl_types.specs.declared.types.Member.{Member as StructMember}
use Rattle.cl_types.specs.declared.types.TypeId.{TypeId}
use Rattle.cl_types.specs.declared.scalars.Scalar.{Scalar as Slot}
use Rattle.cl_types.specs.Layout.{offset_of}
use Rattle.cl_types.specs.Table.{tree_of}
use Rattle.cl_tree.specs.declared.event.NodeId.{NodeId}
use Rattle.cl_tree.specs.declared.event.Shared.{Shared}
use Rattle.cl_tree.specs.declared.shape.Shape.{Shape}
use Rattle.cl_tree.specs.declared.shape.Shape.TheVariants as shape
use Rattle.cl_tree.specs.Shapes.{shape_of, members_of}
use Rattle.cl_common.specs.Events.{same_nodes}
use Rattle.cl_common.specs.Types.{size_at, slots_at}

-- ---- objects

-- A private object of a copy by its number there, and the calls that are pending where it lives, the innermost first. Since no function reaches itself,
-- each call has objects of its own.
pub record Name : Type 0 where
  pub calls : List NodeId
  pub number : ℕ

abbrev pub same_name : Name → Name → Bool
same_name a b = nat_eq a.number b.number && same_nodes a.calls b.calls

pub data Object : Type 0 where
  InShared : Shared → Object
  InPrivate : Name → Object

-- What an object is as a whole: so many elements, for an argument of the kernel; a value of a type; or an index that comes with a pointer parameter.
pub data Whole : Type 0 where
  Elements : (ty : TypeId) (count : ℕ) → Whole
  OneValue : (ty : TypeId) → Whole
  OneIndex : Whole

-- ---- places

-- One step into an object, with the number that an index has.
pub data Hop : Type 0 where
  Member : (k : ℕ) → Hop
  Index : (i : ℕ) → Hop
  Single : (i : ℕ) → Hop
  Components : (at : List ℕ) → Hop

-- An object, and the steps into it, the last first.
pub record Place : Type 0 where
  pub object : Object
  pub whole : Whole
  pub hops : List Hop

-- What stands in a part of an object.
pub data Part : Type 0 where
  InRow : (ty : TypeId) (count : ℕ) → Part
  OneOf : (ty : TypeId) → Part
  Selected : (ty : TypeId) (at : List ℕ) → Part
  Word : Part

-- A part, so many bytes behind the start of its object.
pub record Reached : Type 0 where
  pub part : Part
  pub offset : ℕ

abbrev pub at_start : Whole → Part
at_start (Elements ty count) = InRow ty count
at_start (OneValue ty) = OneOf ty
at_start OneIndex = Word

-- ---- types

abbrev pub bits_in : List Slot → ℕ
bits_in [] = 0
bits_in (s ∷ ss) = s.bits

-- ---- the part that steps reach

-- the element of an index, which must be below the length
abbrev pub element : List ClType → TypeId → ℕ → ℕ → ℕ → Option Reached
element cs ty count i offset = if nat_lt i count then Some (record { part = OneOf ty; offset = offset + i * size_at cs ty }) else None

abbrev pub element_in : List ClType → Shape → ℕ → ℕ → Option Reached
element_in cs (shape.Array elem len nested) i offset = element cs elem len i offset
element_in cs _ i offset = None

-- a single step is an index into an array of one
abbrev pub single : Part → ℕ → ℕ → Option Reached
single part i offset = if nat_lt i 1 then Some (record { part = part; offset = offset }) else None

abbrev pub member_in : List ClType → TypeId → ℕ → ℕ → Option StructMember → Option Reached
member_in cs ty k offset None = None
member_in cs ty k offset (Some m) = Some (record { part = OneOf m.ty; offset = offset + offset_of (tree_of cs ty.0) k })

abbrev pub onward : List ClType → Hop → Part → ℕ → Option Reached
onward cs (Index i) (InRow ty count) offset = element cs ty count i offset
onward cs (Index i) (OneOf ty) offset = element_in cs (shape_of cs ty) i offset
onward cs (Single i) (OneOf ty) offset = single (OneOf ty) i offset
onward cs (Member k) (OneOf ty) offset = member_in cs ty k offset (slice_get (members_of cs ty) k)
onward cs (Components at) (OneOf ty) offset = Some (record { part = Selected ty at; offset = offset })
onward cs (Components at) (Selected ty old) offset = Some (record { part = Selected ty (map (slice_index old) at); offset = offset })
onward cs _ _ offset = None

abbrev pub after_hop : List ClType → Hop → Option Reached → Option Reached
after_hop cs hop None = None
after_hop cs hop (Some r) = onward cs hop r.part r.offset

-- What the steps reach; None where an index isn't below its length.
abbrev pub reach : List ClType → Whole → List Hop → Option Reached
reach cs whole [] = Some (record { part = at_start whole; offset = 0 })
reach cs whole (hop ∷ hops) = after_hop cs hop (reach cs whole hops)

-- ---- the scalars of a part

-- a scalar of an object: so many bytes behind its start, of so many bits
pub record Lies : Type 0 where
  pub offset : ℕ
  pub bits : ℕ

abbrev pub lies : ℕ → Option Slot → Option Lies
lies offset None = None
lies offset (Some s) = Some (record { offset = offset + s.offset; bits = s.bits })

-- scalar k of a part
abbrev pub scalar_in : List ClType → Part → ℕ → ℕ → Option Lies
scalar_in cs (OneOf ty) k offset = lies offset (slice_get (slots_at cs ty) k)
scalar_in cs (Selected ty at) k offset = let bits = bits_in (slots_at cs ty) in Some (record { offset = offset + slice_index at k * (bits / 8); bits = bits })
scalar_in cs Word k offset = Some (record { offset = offset; bits = 32 })
scalar_in cs (InRow ty count) k offset = None

abbrev pub scalar_of : List ClType → ℕ → Option Reached → Option Lies
scalar_of cs k None = None
scalar_of cs k (Some r) = scalar_in cs r.part k r.offset

-- What is accessed at a place: what stands there, scalar by scalar; or so many scalars from that one on, as vloadN and vstoreN do (OpenCL C 1.2, 6.12.7).
pub data Extent : Type 0 where
  There : Extent
  Row : (count : ℕ) → Extent

-- the steps to the element so many behind
abbrev pub behind : ℕ → List Hop → List Hop
behind k (Index i ∷ hops) = Index (i + k) ∷ hops
behind k (Single i ∷ hops) = Single (i + k) ∷ hops
behind k hops = hops

abbrev pub if_all : Option Lies → Option Lies → Option Lies
if_all None found = None
if_all (Some last) found = found

-- Scalar k of what is accessed. There is none where some of it isn't inside.
abbrev pub accessed : List ClType → Extent → ℕ → Place → Option Lies
accessed cs There k p = scalar_of cs k (reach cs p.whole p.hops)
accessed cs (Row count) k p = if_all (scalar_of cs 0 (reach cs p.whole (behind (count - 1) p.hops))) (scalar_of cs 0 (reach cs p.whole (behind k p.hops)))
