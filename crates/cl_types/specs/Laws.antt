-- What holds of each layout.
use Rattle.std.specs.Prelude.{◌≡◌, ℕ, ◌+◌, ◌*◌, ◌/◌, ◌<◌, ◌≤◌, ◌⊎◌, List, [], ◌∷◌, length, Contains}
use Rattle.cl_types.specs.declared.scalars.Scalar.{Scalar as Slot}
use Rattle.cl_types.specs.declared.types.ClType.{ClType}
use Rattle.cl_types.specs.Layout.{TypeTree, Scalar, size_of, align_of, scalars_of, Place, IsSound}
use Rattle.cl_types.specs.Table.{IsTable, tree_of}

-- in order from one offset to another, none over the next
abbrev pub Ascend : ℕ → ℕ → List Slot → Type 0
Ascend from to [] = from ≤ to
Ascend from to (s ∷ ss) = (from ≤ s.offset) × Ascend (s.offset + s.bits / 8) to ss

abbrev pub Divides : ℕ → ℕ → Type 0
Divides a n = (q : ℕ) × (n ≡ q * a)

-- the types of a table have layouts for which the laws below hold
abbrev pub TypesAreSound : Type 0
TypesAreSound = (cs : List ClType) (t : ℕ) → IsTable cs → t < length cs → IsSound (tree_of cs t)

-- a type's scalars stand in the order of their offsets, none over another, and inside its size
abbrev pub ScalarsAscend : Type 0
ScalarsAscend = (t : TypeTree) → IsSound t → Ascend 0 (size_of t) (scalars_of t)

-- each is a place that its path leads to, and each place of a scalar is one of them
abbrev pub ScalarsArePlaces : Type 0
ScalarsArePlaces = (t : TypeTree) (s : Slot) → Contains (scalars_of t) s → Place t s.path s.offset (Scalar s.bits)

abbrev pub PlacesAreScalars : Type 0
PlacesAreScalars = (t : TypeTree) (p : List ℕ) (o bits : ℕ) → Place t p o (Scalar bits) → Contains (scalars_of t) (record { path = p; offset = o; bits = bits })

-- a path leads to one offset and type
abbrev pub PlacesAreOne : Type 0
PlacesAreOne = (t : TypeTree) (p : List ℕ) (o q : ℕ) (u v : TypeTree) → Place t p o u → Place t p q v → (o ≡ q) × (u ≡ v)

-- scalars of two different paths don't meet
abbrev pub ScalarsLieApart : Type 0
ScalarsLieApart = (t : TypeTree) → IsSound t → (p q : List ℕ) (o r b c : ℕ) → Place t p o (Scalar b) → Place t q r (Scalar c) → (p ≡ q) ⊎ ((o + b / 8 ≤ r) ⊎ (r + c / 8 ≤ o))

-- each place lies inside the size, at a multiple of its alignment
abbrev pub PlacesLieWithin : Type 0
PlacesLieWithin = (t : TypeTree) → IsSound t → (p : List ℕ) (o : ℕ) (u : TypeTree) → Place t p o u → o + size_of u ≤ size_of t

abbrev pub PlacesAreAligned : Type 0
PlacesAreAligned = (t : TypeTree) → IsSound t → (p : List ℕ) (o : ℕ) (u : TypeTree) → Place t p o u → Divides (align_of u) o

-- a size is a multiple of its alignment, so that elements of an array are aligned
abbrev pub SizesAreMultiples : Type 0
SizesAreMultiples = (t : TypeTree) → IsSound t → Divides (align_of t) (size_of t)
