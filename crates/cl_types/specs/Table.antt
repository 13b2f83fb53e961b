-- The types of a table, each built of earlier ones.
use Rattle.std.specs.Prelude.{◌≡◌, ℕ, zero, suc, ◌<◌, ◌≤◌, ◌^◌, Bool, true, false, List, [], ◌∷◌, ◌++◌, length, Option, Some, None, Result, Ok, Err, slice_get}
use Rattle.cl_types.specs.declared.types.ClType.{ClType}
use Rattle.cl_types.specs.declared.types.ClType.TheVariants as ty
use Rattle.cl_types.specs.declared.types.Member.{Member}
use Rattle.cl_types.specs.declared.types.TypeId.{TypeId}
use Rattle.cl_types.specs.declared.stop.TypeStop.{TypeStop}
use Rattle.cl_types.specs.declared.stop.TypeStop.TheVariants.{TooLarge, TooDeep, NoMemory}
use Rattle.cl_types.specs.Layout.{TypeTree, Void, Scalar, Vector, Array, Struct, TypeTrees, none, more, size_of, depth_of, is_width, is_count}

-- ---- trees

abbrev pub tree_at : List TypeTree → ℕ → TypeTree
tree_at [] i = Void
tree_at (t ∷ ts) zero = t
tree_at (t ∷ ts) (suc i) = tree_at ts i

abbrev pub trees_at : List TypeTree → List Member → TypeTrees
trees_at ts [] = none
trees_at ts (m ∷ ms) = more (tree_at ts m.ty.0) (trees_at ts ms)

-- the tree of a type, from those of the types that it names
abbrev pub tree_from : List TypeTree → ClType → TypeTree
tree_from ts ty.Void = Void
tree_from ts ty.Bool = Scalar 8
tree_from ts (ty.Int bits signed) = Scalar bits
tree_from ts (ty.Vector elem n) = Vector (tree_at ts elem.0) n
tree_from ts (ty.Array elem len) = Array (tree_at ts elem.0) len
tree_from ts (ty.Struct name members) = Struct (trees_at ts members)
tree_from ts (ty.Pointer space to readonly restricted) = Scalar 32

abbrev pub trees_after : List TypeTree → List ClType → List TypeTree
trees_after ts [] = ts
trees_after ts (c ∷ cs) = trees_after (ts ++ tree_from ts c ∷ []) cs

-- the trees of a table's types, and one of them
abbrev pub trees : List ClType → List TypeTree
trees cs = trees_after [] cs

abbrev pub tree_of : List ClType → ℕ → TypeTree
tree_of cs t = tree_at (trees cs) t

-- ---- which types can be built of a table's

-- a type that is there and isn't void
abbrev pub is_sized : Option ClType → Bool
is_sized None = false
is_sized (Some ty.Void) = false
is_sized (Some _) = true

abbrev pub is_integer : Option ClType → Bool
is_integer (Some (ty.Int bits signed)) = true
is_integer _ = false

abbrev pub AreSized : List ClType → List Member → Type 0
AreSized cs [] = Unit {0}
AreSized cs (m ∷ ms) = (is_sized (slice_get cs m.ty.0) ≡ true) × AreSized cs ms

abbrev pub IsBuilt : List ClType → ClType → Type 0
IsBuilt cs ty.Void = Unit {0}
IsBuilt cs ty.Bool = Unit {0}
IsBuilt cs (ty.Int bits signed) = is_width bits ≡ true
IsBuilt cs (ty.Vector elem n) = (is_integer (slice_get cs elem.0) ≡ true) × (is_count n ≡ true)
IsBuilt cs (ty.Array elem len) = (is_sized (slice_get cs elem.0) ≡ true) × (0 < len)
IsBuilt cs (ty.Struct name members) = AreSized cs members × (0 < length members)
IsBuilt cs (ty.Pointer space to readonly restricted) = to.0 < length cs

-- each of these is built of those before it, after these
abbrev pub AreBuilt : List ClType → List ClType → Type 0
AreBuilt before [] = Unit {0}
AreBuilt before (c ∷ cs) = IsBuilt before c × AreBuilt (before ++ c ∷ []) cs

-- at most 65,536 bytes, and at most 16 deep
pub record IsWithin (t : TypeTree) : Type 0 where
  pub size : size_of t ≤ 65536
  pub depth : depth_of t ≤ 16

pub record IsTable (cs : List ClType) : Type 0 where
  pub few : length cs ≤ 2 ^ 32
  pub built : AreBuilt [] cs
  pub distinct : (i j : ℕ) (c : ClType) → slice_get cs i ≡ Some c → slice_get cs j ≡ Some c → i ≡ j
  pub within : (i : ℕ) → i < length cs → IsWithin (tree_of cs i)

-- ---- what `intern` answers

-- the table with the type, which stays as it is where it has it already
pub data Interned (old new : List ClType) (c : ClType) (t : ℕ) : Type 0 where
  known : new ≡ old → slice_get old t ≡ Some c → Interned old new c t
  added : new ≡ old ++ c ∷ [] → t ≡ length old → ((i : ℕ) → slice_get old i ≡ Some c → ⊥) → Interned old new c t

-- why a type isn't taken: of two limits that it breaks the size comes first
abbrev pub IsOver : TypeTree → TypeStop → Type 0
IsOver t TooLarge = 65536 < size_of t
IsOver t TooDeep = (size_of t ≤ 65536) × (16 < depth_of t)
IsOver t NoMemory = Unit {0}

-- how many members the type has
abbrev pub member_count : Option ClType → ℕ
member_count (Some (ty.Struct name members)) = length members
member_count _ = 0
