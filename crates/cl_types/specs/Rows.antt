-- The rows of a table: the layout of each of its types.
use Rattle.std.specs.Prelude.{◌≡◌, ℕ, zero, suc, ◌+◌, ◌<◌, ◌≤◌, List, [], ◌∷◌, ◌++◌, length, Option, Some, None, Result, Ok, Err}
use Rattle.std.specs.Map.{keys_of}
use Rattle.cl_types.specs.declared.types.ClType.{ClType}
use Rattle.cl_types.specs.declared.types.ClType.TheVariants as ty
use Rattle.cl_types.specs.declared.types.Member.{Member}
use Rattle.cl_types.specs.declared.stop.TypeStop.{TypeStop}
use Rattle.cl_types.specs.declared.stop.TypeStop.TheVariants.{TooLarge, TooDeep, NoMemory}
use Rattle.cl_types.specs.declared.table.Row.{Row}
use Rattle.cl_types.specs.Layout.{TypeTree, Void, Scalar, Vector, Array, Struct, TypeTrees, none, more, up, size_of, align_of, depth_of, IsSound}
use Rattle.cl_types.specs.Table.{trees, IsTable, IsWithin, IsOver}

-- a struct's members
abbrev pub members_at : Option ClType → Option (List Member)
members_at (Some (ty.Struct name members)) = Some members
members_at _ = None

-- where the members of a struct lie
abbrev pub offsets_in : TypeTrees → ℕ → List ℕ
offsets_in none at = []
offsets_in (more t ts) at = up (align_of t) at ∷ offsets_in ts (up (align_of t) at + size_of t)

abbrev pub offsets_of : TypeTree → List ℕ
offsets_of (Struct ts) = offsets_in ts 0
offsets_of _ = []

-- a row is the layout of this type, within the limits
pub record IsRow (r : Row) (t : TypeTree) : Type 0 where
  pub size : r.size ≡ size_of t
  pub align : r.align ≡ align_of t
  pub depth : r.depth ≡ depth_of t
  pub offsets : r.offsets.items ≡ offsets_of t
  pub small : r.size ≤ 65536
  pub some : 0 < r.align
  pub low : r.align ≤ 65536
  pub shallow : r.depth ≤ 16

abbrev pub Fit : List (ClType × Row) → List TypeTree → Type 0
Fit [] [] = Unit {0}
Fit (e ∷ es) (t ∷ ts) = IsRow e.1 t × Fit es ts
Fit [] (t ∷ ts) = ⊥
Fit (e ∷ es) [] = ⊥

pub record AreRows (es : List (ClType × Row)) : Type 0 where
  pub table : IsTable (keys_of es)
  pub fit : Fit es (trees (keys_of es))

-- a layout of these numbers, or why it isn't within the limits
abbrev pub IsLimited : ℕ → ℕ → ℕ → List ℕ → Result Row TypeStop → Type 0
IsLimited size align depth offsets (Ok r) = (r.size ≡ size) × (r.align ≡ align) × (r.depth ≡ depth) × (r.offsets.items ≡ offsets) × (size ≤ 65536) × (depth ≤ 16)
IsLimited size align depth offsets (Err TooLarge) = 65536 < size
IsLimited size align depth offsets (Err TooDeep) = (size ≤ 65536) × (16 < depth)
IsLimited size align depth offsets (Err NoMemory) = ⊥

-- a row of this type, or why there is none
abbrev pub Measures : TypeTree → Result Row TypeStop → Type 0
Measures t (Ok r) = IsRow r t
Measures t (Err s) = IsOver t s
