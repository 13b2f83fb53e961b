-- Arrays of arrays by their numbers of elements.
use Rattle.std.specs.Prelude.{ℕ, ◌*◌, ◌<◌, List, [], ◌∷◌}
use Rattle.cl_types.specs.declared.types.ClType.{ClType}
use Rattle.cl_types.specs.declared.types.TypeId.{TypeId}
use Rattle.cl_types.specs.declared.stop.TypeStop.{TypeStop}
use Rattle.cl_types.specs.declared.stop.TypeStop.TheVariants.{TooLarge, TooDeep, NoMemory}
use Rattle.cl_types.specs.Layout.{depth_of}
use Rattle.cl_types.specs.Table.{tree_of}
use Rattle.cl_words.specs.Words.{array_tree}
use Rattle.cl_make.specs.Ready.{From}

-- how many elements such an array has in all
abbrev pub product : List ℕ → ℕ
product [] = 1
product (n ∷ ns) = n * product ns

abbrev pub AreSome : List ℕ → Type 0
AreSome [] = Unit {0}
AreSome (n ∷ ns) = (0 < n) × AreSome ns

-- why there is no such array that isn't too large
abbrev pub ArraysStop : List ClType → TypeId → List ℕ → TypeStop → Type 0
ArraysStop cs elem ns TooLarge = ⊥
ArraysStop cs elem ns TooDeep = From cs (λ more. 16 < depth_of (array_tree (tree_of more elem.0) ns))
ArraysStop cs elem ns NoMemory = Unit {0}
