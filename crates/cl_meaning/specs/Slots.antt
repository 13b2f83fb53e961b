-- The scalars of all types of a table, by their numbers.
use Rattle.std.specs.Prelude.{◌≡◌, ℕ, ◌<◌, List, length, Some, slice_get}
use Rattle.cl_types.specs.declared.types.ClType.{ClType}
use Rattle.cl_types.specs.declared.scalars.Scalar.{Scalar as Slot}
use Rattle.cl_types.specs.Layout.{scalars_of}
use Rattle.cl_types.specs.Table.{tree_of}

abbrev pub AreSlots : List ClType → List (List Slot) → Type 0
AreSlots cs slots = (length slots ≡ length cs) × ((t : ℕ) → t < length cs → slice_get slots t ≡ Some (scalars_of (tree_of cs t)))
