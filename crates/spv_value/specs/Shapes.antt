-- What the code reads of a type's definition.
use Rattle.std.specs.Prelude.{ℕ, List, Option, Some, None}
use Rattle.spv_module.specs.declared.module.Inst.{Inst}
use Rattle.spv_module.specs.Instructions.{Said, VectorType, StructType, definition_in}

-- a vector's component type and its number of elements
abbrev pub vector_by : Option Said → Option (ℕ × ℕ)
vector_by (Some (VectorType r component count)) = Some (component, count)
vector_by _ = None

abbrev pub vector_in : List Inst → ℕ → Option (ℕ × ℕ)
vector_in body t = vector_by (definition_in body t)

-- a struct's member types
abbrev pub members_by : Option Said → Option (List ℕ)
members_by (Some (StructType r members)) = Some members
members_by _ = None

abbrev pub members_in : List Inst → ℕ → Option (List ℕ)
members_in body t = members_by (definition_in body t)
