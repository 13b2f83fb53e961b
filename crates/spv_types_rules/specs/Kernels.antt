-- The kernels of a module, by name.
use Rattle.std.specs.Prelude.{ℕ, if◌then◌else◌, List, [], ◌∷◌, Option, Some, None, bytes_eq}
use Rattle.spv_module.specs.declared.module.Inst.{Inst}
use Rattle.spv_module.specs.Interface.{Entry, entry_points_in}

abbrev pub function_named : List ℕ → List Entry → Option ℕ
function_named name [] = None
function_named name (e ∷ es) = if bytes_eq e.name name then Some e.function else function_named name es

-- the function of the entry point of a name, where there is one: in a valid module no other has that name
abbrev pub kernel_in : List ℕ → List Inst → Option ℕ
kernel_in name body = function_named name (entry_points_in body)
