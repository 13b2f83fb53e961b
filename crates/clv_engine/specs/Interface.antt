-- What the module of a kernel shows to those who launch it: its entry point, and the argument's variable with its type and decorations (SPIR-V 1.3, 3.20; Vulkan, 15.6).
use Rattle.std.specs.Prelude.{◌≡◌, ◌⊎◌, ℕ, List, [], ◌∷◌, Some, None, Contains}
use Rattle.spv_module.specs.declared.module.Inst.{Inst}
use Rattle.spv_module.specs.declared.enumerant.storage_class.TheConstants as storage_class
use Rattle.spv_module.specs.declared.enumerant.decoration.TheConstants as decoration
use Rattle.spv_module.specs.declared.enumerant.capability.TheConstants as capability
use Rattle.spv_module.specs.declared.enumerant.addressing_model.TheConstants as addressing_model
use Rattle.spv_module.specs.declared.enumerant.memory_model.TheConstants as memory_model
use Rattle.spv_module.specs.declared.enumerant.execution_model.TheConstants as execution_model
use Rattle.spv_module.specs.Instructions.{decoration_in, member_decoration_in}
use Rattle.spv_module.specs.Interface.{IsBufferVariable, IsUint, HasGroupSize, variables_in, functions_in, capabilities_in, memory_models_in, modes_in, entry_points_in}
use Rattle.clv_engine.specs.declared.form.Kernel.{Kernel}

-- The variable of an argument `__global uint *`, not `restrict` and not `const`: at set 0 and a binding, four bytes an element.
pub record IsUintBuffer (body : List Inst) (v binding : ℕ) : Type 0 where
  pub element : ℕ
  pub uint : IsUint body element
  pub buffer : IsBufferVariable body v element 4
  pub set : decoration_in body v decoration.DESCRIPTOR_SET ≡ Some (0 ∷ [])
  pub bound : decoration_in body v decoration.BINDING ≡ Some (binding ∷ [])
  pub aliased : decoration_in body v decoration.ALIASED ≡ Some []
  pub not_restrict : decoration_in body v decoration.RESTRICT ≡ None
  pub writable : decoration_in body v decoration.NON_WRITABLE ≡ None
  pub member_writable : member_decoration_in body buffer.block 0 decoration.NON_WRITABLE ≡ None

-- Interface agrees: a module for compute with one entry point, of the kernel's name. The argument's variable is at binding 0; any other global variable is an input. The group's size is open until the launch.
pub record InterfaceAgrees (body : List Inst) (k : Kernel) : Type 0 where
  pub capabilities : capabilities_in body ≡ capability.SHADER ∷ []
  pub models : memory_models_in body ≡ (addressing_model.LOGICAL, memory_model.GLSL450) ∷ []
  pub main : ℕ
  pub entry : entry_points_in body ≡ record { model = execution_model.GL_COMPUTE; function = main; name = k.name ∷ [] } ∷ []
  pub functions : functions_in body ≡ main ∷ []
  pub argument : ℕ
  pub buffer : IsUintBuffer body argument 0
  pub others : (v storage : ℕ) → Contains (variables_in body) (v, storage) → (v ≡ argument) ⊎ ((storage ≡ storage_class.INPUT) ⊎ (storage ≡ storage_class.FUNCTION))
  pub modes : modes_in body ≡ []
  pub sizes : HasGroupSize body
