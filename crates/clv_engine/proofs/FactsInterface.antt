-- The interface of a kernel's module agrees with the kernel.
use Rattle.std.proofs.Common.{◌≡◌, ℕ, ◌⊎◌, List, [], ◌∷◌, refl, subst, inl, inr, ◌∙◌, ap}
use Rattle.std.specs.Prelude.{All, Contains}
use Rattle.std.proofs.lemmas.List.Elements.{All-nil, All-cons, All-contains}
use Rattle.spv_module.specs.declared.enumerant.storage_class.TheConstants as storage_class
use Rattle.spv_module.specs.declared.enumerant.decoration.TheConstants as decoration
use Rattle.clv_engine.specs.declared.form.Kernel.{Kernel}
use Rattle.clv_engine.specs.declared.id.TheConstants as id
use Rattle.clv_engine.specs.FirstForm.{IsKernel}
use Rattle.spv_module.specs.declared.enumerant.capability.TheConstants as capability
use Rattle.spv_module.specs.declared.enumerant.addressing_model.TheConstants as addressing_model
use Rattle.spv_module.specs.declared.enumerant.memory_model.TheConstants as memory_model
use Rattle.spv_module.specs.declared.enumerant.execution_model.TheConstants as execution_model
use Rattle.spv_module.specs.Interface.{Entry, variables_in, functions_in, capabilities_in, memory_models_in, modes_in, entry_points_in, IsBufferVariable, HasGroupSize}
use Rattle.clv_engine.specs.Interface.{IsUintBuffer, InterfaceAgrees}
use Rattle.clv_engine.specs.Emitted.{body_of}
use Rattle.clv_engine.proofs.FactsScans.{past_constants, past_terms, variables_pass, functions_pass, capabilities_pass, memory_models_pass, modes_pass, entry_points_pass, none_behind, no_member_behind}

-- the input and the argument, with their storage classes
abbrev pub the_variables : List (ℕ × ℕ)
the_variables = (id.GLOBAL_ID, storage_class.INPUT) ∷ (id.BUFFER, storage_class.STORAGE_BUFFER) ∷ []

-- the entry point
abbrev pub the_entry : Kernel → Entry
the_entry k = record { model = execution_model.GL_COMPUTE; function = id.MAIN; name = k.name ∷ [] }

module _ (k : Kernel) where
  pub functions_are : functions_in (body_of k) ≡ id.MAIN ∷ []
  functions_are = past_constants functions_in functions_pass id.TERMS k.terms _ ∙ ap (λ fs. id.MAIN ∷ fs) (past_terms functions_in functions_pass k.terms _)

  pub entry_points_are : entry_points_in (body_of k) ≡ the_entry k ∷ []
  entry_points_are =
      ap (λ es. the_entry k ∷ es)
      (past_constants entry_points_in entry_points_pass id.TERMS k.terms _ ∙ past_terms entry_points_in entry_points_pass k.terms _)

  capabilities_are : capabilities_in (body_of k) ≡ capability.SHADER ∷ []
  capabilities_are =
      ap (λ cs. capability.SHADER ∷ cs)
      (past_constants capabilities_in capabilities_pass id.TERMS k.terms _ ∙ past_terms capabilities_in capabilities_pass k.terms _)

  models_are : memory_models_in (body_of k) ≡ (addressing_model.LOGICAL, memory_model.GLSL450) ∷ []
  models_are =
      ap (λ ms. (addressing_model.LOGICAL, memory_model.GLSL450) ∷ ms)
      (past_constants memory_models_in memory_models_pass id.TERMS k.terms _ ∙ past_terms memory_models_in memory_models_pass k.terms _)

  modes_are : modes_in (body_of k) ≡ []
  modes_are = past_constants modes_in modes_pass id.TERMS k.terms _ ∙ past_terms modes_in modes_pass k.terms _

  pub variables_are : variables_in (body_of k) ≡ the_variables
  variables_are =
      ap (λ vs. (id.GLOBAL_ID, storage_class.INPUT) ∷ (id.BUFFER, storage_class.STORAGE_BUFFER) ∷ vs)
      (past_constants variables_in variables_pass id.TERMS k.terms _ ∙ past_terms variables_in variables_pass k.terms _)

  pub buffer_variable : IsBufferVariable (body_of k) id.BUFFER id.UINT 4
  buffer_variable = record {
    pointer = id.BLOCK_POINTER;
    block = id.BLOCK;
    array = id.ELEMENTS;
    variable = refl;
    points = refl;
    struct = refl;
    is_block = refl;
    offset = refl;
    elements = refl;
    apart = refl;
  }

  uint_buffer : IsUintBuffer (body_of k) id.BUFFER 0
  unfolding buffer_variable
  uint_buffer = record {
    element = id.UINT;
    uint = refl;
    buffer = buffer_variable;
    set = refl;
    bound = refl;
    aliased = refl;
    not_restrict = none_behind id.BUFFER decoration.RESTRICT k.terms;
    writable = none_behind id.BUFFER decoration.NON_WRITABLE k.terms;
    member_writable = no_member_behind id.BLOCK 0 decoration.NON_WRITABLE k.terms;
  }

  pub group_size : HasGroupSize (body_of k)
  group_size = record {
    composite = id.GROUP_SIZE;
    type = id.UINT3;
    element = id.UINT;
    x = id.SIZE_X;
    y = id.SIZE_Y;
    z = id.SIZE_Z;
    parts = refl;
    vector = refl;
    uint = refl;
    is_size = refl;
    size_x = record { type = id.UINT; word = refl; constant = refl; bound = refl };
    size_y = record { type = id.UINT; word = refl; constant = refl; bound = refl };
    size_z = record { type = id.UINT; word = refl; constant = refl; bound = refl };
  }

-- the argument, or an input
abbrev IsExpected : ℕ × ℕ → Type 0
IsExpected v = (v.0 ≡ id.BUFFER) ⊎ ((v.1 ≡ storage_class.INPUT) ⊎ (v.1 ≡ storage_class.FUNCTION))

all_expected : All IsExpected the_variables
all_expected =
    All-cons IsExpected (id.GLOBAL_ID, storage_class.INPUT) ((id.BUFFER, storage_class.STORAGE_BUFFER) ∷ []) (inr (inl refl))
    (All-cons IsExpected (id.BUFFER, storage_class.STORAGE_BUFFER) [] (inl refl) (All-nil IsExpected))

others : (k : Kernel) (v storage : ℕ) → Contains (variables_in (body_of k)) (v, storage) → IsExpected (v, storage)
others k v storage c = All-contains IsExpected the_variables (v, storage) all_expected (subst (λ vs. Contains vs (v, storage)) (variables_are k) c)

pub interface_agrees : (k : Kernel) → IsKernel k → InterfaceAgrees (body_of k) k
interface_agrees k h = record {
  capabilities = capabilities_are k;
  models = models_are k;
  main = id.MAIN;
  entry = entry_points_are k;
  functions = functions_are k;
  argument = id.BUFFER;
  buffer = uint_buffer k;
  others = others k;
  modes = modes_are k;
  sizes = group_size k;
}
