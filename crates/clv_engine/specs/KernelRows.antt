-- The reflection rows of a kernel.
use Rattle.std.specs.Prelude.{◌≡◌, ℕ, List, [], ◌∷◌, Some, None}
use Rattle.spv_module.specs.declared.module.Inst.{Inst}
use Rattle.spv_module.specs.Interface.{functions_in}
use Rattle.spv_reflect.specs.declared.rows.ArgKindRow.TheVariants.{Buffer}
use Rattle.spv_reflect.specs.declared.rows.Reflection.{Reflection}
use Rattle.spv_reflect.specs.Reflection.{rows_of, KeepsReflectionRules}
use Rattle.clv_engine.specs.declared.form.Kernel.{Kernel}

-- The rows of the kernel, whose function has this id.
abbrev pub reflection_of : Kernel → ℕ → Reflection
reflection_of k function = record {
  kernels = record { function = function; name = k.name ∷ []; args = record { name = k.argument ∷ []; kind = Buffer 0 0 } ∷ []; required = None } ∷ [];
  sizes = Some (0 ∷ 1 ∷ 2 ∷ []);
  dim = None;
  constants = None;
}

-- Reflection agrees: the module has one function, its rows are those of the kernel with this function, and no rule on rows is broken.
pub record ReflectionAgrees (body : List Inst) (k : Kernel) : Type 0 where
  pub function : ℕ
  pub functions : functions_in body ≡ function ∷ []
  pub rows : rows_of body ≡ Some (reflection_of k function)
  pub rules : KeepsReflectionRules body (reflection_of k function)
