-- What stands at file scope so far, by other numbers of types: as far as later judgements see it.
use Rattle.std.proofs.Common.{◌≡◌, ℕ, ◌+◌, List, [], ◌∷◌, ◌++◌, length, refl, sym, ap, ◌∙◌, Bool, true, false, ◌||◌, Option, Some, None}
use Rattle.std.specs.Prelude.{is_some}
use Rattle.std.proofs.lemmas.List.{length-append}
use Rattle.cl_tree.specs.declared.unit.ConstantVar.{ConstantVar}
use Rattle.cl_tree.specs.declared.unit.Function.{Function}
use Rattle.cl_tree.specs.Units.{has_kernel}
use Rattle.cl_scope.specs.Names.{Env}
use Rattle.cl_typing.specs.declared.unit_state.UnitState.{UnitState}
use Rattle.cl_typing.specs.Positions.{position_of, and_name}
use Rattle.cl_typing.specs.Units.{empty, with_env, size_at, size_for, and_size, is_made, and_function, and_constant}
use Rattle.cl_renaming.specs.Renaming.{env_as}

pub record IsUnitAs (r : ℕ → ℕ) (u v : UnitState) : Type 0 where
  pub env : v.env ≡ env_as r u.env
  pub constants : length v.constants ≡ length u.constants
  pub defined : v.defined ≡ u.defined
  pub sized : v.sized ≡ u.sized
  pub sizes : v.sizes ≡ u.sizes
  pub kernel : has_kernel v.functions ≡ has_kernel u.functions

has_kernel_behind : (fs : List Function) (f : Function) → has_kernel (fs ++ f ∷ []) ≡ (has_kernel fs || f.kernel)
has_kernel_behind [] f = by f.kernel
  where
    by : (k : Bool) → (k || false) ≡ (false || k)
    by true = refl
    by false = refl
has_kernel_behind (g ∷ fs) f = ap (λ z. g.kernel || z) (has_kernel_behind fs f) ∙ by g.kernel (has_kernel fs) f.kernel
  where
    by : (x y z : Bool) → (x || (y || z)) ≡ ((x || y) || z)
    by true y z = refl
    by false y z = refl

module _ (r : ℕ → ℕ) where
  pub unit_first : IsUnitAs r empty empty
  unit_first = record { env = refl; constants = refl; defined = refl; sized = refl; sizes = refl; kernel = refl }

  pub unit_env : (u v : UnitState) (env env2 : Env) → IsUnitAs r u v → env2 ≡ env_as r env → IsUnitAs r (with_env env u) (with_env env2 v)
  unit_env u v env env2 f g = record { env = g; constants = f.constants; defined = f.defined; sized = f.sized; sizes = f.sizes; kernel = f.kernel }

  pub unit_constant : (u v : UnitState) (env env2 : Env) (c d : ConstantVar) → IsUnitAs r u v → env2 ≡ env_as r env → IsUnitAs r (and_constant env c u) (and_constant env2 d v)
  unit_constant u v env env2 c d f g =
      record {
        env = g;
        constants = length-append v.constants (d ∷ []) ∙ ap (λ n. n + 1) f.constants ∙ sym (length-append u.constants (c ∷ []));
        defined = f.defined;
        sized = f.sized;
        sizes = f.sizes;
        kernel = f.kernel;
      }

  pub unit_size : (u v : UnitState) (name : List ℕ) (size : Option (List ℕ)) → IsUnitAs r u v → IsUnitAs r (and_size name size u) (and_size name size v)
  unit_size u v name None f = f
  unit_size u v name (Some size) f =
      record { env = f.env; constants = f.constants; defined = f.defined; sized = ap (and_name name) f.sized; sizes = ap (λ z. z ++ size ∷ []) f.sizes; kernel = f.kernel }

  pub unit_function : (u v : UnitState) (f g : Function) → IsUnitAs r u v → g.name ≡ f.name → g.kernel ≡ f.kernel → IsUnitAs r (and_function f u) (and_function g v)
  unit_function u v f g h n k =
      record {
        env = h.env;
        constants = h.constants;
        defined = (λ i. and_name (n i) (h.defined i));
        sized = h.sized;
        sizes = h.sizes;
        kernel = has_kernel_behind v.functions g ∙ (λ i. h.kernel i || k i) ∙ sym (has_kernel_behind u.functions f);
      }

  pub size_for_as : (u v : UnitState) (name : List ℕ) → IsUnitAs r u v → size_for name v ≡ size_for name u
  size_for_as u v name f = λ i. size_at (f.sizes i) (position_of name (f.sized i))

  pub is_made_as : (u v : UnitState) (name : List ℕ) → IsUnitAs r u v → is_made name v ≡ is_made name u
  is_made_as u v name f = ap (λ z. is_some (position_of name z)) f.defined
