-- Settings and states by other numbers of types.
use Rattle.std.proofs.Common.{◌≡◌, ℕ, [], ◌∷◌, length, map, sym, ap, ◌∙◌}
use Rattle.std.proofs.lemmas.List.{length-map, map-append}
use Rattle.cl_tree.specs.declared.unit.Variable.{Variable}
use Rattle.cl_scope.specs.Names.{Env}
use Rattle.cl_typing.specs.declared.setting.Setting.{Setting}
use Rattle.cl_typing.specs.Settings.{State, state, with_env, entering, leaving, inside, in_loop, in_switch}
use Rattle.cl_typing.specs.Statements.{and_variable}
use Rattle.cl_renaming.specs.Renaming.{type_id, env_as}
use Rattle.cl_renaming.proofs.Scopes.{entered_as}

abbrev pub variable_as : (ℕ → ℕ) → Variable → Variable
variable_as r v = record v { ty = type_id r v.ty }

abbrev pub setting_as : (ℕ → ℕ) → Setting → Setting
setting_as r p = record p { result = type_id r p.result }

abbrev pub state_as : (ℕ → ℕ) → State → State
state_as r st = state (env_as r st.env) (map (variable_as r) st.vars)

module _ (r : ℕ → ℕ) where
  -- ---- settings

  pub inside_same : (p p2 : Setting) → p2 ≡ setting_as r p → inside p2 ≡ setting_as r (inside p)
  inside_same p p2 f = ap inside f

  pub in_loop_same : (p p2 : Setting) → p2 ≡ setting_as r p → in_loop p2 ≡ setting_as r (in_loop p)
  in_loop_same p p2 f = ap in_loop f

  pub in_switch_same : (p p2 : Setting) → p2 ≡ setting_as r p → in_switch p2 ≡ setting_as r (in_switch p)
  in_switch_same p p2 f = ap in_switch f

  -- ---- states

  pub env_same : (st st2 : State) → st2 ≡ state_as r st → st2.env ≡ env_as r st.env
  env_same st st2 f = ap (λ z. z.env) f

  pub count_same : (st st2 : State) → st2 ≡ state_as r st → length st2.vars ≡ length st.vars
  count_same st st2 f = ap (λ z. length z.vars) f ∙ length-map st.vars (variable_as r)

  pub entering_same : (st st2 : State) → st2 ≡ state_as r st → entering st2 ≡ state_as r (entering st)
  entering_same st st2 f = ap entering f ∙ ap (λ z. state z (map (variable_as r) st.vars)) (entered_as r st.env)

  pub leaving_same : (st st2 after after2 : State) → st2 ≡ state_as r st → after2 ≡ state_as r after → leaving st2 after2 ≡ state_as r (leaving st after)
  leaving_same st st2 after after2 f g = λ i. leaving (f i) (g i)

  pub with_env_same : (env env2 : Env) (st st2 : State) → env2 ≡ env_as r env → st2 ≡ state_as r st → with_env env2 st2 ≡ state_as r (with_env env st)
  with_env_same env env2 st st2 f g = λ i. with_env (f i) (g i)

  pub and_variable_same : (env env2 : Env) (v v2 : Variable) (st st2 : State) → env2 ≡ env_as r env → v2 ≡ variable_as r v → st2 ≡ state_as r st → and_variable env2 v2 st2 ≡ state_as r (and_variable env v st)
  and_variable_same env env2 v v2 st st2 f g h =
      (λ i. and_variable (f i) (g i) (h i)) ∙ ap (state (env_as r env)) (sym (map-append (variable_as r) st.vars (v ∷ [])))
