-- The parameters of a function have one verdict, whatever numbers types have.
use Rattle.std.proofs.Common.{◌≡◌, ℕ, nat_eq, List, [], ◌∷◌, ◌++◌, length, map, refl, sym, ap, ◌∙◌, subst, Bool, not, ◌&&◌, ◌||◌, Option, Some, None}
use Rattle.std.proofs.lemmas.List.{map-append, length-map}
use Rattle.clv_place.specs.declared.stop.Offence.{Offence}
use Rattle.cl_types.specs.declared.types.ClType.{ClType}
use Rattle.cl_types.specs.declared.types.TypeId.{TypeId}
use Rattle.cl_types.specs.Table.{AreBuilt}
use Rattle.cl_ast.specs.declared.declaration.Param.{Param}
use Rattle.cl_ast.specs.declared.expression.Qual.{Qual}
use Rattle.cl_tree.specs.declared.shape.Shape.{Shape}
use Rattle.cl_tree.specs.declared.shape.Shape.TheVariants as shape
use Rattle.cl_tree.specs.declared.unit.Variable.{Variable}
use Rattle.cl_tree.specs.Units.{is_kernel_param}
use Rattle.cl_rules.specs.declared.rule.Qualified.{Qualified}
use Rattle.cl_rules.specs.Operands.{first_broken}
use Rattle.cl_scope.specs.Names.{Env}
use Rattle.cl_words.specs.declared.naming.Sketch.{Sketch}
use Rattle.cl_words.specs.Words.{sketch}
use Rattle.cl_make.proofs.Growing.{none_some, some_same}
use Rattle.cl_make.specs.Wanted.{IsDeclaredAs}
use Rattle.cl_type_expr.specs.Offences.{at}
use Rattle.cl_typing.specs.Units.{has_space, has_star, is_again, param_tests_at, param_tests, param_of, param_named, ParamsAre, no_param, more_params, ParamsOffend, in_param_words, broken_param, behind_param}
use Rattle.cl_renaming.specs.Renaming.{type_id, shape_as, qualified_as, sketch_as, env_as, IsRenaming, AreTypes}
use Rattle.cl_renaming.proofs.Shapes.{is_void_as, is_array_as}
use Rattle.cl_renaming.proofs.Scopes.{is_declared_in_as}
use Rattle.cl_renaming.proofs.Wants.{declared_one}
use Rattle.cl_renaming.proofs.Words.{sketch_of_as, no_declared_type_as}
use Rattle.cl_renaming.proofs.Agreement.{is_specified_same, sketch_one}
use Rattle.cl_renaming.proofs.Excluded.{words_no_offence}
use Rattle.cl_renaming.proofs.Excluding.{offence_no_words}
use Rattle.cl_renaming.proofs.OneOffence.{words_one}
use Rattle.cl_verdicts.proofs.States.{variable_as}

module _ (r : ℕ → ℕ) where
  is_kernel_param_as : (s : Shape) → is_kernel_param (shape_as r s) ≡ is_kernel_param s
  is_kernel_param_as shape.Void = refl
  is_kernel_param_as shape.Bool = refl
  is_kernel_param_as (shape.Integers t) = refl
  is_kernel_param_as (shape.Array elem len nested) = refl
  is_kernel_param_as shape.Struct = refl
  is_kernel_param_as (shape.Pointer s to readonly restricted) = refl

  is_again_as : (env : Env) (name : Option (List ℕ)) → is_again (env_as r env) name ≡ is_again env name
  is_again_as env None = refl
  is_again_as env (Some name) = is_declared_in_as r env name

  param_named_as : (name : Option (List ℕ)) (t : TypeId) (k : Sketch) (n : ℕ) (env : Env) → param_named name (type_id r t) (sketch_as r k) n (env_as r env) ≡ env_as r (param_named name t k n env)
  param_named_as None t k n env = refl
  param_named_as (Some name) t k n env = refl

  param_tests_as : (kernel again sized star : Bool) (k : Sketch) (before : ℕ) → param_tests_at kernel again sized star (sketch_as r k) before ≡ param_tests_at kernel again sized star k before
  param_tests_as kernel again sized star k before = λ i.
      (302, again) ∷ (303, no_declared_type_as r k i || is_void_as r k.shape i || is_array_as r k.shape i) ∷ (326, k.clash || has_space k.space)
      ∷ (327, kernel && (not (is_kernel_param_as k.shape i) || (sized && not star))) ∷ (504, nat_eq before 32) ∷ []

  pub sketch_there : (q q2 : Qualified) (star : Option (List Qual)) → q2 ≡ qualified_as r q → sketch q2 star [] ≡ sketch_as r (sketch q star [])
  sketch_there q q2 star f = ap (λ z. sketch z star []) f ∙ sketch_of_as r q star []

  -- how many parameters stand before
  before_there : (before before2 : List Variable) → before2 ≡ map (variable_as r) before → length before2 ≡ length before
  before_there before before2 f = ap length f ∙ length-map before (variable_as r)

  param_tests_there : (kernel : Bool) (env env2 : Env) (q q2 : Qualified) (p : Param) (before before2 : List Variable) → env2 ≡ env_as r env → q2 ≡ qualified_as r q → before2 ≡ map (variable_as r) before → param_tests kernel env2 q2 p.star p.name (sketch q2 p.star []) (length before2) ≡ param_tests kernel env q p.star p.name (sketch q p.star []) (length before)
  param_tests_there kernel env env2 q q2 p before before2 f g h =
      (λ i. param_tests kernel (f i) (g i) p.star p.name (sketch_there q q2 p.star g i) (before_there before before2 h i))
      ∙ (λ i. param_tests_at kernel (is_again_as env p.name i) q.sized (has_star p.star) (sketch_as r (sketch q p.star [])) (length before))
      ∙ param_tests_as kernel (is_again env p.name) q.sized (has_star p.star) (sketch q p.star []) (length before)

  named_there : (p : Param) (env env2 : Env) (q q2 : Qualified) (t t2 : TypeId) (before before2 : List Variable) → env2 ≡ env_as r env → q2 ≡ qualified_as r q → t2 ≡ type_id r t → before2 ≡ map (variable_as r) before → param_named p.name t2 (sketch q2 p.star []) (length before2) env2 ≡ env_as r (param_named p.name t (sketch q p.star []) (length before) env)
  named_there p env env2 q q2 t t2 before before2 f g h k =
      (λ i. param_named p.name (h i) (sketch_there q q2 p.star g i) (before_there before before2 k i) (f i))
      ∙ param_named_as p.name t (sketch q p.star []) (length before) env

  behind_there : (p : Param) (t t2 : TypeId) (before before2 : List Variable) → t2 ≡ type_id r t → before2 ≡ map (variable_as r) before → before2 ++ param_of p t2 ∷ [] ≡ map (variable_as r) (before ++ param_of p t ∷ [])
  behind_there p t t2 before before2 f g = (λ i. g i ++ param_of p (f i) ∷ []) ∙ sym (map-append (variable_as r) before (param_of p t ∷ []))

module _ (cs ds : List ClType) (r : ℕ → ℕ) (e : IsRenaming cs ds r) (bc : AreBuilt [] cs) (b : AreTypes ds) where
  param_type_one : (q q2 : Qualified) (p : Param) (t t2 : TypeId) → q2 ≡ qualified_as r q → IsDeclaredAs cs (sketch q p.star []) 1 t → IsDeclaredAs ds (sketch q2 p.star []) 1 t2 → t2 ≡ type_id r t
  param_type_one q q2 p t t2 f x y = declared_one cs ds r e b (sketch q p.star []) 1 t t2 (sketch_one cs ds r e bc b q p.star []) x (subst (λ z. IsDeclaredAs ds z 1 t2) (sketch_there r q q2 p.star f) y)

  module _ (kernel : Bool) where
    pub params_same : (i0 : Env) (i1 : List Variable) (i2 : List Param) (i3 : Env) (i4 : List Variable) → ParamsAre cs kernel i0 i1 i2 i3 i4 → (j0 : Env) (j1 : List Variable) (j3 : Env) (j4 : List Variable) → j0 ≡ env_as r i0 → j1 ≡ map (variable_as r) i1 → ParamsAre ds kernel j0 j1 i2 j3 j4 → (j3 ≡ env_as r i3) × (j4 ≡ map (variable_as r) i4)
    params_same _ _ _ _ _ (no_param env before) _ _ _ _ f g (no_param env2 before2) = (f, g)
    params_same _ _ _ _ _ (more_params env typed after before all p ps q t h0 h1 h2 h3) _ _ _ _ f g (more_params env2 typed2 after2 before2 all2 p2 ps2 q2 t2 k0 k1 k2 k3) =
        let a = is_specified_same cs ds r e bc b _ _ _ _ h0 env2 typed2 q2 f k0 in
        let l = param_type_one q q2 p t t2 a.1 h2 k2 in
        params_same _ _ _ _ _ h3 _ _ after2 all2 (named_there r p typed typed2 q q2 t t2 before before2 a.0 a.1 l g) (behind_there r p t t2 before before2 l g) k3

    pub params_no_offence : (j0 : Env) (j1 : List Variable) (j2 : List Param) (j3 : Offence) → ParamsOffend ds kernel j0 j1 j2 j3 → (i0 : Env) (i1 : List Variable) (i3 : Env) (i4 : List Variable) → j0 ≡ env_as r i0 → j1 ≡ map (variable_as r) i1 → ParamsAre cs kernel i0 i1 j2 i3 i4 → ⊥
    params_no_offence _ _ _ _ (in_param_words env before p ps o h0) _ _ _ _ f g (more_params env1 typed1 after1 before1 all1 p1 ps1 q1 t1 k0 k1 k2 k3) = words_no_offence cs ds r e bc b _ _ _ h0 env1 typed1 q1 f k0
    params_no_offence _ _ _ _ (broken_param env typed before p ps q code h0 h1) _ _ _ _ f g (more_params env1 typed1 after1 before1 all1 p1 ps1 q1 t1 k0 k1 k2 k3) =
        let a = is_specified_same cs ds r e bc b _ _ _ _ k0 env typed q f h0 in
        none_some (sym k1 ∙ ap first_broken (sym (param_tests_there r kernel typed1 typed q1 q p before1 before a.0 a.1 g)) ∙ h1)
    params_no_offence _ _ _ _ (behind_param env typed before p ps q t o h0 h1 h2 h3) _ _ _ _ f g (more_params env1 typed1 after1 before1 all1 p1 ps1 q1 t1 k0 k1 k2 k3) =
        let a = is_specified_same cs ds r e bc b _ _ _ _ k0 env typed q f h0 in
        let l = param_type_one q1 q p t1 t a.1 k2 h2 in
        params_no_offence _ _ _ _ h3 _ _ after1 all1 (named_there r p typed1 typed q1 q t1 t before1 before a.0 a.1 l g) (behind_there r p t1 t before1 before l g) k3

    pub offence_no_params : (j0 : Env) (j1 : List Variable) (j2 : List Param) (j3 : Offence) → ParamsOffend cs kernel j0 j1 j2 j3 → (i0 : Env) (i1 : List Variable) (i3 : Env) (i4 : List Variable) → i0 ≡ env_as r j0 → i1 ≡ map (variable_as r) j1 → ParamsAre ds kernel i0 i1 j2 i3 i4 → ⊥
    offence_no_params _ _ _ _ (in_param_words env before p ps o h0) _ _ _ _ f g (more_params env1 typed1 after1 before1 all1 p1 ps1 q1 t1 k0 k1 k2 k3) = offence_no_words cs ds r e bc b _ _ _ h0 env1 typed1 q1 f k0
    offence_no_params _ _ _ _ (broken_param env typed before p ps q code h0 h1) _ _ _ _ f g (more_params env1 typed1 after1 before1 all1 p1 ps1 q1 t1 k0 k1 k2 k3) =
        let a = is_specified_same cs ds r e bc b _ _ _ _ h0 env1 typed1 q1 f k0 in
        none_some (sym k1 ∙ ap first_broken (param_tests_there r kernel typed typed1 q q1 p before before1 a.0 a.1 g) ∙ h1)
    offence_no_params _ _ _ _ (behind_param env typed before p ps q t o h0 h1 h2 h3) _ _ _ _ f g (more_params env1 typed1 after1 before1 all1 p1 ps1 q1 t1 k0 k1 k2 k3) =
        let a = is_specified_same cs ds r e bc b _ _ _ _ h0 env1 typed1 q1 f k0 in
        let l = param_type_one q q1 p t t1 a.1 h2 k2 in
        offence_no_params _ _ _ _ h3 _ _ after1 all1 (named_there r p typed typed1 q q1 t t1 before before1 a.0 a.1 l g) (behind_there r p t t1 before before1 l g) k3

    pub params_offences_one : (j0 : Env) (j1 : List Variable) (j2 : List Param) (j3 : Offence) → ParamsOffend cs kernel j0 j1 j2 j3 → (i0 : Env) (i1 : List Variable) (o2 : Offence) → i0 ≡ env_as r j0 → i1 ≡ map (variable_as r) j1 → ParamsOffend ds kernel i0 i1 j2 o2 → o2 ≡ j3
    params_offences_one _ _ _ _ (in_param_words env before p ps o h0) _ _ _ f g (in_param_words env1 before1 p1 ps1 o1 k0) = words_one cs ds r e bc b _ _ _ h0 env1 o1 f k0
    params_offences_one _ _ _ _ (in_param_words env before p ps o h0) _ _ _ f g (broken_param env1 typed1 before1 p1 ps1 q1 code1 k0 k1) = absurd (offence_no_words cs ds r e bc b _ _ _ h0 env1 typed1 q1 f k0)
    params_offences_one _ _ _ _ (in_param_words env before p ps o h0) _ _ _ f g (behind_param env1 typed1 before1 p1 ps1 q1 t1 o1 k0 k1 k2 k3) = absurd (offence_no_words cs ds r e bc b _ _ _ h0 env1 typed1 q1 f k0)
    params_offences_one _ _ _ _ (broken_param env typed before p ps q code h0 h1) _ _ _ f g (in_param_words env1 before1 p1 ps1 o1 k0) = absurd (words_no_offence cs ds r e bc b _ _ _ k0 env typed q f h0)
    params_offences_one _ _ _ _ (broken_param env typed before p ps q code h0 h1) _ _ _ f g (broken_param env1 typed1 before1 p1 ps1 q1 code1 k0 k1) =
        let a = is_specified_same cs ds r e bc b _ _ _ _ h0 env1 typed1 q1 f k0 in
        ap (λ z. at z p.place) (some_same code1 code (sym k1 ∙ ap first_broken (param_tests_there r kernel typed typed1 q q1 p before before1 a.0 a.1 g) ∙ h1))
    params_offences_one _ _ _ _ (broken_param env typed before p ps q code h0 h1) _ _ _ f g (behind_param env1 typed1 before1 p1 ps1 q1 t1 o1 k0 k1 k2 k3) =
        let a = is_specified_same cs ds r e bc b _ _ _ _ h0 env1 typed1 q1 f k0 in
        absurd (none_some (sym k1 ∙ ap first_broken (param_tests_there r kernel typed typed1 q q1 p before before1 a.0 a.1 g) ∙ h1))
    params_offences_one _ _ _ _ (behind_param env typed before p ps q t o h0 h1 h2 h3) _ _ _ f g (in_param_words env1 before1 p1 ps1 o1 k0) = absurd (words_no_offence cs ds r e bc b _ _ _ k0 env typed q f h0)
    params_offences_one _ _ _ _ (behind_param env typed before p ps q t o h0 h1 h2 h3) _ _ _ f g (broken_param env1 typed1 before1 p1 ps1 q1 code1 k0 k1) =
        let a = is_specified_same cs ds r e bc b _ _ _ _ h0 env1 typed1 q1 f k0 in
        absurd (none_some (sym h1 ∙ ap first_broken (sym (param_tests_there r kernel typed typed1 q q1 p before before1 a.0 a.1 g)) ∙ k1))
    params_offences_one _ _ _ _ (behind_param env typed before p ps q t o h0 h1 h2 h3) _ _ _ f g (behind_param env1 typed1 before1 p1 ps1 q1 t1 o1 k0 k1 k2 k3) =
        let a = is_specified_same cs ds r e bc b _ _ _ _ h0 env1 typed1 q1 f k0 in
        let l = param_type_one q q1 p t t1 a.1 h2 k2 in
        params_offences_one _ _ _ _ h3 _ _ o1 (named_there r p typed typed1 q q1 t t1 before before1 a.0 a.1 l g) (behind_there r p t t1 before before1 l g) k3
