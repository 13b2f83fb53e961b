-- The declaration of a function has one verdict, whatever numbers types have.
use Rattle.std.proofs.Common.{◌≡◌, ℕ, List, [], ◌∷◌, map, refl, sym, ap, ◌∙◌, subst, Bool, not, ◌&&◌, ◌||◌, Option, Some, None}
use Rattle.std.specs.Prelude.{is_some}
use Rattle.std.specs.Option.{option_map}
use Rattle.clv_place.specs.declared.place.Place.{Place}
use Rattle.clv_place.specs.declared.stop.Offence.{Offence}
use Rattle.cl_types.specs.declared.types.ClType.{ClType}
use Rattle.cl_types.specs.declared.types.TypeId.{TypeId}
use Rattle.cl_types.specs.Table.{AreBuilt}
use Rattle.cl_ast.specs.declared.declaration.FWord.{FWord}
use Rattle.cl_ast.specs.declared.declaration.Param.{Param}
use Rattle.cl_ast.specs.declared.expression.Spec.{Spec}
use Rattle.cl_tree.specs.declared.unit.Variable.{Variable}
use Rattle.cl_tree.specs.Units.{types_of}
use Rattle.cl_rules.specs.declared.rule.Qualified.{Qualified}
use Rattle.cl_rules.specs.Operands.{first_broken}
use Rattle.cl_scope.specs.declared.scope.Signature.{Signature}
use Rattle.cl_scope.specs.Names.{Env, entered, declared_function, is_declared, find_function}
use Rattle.cl_make.proofs.Growing.{none_some, some_same}
use Rattle.cl_type_expr.specs.Expressions.{IsSpecified}
use Rattle.cl_type_expr.specs.Offences.{at}
use Rattle.cl_typing.specs.declared.unit_state.UnitState.{UnitState}
use Rattle.cl_typing.specs.Units.{size_for, is_made, SizesAre, SizesOffend, is_kernel, ParamsAre, same_types, alike, differs, function_tests_at, function_tests, signature, IsHead, HeadOffends, in_sizes, in_result, in_params, no_function}
use Rattle.cl_renaming.specs.Renaming.{type_id, shape_as, qualified_as, signature_as, env_as, TellsApart, IsRenaming, AreTypes}
use Rattle.cl_renaming.proofs.Shapes.{is_void_as, is_array_as, is_pointer_as, same_as}
use Rattle.cl_renaming.proofs.Scopes.{find_function_as, is_declared_in_as, entered_as, declared_function_as}
use Rattle.cl_renaming.proofs.Agreement.{is_specified_same}
use Rattle.cl_renaming.proofs.Excluded.{words_no_offence}
use Rattle.cl_renaming.proofs.Excluding.{offence_no_words}
use Rattle.cl_renaming.proofs.OneOffence.{words_one}
use Rattle.cl_verdicts.proofs.States.{variable_as}
use Rattle.cl_verdicts.proofs.UnitRelation.{IsUnitAs, size_for_as, is_made_as}
use Rattle.cl_verdicts.proofs.SizeVerdict.{sizes_same, sizes_no_offence, offence_no_sizes, sizes_offences_one}
use Rattle.cl_verdicts.proofs.ParamVerdict.{params_same, params_no_offence, offence_no_params, params_offences_one}

types_of_as : (r : ℕ → ℕ) (vs : List Variable) → types_of (map (variable_as r) vs) ≡ map (type_id r) (types_of vs)
types_of_as r [] = refl
types_of_as r (v ∷ vs) = ap (λ z. type_id r v.ty ∷ z) (types_of_as r vs)

module _ (r : ℕ → ℕ) (apart : TellsApart r) where
  same_types_as : (ts us : List TypeId) → same_types (map (type_id r) ts) (map (type_id r) us) ≡ same_types ts us
  same_types_as [] [] = refl
  same_types_as [] (u ∷ us) = refl
  same_types_as (t ∷ ts) [] = refl
  same_types_as (t ∷ ts) (u ∷ us) = λ i. same_as r apart t u i && same_types_as ts us i

  differs_as : (s : Option Signature) (params : List TypeId) (result : TypeId) (kernel : Bool) → differs (option_map (signature_as r) s) (map (type_id r) params) (type_id r result) kernel ≡ differs s params result kernel
  differs_as None params result kernel = refl
  differs_as (Some s) params result kernel = λ i. not (same_types_as s.params params i && same_as r apart s.result result i && alike s.kernel kernel)

  function_tests_there : (u v : UnitState) (typed typed2 behind behind2 : Env) (kernel body : Bool) (name : List ℕ) (q q2 : Qualified) (vars vars2 : List Variable) → IsUnitAs r u v → typed2 ≡ env_as r typed → behind2 ≡ env_as r behind → q2 ≡ qualified_as r q → vars2 ≡ map (variable_as r) vars → function_tests v typed2 behind2 kernel body name q2 vars2 ≡ function_tests u typed behind kernel body name q vars
  function_tests_there u v typed typed2 behind behind2 kernel body name q q2 vars vars2 f g h k l =
      (λ i. function_tests_at (k i).shape (is_declared (g i) name) (is_some (k i).space) kernel (differs (find_function (h i) name) (types_of (l i)) (k i).ty kernel) (body && is_made_as r u v name f i))
      ∙ (λ i. function_tests_at (shape_as r q.shape) (is_declared_in_as r typed name i) (is_some q.space) kernel (differs (find_function_as r behind name i) (types_of_as r vars i) (type_id r q.ty) kernel) (body && is_made name u))
      ∙ (λ i.
      (302, is_declared typed name) ∷ (303, is_array_as r q.shape i || is_pointer_as r q.shape i) ∷ (326, is_some q.space) ∷ (327, kernel && not (is_void_as r q.shape i))
      ∷ (332, differs_as (find_function behind name) (types_of vars) q.ty kernel i || (body && is_made name u)) ∷ [])

signature_there : (r : ℕ → ℕ) (bodies : List (List ℕ)) (name : List ℕ) (vars vars2 : List Variable) (q q2 : Qualified) (kernel : Bool) → vars2 ≡ map (variable_as r) vars → q2 ≡ qualified_as r q → signature bodies name (types_of vars2) q2.ty kernel ≡ signature_as r (signature bodies name (types_of vars) q.ty kernel)
signature_there r bodies name vars vars2 q q2 kernel f g =
    (λ i. signature bodies name (types_of (f i)) (g i).ty kernel) ∙ (λ i. signature bodies name (types_of_as r vars i) (type_id r q.ty) kernel)

module _ (cs ds : List ClType) (r : ℕ → ℕ) (e : IsRenaming cs ds r) (bc : AreBuilt [] cs) (b : AreTypes ds) where
  module _ (u v : UnitState) (f : IsUnitAs r u v) (words : List FWord) (name : List ℕ) where
    given_there : is_some (size_for name v) ≡ is_some (size_for name u)
    given_there = ap is_some (size_for_as r u v name f)

    sizes_here : (sized : Env) (size : Option (List ℕ)) → SizesAre ds v.env (is_some (size_for name v)) words sized size → SizesAre ds v.env (is_some (size_for name u)) words sized size
    sizes_here sized size x = subst (λ z. SizesAre ds v.env z words sized size) given_there x

    offence_here : (o : Offence) → SizesOffend ds v.env (is_some (size_for name v)) words o → SizesOffend ds v.env (is_some (size_for name u)) words o
    offence_here o x = subst (λ z. SizesOffend ds v.env z words o) given_there x

    sizes_there : (sized sized2 : Env) (size size2 : Option (List ℕ)) → SizesAre cs u.env (is_some (size_for name u)) words sized size → SizesAre ds v.env (is_some (size_for name v)) words sized2 size2 → (sized2 ≡ env_as r sized) × (size2 ≡ size)
    sizes_there sized sized2 size size2 x y = sizes_same cs ds r e bc b _ _ _ _ _ x v.env sized2 size2 f.env (sizes_here sized2 size2 y)

    module _ (spec : Spec) (params : List Param) (sized sized2 typed typed2 behind behind2 : Env) (size size2 : Option (List ℕ)) (q q2 : Qualified) (vars vars2 : List Variable) where
      -- the declarations behind the result's type, and that
      result_there : SizesAre cs u.env (is_some (size_for name u)) words sized size → IsSpecified cs sized spec typed q → SizesAre ds v.env (is_some (size_for name v)) words sized2 size2 → IsSpecified ds sized2 spec typed2 q2 → (typed2 ≡ env_as r typed) × (q2 ≡ qualified_as r q)
      result_there x y x2 y2 = is_specified_same cs ds r e bc b _ _ _ _ y sized2 typed2 q2 (sizes_there sized sized2 size size2 x x2).0 y2

      params_there : typed2 ≡ env_as r typed → ParamsAre cs (is_kernel words) (entered typed) [] params behind vars → ParamsAre ds (is_kernel words) (entered typed2) [] params behind2 vars2 → (behind2 ≡ env_as r behind) × (vars2 ≡ map (variable_as r) vars)
      params_there g x y = params_same cs ds r e bc b (is_kernel words) _ _ _ _ _ x (entered typed2) [] behind2 vars2 (ap entered g ∙ entered_as r typed) refl y

    module _ (bodies : List (List ℕ)) (spec : Spec) (params : List Param) (body : Bool) where
      pub head_same : (typed inner : Env) (q : Qualified) (vars : List Variable) (size : Option (List ℕ)) → IsHead cs bodies u words spec name params body typed inner q vars size → (typed2 inner2 : Env) (q2 : Qualified) (vars2 : List Variable) (size2 : Option (List ℕ)) → IsHead ds bodies v words spec name params body typed2 inner2 q2 vars2 size2 → (typed2 ≡ env_as r typed) × (inner2 ≡ env_as r inner) × (q2 ≡ qualified_as r q) × (vars2 ≡ map (variable_as r) vars) × (size2 ≡ size)
      head_same typed inner q vars size h typed2 inner2 q2 vars2 size2 k =
          let s = sizes_there h.sized k.sized size size2 h.sizes k.sizes in
          let w = result_there spec params h.sized k.sized typed typed2 h.behind k.behind size size2 q q2 vars vars2 h.sizes h.result k.sizes k.result in
          let p = params_there spec params h.sized k.sized typed typed2 h.behind k.behind size size2 q q2 vars vars2 w.0 h.takes k.takes in
          let own = signature bodies name (types_of vars) q.ty (is_kernel words) in
          let g : inner2 ≡ env_as r inner = k.scope ∙ (λ i. declared_function (signature_there r bodies name vars vars2 q q2 (is_kernel words) p.1 w.1 i) (p.0 i)) ∙ declared_function_as r own h.behind ∙ ap (env_as r) (sym h.scope) in
          (w.0, g, w.1, p.1, s.1)

      pub head_no_offence : (place : Place) (o : Offence) → HeadOffends ds v words spec name place params body o → (typed inner : Env) (q : Qualified) (vars : List Variable) (size : Option (List ℕ)) → IsHead cs bodies u words spec name params body typed inner q vars size → ⊥
      head_no_offence place _ (in_sizes o h0) typed inner q vars size k = sizes_no_offence cs ds r e bc b _ _ _ _ (offence_here o h0) u.env k.sized size f.env k.sizes
      head_no_offence place _ (in_result sized2 size2 o h0 h1) typed inner q vars size k =
          words_no_offence cs ds r e bc b _ _ _ h1 k.sized typed q (sizes_there k.sized sized2 size size2 k.sizes h0).0 k.result
      head_no_offence place _ (in_params sized2 typed2 size2 q2 o h0 h1 h2) typed inner q vars size k =
          let w = result_there spec params k.sized sized2 typed typed2 k.behind k.behind size size2 q q2 vars vars k.sizes k.result h0 h1 in
          params_no_offence cs ds r e bc b (is_kernel words) _ _ _ _ h2 (entered typed) [] k.behind vars (ap entered w.0 ∙ entered_as r typed) refl k.takes
      head_no_offence place _ (no_function sized2 typed2 behind2 size2 q2 vars2 code h0 h1 h2 h3) typed inner q vars size k =
          let w = result_there spec params k.sized sized2 typed typed2 k.behind behind2 size size2 q q2 vars vars2 k.sizes k.result h0 h1 in
          let p = params_there spec params k.sized sized2 typed typed2 k.behind behind2 size size2 q q2 vars vars2 w.0 k.takes h2 in
          none_some (sym k.fits ∙ ap first_broken (sym (function_tests_there r e.differ u v typed typed2 k.behind behind2 (is_kernel words) body name q q2 vars vars2 f w.0 p.0 w.1 p.1)) ∙ h3)

      pub offence_no_head : (place : Place) (o : Offence) → HeadOffends cs u words spec name place params body o → (typed inner : Env) (q : Qualified) (vars : List Variable) (size : Option (List ℕ)) → IsHead ds bodies v words spec name params body typed inner q vars size → ⊥
      offence_no_head place _ (in_sizes o h0) typed2 inner2 q2 vars2 size2 k = offence_no_sizes cs ds r e bc b _ _ _ _ h0 v.env k.sized size2 f.env (sizes_here k.sized size2 k.sizes)
      offence_no_head place _ (in_result sized size o h0 h1) typed2 inner2 q2 vars2 size2 k =
          offence_no_words cs ds r e bc b _ _ _ h1 k.sized typed2 q2 (sizes_there sized k.sized size size2 h0 k.sizes).0 k.result
      offence_no_head place _ (in_params sized typed size q o h0 h1 h2) typed2 inner2 q2 vars2 size2 k =
          let w = result_there spec params sized k.sized typed typed2 k.behind k.behind size size2 q q2 vars2 vars2 h0 h1 k.sizes k.result in
          offence_no_params cs ds r e bc b (is_kernel words) _ _ _ _ h2 (entered typed2) [] k.behind vars2 (ap entered w.0 ∙ entered_as r typed) refl k.takes
      offence_no_head place _ (no_function sized typed behind size q vars code h0 h1 h2 h3) typed2 inner2 q2 vars2 size2 k =
          let w = result_there spec params sized k.sized typed typed2 behind k.behind size size2 q q2 vars vars2 h0 h1 k.sizes k.result in
          let p = params_there spec params sized k.sized typed typed2 behind k.behind size size2 q q2 vars vars2 w.0 h2 k.takes in
          none_some (sym k.fits ∙ ap first_broken (function_tests_there r e.differ u v typed typed2 behind k.behind (is_kernel words) body name q q2 vars vars2 f w.0 p.0 w.1 p.1) ∙ h3)

    module _ (spec : Spec) (params : List Param) (body : Bool) where
      pub head_offences_one : (place : Place) (o : Offence) → HeadOffends cs u words spec name place params body o → (o2 : Offence) → HeadOffends ds v words spec name place params body o2 → o2 ≡ o
      head_offences_one place _ (in_sizes o h0) _ (in_sizes o2 k0) = sizes_offences_one cs ds r e bc b _ _ _ _ h0 v.env o2 f.env (offence_here o2 k0)
      head_offences_one place _ (in_sizes o h0) _ (in_result sized2 size2 o2 k0 k1) = absurd (offence_no_sizes cs ds r e bc b _ _ _ _ h0 v.env sized2 size2 f.env (sizes_here sized2 size2 k0))
      head_offences_one place _ (in_sizes o h0) _ (in_params sized2 typed2 size2 q2 o2 k0 k1 k2) = absurd (offence_no_sizes cs ds r e bc b _ _ _ _ h0 v.env sized2 size2 f.env (sizes_here sized2 size2 k0))
      head_offences_one place _ (in_sizes o h0) _ (no_function sized2 typed2 behind2 size2 q2 vars2 code2 k0 k1 k2 k3) = absurd (offence_no_sizes cs ds r e bc b _ _ _ _ h0 v.env sized2 size2 f.env (sizes_here sized2 size2 k0))
      head_offences_one place _ (in_result sized size o h0 h1) _ (in_sizes o2 k0) = absurd (sizes_no_offence cs ds r e bc b _ _ _ _ (offence_here o2 k0) u.env sized size f.env h0)
      head_offences_one place _ (in_result sized size o h0 h1) _ (in_result sized2 size2 o2 k0 k1) = words_one cs ds r e bc b _ _ _ h1 sized2 o2 (sizes_there sized sized2 size size2 h0 k0).0 k1
      head_offences_one place _ (in_result sized size o h0 h1) _ (in_params sized2 typed2 size2 q2 o2 k0 k1 k2) = absurd (offence_no_words cs ds r e bc b _ _ _ h1 sized2 typed2 q2 (sizes_there sized sized2 size size2 h0 k0).0 k1)
      head_offences_one place _ (in_result sized size o h0 h1) _ (no_function sized2 typed2 behind2 size2 q2 vars2 code2 k0 k1 k2 k3) = absurd (offence_no_words cs ds r e bc b _ _ _ h1 sized2 typed2 q2 (sizes_there sized sized2 size size2 h0 k0).0 k1)
      head_offences_one place _ (in_params sized typed size q o h0 h1 h2) _ (in_sizes o2 k0) = absurd (sizes_no_offence cs ds r e bc b _ _ _ _ (offence_here o2 k0) u.env sized size f.env h0)
      head_offences_one place _ (in_params sized typed size q o h0 h1 h2) _ (in_result sized2 size2 o2 k0 k1) = absurd (words_no_offence cs ds r e bc b _ _ _ k1 sized typed q (sizes_there sized sized2 size size2 h0 k0).0 h1)
      head_offences_one place _ (in_params sized typed size q o h0 h1 h2) _ (in_params sized2 typed2 size2 q2 o2 k0 k1 k2) =
          let w = result_there spec params sized sized2 typed typed2 typed typed2 size size2 q q2 [] [] h0 h1 k0 k1 in
          params_offences_one cs ds r e bc b (is_kernel words) _ _ _ _ h2 (entered typed2) [] o2 (ap entered w.0 ∙ entered_as r typed) refl k2
      head_offences_one place _ (in_params sized typed size q o h0 h1 h2) _ (no_function sized2 typed2 behind2 size2 q2 vars2 code2 k0 k1 k2 k3) =
          let w = result_there spec params sized sized2 typed typed2 behind2 behind2 size size2 q q2 vars2 vars2 h0 h1 k0 k1 in
          absurd (offence_no_params cs ds r e bc b (is_kernel words) _ _ _ _ h2 (entered typed2) [] behind2 vars2 (ap entered w.0 ∙ entered_as r typed) refl k2)
      head_offences_one place _ (no_function sized typed behind size q vars code h0 h1 h2 h3) _ (in_sizes o2 k0) = absurd (sizes_no_offence cs ds r e bc b _ _ _ _ (offence_here o2 k0) u.env sized size f.env h0)
      head_offences_one place _ (no_function sized typed behind size q vars code h0 h1 h2 h3) _ (in_result sized2 size2 o2 k0 k1) = absurd (words_no_offence cs ds r e bc b _ _ _ k1 sized typed q (sizes_there sized sized2 size size2 h0 k0).0 h1)
      head_offences_one place _ (no_function sized typed behind size q vars code h0 h1 h2 h3) _ (in_params sized2 typed2 size2 q2 o2 k0 k1 k2) =
          let w = result_there spec params sized sized2 typed typed2 behind behind size size2 q q2 vars vars h0 h1 k0 k1 in
          absurd (params_no_offence cs ds r e bc b (is_kernel words) _ _ _ _ k2 (entered typed) [] behind vars (ap entered w.0 ∙ entered_as r typed) refl h2)
      head_offences_one place _ (no_function sized typed behind size q vars code h0 h1 h2 h3) _ (no_function sized2 typed2 behind2 size2 q2 vars2 code2 k0 k1 k2 k3) =
          let w = result_there spec params sized sized2 typed typed2 behind behind2 size size2 q q2 vars vars2 h0 h1 k0 k1 in
          let p = params_there spec params sized sized2 typed typed2 behind behind2 size size2 q q2 vars vars2 w.0 h2 k2 in
          ap (λ z. at z place) (some_same code2 code (sym k3 ∙ ap first_broken (function_tests_there r e.differ u v typed typed2 behind behind2 (is_kernel words) body name q q2 vars vars2 f w.0 p.0 w.1 p.1) ∙ h3))
