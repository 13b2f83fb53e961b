-- Units that say the same have the same first offences.
use Rattle.std.proofs.Common.{◌≡◌, ℕ, Bool, List, [], ◌∷◌, Some, sym, ◌∙◌, subst}
use Rattle.clv_place.specs.declared.place.Place.{Place}
use Rattle.clv_place.specs.declared.stop.Offence.{Offence}
use Rattle.cl_types.specs.declared.types.ClType.{ClType}
use Rattle.cl_ast.specs.declared.declaration.External.{External}
use Rattle.cl_ast.specs.declared.declaration.FWord.{FWord}
use Rattle.cl_ast.specs.declared.declaration.InitDeclor.{InitDeclor}
use Rattle.cl_ast.specs.declared.declaration.Param.{Param}
use Rattle.cl_ast.specs.declared.expression.Expr.{Expr}
use Rattle.cl_ast.specs.declared.expression.Spec.{Spec}
use Rattle.cl_tree.specs.declared.unit.Variable.{Variable}
use Rattle.cl_rules.specs.declared.rule.Qualified.{Qualified}
use Rattle.cl_rules.specs.Operands.{first_broken}
use Rattle.cl_scope.specs.Names.{Env, entered}
use Rattle.cl_type_expr.specs.Offences.{at}
use Rattle.cl_typing.specs.declared.unit_state.UnitState.{UnitState}
use Rattle.cl_typing.specs.Settings.{setting, state}
use Rattle.cl_typing.specs.Statements.{ItemsOffend}
use Rattle.cl_typing.specs.Units.{function_tests, ConstantsOffend, in_constant, constant_divides, behind_constant, SizesOffend, in_arguments, no_size, behind_other, behind_required, ParamsAre, ParamsOffend, in_param_words, broken_param, behind_param, HeadOffends, in_sizes, in_result, in_params, no_function, SomeConstantOffends, this_constant, later_constant, ExternalOffends, in_typedef, in_lengths, no_typedef, in_types, in_constant_words, in_constants, in_head, in_body, SomeExternalOffends, this_external, later_external}
use Rattle.cl_plain.specs.Plain.{plain_expr, plain_spec, plain_declared, plain_word, plain_param, plain_external}
use Rattle.cl_verdicts.proofs.PlainAlike.{Alike, each, both_given}
use Rattle.cl_verdicts.proofs.PlainExpressions.{types_plain, specified_plain, lengths_plain, declor_plain, offends_plain, words_offend_plain, length_offends_plain}
use Rattle.cl_verdicts.proofs.PlainVariables.{variable_plain, variable_offends_plain}
use Rattle.cl_verdicts.proofs.PlainStmtOffences.{items_offend_plain}
use Rattle.cl_verdicts.proofs.PlainUnitParts.{ExternalAs, typedef_as, types_as, constants_as, function_as, external_as, body_as, given_same, requires_same, kernel_same, required_as, with_words, param_is, param_words}
use Rattle.cl_verdicts.proofs.PlainUnits.{constants_plain, sizes_plain, params_plain, head_plain, external_plain}

module _ (cs : List ClType) where
  pub constants_offend_plain : (env : Env) (es : List Expr) (o : Offence) → ConstantsOffend cs env es o → (fs : List Expr) → Alike plain_expr fs es → ConstantsOffend cs env fs o
  constants_offend_plain _ _ _ (in_constant env e es o h0) _ (each f _ fs _ a rest) = in_constant env f fs o (offends_plain cs _ _ _ _ h0 f a)
  constants_offend_plain _ _ _ (constant_divides env middle e es t q p h0 h1) _ (each f _ fs _ a rest) = constant_divides env middle f fs t q p (types_plain cs _ _ _ _ _ _ h0 f a) h1
  constants_offend_plain _ _ _ (behind_constant env middle e es t q o h0 h1 h2) _ (each f _ fs _ a rest) =
      behind_constant env middle f fs t q o (types_plain cs _ _ _ _ _ _ h0 f a) h1 (constants_offend_plain _ _ _ h2 fs rest)

  pub sizes_offend_plain : (env : Env) (given : Bool) (ws : List FWord) (o : Offence) → SizesOffend cs env given ws o → (vs : List FWord) → Alike plain_word vs ws → SizesOffend cs env given vs o
  sizes_offend_plain _ _ _ _ (in_arguments env given place args ws o h0) _ (each v _ vs _ a rest) =
      let d = required_as place args v a in
      subst (λ w. SizesOffend cs env given (w ∷ vs) o) (sym d.is) (in_arguments env given place d.all vs o (constants_offend_plain _ _ _ h0 _ d.same))
  sizes_offend_plain _ _ _ _ (no_size env middle given place args ws ns code h0 h1) _ (each v _ vs _ a rest) =
      let d = required_as place args v a in
      subst (λ w. SizesOffend cs env given (w ∷ vs) (at code place)) (sym d.is) (no_size env middle given place d.all vs ns code (constants_plain cs _ _ _ _ h0 _ d.same) h1)
  sizes_offend_plain _ _ _ _ (behind_other env given w ws o h0 h1) _ (each v _ vs _ a rest) =
      behind_other env given v vs o (requires_same w v a ∙ h0) (sizes_offend_plain _ _ _ _ h1 vs rest)
  sizes_offend_plain _ _ _ _ (behind_required env middle given place args ws ns o h0 h1 h2) _ (each v _ vs _ a rest) =
      let d = required_as place args v a in
      subst (λ w. SizesOffend cs env given (w ∷ vs) o) (sym d.is) (behind_required env middle given place d.all vs ns o (constants_plain cs _ _ _ _ h0 _ d.same) h1 (sizes_offend_plain _ _ _ _ h2 vs rest))

  pub params_offend_plain : (kernel : Bool) (env : Env) (before : List Variable) (ps : List Param) (o : Offence) → ParamsOffend cs kernel env before ps o → (rs : List Param) → Alike plain_param rs ps → ParamsOffend cs kernel env before rs o
  params_offend_plain kernel _ _ _ _ (in_param_words env before p ps o h0) _ (each r _ rs _ a rest) =
      in_param_words env before r rs o (words_offend_plain cs _ _ _ h0 r.spec (param_words p r a))
  params_offend_plain kernel _ _ _ _ (broken_param env typed before p ps q code h0 h1) _ (each r _ rs _ a rest) =
      subst (λ x. ParamsOffend cs kernel env before (x ∷ rs) (at code p.place)) (param_is p r a)
      (broken_param env typed before (with_words r.spec p) rs q code (specified_plain cs _ _ _ _ h0 r.spec (param_words p r a)) h1)
  params_offend_plain kernel _ _ _ _ (behind_param env typed before p ps q t o h0 h1 h2 h3) _ (each r _ rs _ a rest) =
      subst (λ x. ParamsOffend cs kernel env before (x ∷ rs) o) (param_is p r a)
      (behind_param env typed before (with_words r.spec p) rs q t o (specified_plain cs _ _ _ _ h0 r.spec (param_words p r a)) h1 h2 (params_offend_plain kernel _ _ _ _ h3 rs rest))

  pub some_constant_plain : (u : UnitState) (q : Qualified) (ds : List InitDeclor) (o : Offence) → SomeConstantOffends cs u q ds o → (fs : List InitDeclor) → Alike plain_declared fs ds → SomeConstantOffends cs u q fs o
  some_constant_plain _ _ _ _ (this_constant u q d ds o h0) _ (each f _ fs _ a rest) = this_constant u q f fs o (variable_offends_plain cs _ _ _ _ _ _ _ h0 f a)
  some_constant_plain _ _ _ _ (later_constant u q d ds env name place ty own t bytes o h0 h1 h2) _ (each f _ fs _ a rest) =
      later_constant u q f fs env name place ty own t bytes o (variable_plain cs _ _ _ _ _ _ _ _ _ _ _ _ h0 f a) h1 (some_constant_plain _ _ _ _ h2 fs rest)

  pub head_offends_plain : (u : UnitState) (words : List FWord) (spec : Spec) (name : List ℕ) (place : Place) (params : List Param) (body : Bool) (o : Offence) → HeadOffends cs u words spec name place params body o
      → (before : List FWord) → Alike plain_word before words → (said : Spec) → plain_spec said ≡ plain_spec spec → (takes : List Param) → Alike plain_param takes params → HeadOffends cs u before said name place takes body o
  head_offends_plain u words spec name place params body _ (in_sizes o h0) before a said b takes c = in_sizes o (sizes_offend_plain _ _ _ _ h0 before a)
  head_offends_plain u words spec name place params body _ (in_result sized size o h0 h1) before a said b takes c =
      in_result sized size o (sizes_plain cs _ _ _ _ _ h0 before a) (words_offend_plain cs _ _ _ h1 said b)
  head_offends_plain u words spec name place params body _ (in_params sized typed size q o h0 h1 h2) before a said b takes c =
      in_params sized typed size q o (sizes_plain cs _ _ _ _ _ h0 before a) (specified_plain cs _ _ _ _ h1 said b)
      (subst (λ m. ParamsOffend cs m (entered typed) [] takes o) (sym (kernel_same before words a)) (params_offend_plain _ _ _ _ _ h2 takes c))
  head_offends_plain u words spec name place params body _ (no_function sized typed behind size q vars code h0 h1 h2 h3) before a said b takes c =
      let k = sym (kernel_same before words a) in
      no_function sized typed behind size q vars code (sizes_plain cs _ _ _ _ _ h0 before a) (specified_plain cs _ _ _ _ h1 said b)
      (subst (λ m. ParamsAre cs m (entered typed) [] takes behind vars) k (params_plain cs _ _ _ _ _ _ h2 takes c))
      (subst (λ m. first_broken (function_tests u typed behind m body name q vars) ≡ Some code) k h3)

  module _ (bodies : List (List ℕ)) where
    external_offends_alike : (u : UnitState) (e : External) (o : Offence) → ExternalOffends cs bodies u e o → (f : External) → ExternalAs f e → ExternalOffends cs bodies u f o
    external_offends_alike _ _ _ (in_typedef u spec d o h0) _ (typedef_as said _ e _ a b) = in_typedef u said e o (words_offend_plain cs _ _ _ h0 said a)
    external_offends_alike _ _ _ (in_lengths u spec d typed q star name place es o h0 h1 h2) _ (typedef_as said _ e _ a b) =
        let n = declor_plain d star name place es h1 e b in
        in_lengths u said e typed q star name place n.lengths o (specified_plain cs _ _ _ _ h0 said a) n.is (length_offends_plain cs _ _ _ _ h2 n.lengths n.same)
    external_offends_alike _ _ _ (no_typedef u spec d typed env q star name place es ls code h0 h1 h2 h3) _ (typedef_as said _ e _ a b) =
        let n = declor_plain d star name place es h1 e b in
        no_typedef u said e typed env q star name place n.lengths ls code (specified_plain cs _ _ _ _ h0 said a) n.is (lengths_plain cs _ _ _ _ _ h2 n.lengths n.same) h3
    external_offends_alike _ _ _ (in_types u spec o h0) _ (types_as said _ a) = in_types u said o (words_offend_plain cs _ _ _ h0 said a)
    external_offends_alike _ _ _ (in_constant_words u spec items o h0) _ (constants_as said _ all _ a b) = in_constant_words u said all o (words_offend_plain cs _ _ _ h0 said a)
    external_offends_alike _ _ _ (in_constants u spec items env q o h0 h1) _ (constants_as said _ all _ a b) =
        in_constants u said all env q o (specified_plain cs _ _ _ _ h0 said a) (some_constant_plain _ _ _ _ h1 _ b)
    external_offends_alike _ _ _ (in_head u words spec name place params body o h0) _ (function_as before _ said _ _ _ takes _ block _ a b c p) =
        in_head u before said name place takes block o (subst (λ m. HeadOffends cs u before.items said name place takes.items m o) (sym (given_same block body p)) (head_offends_plain _ _ _ _ _ _ _ _ h0 _ a _ b _ c))
    external_offends_alike _ _ _ (in_body u words spec name place params s typed inner q vars size items o h0 h1 h2) _ (function_as before _ said _ _ _ takes _ _ _ a b c (both_given f _ p)) =
        let d = body_as s items h1 f p in
        in_body u before said name place takes f typed inner q vars size d.all o (head_plain cs bodies _ _ _ _ _ _ _ _ _ _ _ h0 _ a _ b _ c) d.is
        (subst (λ m. ItemsOffend cs (setting m q.ty) (state inner []) d.all o) (sym (kernel_same before.items words.items a)) (items_offend_plain cs _ _ _ _ h2 d.all d.same))

    pub unit_offends_plain : (u : UnitState) (es : List External) (o : Offence) → SomeExternalOffends cs bodies u es o → (fs : List External) → Alike plain_external fs es → SomeExternalOffends cs bodies u fs o
    unit_offends_plain _ _ _ (this_external u e es o h0) _ (each f _ fs _ a rest) = this_external u f fs o (external_offends_alike _ _ _ h0 f (external_as e f a))
    unit_offends_plain _ _ _ (later_external u middle e es o h0 h1) _ (each f _ fs _ a rest) = later_external u middle f fs o (external_plain cs bodies _ _ _ h0 f a) (unit_offends_plain _ _ _ h1 fs rest)
