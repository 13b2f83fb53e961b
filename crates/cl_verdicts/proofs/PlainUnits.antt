-- Units that say the same are typed alike.
use Rattle.std.proofs.Common.{◌≡◌, ℕ, Bool, List, [], ◌∷◌, Option, Some, None, sym, ◌∙◌, subst}
use Rattle.cl_types.specs.declared.types.ClType.{ClType}
use Rattle.cl_ast.specs.declared.declaration.External.{External}
use Rattle.cl_ast.specs.declared.declaration.FWord.{FWord}
use Rattle.cl_ast.specs.declared.declaration.InitDeclor.{InitDeclor}
use Rattle.cl_ast.specs.declared.declaration.Param.{Param}
use Rattle.cl_ast.specs.declared.expression.Expr.{Expr}
use Rattle.cl_ast.specs.declared.expression.Spec.{Spec}
use Rattle.cl_tree.specs.declared.unit.Variable.{Variable}
use Rattle.cl_tree.specs.declared.statement.TStmtNode.TheVariants as tnode
use Rattle.cl_tree.specs.Units.{types_of}
use Rattle.cl_rules.specs.declared.rule.Qualified.{Qualified}
use Rattle.cl_rules.specs.Operands.{first_broken}
use Rattle.cl_scope.specs.Names.{Env, entered, declared_function}
use Rattle.cl_typing.specs.declared.unit_state.UnitState.{UnitState}
use Rattle.cl_typing.specs.Settings.{setting, state, IsTStmt}
use Rattle.cl_typing.specs.Statements.{ItemsAre}
use Rattle.cl_typing.specs.Units.{function_of, function_tests, signature, size_of, ConstantsAre, no_constant, more_constants, SizesAre, no_word, other_word, required, ParamsAre, no_param, more_params, IsHead, ConstantsDeclared, none_declared, one_declared, ExternalIs, typedef, types, constants, declared, defined, UnitIs, no_external, more_externals}
use Rattle.cl_plain.specs.Plain.{plain_expr, plain_spec, plain_declared, plain_word, plain_param, plain_external}
use Rattle.cl_verdicts.proofs.PlainAlike.{Alike, nothing, each, both_missing, both_given}
use Rattle.cl_verdicts.proofs.PlainExpressions.{types_plain, specified_plain, lengths_plain, declor_plain}
use Rattle.cl_verdicts.proofs.PlainVariables.{variable_plain}
use Rattle.cl_verdicts.proofs.PlainStmtParts.{place_same}
use Rattle.cl_verdicts.proofs.PlainStmts.{items_plain}
use Rattle.cl_verdicts.proofs.PlainUnitParts.{ExternalAs, typedef_as, types_as, constants_as, function_as, external_as, body_as, requires_same, kernel_same, required_as, with_words, param_is, param_words}

module _ (cs : List ClType) where
  pub constants_plain : (env : Env) (es : List Expr) (after : Env) (ns : List (Option ℕ)) → ConstantsAre cs env es after ns → (fs : List Expr) → Alike plain_expr fs es → ConstantsAre cs env fs after ns
  constants_plain _ _ _ _ (no_constant env) _ nothing = no_constant env
  constants_plain _ _ _ _ (more_constants env middle after e es t o n ns h0 h1 h2 h3) _ (each f _ fs _ a rest) =
      more_constants env middle after f fs t o n ns (types_plain cs _ _ _ _ _ _ h0 f a) h1 h2 (constants_plain _ _ _ _ h3 fs rest)

  pub sizes_plain : (env : Env) (given : Bool) (ws : List FWord) (after : Env) (size : Option (List ℕ)) → SizesAre cs env given ws after size → (vs : List FWord) → Alike plain_word vs ws → SizesAre cs env given vs after size
  sizes_plain _ _ _ _ _ (no_word env given) _ nothing = no_word env given
  sizes_plain _ _ _ _ _ (other_word env after given w ws size h0 h1) _ (each v _ vs _ a rest) =
      other_word env after given v vs size (requires_same w v a ∙ h0) (sizes_plain _ _ _ _ _ h1 vs rest)
  sizes_plain _ _ _ _ _ (required env middle after given place args ws ns h0 h1 h2) _ (each v _ vs _ a rest) =
      let d = required_as place args v a in
      subst (λ w. SizesAre cs env given (w ∷ vs) after (Some (size_of ns))) (sym d.is) (required env middle after given place d.all vs ns (constants_plain _ _ _ _ h0 _ d.same) h1 (sizes_plain _ _ _ _ _ h2 vs rest))

  pub params_plain : (kernel : Bool) (env : Env) (before : List Variable) (ps : List Param) (after : Env) (all : List Variable) → ParamsAre cs kernel env before ps after all → (rs : List Param) → Alike plain_param rs ps → ParamsAre cs kernel env before rs after all
  params_plain kernel _ _ _ _ _ (no_param env before) _ nothing = no_param env before
  params_plain kernel _ _ _ _ _ (more_params env typed after before all p ps q t h0 h1 h2 h3) _ (each r _ rs _ a rest) =
      subst (λ x. ParamsAre cs kernel env before (x ∷ rs) after all) (param_is p r a)
      (more_params env typed after before all (with_words r.spec p) rs q t (specified_plain cs _ _ _ _ h0 r.spec (param_words p r a)) h1 h2 (params_plain kernel _ _ _ _ _ h3 rs rest))

  pub declared_plain : (u : UnitState) (q : Qualified) (ds : List InitDeclor) (after : UnitState) → ConstantsDeclared cs u q ds after → (fs : List InitDeclor) → Alike plain_declared fs ds → ConstantsDeclared cs u q fs after
  declared_plain _ _ _ _ (none_declared u q) _ nothing = none_declared u q
  declared_plain _ _ _ _ (one_declared u after q d ds env name place ty own t bytes h0 h1 h2) _ (each f _ fs _ a rest) =
      one_declared u after q f fs env name place ty own t bytes (variable_plain cs _ _ _ _ _ _ _ _ _ _ _ _ h0 f a) h1 (declared_plain _ _ _ _ h2 fs rest)

  module _ (bodies : List (List ℕ)) where
    pub head_plain : (u : UnitState) (words : List FWord) (spec : Spec) (name : List ℕ) (params : List Param) (body : Bool) (typed inner : Env) (q : Qualified) (vars : List Variable) (size : Option (List ℕ)) → IsHead cs bodies u words spec name params body typed inner q vars size
        → (before : List FWord) → Alike plain_word before words → (said : Spec) → plain_spec said ≡ plain_spec spec → (takes : List Param) → Alike plain_param takes params → IsHead cs bodies u before said name takes body typed inner q vars size
    head_plain u words spec name params body typed inner q vars size x before a said b takes c =
        let k = sym (kernel_same before words a) in
        record {
          sized = x.sized;
          sizes = sizes_plain _ _ _ _ _ x.sizes before a;
          result = specified_plain cs _ _ _ _ x.result said b;
          behind = x.behind;
          takes = subst (λ m. ParamsAre cs m (entered typed) [] takes x.behind vars) k (params_plain _ _ _ _ _ _ x.takes takes c);
          fits = subst (λ m. first_broken (function_tests u typed x.behind m body name q vars) ≡ None) k x.fits;
          scope = subst (λ m. inner ≡ declared_function (signature bodies name (types_of vars) q.ty m) x.behind) k x.scope;
        }

    external_alike : (u : UnitState) (e : External) (after : UnitState) → ExternalIs cs bodies u e after → (f : External) → ExternalAs f e → ExternalIs cs bodies u f after
    external_alike _ _ _ (typedef u spec d typed env q star name place es ls t h0 h1 h2 h3 h4) _ (typedef_as said _ e _ a b) =
        let n = declor_plain d star name place es h1 e b in
        typedef u said e typed env q star name place n.lengths ls t (specified_plain cs _ _ _ _ h0 said a) n.is (lengths_plain cs _ _ _ _ _ h2 n.lengths n.same) h3 h4
    external_alike _ _ _ (types u spec env q h0) _ (types_as said _ a) = types u said env q (specified_plain cs _ _ _ _ h0 said a)
    external_alike _ _ _ (constants u after spec items env q h0 h1) _ (constants_as said _ all _ a b) =
        constants u after said all env q (specified_plain cs _ _ _ _ h0 said a) (declared_plain _ _ _ _ h1 _ b)
    external_alike _ _ _ (declared u words spec name place params typed inner q vars size h0) _ (function_as before _ said _ _ _ takes _ _ _ a b c both_missing) =
        declared u before said name place takes typed inner q vars size (head_plain _ _ _ _ _ _ _ _ _ _ _ h0 _ a _ b _ c)
    external_alike _ _ _ (defined u words spec name place params s typed inner q vars size items after ts t g h0 h1 h2 h3 h4) _ (function_as before _ said _ _ _ takes _ _ _ a b c (both_given f _ p)) =
        let k = sym (kernel_same before.items words.items a) in
        let d = body_as s items h1 f p in
        defined u before said name place takes f typed inner q vars size d.all after ts t g (head_plain _ _ _ _ _ _ _ _ _ _ _ h0 _ a _ b _ c) d.is
        (subst (λ m. ItemsAre cs (setting m q.ty) (state inner []) d.all after ts.items) k (items_plain cs _ _ _ _ _ h2 d.all d.same))
        (subst (λ at. IsTStmt t at (tnode.Block ts)) (sym (place_same s f p)) h3)
        (subst (λ m. g ≡ function_of name place m q.ty vars after.vars t) k h4)

    pub external_plain : (u : UnitState) (e : External) (after : UnitState) → ExternalIs cs bodies u e after → (f : External) → plain_external f ≡ plain_external e → ExternalIs cs bodies u f after
    external_plain u e after x f p = external_alike u e after x f (external_as e f p)

    pub unit_plain : (u : UnitState) (es : List External) (after : UnitState) → UnitIs cs bodies u es after → (fs : List External) → Alike plain_external fs es → UnitIs cs bodies u fs after
    unit_plain _ _ _ (no_external u) _ nothing = no_external u
    unit_plain _ _ _ (more_externals u middle after e es h0 h1) _ (each f _ fs _ a rest) = more_externals u middle after f fs (external_plain _ _ _ h0 f a) (unit_plain _ _ _ h1 fs rest)
