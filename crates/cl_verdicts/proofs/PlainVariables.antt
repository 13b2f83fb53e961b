-- Two declared variables that say the same are typed alike.
use Rattle.std.proofs.Common.{◌≡◌, ℕ, List, refl, ap, ◌∙◌, subst, sym, Bool, Option, Some, None}
use Rattle.clv_place.specs.declared.place.Place.{Place}
use Rattle.clv_place.specs.declared.stop.Offence.{Offence}
use Rattle.cl_types.specs.declared.types.ClType.{ClType}
use Rattle.cl_types.specs.declared.types.TypeId.{TypeId}
use Rattle.cl_types.specs.declared.space.Space.{Space}
use Rattle.cl_ast.specs.declared.declaration.Init.{Init}
use Rattle.cl_ast.specs.declared.declaration.Init.TheVariants as init
use Rattle.cl_ast.specs.declared.declaration.InitDeclor.{InitDeclor}
use Rattle.cl_tree.specs.declared.expression.TExpr.{TExpr}
use Rattle.cl_rules.specs.declared.rule.Qualified.{Qualified}
use Rattle.cl_rules.specs.Operands.{first_broken}
use Rattle.cl_scope.specs.declared.scope.DeclaredKind.{DeclaredKind}
use Rattle.cl_scope.specs.Names.{Env}
use Rattle.cl_words.specs.declared.naming.Sketch.{Sketch}
use Rattle.cl_words.specs.Words.{sketch}
use Rattle.cl_variables.specs.declared.declaring.Where.{Where}
use Rattle.cl_variables.specs.declared.tally.Tally.{Tally}
use Rattle.cl_variables.specs.Declarations.{is_file, whole_tests, IsInitialised, no_init, init_value, init_wrong_value, init_list, init_open_list, init_over_list, InitOffends, in_init_value, in_init_list, in_init_open_list, IsVariable, VariableOffends, in_lengths, broken_name, in_init, broken_whole}
use Rattle.cl_variables.specs.Initialisers.{only}
use Rattle.cl_plain.specs.Plain.{plain_init, plain_declared, in_option}
use Rattle.cl_verdicts.proofs.PlainExpressions.{lengths_plain, length_offends_plain, declor_plain}
use Rattle.cl_verdicts.proofs.PlainInits.{value_as, list_as, some_init_same, braced_same, declared_as}
use Rattle.cl_verdicts.proofs.PlainLists.{list_plain, open_list_plain, list_offends_plain, open_list_offends_plain}
pub use Rattle.cl_verdicts.proofs.PlainLists.{value_plain, value_offends_plain}

module _ (cs : List ClType) where
  -- ---- initialisers

  pub initialised_plain : (constant : Bool) (env : Env) (i : Option Init) (k : Sketch) (ty : TypeId) (after : Env) (t : Option TExpr) (n : ℕ) (tally : Tally) → IsInitialised cs constant env i k ty after t n tally → (j : Option Init) → in_option plain_init j ≡ in_option plain_init i → IsInitialised cs constant env j k ty after t n tally
  initialised_plain constant _ _ _ _ _ _ _ _ (no_init env k ty) None says = no_init env k ty
  initialised_plain constant _ _ _ _ _ _ _ _ (no_init env k ty) (Some j) says = absurd cc
  initialised_plain constant _ _ _ _ _ _ _ _ (init_value env after e k ty t u o varies tally h h1 h2 h3) None says = absurd cc
  initialised_plain constant _ _ _ _ _ _ _ _ (init_value env after e k ty t u o varies tally h h1 h2 h3) (Some j) says =
      let q : plain_init j ≡ plain_init (init.Value e) = cc in
      let parts = value_as e j q in
      subst (λ z. IsInitialised cs constant env (Some z) k ty after (Some u) 1 tally) (sym parts.is) (init_value env after parts.expr k ty t u o varies tally (value_plain cs constant _ _ _ _ _ _ h parts.expr parts.same) h1 h2 h3)
  initialised_plain constant _ _ _ _ _ _ _ _ (init_wrong_value env after e k ty t o varies tally h h1 h2) None says = absurd cc
  initialised_plain constant _ _ _ _ _ _ _ _ (init_wrong_value env after e k ty t o varies tally h h1 h2) (Some j) says =
      let q : plain_init j ≡ plain_init (init.Value e) = cc in
      let parts = value_as e j q in
      subst (λ z. IsInitialised cs constant env (Some z) k ty after None 1 tally) (sym parts.is) (init_wrong_value env after parts.expr k ty t o varies tally (value_plain cs constant _ _ _ _ _ _ h parts.expr parts.same) h1 h2)
  initialised_plain constant _ _ _ _ _ _ _ _ (init_list env after place items k ty t varies h h1) None says = absurd cc
  initialised_plain constant _ _ _ _ _ _ _ _ (init_list env after place items k ty t varies h h1) (Some j) says =
      let q : plain_init j ≡ plain_init (init.Braces place items) = cc in
      let parts = list_as place items j q in
      subst (λ z. IsInitialised cs constant env (Some z) k ty after (Some t) 1 (only varies)) (sym parts.is) (init_list env after place parts.list k ty t varies h (list_plain cs constant _ _ _ _ _ _ _ h1 parts.list.items parts.same))
  initialised_plain constant _ _ _ _ _ _ _ _ (init_open_list env after place items k ty elem whole len n nested ts t varies h h1 h2 h3 h4) None says = absurd cc
  initialised_plain constant _ _ _ _ _ _ _ _ (init_open_list env after place items k ty elem whole len n nested ts t varies h h1 h2 h3 h4) (Some j) says =
      let q : plain_init j ≡ plain_init (init.Braces place items) = cc in
      let parts = list_as place items j q in
      subst (λ z. IsInitialised cs constant env (Some z) k ty after (Some t) n (only varies)) (sym parts.is) (init_open_list env after place parts.list k ty elem whole len n nested ts t varies h h1 (open_list_plain cs constant _ _ _ _ _ _ _ h2 parts.list.items parts.same) h3 h4)
  initialised_plain constant _ _ _ _ _ _ _ _ (init_over_list env after place items k ty elem len n nested ts varies h h1 h2 h3) None says = absurd cc
  initialised_plain constant _ _ _ _ _ _ _ _ (init_over_list env after place items k ty elem len n nested ts varies h h1 h2 h3) (Some j) says =
      let q : plain_init j ≡ plain_init (init.Braces place items) = cc in
      let parts = list_as place items j q in
      subst (λ z. IsInitialised cs constant env (Some z) k ty after None n (only varies)) (sym parts.is) (init_over_list env after place parts.list k ty elem len n nested ts varies h h1 (open_list_plain cs constant _ _ _ _ _ _ _ h2 parts.list.items parts.same) h3)

  pub init_offends_plain : (constant : Bool) (env : Env) (i : Init) (k : Sketch) (ty : TypeId) (o : Offence) → InitOffends cs constant env i k ty o → (j : Init) → plain_init j ≡ plain_init i → InitOffends cs constant env j k ty o
  init_offends_plain constant _ _ _ _ _ (in_init_value env e k ty o h) j says =
      let parts = value_as e j says in
      subst (λ z. InitOffends cs constant env z k ty o) (sym parts.is) (in_init_value env parts.expr k ty o (value_offends_plain cs constant _ _ _ h parts.expr parts.same))
  init_offends_plain constant _ _ _ _ _ (in_init_list env place items k ty o h h1) j says =
      let parts = list_as place items j says in
      subst (λ z. InitOffends cs constant env z k ty o) (sym parts.is) (in_init_list env place parts.list k ty o h (list_offends_plain cs constant _ _ _ _ _ h1 parts.list.items parts.same))
  init_offends_plain constant _ _ _ _ _ (in_init_open_list env place items k ty elem len nested o h h1 h2) j says =
      let parts = list_as place items j says in
      subst (λ z. InitOffends cs constant env z k ty o) (sym parts.is) (in_init_open_list env place parts.list k ty elem len nested o h h1 (open_list_offends_plain cs constant _ _ _ _ _ h2 parts.list.items parts.same))

  -- ---- declared names

  given_init : (i : Init) (j : Option Init) → in_option plain_init j ≡ in_option plain_init (Some i) → (x : Init) × (j ≡ Some x) × (plain_init x ≡ plain_init i)
  given_init i None says = absurd cc
  given_init i (Some x) says = let p : plain_init x ≡ plain_init i = cc in (x, refl, p)

  whole_same : (w : Where) (k : Sketch) (i j : Option Init) (tally : Tally) (n : ℕ) → in_option plain_init j ≡ in_option plain_init i → whole_tests cs w k j tally n ≡ whole_tests cs w k i tally n
  whole_same w k i j tally n says =
      let a = braced_same j i says in
      let b = some_init_same j i says in
      cc

  pub variable_plain : (w : Where) (kind : DeclaredKind) (again : Env → List ℕ → Bool) (env : Env) (q : Qualified) (d : InitDeclor) (after : Env) (name : List ℕ) (place : Place) (ty : TypeId) (own : Space) (t : Option TExpr) → IsVariable cs w kind again env q d after name place ty own t → (d2 : InitDeclor) → plain_declared d2 ≡ plain_declared d → IsVariable cs w kind again env q d2 after name place ty own t
  variable_plain w kind again env q d after name place ty own t h d2 says =
      let parts = declared_as d2 d says in
      let names = declor_plain d.name h.star name place h.es h.is d2.name parts.name in
      record {
        star = h.star;
        es = names.lengths;
        ls = h.ls;
        is = names.is;
        typed = h.typed;
        lengths = lengths_plain cs _ _ _ _ _ h.lengths names.lengths names.same;
        fits = h.fits;
        first = h.first;
        of = h.of;
        behind = h.behind;
        n = h.n;
        tally = h.tally;
        initialised = initialised_plain (is_file w) _ _ _ _ _ _ _ _ h.initialised d2.init parts.init;
        whole = ap first_broken (whole_same w (sketch q h.star h.ls) d.init d2.init h.tally h.n parts.init) ∙ h.whole;
        gives = h.gives;
        in_space = h.in_space;
        scope = h.scope;
      }

  pub variable_offends_plain : (w : Where) (kind : DeclaredKind) (again : Env → List ℕ → Bool) (env : Env) (q : Qualified) (d : InitDeclor) (o : Offence) → VariableOffends cs w kind again env q d o → (d2 : InitDeclor) → plain_declared d2 ≡ plain_declared d → VariableOffends cs w kind again env q d2 o
  variable_offends_plain w kind again _ _ _ _ (in_lengths env q d star name place es o h h1) d2 says =
      let parts = declared_as d2 d says in
      let names = declor_plain d.name star name place es h d2.name parts.name in
      in_lengths env q d2 star name place names.lengths o names.is (length_offends_plain cs _ _ _ _ h1 names.lengths names.same)
  variable_offends_plain w kind again _ _ _ _ (broken_name env typed q d star name place es ls code h h1 h2) d2 says =
      let parts = declared_as d2 d says in
      let names = declor_plain d.name star name place es h d2.name parts.name in
      broken_name env typed q d2 star name place names.lengths ls code names.is (lengths_plain cs _ _ _ _ _ h1 names.lengths names.same) h2
  variable_offends_plain w kind again _ _ _ _ (in_init env typed q d star name place es ls first i o h h1 h2 h3 h4 h5) d2 says =
      let parts = declared_as d2 d says in
      let names = declor_plain d.name star name place es h d2.name parts.name in
      let found = given_init i d2.init (parts.init ∙ ap (in_option plain_init) h4) in
      in_init env typed q d2 star name place names.lengths ls first found.0 o names.is (lengths_plain cs _ _ _ _ _ h1 names.lengths names.same) h2 h3 found.1 (init_offends_plain (is_file w) _ _ _ _ _ h5 found.0 found.2)
  variable_offends_plain w kind again _ _ _ _ (broken_whole env typed behind q d star name place es ls first t n tally code h h1 h2 h3 h4 h5) d2 says =
      let parts = declared_as d2 d says in
      let names = declor_plain d.name star name place es h d2.name parts.name in
      broken_whole env typed behind q d2 star name place names.lengths ls first t n tally code names.is (lengths_plain cs _ _ _ _ _ h1 names.lengths names.same) h2 h3 (initialised_plain (is_file w) _ _ _ _ _ _ _ _ h4 d2.init parts.init) (ap first_broken (whole_same w (sketch q star ls) d.init d2.init tally n parts.init) ∙ h5)
