-- A typed unit's tree is one.
use Rattle.std.proofs.Common.{◌≡◌, ℕ, zero, suc, ◌≤◌, nat_le, Bool, true, false, true≢false, not, ◌&&◌, ◌||◌, List, [], ◌∷◌, ◌++◌, length, map, Option, Some, None, refl, sym, ap, ◌∙◌, subst, ◌⊎◌, inl, inr, slice_get, arith}
use Rattle.std.specs.Global.{Vec}
use Rattle.std.specs.Prelude.{bytes_eq, is_some}
use Rattle.std.proofs.lemmas.Bool.{and_from, le-leb}
use Rattle.cl_types.specs.declared.types.ClType.{ClType}
use Rattle.cl_types.specs.declared.types.TypeId.{TypeId}
use Rattle.cl_types.specs.Table.{IsTable}
use Rattle.cl_ast.specs.declared.declaration.External.{External}
use Rattle.cl_ast.specs.declared.declaration.FWord.{FWord}
use Rattle.cl_ast.specs.declared.declaration.InitDeclor.{InitDeclor}
use Rattle.cl_ast.specs.declared.declaration.Param.{Param}
use Rattle.cl_ast.specs.declared.expression.Expr.{Expr}
use Rattle.cl_ast.specs.declared.expression.Spec.{Spec}
use Rattle.cl_ast.specs.declared.statement.Stmt.{Stmt}
use Rattle.cl_tree.specs.declared.statement.TStmt.{TStmt}
use Rattle.cl_tree.specs.declared.statement.TStmtNode.TheVariants as tnode
use Rattle.cl_tree.specs.declared.statement.TStmtNode.TheViews.{out-TStmt}
use Rattle.cl_tree.specs.declared.unit.ConstantVar.{ConstantVar}
use Rattle.cl_tree.specs.declared.unit.Function.{Function}
use Rattle.cl_tree.specs.declared.unit.Variable.{Variable}
use Rattle.cl_tree.specs.Facts.{Lists, Callee}
use Rattle.cl_tree.specs.Shapes.{shape_of}
use Rattle.cl_tree.specs.Statements.{tested}
use Rattle.cl_tree.specs.Units.{is_object, is_constant_space, are_params, are_variables, are_constants, is_result, is_required, callee_of, variables_of, is_function, are_functions, has_name, names_differ, has_kernel, are_allowed, is_unit}
use Rattle.cl_rules.specs.declared.rule.Qualified.{Qualified}
use Rattle.cl_scope.specs.declared.scope.Signature.{Signature}
use Rattle.cl_scope.specs.Names.{Env, left_behind, find_function}
use Rattle.cl_words.specs.Words.{sketch}
use Rattle.cl_make.specs.Ready.{IsReadyType}
use Rattle.cl_laws.specs.Agreement.{Agrees, callee_of as signature_callee}
use Rattle.cl_typing.specs.declared.unit_state.UnitState.{UnitState}
use Rattle.cl_typing.specs.Positions.{position_of}
use Rattle.cl_typing.specs.Settings.{State, state, setting}
use Rattle.cl_typing.specs.Statements.{ItemsAre}
use Rattle.cl_typing.specs.Units.{body_names, number_or_0, empty, with_env, size_at, and_size, and_function, constant_of, is_kernel, function_of, with_size_in, with_size, ConstantsAre, no_constant, more_constants, SizesAre, no_word, other_word, required, IsHead, ConstantsDeclared, none_declared, one_declared, type_name, ExternalIs, typedef, types, constants, declared, defined, UnitIs, no_external, more_externals}
use Rattle.cl_typing.proofs.StatementsFit.{ExpressionsFit, MayStand, entered_agrees, items_fit, frame}
use Rattle.cl_typing.proofs.StatementsGo.{get_here, items_go}
use Rattle.cl_typing.proofs.TreeFits.{block_fits}
use Rattle.cl_typing.proofs.UnitGoes.{Persists, same_functions, constants_go, unit_goes}
use Rattle.cl_typing.proofs.UnitMade.{get_either, some_equal, name_in, name_found, IsNumbered, Made, nothing_made, head_kept, unit_made, unit_defined}
use Rattle.cl_typing.proofs.UnitParts.{has_kernel_sized, declared_agrees, params_few, params_fit, result_is}

-- ---- sizes before a function

module _ (l : Lists) (parts : ExpressionsFit l) where
  constants_agree : (env : Env) (es : List Expr) (after : Env) (ns : List (Option ℕ)) → ConstantsAre l.types env es after ns → Agrees l env → Agrees l after
  constants_agree _ _ _ _ (no_constant env) a = a
  constants_agree _ _ _ _ (more_constants env middle after e es t o n ns h0 h1 h2 h3) a = constants_agree _ _ _ _ h3 (parts.types _ _ _ _ _ _ h0 a).0

  sizes_agree : (env : Env) (given : Bool) (ws : List FWord) (after : Env) (size : Option (List ℕ)) → SizesAre l.types env given ws after size → Agrees l env → Agrees l after
  sizes_agree _ _ _ _ _ (no_word env given) a = a
  sizes_agree _ _ _ _ _ (other_word env after given w ws size plain rest) a = sizes_agree _ _ _ _ _ rest a
  sizes_agree _ _ _ _ _ (required env middle after given place args ws ns has fits rest) a = sizes_agree _ _ _ _ _ rest (constants_agree _ _ _ _ has a)

-- ---- what stands at file scope

abbrev pub lists : List ClType → List Variable → List Callee → List Variable → List Variable → Lists
lists cs kept calls params vars = record { types = cs; params = params; vars = vars; constants = kept; functions = calls }

pub record FunctionFits (cs : List ClType) (constants : List Variable) (functions : List Callee) (f : Function) : Type 0 where
  pub few : nat_le (length f.params) 32 ≡ true
  pub params : are_params cs f.kernel f.params ≡ true
  pub vars : are_variables cs f.kernel f.vars ≡ true
  pub result : is_result f.kernel (shape_of cs f.result) ≡ true
  pub body : (tested f.body).fits (record { lists = lists cs constants functions f.params f.vars; result = f.result; breaks = false; continues = false }) ≡ true

may_setting : (kernel : Bool) (result : TypeId) → MayStand (setting kernel result).variables kernel
may_setting true result = refl
may_setting false result = tt

constants_append : (cs : List ClType) (old : List ConstantVar) (c : ConstantVar) → are_constants cs old ≡ true → (is_constant_space c.variable.space && is_object (shape_of cs c.variable.ty)) ≡ true → are_constants cs (old ++ c ∷ []) ≡ true
constants_append cs [] c h k = and_from (is_constant_space c.variable.space && is_object (shape_of cs c.variable.ty)) true k refl
constants_append cs (d ∷ old) c h k = by (is_constant_space d.variable.space && is_object (shape_of cs d.variable.ty)) (are_constants cs old) h (λ r. constants_append cs old c r k)
  where
    by : (a b : Bool) {c : Bool} → (a && b) ≡ true → (b ≡ true → c ≡ true) → (a && c) ≡ true
    by true b h k = k h
    by false b h k = absurd (true≢false (sym h))

module _ (cs : List ClType) (b : IsTable cs) (bodies : List (List ℕ)) (last : UnitState) (kept : List Variable) (calls : List Callee) (parts : (params vars : List Variable) → ExpressionsFit (lists cs kept calls params vars)) (callee : (name : List ℕ) (s : Signature) → find_function last.env name ≡ Some s → s.body ≡ true → slice_get calls s.number ≡ Some (signature_callee s)) where
  abbrev FileAgrees : Env → Type 0
  FileAgrees env = (params vars : List Variable) → Agrees (lists cs kept calls params vars) env

  abbrev HasConstants : UnitState → Type 0
  HasConstants u = (k : ℕ) (c : ConstantVar) → slice_get u.constants k ≡ Some c → slice_get kept k ≡ Some c.variable

  abbrev AllFit : List Function → Type 0
  AllFit fs = (k : ℕ) (f : Function) → slice_get fs k ≡ Some f → FunctionFits cs kept calls f

  record StandsFit (u after : UnitState) : Type 0 where
    agrees : FileAgrees after.env
    functions : AllFit u.functions → AllFit after.functions
    constants : are_constants cs u.constants ≡ true → are_constants cs after.constants ≡ true

  -- the declarations behind a function
  left_file : (typed inside : Env) → FileAgrees typed → Persists inside last.env → FileAgrees (left_behind typed inside)
  left_file typed inside a p = λ params vars. record { names = (a params vars).names; functions = λ name s e body. callee name s (p name s e) body }

  constants_fit : (u : UnitState) (q : Qualified) (ds : List InitDeclor) (after : UnitState) → ConstantsDeclared cs u q ds after → IsReadyType cs q → HasConstants after → FileAgrees u.env → StandsFit u after
  constants_fit _ _ _ _ (none_declared u q) ready has a = record { agrees = a; functions = λ h. h; constants = λ h. h }
  constants_fit _ _ _ _ (one_declared u after q d ds env name place ty own t bytes h0 h1 h2) ready has a =
      let c = constant_of name ty own place bytes in
      let k = length u.constants in
      let at : slice_get kept k ≡ Some c.variable = has k c ((constants_go cs bodies _ _ _ _ h2).constants k c (get_here u.constants c)) in
      let i = constants_fit _ _ _ _ h2 ready has (λ params vars. (parts params vars).constant k _ _ _ _ _ _ _ _ _ c.variable h0 at refl refl (a params vars)) in
      let o = (parts [] []).object k _ _ _ _ _ _ _ _ _ ready h0 in
      record {
        agrees = i.agrees;
        functions = i.functions;
        constants = λ h. i.constants (constants_append cs u.constants c h (and_from (is_constant_space own) (is_object (shape_of cs ty)) (ap is_constant_space o.0) o.1));
      }

  -- ---- functions

  module _ (u : UnitState) (words : List FWord) (spec : Spec) (name : List ℕ) (params : List Param) (body : Bool) (typed inner : Env) (q : Qualified) (vars : List Variable) (size : Option (List ℕ)) (h : IsHead cs bodies u words spec name params body typed inner q vars size) (a : FileAgrees u.env) where
    head_typed : FileAgrees typed
    head_typed = λ ps vs. ((parts ps vs).specified _ _ _ _ h.result (sizes_agree (lists cs kept calls ps vs) (parts ps vs) _ _ _ _ _ h.sizes (a ps vs))).0

    head_ready : IsReadyType cs q
    head_ready = ((parts [] []).specified _ _ _ _ h.result (sizes_agree (lists cs kept calls [] []) (parts [] []) _ _ _ _ _ h.sizes (a [] []))).1

    function_fits : (items : List Stmt) (after : State) (ts : Vec TStmt) (t : TStmt) (f : Function) → ItemsAre cs (setting (is_kernel words) q.ty) (state inner []) items after ts.items → (out-TStmt t).node ≡ tnode.Block ts → f ≡ function_of name f.place (is_kernel words) q.ty vars after.vars t → Persists inner last.env → FunctionFits cs kept calls f
    function_fits items after ts t f are node is p =
        let kernel = is_kernel words in
        let l = lists cs kept calls vars after.vars in
        let part = parts vars after.vars in
        let r = params_fit l part kernel _ _ _ _ _ h.takes refl (entered_agrees l typed (head_typed vars after.vars)) in
        let inside : Agrees l inner = subst (Agrees l) (sym h.scope) (record {
          names = r.agrees.names;
          functions = λ text s e done. callee text s (p text s (ap (λ z. find_function z text) h.scope ∙ e)) done;
        }) in
        let i = items_fit l b part kernel _ _ _ _ _ are (may_setting kernel q.ty) (λ k v e. e) inside in
        let kept_head = head_kept u typed h.behind kernel body name q vars h.fits in
        subst (FunctionFits cs kept calls) (sym is) (record {
          few = le-leb (length vars) 32 (params_few cs kernel _ _ _ _ _ h.takes (let z : length {A = Variable} [] ≤ 32 = omega arith in z));
          params = r.params refl;
          vars = i.variables refl;
          result = subst (λ z. is_result kernel z ≡ true) head_ready.shape (result_is kernel q.shape kept_head.plain kept_head.void);
          body = block_fits t (frame l (setting kernel q.ty)) ts node ∙ i.fits;
        })

  -- ---- externals

  external_fits : (u : UnitState) (e : External) (after : UnitState) → ExternalIs cs bodies u e after → Persists after.env last.env → HasConstants after → FileAgrees u.env → StandsFit u after
  external_fits _ _ _ (typedef u spec d typed env q star name place es ls t h0 h1 h2 h3 h4) p has a = record {
    agrees = λ params vars.
        let l = lists cs kept calls params vars in
        declared_agrees l (type_name name t (sketch q star ls)) env tt ((parts params vars).lengths _ _ _ _ _ h2 ((parts params vars).specified _ _ _ _ h0 (a params vars)).0);
    functions = λ h. h;
    constants = λ h. h;
  }
  external_fits _ _ _ (types u spec env q h0) p has a = record { agrees = λ params vars. ((parts params vars).specified _ _ _ _ h0 (a params vars)).0; functions = λ h. h; constants = λ h. h }
  external_fits _ _ _ (constants u after spec items env q h0 h1) p has a =
      let i = constants_fit _ _ _ _ h1 ((parts [] []).specified _ _ _ _ h0 (a [] [])).1 has (λ params vars. ((parts params vars).specified _ _ _ _ h0 (a params vars)).0) in
      record { agrees = i.agrees; functions = i.functions; constants = i.constants }
  external_fits _ _ _ (declared u words spec name place params typed inner q vars size h0) p has a =
      by size (left_file typed inner (head_typed u words.items spec name params.items false typed inner q vars size h0 a) (sized_persists size p))
    where
      sized_persists : (size : Option (List ℕ)) → Persists (and_size name size (with_env (left_behind typed inner) u)).env last.env → Persists inner last.env
      sized_persists None p = λ text s e. p text s e
      sized_persists (Some one) p = λ text s e. p text s e

      by : (size : Option (List ℕ)) → FileAgrees (left_behind typed inner) → StandsFit u (and_size name size (with_env (left_behind typed inner) u))
      by None a = record { agrees = a; functions = λ h. h; constants = λ h. h }
      by (Some one) a = record { agrees = a; functions = λ h. h; constants = λ h. h }
  external_fits _ _ _ (defined u words spec name place params body typed inner q vars size items after ts t f h0 h1 h2 h3 h4) p has a =
      let inside : Persists after.env last.env = sized_persists size p in
      let here : Persists inner last.env = λ text s e. inside text s (same_functions inner after.env (items_go cs _ _ _ _ _ h2).functions text s e) in
      let placed : f ≡ function_of name f.place (is_kernel words.items) q.ty vars after.vars t = h4 ∙ ap (λ z. function_of name z.place (is_kernel words.items) q.ty vars after.vars t) (sym h4) in
      by size (left_file typed after.env (head_typed u words.items spec name params.items true typed inner q vars size h0 a) inside)
      (function_fits u words.items spec name params.items true typed inner q vars size h0 a items after ts t f h2 h3.is placed here)
    where
      sized_persists : (size : Option (List ℕ)) → Persists (and_function f (and_size name size (with_env (left_behind typed after.env) u))).env last.env → Persists after.env last.env
      sized_persists None p = λ text s e. p text s e
      sized_persists (Some one) p = λ text s e. p text s e

      all_fit : FunctionFits cs kept calls f → AllFit u.functions → AllFit (u.functions ++ f ∷ [])
      all_fit one all = λ k g e. each k g (get_either u.functions f k g e)
        where
          each : (k : ℕ) (g : Function) → (slice_get u.functions k ≡ Some g) ⊎ (g ≡ f) → FunctionFits cs kept calls g
          each k g (inl e) = all k g e
          each k g (inr e) = subst (FunctionFits cs kept calls) (sym e) one

      by : (size : Option (List ℕ)) → FileAgrees (left_behind typed after.env) → FunctionFits cs kept calls f → StandsFit u (and_function f (and_size name size (with_env (left_behind typed after.env) u)))
      by None a one = record { agrees = a; functions = λ all. all_fit one all; constants = λ h. h }
      by (Some s) a one = record { agrees = a; functions = λ all. all_fit one all; constants = λ h. h }

  unit_fits_from : (u : UnitState) (es : List External) (after : UnitState) → UnitIs cs bodies u es after → Persists after.env last.env → HasConstants after → FileAgrees u.env → StandsFit u after
  unit_fits_from _ _ _ (no_external u) p has a = record { agrees = a; functions = λ h. h; constants = λ h. h }
  unit_fits_from _ _ _ (more_externals u middle after e es h0 h1) p has a =
      let g = unit_goes cs bodies _ _ _ h1 in
      let r = external_fits _ _ _ h0 (λ text s e. p text s (g.persists text s e)) (λ k c e. has k c (g.constants k c e)) a in
      let i = unit_fits_from _ _ _ h1 p has r.agrees in
      record { agrees = i.agrees; functions = λ h. i.functions (r.functions h); constants = λ h. i.constants (r.constants h) }

-- ---- functions with their sizes

calls_of : (sized sizes : List (List ℕ)) (fs : List Function) → map callee_of (map (with_size_in sized sizes) fs) ≡ map callee_of fs
calls_of sized sizes [] = refl
calls_of sized sizes (f ∷ fs) = ap (λ z. callee_of f ∷ z) (calls_of sized sizes fs)

has_name_sized : (sized sizes : List (List ℕ)) (name : List ℕ) (fs : List Function) → has_name name (map (with_size_in sized sizes) fs) ≡ has_name name fs
has_name_sized sized sizes name [] = refl
has_name_sized sized sizes name (f ∷ fs) = ap (λ z. bytes_eq name f.name || z) (has_name_sized sized sizes name fs)

differ_sized : (sized sizes : List (List ℕ)) (fs : List Function) → names_differ (map (with_size_in sized sizes) fs) ≡ names_differ fs
differ_sized sized sizes [] = refl
differ_sized sized sizes (f ∷ fs) = (λ i. not (has_name_sized sized sizes f.name fs i) && differ_sized sized sizes fs i)

get_mapped : {A B : Type 0} (g : A → B) (xs : List A) (k : ℕ) (x : A) → slice_get xs k ≡ Some x → slice_get (map g xs) k ≡ Some (g x)
get_mapped g [] k x e = absurd (true≢false (sym (ap is_some e)))
get_mapped g (y ∷ xs) zero x e = ap (λ z. Some (g z)) (some_equal y x e)
get_mapped g (y ∷ xs) (suc k) x e = get_mapped g xs k x e

get_variable : (cs : List ConstantVar) (k : ℕ) (c : ConstantVar) → slice_get cs k ≡ Some c → slice_get (variables_of cs) k ≡ Some c.variable
get_variable [] k c e = absurd (true≢false (sym (ap is_some e)))
get_variable (d ∷ cs) zero c e = ap (λ z. Some z.variable) (some_equal d c e)
get_variable (d ∷ cs) (suc k) c e = get_variable cs k c e

all_functions : (cs : List ClType) (kept : List ConstantVar) (all : List Function) (sized sizes : List (List ℕ)) (fs : List Function) → ((k : ℕ) (f : Function) → slice_get fs k ≡ Some f → is_function cs kept all (with_size_in sized sizes f) ≡ true) → are_functions cs kept all (map (with_size_in sized sizes) fs) ≡ true
all_functions cs kept all sized sizes [] h = refl
all_functions cs kept all sized sizes (f ∷ fs) h =
    and_from (is_function cs kept all (with_size_in sized sizes f)) (are_functions cs kept all (map (with_size_in sized sizes) fs)) (h 0 f refl)
    (all_functions cs kept all sized sizes fs (λ k g e. h (suc k) g e))

size_there : (sizes : List (List ℕ)) (o : Option ℕ) → ((k : ℕ) (size : List ℕ) → slice_get sizes k ≡ Some size → is_required (Some size) ≡ true) → is_required (size_at sizes o) ≡ true
size_there sizes None h = refl
size_there sizes (Some i) h = by (slice_get sizes i) refl
  where
    by : (o : Option (List ℕ)) → slice_get sizes i ≡ o → is_required (slice_get sizes i) ≡ true
    by None e = ap is_required e
    by (Some size) e = ap is_required e ∙ h i size e

-- ---- units

unit_parts : (cs : List ClType) (kept : List ConstantVar) (functions : List Function) → are_allowed cs cs ≡ true → are_constants cs kept ≡ true → are_functions cs kept functions functions ≡ true → names_differ functions ≡ true → has_kernel functions ≡ true → is_unit cs kept functions ≡ true
unit_parts cs kept functions a c f n k = unfold is_unit in (λ i. a i && c i && f i && n i && k i)

module _ (cs : List ClType) (es : List External) (last : UnitState) (is : UnitIs cs (body_names es) empty es last) where
  made : Made (body_names es) last
  made = unit_made cs (body_names es) _ _ _ is (nothing_made (body_names es))

  bodies_are : body_names es ≡ map name_in last.functions
  bodies_are = sym (unit_defined cs (body_names es) _ _ _ is) ∙ made.names

  -- a function with a body is at its number
  callee_there : (name : List ℕ) (s : Signature) → find_function last.env name ≡ Some s → s.body ≡ true → slice_get (map callee_of (map (with_size last) last.functions)) s.number ≡ Some (signature_callee s)
  callee_there name s e done = by (position_of name (body_names es)) refl
    where
      number_is : IsNumbered (body_names es) name s
      number_is = made.numbered name s e

      by : (o : Option ℕ) → position_of name (body_names es) ≡ o → slice_get (map callee_of (map (with_size last) last.functions)) s.number ≡ Some (signature_callee s)
      by None p = absurd (true≢false (sym done ∙ number_is.body ∙ ap is_some p))
      by (Some i) p =
          let at : s.number ≡ i = number_is.number ∙ ap number_or_0 p in
          let f = name_found name last.functions i (ap (position_of name) (sym bodies_are) ∙ p) in
          let signed = made.signed i f.0 f.1 in
          let one : signed.first ≡ s = some_equal signed.first s (sym signed.found ∙ ap (find_function last.env) f.2 ∙ e) in
          ap (λ z. slice_get z s.number) (calls_of last.sized last.sizes last.functions) ∙ ap (slice_get (map callee_of last.functions)) at ∙
          get_mapped callee_of last.functions i f.0 f.1 ∙ ap Some (sym signed.same ∙ ap signature_callee one)

  -- what a typed unit's tree owes, over what is known of expressions and variables in its lists
  pub unit_fits : IsTable cs → ((params vars : List Variable) → ExpressionsFit (lists cs (variables_of last.constants) (map callee_of (map (with_size last) last.functions)) params vars)) → are_allowed cs cs ≡ true → has_kernel last.functions ≡ true → is_unit cs last.constants (map (with_size last) last.functions) ≡ true
  unit_fits b parts allowed kernel =
      let all = map (with_size last) last.functions in
      let kept = variables_of last.constants in
      let r = unit_fits_from cs b (body_names es) last kept (map callee_of all) parts callee_there _ _ _ is (λ text s e. e) (λ k c e. get_variable last.constants k c e) (λ params vars. record {
        names = λ name d e. absurd (true≢false (sym (ap is_some e)));
        functions = λ name s e. absurd (true≢false (sym (ap is_some e)));
      }) in
      let each = r.functions (λ k f e. absurd (true≢false (sym (ap is_some e)))) in
      let objects : are_constants cs last.constants ≡ true = r.constants refl in
      let functions : are_functions cs last.constants all all ≡ true = all_functions cs last.constants all last.sized last.sizes last.functions (λ k f e.
      let fits = each k f e in
      let size = size_there last.sizes (position_of f.name last.sized) made.sizes in
      λ i. fits.few i && fits.params i && fits.vars i && fits.result i && size i && fits.body i) in
      let apart : names_differ all ≡ true = differ_sized last.sized last.sizes last.functions ∙ made.apart in
      let some : has_kernel all ≡ true = has_kernel_sized last.sized last.sizes last.functions ∙ kernel in
      unit_parts cs last.constants all allowed objects functions apart some
