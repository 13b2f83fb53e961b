-- Typedefs, structs, constants and functions at file scope.
use Rattle.std.proofs.Common.{◌≡◌, ℕ, Bool, true, false, List, [], ◌++◌, Option, Some, None, is_some, refl, sym, ap, ◌∙◌, subst}
use Rattle.std.specs.Global.{Vec}
use Rattle.clv_place.specs.declared.place.Place.{Place}
use Rattle.clv_place.specs.declared.stop.Stop.{Stop}
use Rattle.clv_place.specs.declared.stop.Stop.TheVariants.{Out, NoMemory}
use Rattle.cl_types.specs.declared.types.ClType.{ClType}
use Rattle.cl_types.specs.declared.types.TypeId.{TypeId}
use Rattle.cl_builtins.specs.Found.{IsGrown}
use Rattle.cl_builtins.proofs.Growth.{grown_twice}
use Rattle.cl_ast.specs.declared.declaration.External.{External}
use Rattle.cl_ast.specs.declared.declaration.External.TheVariants as external
use Rattle.cl_ast.specs.declared.declaration.FWord.{FWord}
use Rattle.cl_ast.specs.declared.declaration.InitDeclor.{InitDeclor}
use Rattle.cl_ast.specs.declared.declaration.Param.{Param}
use Rattle.cl_ast.specs.declared.expression.Declor.{Declor}
use Rattle.cl_ast.specs.declared.expression.Spec.{Spec}
use Rattle.cl_ast.specs.declared.expression.Base.TheViews.{out-Declor}
use Rattle.cl_ast.specs.declared.statement.Stmt.{Stmt}
use Rattle.cl_ast.specs.declared.statement.StmtNode.TheViews.{out-Stmt}
use Rattle.cl_tree.specs.declared.statement.TStmt.{TStmt}
use Rattle.cl_tree.specs.declared.statement.TStmtNode.TheVariants as tnode
use Rattle.cl_tree.specs.declared.unit.Function.{Function}
use Rattle.cl_tree.specs.declared.unit.Variable.{Variable}
use Rattle.cl_rules.specs.declared.rule.Qualified.{Qualified}
use Rattle.cl_rules.specs.Operands.{first_broken}
use Rattle.cl_scope.specs.Names.{Env, entered, left_behind, declare, IsLeft}
use Rattle.cl_scope.specs.Scopes.{IsKnownEnv}
use Rattle.cl_words.specs.declared.naming.Length.{Length}
use Rattle.cl_words.specs.Words.{sketch}
use Rattle.cl_make.proofs.Stays.{from_now, env_stays}
use Rattle.cl_type_expr.specs.Offences.{at}
use Rattle.cl_type_expr.specs.Syntax.{IsDeclor}
use Rattle.cl_type_expr.specs.Typing.{WordsAre, WordsStop, LengthsAre, LengthsStop}
use Rattle.cl_variables.specs.Answers.{is_taken}
use Rattle.cl_typing.specs.declared.head.Head.{Head}
use Rattle.cl_typing.specs.declared.unit_state.UnitState.{UnitState}
use Rattle.cl_typing.specs.Answers.{ItemsAreTyped, ItemsStop}
use Rattle.cl_typing.specs.Settings.{state, setting, IsTStmt}
use Rattle.cl_typing.specs.Statements.{ItemsAre}
use Rattle.cl_typing.specs.UnitAnswers.{HeadIs, HeadStops, ConstantsAreDeclared, ConstantsStopAt, TypedefIs, TypedefStops, IsTypedef, TypedefOffends, ExternalIsTyped, ExternalStops, BodyIs, BodyStops}
use Rattle.cl_typing.specs.Units.{with_env, and_size, and_function, is_kernel, type_name, typedef_tests, function_of, IsHead, HeadOffends, IsBody, ExternalIs, ExternalOffends, typedef, types, constants, declared, defined, in_typedef, in_lengths, no_typedef, in_types, in_constant_words, in_constants, in_head, in_body}
use Rattle.cl_typing.proofs.OuterStatements.{items_are_outer}
use Rattle.cl_typing.proofs.OuterUnits.{params_are_outer}

-- ---- typedefs

declor : (d : Declor) → IsDeclor d (out-Declor d).star (out-Declor d).name (out-Declor d).place (out-Declor d).lengths.items
declor d = record { behind = refl; is = refl; at = refl; has = refl }

-- the tables behind the words, behind the lengths and behind the type
module _ (mid late new : List ClType) (n0 nq : Env) (spec : Spec) (d : Declor) where
  pub typedef_words_out : (x : Stop) → WordsStop mid n0 spec x → TypedefOffends mid n0 spec d x
  typedef_words_out NoMemory h = tt
  typedef_words_out (Out o) h = λ more m bodies u. in_typedef (with_env n0 u) spec d o (h more m)

  module _ (q : Qualified) (w : WordsAre mid n0 spec nq q) (g : IsGrown mid late) where
    pub typedef_lengths_out : (x : Stop) → LengthsStop late nq false (out-Declor d).lengths.items x → TypedefOffends late n0 spec d x
    typedef_lengths_out NoMemory h = tt
    typedef_lengths_out (Out o) h = λ more m bodies u.
        in_lengths (with_env n0 u) spec d nq q (out-Declor d).star (out-Declor d).name (out-Declor d).place (out-Declor d).lengths.items o (w.words more (grown_twice mid late more g m)) (declor d) (h more m)

    module _ (nl : Env) (ls : List Length) (l : LengthsAre late nq false (out-Declor d).lengths.items nl ls) (h : IsGrown late new) (again : Bool) (a : again ≡ is_taken nl (out-Declor d).name) where
      pub typedef_out : (x : Stop) → TypedefStops new again (out-Declor d).place (sketch q (out-Declor d).star ls) x → TypedefOffends new n0 spec d x
      typedef_out NoMemory k = tt
      typedef_out (Out o) k = λ more m bodies u. let v = grown_twice late new more h m in
          subst (λ p. ExternalOffends more bodies (with_env n0 u) (external.Typedef spec d) (at o.code p)) (sym k.0)
          (no_typedef (with_env n0 u) spec d nq nl q (out-Declor d).star (out-Declor d).name (out-Declor d).place (out-Declor d).lengths.items ls o.code (w.words more (grown_twice mid late more g v)) (declor d) (l.lengths more v)
          (subst (λ z. first_broken (typedef_tests more z (sketch q (out-Declor d).star ls)) ≡ Some o.code) a (k.1 more m)))

      pub typedef_typed : (n1 : Env) (t : TypeId) → TypedefIs new again (sketch q (out-Declor d).star ls) t → n1 ≡ declare (type_name (out-Declor d).name t (sketch q (out-Declor d).star ls)) nl → IsTypedef new n0 spec d n1
      typedef_typed n1 t k is = record {
        is = λ more m bodies u. let v = grown_twice late new more h m in
            subst (λ z. ExternalIs more bodies (with_env n0 u) (external.Typedef spec d) (with_env z u)) (sym is)
            (typedef (with_env n0 u) spec d nq nl q (out-Declor d).star (out-Declor d).name (out-Declor d).place (out-Declor d).lengths.items ls t (w.words more (grown_twice mid late more g v)) (declor d) (l.lengths more v)
            (subst (λ z. first_broken (typedef_tests more z (sketch q (out-Declor d).star ls)) ≡ None) a (k.fits more m)) (k.is more m));
        known = subst (IsKnownEnv new) (sym is) (let e = env_stays late new nl h l.known in record { outer = e.outer; inner = (k.known, e.inner); functions = e.functions });
      }

pub external_typedef : (cs : List ClType) (bodies : List (List ℕ)) (u after : UnitState) (spec : Spec) (d : Declor) (e : External) → e ≡ external.Typedef spec d → after ≡ with_env after.env u → IsTypedef cs u.env spec d after.env → ExternalIsTyped cs bodies u e after
external_typedef cs bodies u after spec d e is rest h = record {
  is = λ more m. subst (λ z. ExternalIs more bodies u e z) (sym rest) (subst (λ z. ExternalIs more bodies u z (with_env after.env u)) (sym is) (h.is more m bodies u));
  known = h.known;
}

pub external_typedef_out : (cs : List ClType) (bodies : List (List ℕ)) (u : UnitState) (spec : Spec) (d : Declor) (e : External) (x : Stop) → e ≡ external.Typedef spec d → TypedefOffends cs u.env spec d x → ExternalStops cs bodies u e x
external_typedef_out cs bodies u spec d e NoMemory is h = tt
external_typedef_out cs bodies u spec d e (Out o) is h = λ more m. subst (λ z. ExternalOffends more bodies u z o) (sym is) (h more m bodies u)

-- ---- types alone, and constants

pub external_types : (cs : List ClType) (bodies : List (List ℕ)) (u after : UnitState) (spec : Spec) (e : External) (q : Qualified) → e ≡ external.Struct spec → after ≡ with_env after.env u → WordsAre cs u.env spec after.env q → ExternalIsTyped cs bodies u e after
external_types cs bodies u after spec e q is rest h = record {
  is = λ more m. subst (λ z. ExternalIs more bodies u e z) (sym rest) (subst (λ z. ExternalIs more bodies u z (with_env after.env u)) (sym is) (types u spec after.env q (h.words more m)));
  known = h.known;
}

pub external_types_out : (cs : List ClType) (bodies : List (List ℕ)) (u : UnitState) (spec : Spec) (e : External) (x : Stop) → e ≡ external.Struct spec → WordsStop cs u.env spec x → ExternalStops cs bodies u e x
external_types_out cs bodies u spec e NoMemory is h = tt
external_types_out cs bodies u spec e (Out o) is h = λ more m. subst (λ z. ExternalOffends more bodies u z o) (sym is) (in_types u spec o (h more m))

module _ (mid new : List ClType) (bodies : List (List ℕ)) (u : UnitState) (spec : Spec) (items : Vec InitDeclor) (e : External) (is : e ≡ external.Constant spec items) where
  pub external_constant_words_out : (x : Stop) → WordsStop mid u.env spec x → ExternalStops mid bodies u e x
  external_constant_words_out NoMemory h = tt
  external_constant_words_out (Out o) h = λ more m. subst (λ z. ExternalOffends more bodies u z o) (sym is) (in_constant_words u spec items o (h more m))

  module _ (nq : Env) (q : Qualified) (w : WordsAre mid u.env spec nq q) (g : IsGrown mid new) where
    pub external_constants_out : (x : Stop) → ConstantsStopAt new q (with_env nq u) items.items x → ExternalStops new bodies u e x
    external_constants_out NoMemory h = tt
    external_constants_out (Out o) h = λ more m. subst (λ z. ExternalOffends more bodies u z o) (sym is) (in_constants u spec items nq q o (w.words more (grown_twice mid new more g m)) (h more m))

    pub external_constants : (after : UnitState) → ConstantsAreDeclared new q (with_env nq u) items.items after → ExternalIsTyped new bodies u e after
    external_constants after h = record {
      is = λ more m. subst (λ z. ExternalIs more bodies u z after) (sym is) (constants u after spec items nq q (w.words more (grown_twice mid new more g m)) (h.constants more m));
      known = h.known;
    }

-- ---- functions

-- the block round the parameters of a head
head_outer : (cs : List ClType) (bodies : List (List ℕ)) (u : UnitState) (ws : List FWord) (spec : Spec) (name : List ℕ) (ps : List Param) (body : Bool) (typed inner : Env) (q : Qualified) (vars : List Variable) (size : Option (List ℕ)) → IsHead cs bodies u ws spec name ps body typed inner q vars size → inner.outer ≡ typed.inner ++ typed.outer
head_outer cs bodies u ws spec name ps body typed inner q vars size h = ap (λ z. z.outer) h.scope ∙ params_are_outer cs (is_kernel ws) (entered typed) [] ps h.behind vars h.takes

left_known : (cs : List ClType) (before inner : Env) → IsKnownEnv cs before → IsKnownEnv cs inner → IsKnownEnv cs (left_behind before inner)
left_known cs before inner k i = record { outer = k.outer; inner = k.inner; functions = i.functions }

module _ (mid : List ClType) (bodies : List (List ℕ)) (u : UnitState) (ws : Vec FWord) (spec : Spec) (name : List ℕ) (place : Place) (ps : Vec Param) (body : Option Stmt) (has : Bool) (e : External) (is : e ≡ external.Function ws spec name place ps body) where
  pub external_head_out : (x : Stop) → has ≡ is_some body → HeadStops mid u ws.items spec name place ps.items has x → ExternalStops mid bodies u e x
  external_head_out NoMemory b h = tt
  external_head_out (Out o) b h = λ more m. subst (λ z. ExternalOffends more bodies u z o) (sym is) (in_head u ws spec name place ps body o (subst (λ z. HeadOffends more u ws.items spec name place ps.items z o) b (h more m)))

module _ (mid : List ClType) (bodies : List (List ℕ)) (u : UnitState) (ws : Vec FWord) (spec : Spec) (name : List ℕ) (place : Place) (ps : Vec Param) (e : External) (inner : Env) (h : Head) where
  pub external_prototype : (n1 : Env) (after : UnitState) → e ≡ external.Function ws spec name place ps None → HeadIs mid bodies u ws.items spec name ps.items false inner h → IsLeft inner h.mark n1 → after ≡ and_size name h.size (with_env n1 u) → ExternalIsTyped mid bodies u e after
  external_prototype n1 after is head left ends_as =
      let outer = head_outer mid bodies u ws.items spec name ps.items false head.typed inner h.q h.params h.size (from_now mid (λ more. IsHead more bodies u ws.items spec name ps.items false head.typed inner h.q h.params h.size) head.head) in
      let n1_is : n1 ≡ left_behind head.typed inner = left head.typed outer head.mark in
      let after_is : after ≡ and_size name h.size (with_env (left_behind head.typed inner) u) = ends_as ∙ ap (λ z. and_size name h.size (with_env z u)) n1_is in
      record {
        is = λ more m. subst (λ z. ExternalIs more bodies u e z) (sym after_is) (subst (λ z. ExternalIs more bodies u z (and_size name h.size (with_env (left_behind head.typed inner) u))) (sym is)
            (declared u ws spec name place ps head.typed inner h.q h.params h.size (head.head more m)));
        known = subst (λ z. IsKnownEnv mid z.env) (sym after_is) (sized_known (left_behind head.typed inner) h.size (left_known mid head.typed inner head.around head.known));
      }
    where
      sized_known : (env : Env) (size : Option (List ℕ)) → IsKnownEnv mid env → IsKnownEnv mid (and_size name size (with_env env u)).env
      sized_known env None k = k
      sized_known env (Some s) k = k

  module _ (new : List ClType) (b : Stmt) (is : e ≡ external.Function ws spec name place ps (Some b)) (head : HeadIs mid bodies u ws.items spec name ps.items true inner h) (g : IsGrown mid new) (items : List Stmt) (body_is : IsBody b items) where
    pub external_body_out : (x : Stop) → ItemsStop new (setting (is_kernel ws.items) h.q.ty) (state inner []) items x → ExternalStops new bodies u e x
    external_body_out NoMemory k = tt
    external_body_out (Out o) k = λ more m. subst (λ z. ExternalOffends more bodies u z o) (sym is)
        (in_body u ws spec name place ps b head.typed inner h.q h.params h.size items o (head.head more (grown_twice mid new more g m)) body_is (k more m))

    pub external_defined : (nb n1 : Env) (vars : List Variable) (ts : Vec TStmt) (t : TStmt) (f : Function) (after : UnitState) → ItemsAreTyped new (setting (is_kernel ws.items) h.q.ty) (state inner []) items (state nb vars) ts.items → IsLeft nb h.mark n1 → IsTStmt t (out-Stmt b).place (tnode.Block ts) → f ≡ function_of name place (is_kernel ws.items) h.q.ty h.params vars t → after ≡ and_function f (and_size name h.size (with_env n1 u)) → ExternalIsTyped new bodies u e after
    external_defined nb n1 vars ts t f after k left tree f_is ends_as =
        let outer = items_are_outer new (setting (is_kernel ws.items) h.q.ty) (state inner []) items (state nb vars) ts.items (from_now new (λ more. ItemsAre more (setting (is_kernel ws.items) h.q.ty) (state inner []) items (state nb vars) ts.items) k.items)
        ∙ head_outer mid bodies u ws.items spec name ps.items true head.typed inner h.q h.params h.size (from_now mid (λ more. IsHead more bodies u ws.items spec name ps.items true head.typed inner h.q h.params h.size) head.head) in
        let n1_is : n1 ≡ left_behind head.typed nb = left head.typed outer head.mark in
        let after_is : after ≡ and_function f (and_size name h.size (with_env (left_behind head.typed nb) u)) = ends_as ∙ ap (λ z. and_function f (and_size name h.size (with_env z u))) n1_is in
        record {
          is = λ more m. subst (λ z. ExternalIs more bodies u e z) (sym after_is) (subst (λ z. ExternalIs more bodies u z (and_function f (and_size name h.size (with_env (left_behind head.typed nb) u)))) (sym is)
              (defined u ws spec name place ps b head.typed inner h.q h.params h.size items (state nb vars) ts t f (head.head more (grown_twice mid new more g m)) body_is (k.items more m) tree f_is));
          known = subst (λ z. IsKnownEnv new z.env) (sym after_is) (sized_known (left_behind head.typed nb) h.size (left_known new head.typed nb (env_stays mid new head.typed g head.around) k.known));
        }
      where
        sized_known : (env : Env) (size : Option (List ℕ)) → IsKnownEnv new env → IsKnownEnv new (and_function f (and_size name size (with_env env u))).env
        sized_known env None k = k
        sized_known env (Some s) k = k

  pub external_body_stops : (new : List ClType) (b : Stmt) → e ≡ external.Function ws spec name place ps (Some b) → HeadIs mid bodies u ws.items spec name ps.items true inner h → IsGrown mid new → (x : Stop) → BodyStops new (setting (is_kernel ws.items) h.q.ty) (state inner []) b x → ExternalStops new bodies u e x
  external_body_stops new b is head g NoMemory k = tt
  external_body_stops new b is head g (Out o) k = external_body_out new b is head g k.inside k.body (Out o) k.offends

  pub external_made : (new : List ClType) (b : Stmt) → e ≡ external.Function ws spec name place ps (Some b) → HeadIs mid bodies u ws.items spec name ps.items true inner h → IsGrown mid new → (nb n1 : Env) (vars : List Variable) (ts : Vec TStmt) (t : TStmt) (f : Function) (after : UnitState) → BodyIs new (setting (is_kernel ws.items) h.q.ty) (state inner []) b (state nb vars) ts.items → IsLeft nb h.mark n1 → IsTStmt t (out-Stmt b).place (tnode.Block ts) → f ≡ function_of name place (is_kernel ws.items) h.q.ty h.params vars t → after ≡ and_function f (and_size name h.size (with_env n1 u)) → ExternalIsTyped new bodies u e after
  external_made new b is head g nb n1 vars ts t f after k left tree f_is ends_as = external_defined new b is head g k.inside k.body nb n1 vars ts t f after k.items left tree f_is ends_as
