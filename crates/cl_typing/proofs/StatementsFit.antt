-- A typed statement stands as it may, in lists that agree with the declarations round it and have the variables of its function.
use Rattle.std.proofs.Common.{◌≡◌, ℕ, ◌+◌, nat_eq, nat_lt, nat_le, Bool, true, false, true≢false, not, ◌&&◌, ◌||◌, if◌then◌else◌, List, [], ◌∷◌, ◌++◌, length, map, Option, Some, None, refl, sym, ap, ◌∙◌, subst, arith, slice_get}
use Rattle.std.specs.Prelude.{is_some}
use Rattle.std.proofs.lemmas.Bool.{and_from, not-false, or_parts, eqb-true, eq-eqb, le-leb, ltb-false}
use Rattle.clv_place.specs.declared.place.Place.{Place}
use Rattle.cl_types.specs.declared.types.ClType.{ClType}
use Rattle.cl_types.specs.declared.types.TypeId.{TypeId}
use Rattle.cl_types.specs.declared.space.Space.{Space}
use Rattle.cl_types.specs.declared.space.Space.TheVariants as space
use Rattle.cl_types.specs.Table.{IsTable}
use Rattle.cl_ast.specs.declared.declaration.InitDeclor.{InitDeclor}
use Rattle.cl_ast.specs.declared.expression.Expr.{Expr}
use Rattle.cl_ast.specs.declared.expression.Spec.{Spec}
use Rattle.cl_ast.specs.declared.statement.Group.{Group}
use Rattle.cl_ast.specs.declared.statement.Label.{Label}
use Rattle.cl_ast.specs.declared.statement.Stmt.{Stmt}
use Rattle.cl_builtins.specs.declared.kind.Gentype.{Gentype}
use Rattle.cl_builtins.specs.Kinds.{int}
use Rattle.cl_tree.specs.declared.expression.TExpr.{TExpr}
use Rattle.cl_tree.specs.declared.expression.TNode.TheViews.{out-TExpr}
use Rattle.cl_tree.specs.declared.shape.Shape.{Shape}
use Rattle.cl_tree.specs.declared.shape.Shape.TheVariants as shape
use Rattle.cl_tree.specs.declared.statement.Section.{Section}
use Rattle.cl_tree.specs.declared.statement.TStmt.{TStmt}
use Rattle.cl_tree.specs.declared.unit.Variable.{Variable}
use Rattle.cl_tree.specs.Constants.{number_of}
use Rattle.cl_tree.specs.Facts.{Lists, value, when, bind, before, converts_to}
use Rattle.cl_tree.specs.Shapes.{shape_of, same_type, is_void, is_number, promoted}
use Rattle.cl_tree.specs.Statements.{Frame, in_loop, all_fit, type_in, type_of, is_typed, may_be_typed, is_condition_of, is_condition, has_type, declares, defaults, labels_of, is_among, is_new, and_value, are_cases, sections_fit, is_tested, switches_at, tested}
use Rattle.cl_tree.specs.Units.{is_object, is_variable, are_variables}
use Rattle.cl_rules.specs.declared.rule.Head.TheVariants as head
use Rattle.cl_rules.specs.declared.rule.Operand.{Operand}
use Rattle.cl_rules.specs.declared.rule.Qualified.{Qualified}
use Rattle.cl_rules.specs.declared.rule.Want.{Want}
use Rattle.cl_rules.specs.declared.rule.Want.TheVariants as want
use Rattle.cl_rules.specs.Operands.{first_broken, no_value, no_pointer}
use Rattle.cl_scope.specs.declared.scope.DeclaredKind.TheVariants as kind
use Rattle.cl_scope.specs.Names.{Env, entered, left_behind}
use Rattle.cl_words.specs.declared.naming.Length.{Length}
use Rattle.cl_make.specs.Building.{IsConverted, fitting, converted as by_node}
use Rattle.cl_make.specs.Ready.{IsReadyType}
use Rattle.cl_make.specs.Wanted.{IsWanted, target}
use Rattle.cl_type_expr.specs.Expressions.{Types, IsSpecified, AreLengths}
use Rattle.cl_variables.specs.declared.declaring.Where.{Where}
use Rattle.cl_variables.specs.declared.declaring.Where.TheVariants.{AtFileScope, InKernel, Inside}
use Rattle.cl_variables.specs.Answers.{again_at}
use Rattle.cl_variables.specs.Declarations.{IsVariable}
use Rattle.cl_laws.specs.Agreement.{Agrees, IsTypedAs}
use Rattle.cl_laws.proofs.CallsFit.{target_converts}
use Rattle.cl_laws.proofs.Fitted.{test_kept, tests_kept, number_converts}
use Rattle.cl_laws.proofs.NodesFit.{node_by, number_typed}
use Rattle.cl_laws.proofs.SameTypes.{shape_wanted, number_wanted, same_wanted}
use Rattle.cl_typing.specs.declared.label.Tested.{Tested}
use Rattle.cl_typing.specs.declared.setting.Setting.{Setting}
use Rattle.cl_typing.specs.Settings.{State, inside}
use Rattle.cl_typing.specs.Statements.{no_condition, tested_type, return_tests, case_of, no_case, and_seen, falls, MayBeTyped, left_out, written, IsForCondition, condition_missing, condition_given, AreVariables, no_variable, more_variables, ItemsAre, no_item, declaration_item, statement_item, StmtIs, block, expression, choice, while_loop, do_loop, for_loop, switch, break, continue, return, return_value, empty, ArmsAre, no_arm, more_arms, declaration_arm, SectionsAre, no_section, more_sections, LabelsAre, no_label, case_label, default_label}
use Rattle.cl_typing.specs.Statements as stmt
use Rattle.cl_typing.proofs.CaseValues.{canon, BoolsLow, case_value}
use Rattle.cl_typing.proofs.StatementsGo.{get_here, variables_go, items_go, arms_go, sections_go}
use Rattle.cl_typing.proofs.SwitchesFit.{held, sections_count, sections_end}
use Rattle.cl_typing.proofs.TreeFits.{tested_section, section_is, block_fits, decl_fits, expr_fits, if_fits, while_fits, do_fits, for_fits, switch_fits, break_fits, continue_fits, return_fits, empty_fits}

-- ---- what is known of expressions and variables

-- where a variable of a kernel or of another function may be declared
abbrev pub MayStand : Where → Bool → Type 0
MayStand AtFileScope kernel = ⊥
MayStand InKernel kernel = kernel ≡ true
MayStand Inside kernel = Unit {0}

pub record ExpressionsFit (l : Lists) : Type 0 where
  pub types : (env : Env) (left : Bool) (e : Expr) (after : Env) (t : TExpr) (o : Operand) → Types l.types env left e after t o → Agrees l env → Agrees l after × IsTypedAs l t o
  pub specified : (env : Env) (s : Spec) (after : Env) (q : Qualified) → IsSpecified l.types env s after q → Agrees l env → Agrees l after × IsReadyType l.types q
  pub variable : (w : Where) (k : ℕ) (env : Env) (q : Qualified) (d : InitDeclor) (after : Env) (name : List ℕ) (place : Place) (ty : TypeId) (own : Space) (t : Option TExpr) (v : Variable) → IsReadyType l.types q → IsVariable l.types w (kind.Var k) (again_at w) env q d after name place ty own t → slice_get l.vars k ≡ Some v → v.ty ≡ ty → v.space ≡ own → Agrees l env → Agrees l after × (declares l (Some v) t ≡ true)
  pub stands : (w : Where) (k : ℕ) (env : Env) (q : Qualified) (d : InitDeclor) (after : Env) (name : List ℕ) (place : Place) (ty : TypeId) (own : Space) (t : Option TExpr) (kernel : Bool) (v : Variable) → IsReadyType l.types q → IsVariable l.types w (kind.Var k) (again_at w) env q d after name place ty own t → MayStand w kernel → v.ty ≡ ty → v.space ≡ own → is_variable l.types kernel v ≡ true
  pub lengths : (env : Env) (may_miss : Bool) (es : List (Option Expr)) (after : Env) (ls : List Length) → AreLengths l.types env may_miss es after ls → Agrees l env → Agrees l after
  pub constant : (k : ℕ) (env : Env) (q : Qualified) (d : InitDeclor) (after : Env) (name : List ℕ) (place : Place) (ty : TypeId) (own : Space) (t : Option TExpr) (v : Variable) → IsVariable l.types AtFileScope (kind.Constant k) (again_at AtFileScope) env q d after name place ty own t → slice_get l.constants k ≡ Some v → v.ty ≡ ty → v.space ≡ own → Agrees l env → Agrees l after
  pub object : (k : ℕ) (env : Env) (q : Qualified) (d : InitDeclor) (after : Env) (name : List ℕ) (place : Place) (ty : TypeId) (own : Space) (t : Option TExpr) → IsReadyType l.types q → IsVariable l.types AtFileScope (kind.Constant k) (again_at AtFileScope) env q d after name place ty own t → (own ≡ space.Constant) × (is_object (shape_of l.types ty) ≡ true)
  pub bools : BoolsLow l

-- where statements of a setting stand
abbrev pub frame : Lists → Setting → Frame
frame l p = record { lists = l; result = p.result; breaks = p.breaks; continues = p.continues }

-- the variables so far are the function's
abbrev pub HasVariables : Lists → State → Type 0
HasVariables l st = (k : ℕ) (v : Variable) → slice_get st.vars k ≡ Some v → slice_get l.vars k ≡ Some v

pub record Fits (l : Lists) (kernel : Bool) (st after : State) (stands : Bool) : Type 0 where
  pub agrees : Agrees l after.env
  pub variables : are_variables l.types kernel st.vars ≡ true → are_variables l.types kernel after.vars ≡ true
  pub fits : stands ≡ true

-- ---- words on lists

all_append : (f : Frame) (ts us : List TStmt) → all_fit f (map tested ts) ≡ true → all_fit f (map tested us) ≡ true → all_fit f (map tested (ts ++ us)) ≡ true
all_append f [] us h k = k
all_append f (t ∷ ts) us h k = by ((tested t).fits f) (all_fit f (map tested ts)) h (λ r. all_append f ts us r k)
  where
    by : (a b : Bool) {c : Bool} → (a && b) ≡ true → (b ≡ true → c ≡ true) → (a && c) ≡ true
    by true b h k = k h
    by false b h k = absurd (true≢false (sym h))

variables_append : (cs : List ClType) (kernel : Bool) (vs : List Variable) (v : Variable) → are_variables cs kernel vs ≡ true → is_variable cs kernel v ≡ true → are_variables cs kernel (vs ++ v ∷ []) ≡ true
variables_append cs kernel [] v h k = and_from (is_variable cs kernel v) true k refl
variables_append cs kernel (u ∷ vs) v h k = by (is_variable cs kernel u) (are_variables cs kernel vs) h (λ r. variables_append cs kernel vs v r k)
  where
    by : (a b : Bool) {c : Bool} → (a && b) ≡ true → (b ≡ true → c ≡ true) → (a && c) ≡ true
    by true b h k = k h
    by false b h k = absurd (true≢false (sym h))

-- ---- declarations round a block

pub entered_agrees : (l : Lists) (env : Env) → Agrees l env → Agrees l (entered env)
entered_agrees l env a = record { names = a.names; functions = a.functions }

pub left_agrees : (l : Lists) (env inside : Env) → Agrees l env → Agrees l inside → Agrees l (left_behind env inside)
left_agrees l env inside a i = record { names = a.names; functions = i.functions }

-- ---- operands behind their conversions

record IsBehind (l : Lists) (w : Want) (v : TExpr) : Type 0 where
  ty : TypeId
  typed : type_of l v ≡ Some ty
  wanted : IsWanted l.types w ty

abbrev Converts : Lists → Want → Operand → Type 0
Converts l w o = (ty : TypeId) → IsWanted l.types w ty → converts_to l o.facts ty (shape_of l.types ty) ≡ true

shape_behind : (l : Lists) (s : Shape) (u v : TExpr) (o : Operand) → IsTypedAs l u o → Converts l (want.Of s) o → IsConverted l.types (want.Of s) u v → IsBehind l (want.Of s) v
shape_behind l s u v o r k (fitting w t h) = record { ty = o.facts.ty; typed = ap type_in r.facts; wanted = subst (IsWanted l.types (want.Of s)) r.root h }
shape_behind l s u v o r k (by_node w ty t x h n node) = record {
  ty = ty;
  typed = ap type_in (node_by l x ty (out-TExpr t).place head.Convert (t ∷ []) (o.facts ∷ []) node (ap (λ z. bind z (before (Some []))) r.facts) ∙ ap (λ z. when z (value ty)) (k ty h));
  wanted = h;
}

type_behind : (l : Lists) (own : TypeId) (u v : TExpr) (o : Operand) → IsTypedAs l u o → Converts l (want.Type own) o → IsConverted l.types (want.Type own) u v → IsBehind l (want.Type own) v
type_behind l own u v o r k (fitting w t h) = record { ty = o.facts.ty; typed = ap type_in r.facts; wanted = subst (IsWanted l.types (want.Type own)) r.root h }
type_behind l own u v o r k (by_node w ty t x h n node) = record {
  ty = ty;
  typed = ap type_in (node_by l x ty (out-TExpr t).place head.Convert (t ∷ []) (o.facts ∷ []) node (ap (λ z. bind z (before (Some []))) r.facts) ∙ ap (λ z. when z (value ty)) (k ty h));
  wanted = h;
}

-- ---- what is tested by a `switch`, and cases

-- each value in the tree stands for one that the rule has seen
abbrev Covers : Gentype → List ℕ → List ℕ → Type 0
Covers g seen tree = (m : ℕ) → is_among m tree ≡ true → stmt.is_among (canon g m) seen ≡ true

among_more : (n : ℕ) (seen : List ℕ) (k : ℕ) → stmt.is_among n seen ≡ true → stmt.is_among n (seen ++ k ∷ []) ≡ true
among_more n [] k h = absurd (true≢false (sym h))
among_more n (m ∷ seen) k h = by (nat_eq n m) (stmt.is_among n seen) h (λ r. among_more n seen k r)
  where
    by : (a b : Bool) {c : Bool} → (a || b) ≡ true → (b ≡ true → c ≡ true) → (a || c) ≡ true
    by true b h k = refl
    by false b h k = k h

among_last : (seen : List ℕ) (k : ℕ) → stmt.is_among k (seen ++ k ∷ []) ≡ true
among_last [] k = ap (λ b. b || false) (eq-eqb k k refl)
among_last (m ∷ seen) k = by (nat_eq k m) (among_last seen k)
  where
    by : (a : Bool) {c : Bool} → c ≡ true → (a || c) ≡ true
    by true h = refl
    by false h = h

covers_more : (g : Gentype) (seen tree : List ℕ) (m : ℕ) → Covers g seen tree → Covers g (seen ++ canon g m ∷ []) (m ∷ tree)
covers_more g seen tree m c = λ k h. by k (nat_eq k m) refl h
  where
    by : (k : ℕ) (b : Bool) → nat_eq k m ≡ b → (b || is_among k tree) ≡ true → stmt.is_among (canon g k) (seen ++ canon g m ∷ []) ≡ true
    by k true e h = subst (λ z. stmt.is_among (canon g z) (seen ++ canon g m ∷ []) ≡ true) (sym (eqb-true k m e)) (among_last seen (canon g m))
    by k false e h = among_more (canon g k) seen (canon g m) (c k h)

fresh : (g : Gentype) (seen tree : List ℕ) (m : ℕ) → Covers g seen tree → stmt.is_among (canon g m) seen ≡ false → is_among m tree ≡ false
fresh g seen tree m c h = by (is_among m tree) refl
  where
    by : (b : Bool) → is_among m tree ≡ b → is_among m tree ≡ false
    by true e = absurd (true≢false (sym (c m e) ∙ h))
    by false e = e

record IsFresh (c : Option ℕ) (seen : List ℕ) : Type 0 where
  n : ℕ
  is : c ≡ Some n
  new : stmt.is_among n seen ≡ false

fresh_case : (c : Option ℕ) (seen : List ℕ) → no_case c seen ≡ false → IsFresh c seen
fresh_case None seen h = absurd (true≢false h)
fresh_case (Some n) seen h = record { n = n; is = refl; new = h }

seen_of : (c : Option ℕ) (k : Tested) → (and_seen c k).of ≡ k.of
seen_of None k = refl
seen_of (Some n) k = refl

record LabelsFit (l : Lists) (g : Gentype) (ty : TypeId) (k j : Tested) (after : Env) (ts : List (Option TExpr)) : Type 0 where
  agrees : Agrees l after
  of : j.of ≡ g
  cases : (seen : List ℕ) (rest : List (Option TExpr)) → Covers g k.seen seen → ((later : List ℕ) → Covers g j.seen later → are_cases l ty later rest ≡ true) → are_cases l ty seen (ts ++ rest) ≡ true

record SectionsFit (l : Lists) (kernel : Bool) (g : Gentype) (ty : TypeId) (p : Setting) (k : Tested) (st after : State) (ss : List Section) : Type 0 where
  agrees : Agrees l after.env
  variables : are_variables l.types kernel st.vars ≡ true → are_variables l.types kernel after.vars ≡ true
  cases : (seen : List ℕ) → Covers g k.seen seen → are_cases l ty seen (labels_of (map tested_section ss)) ≡ true
  fits : sections_fit (frame l p) (map tested_section ss) ≡ true

number_shape : (s : Shape) → is_number s ≡ true → nat_lt 32 (tested_type s).bits ≡ false → nat_eq (tested_type s).count 1 ≡ true × (nat_eq (tested_type s).bits 32 ≡ true)
number_shape shape.Bool h k = (refl, refl)
number_shape (shape.Integers t) h k =
    let e : tested_type (shape.Integers t) ≡ promoted t = ap (λ b. if b then promoted t else int) h in
    let w : nat_lt 32 (promoted t).bits ≡ false = ap (λ z. nat_lt 32 z.bits) (sym e) ∙ k in
    let r = by t h (nat_lt t.bits 32) refl w in
    (ap (λ z. nat_eq z.count 1) e ∙ r.0, ap (λ z. nat_eq z.bits 32) e ∙ r.1)
  where
    by : (t : Gentype) → nat_eq t.count 1 ≡ true → (b : Bool) → nat_lt t.bits 32 ≡ b → nat_lt 32 (promoted t).bits ≡ false → nat_eq (promoted t).count 1 ≡ true × (nat_eq (promoted t).bits 32 ≡ true)
    by t h true e w =
        let p : promoted t ≡ int = λ i. if h i && e i then int else t in
        (ap (λ z. nat_eq z.count 1) p, ap (λ z. nat_eq z.bits 32) p)
    by t h false e w =
        let p : promoted t ≡ t = λ i. if h i && e i then int else t in
        let a = ltb-false t.bits 32 e in
        let b = ltb-false 32 t.bits (ap (λ z. nat_lt 32 z.bits) (sym p) ∙ w) in
        (ap (λ z. nat_eq z.count 1) p ∙ h, ap (λ z. nat_eq z.bits 32) p ∙ eq-eqb t.bits 32 (omega arith))
number_shape s h k = absurd (true≢false (sym h))

few_held : (n : ℕ) (b : Bool) → n + 0 ≡ held b → nat_le n 1 ≡ true
few_held n true e = le-leb n 1 (omega (arith, e))
few_held n false e = le-leb n 1 (omega (arith, e))

-- ---- `return`

record IsReturned (cs : List ClType) (o : Operand) (result : TypeId) : Type 0 where
  some : is_void (shape_of cs result) ≡ false
  value : no_value o (target cs result) ≡ false
  pointer : no_pointer o (target cs result) ≡ false

returned : (cs : List ClType) (o : Operand) (result : TypeId) → first_broken (return_tests cs result (Some o)) ≡ None → IsReturned cs o result
returned cs o result h = by (is_void (shape_of cs result)) refl h
  where
    by : (v : Bool) → is_void (shape_of cs result) ≡ v → first_broken (if v then (323, true) ∷ [] else (311, no_value o (target cs result)) ∷ (333, no_pointer o (target cs result)) ∷ []) ≡ None → IsReturned cs o result
    by true e h = absurd (true≢false (ap is_some h))
    by false e h = record {
      some = e;
      value = test_kept (311, no_value o (target cs result)) ((333, no_pointer o (target cs result)) ∷ []) h;
      pointer = test_kept (333, no_pointer o (target cs result)) [] (tests_kept (311, no_value o (target cs result)) ((333, no_pointer o (target cs result)) ∷ []) h);
    }

-- ---- statements

module _ (l : Lists) (b : IsTable l.types) (parts : ExpressionsFit l) (kernel : Bool) where
  -- an expression in a statement
  typed_is : (u : TExpr) (o : Operand) → IsTypedAs l u o → is_typed l u ≡ true
  typed_is u o r = ap (λ z. is_some (type_in z)) r.facts

  condition_is : (u : TExpr) (o : Operand) → IsTypedAs l u o → no_condition o ≡ false → is_condition l u ≡ true
  condition_is u o r h = ap (λ z. is_condition_of l (type_in z)) r.facts ∙ ap is_number (sym r.ready.shape) ∙ not-false (is_number o.shape) h

  may_be_fits : (env : Env) (e : Option Expr) (after : Env) (t : Option TExpr) (o : Option Operand) → MayBeTyped l.types env e after t o → Agrees l env → Agrees l after × (may_be_typed l t ≡ true)
  may_be_fits _ _ _ _ _ (left_out env) a = (a, refl)
  may_be_fits _ _ _ _ _ (written env after e t o h) a =
      let r = parts.types _ _ _ _ _ _ h a in
      (r.0, typed_is t o r.1)

  for_condition_fits : (place : Place) (env : Env) (e : Option Expr) (after : Env) (t : TExpr) (o : Operand) → IsForCondition l.types place env e after t o → Agrees l env → Agrees l after × IsTypedAs l t o
  for_condition_fits place _ _ _ _ _ (condition_missing env t o h) a = (a, number_typed l int 1 place t o refl h)
  for_condition_fits place _ _ _ _ _ (condition_given env after e t o h) a = parts.types _ _ _ _ _ _ h a

  number_becomes : (g : Gentype) (u : TExpr) (o : Operand) → IsTypedAs l u o → is_number o.shape ≡ true → Converts l (want.Of (shape.Integers g)) o
  number_becomes g u o r h = λ ty w. number_converts l o.facts g ty (subst (λ s. is_number s ≡ true) r.ready.shape h) (shape_wanted l.types (shape.Integers g) ty w)

  one_type : (g : Gentype) (t u : TypeId) → IsWanted l.types (want.Of (shape.Integers g)) t → IsWanted l.types (want.Of (shape.Integers g)) u → same_type t u ≡ true
  one_type g t u h k =
      let e : t ≡ u = same_wanted l.types (shape.Integers g) t u b refl h k in
      eq-eqb t.0 u.0 (ap (λ z. z.0) e)

  -- ---- variables

  variables_fit : (p : Setting) (st : State) (q : Qualified) (ds : List InitDeclor) (after : State) (ts : List TStmt) → AreVariables l.types p st q ds after ts → MayStand p.variables kernel → IsReadyType l.types q → HasVariables l after → Agrees l st.env → Fits l kernel st after (all_fit (frame l p) (map tested ts))
  variables_fit p _ _ _ _ _ (no_variable st q) may ready has a = record { agrees = a; variables = λ h. h; fits = refl }
  variables_fit p _ _ _ _ _ (more_variables st after q d ds env name place ty own t s ss h0 h1 h2) may ready has a =
      let v : Variable = record { name = name; ty = ty; space = own; place = place } in
      let k = length st.vars in
      let at : slice_get l.vars k ≡ Some v = has k v ((variables_go l.types p _ _ _ _ _ h2).vars k v (get_here st.vars v)) in
      let r = parts.variable p.variables k st.env q d env name place ty own t v ready h0 at refl refl a in
      let stands = parts.stands p.variables k st.env q d env name place ty own t kernel v ready h0 may refl refl in
      let rest = variables_fit p _ _ _ _ _ h2 may ready has r.0 in
      record {
        agrees = rest.agrees;
        variables = λ h. rest.variables (variables_append l.types kernel st.vars v h stands);
        fits = and_from ((tested s).fits (frame l p)) (all_fit (frame l p) (map tested ss)) (decl_fits s (frame l p) k t h1.is ∙ ap (λ z. declares l z t) at ∙ r.1) rest.fits;
      }

  -- ---- labels

  module _ (g : Gentype) (one : nat_eq g.count 1 ≡ true) (wide : nat_eq g.bits 32 ≡ true) (ty : TypeId) (wanted : IsWanted l.types (want.Of (shape.Integers g)) ty) where
    labels_fit : (falls : Bool) (k : Tested) (env : Env) (ls : List Label) (j : Tested) (after : Env) (ts : List (Option TExpr)) → LabelsAre l.types falls k env ls j after ts → k.of ≡ g → Agrees l env → LabelsFit l g ty k j after ts
    labels_fit _ _ _ _ _ _ _ (no_label falls k env) of a = record { agrees = a; of = of; cases = λ seen rest c next. next seen c }
    labels_fit _ _ _ _ _ _ _ (default_label falls k j env after lab ls ts h0 h1 h2) of a =
        let r = labels_fit _ _ _ _ _ _ _ h2 of a in
        record { agrees = r.agrees; of = r.of; cases = r.cases }
    labels_fit _ _ _ _ _ _ _ (case_label falls k j env middle after lab ls e t u o ts h0 h1 h2 h3 h4 h5) of a =
        let r = parts.types _ _ _ _ _ _ h1 a in
        let c = case_of l.types k.of o t in
        let num = not-false (is_number o.shape) (test_kept (311, not (is_number o.shape)) ((320, no_case c k.seen) ∷ []) h3) in
        let f = fresh_case c k.seen (test_kept (320, no_case c k.seen) [] (tests_kept (311, not (is_number o.shape)) ((320, no_case c k.seen) ∷ []) h3)) in
        let conv : IsConverted l.types (want.Of (shape.Integers g)) t u = subst (λ z. IsConverted l.types (want.Of (shape.Integers z)) t u) of h4 in
        let val = case_value l parts.bools g one wide t u o f.n r.1 num conv (ap (λ z. case_of l.types z o t) (sym of) ∙ f.is) in
        let bu = shape_behind l (shape.Integers g) t u o r.1 (number_becomes g t o r.1 num) conv in
        let next = labels_fit _ _ _ _ _ _ _ h5 (seen_of c k ∙ of) r.0 in
        let new : stmt.is_among (canon g val.m) k.seen ≡ false = ap (λ z. stmt.is_among z k.seen) val.same ∙ f.new in
        let grown : (and_seen c k).seen ≡ k.seen ++ canon g val.m ∷ [] = ap (λ z. (and_seen z k).seen) f.is ∙ ap (λ z. k.seen ++ z ∷ []) (sym val.same) in
        record {
          agrees = next.agrees;
          of = next.of;
          cases = λ seen rest cov more.
              let typed : has_type ty (type_of l u) ≡ true = ap (has_type ty) bu.typed ∙ one_type g ty bu.ty wanted bu.wanted in
              let unseen : is_new (number_of l.types u) seen ≡ true = ap (λ z. is_new z seen) val.is ∙ ap not (fresh g k.seen seen val.m cov new) in
              let later : are_cases l ty (and_value (number_of l.types u) seen) (ts ++ rest) ≡ true =
              ap (λ z. are_cases l ty (and_value z seen) (ts ++ rest)) val.is ∙
              next.cases (val.m ∷ seen) rest (subst (λ z. Covers g z (val.m ∷ seen)) (sym grown) (covers_more g k.seen seen val.m cov)) more in
              λ i. typed i && unseen i && later i;
        }

  -- ---- the cycle

  mutual
    pub items_fit : (p : Setting) (st : State) (ss : List Stmt) (after : State) (ts : List TStmt) → ItemsAre l.types p st ss after ts → MayStand p.variables kernel → HasVariables l after → Agrees l st.env → Fits l kernel st after (all_fit (frame l p) (map tested ts))
    items_fit _ _ _ _ _ (no_item p st) may has a = record { agrees = a; variables = λ h. h; fits = refl }
    items_fit _ _ _ _ _ (declaration_item p st typed middle after s ss place spec items env q ts us h0 h1 h2 h3) may has a =
        let r = parts.specified _ _ _ _ h1 a in
        let v = variables_fit p _ _ _ _ _ h2 may r.1 (λ k x e. has k x ((items_go l.types _ _ _ _ _ h3).vars k x e)) r.0 in
        let i = items_fit _ _ _ _ _ h3 may has v.agrees in
        record { agrees = i.agrees; variables = λ h. i.variables (v.variables h); fits = all_append (frame l p) ts us v.fits i.fits }
    items_fit _ _ _ _ _ (statement_item p st middle after s ss t ts h0 h1) may has a =
        let r = stmt_fits _ _ _ _ _ h0 may (λ k x e. has k x ((items_go l.types _ _ _ _ _ h1).vars k x e)) a in
        let i = items_fit _ _ _ _ _ h1 may has r.agrees in
        record { agrees = i.agrees; variables = λ h. i.variables (r.variables h); fits = and_from ((tested t).fits (frame l p)) (all_fit (frame l p) (map tested ts)) r.fits i.fits }

    pub stmt_fits : (p : Setting) (st : State) (s : Stmt) (after : State) (t : TStmt) → StmtIs l.types p st s after t → MayStand p.variables kernel → HasVariables l after → Agrees l st.env → Fits l kernel st after ((tested t).fits (frame l p))
    stmt_fits _ _ _ _ _ (block p st after s place items ts t h0 h1 h2) may has a =
        let r = items_fit _ _ _ _ _ h1 tt has (entered_agrees l st.env a) in
        record { agrees = left_agrees l st.env after.env a r.agrees; variables = r.variables; fits = block_fits t (frame l p) ts h2.is ∙ r.fits }
    stmt_fits _ _ _ _ _ (expression p st s place e env u o t h0 h1 h2) may has a =
        let r = parts.types _ _ _ _ _ _ h1 a in
        record { agrees = r.0; variables = λ h. h; fits = expr_fits t (frame l p) u h2.is ∙ typed_is u o r.1 }
    stmt_fits _ _ _ _ _ (choice p st after s place e arms env u o ts t h0 h1 h2 h3 h4) may has a =
        let r = parts.types _ _ _ _ _ _ h1 (entered_agrees l st.env a) in
        let i = arms_fit _ _ _ _ _ h2 tt has r.0 in
        record {
          agrees = left_agrees l st.env after.env a i.agrees;
          variables = i.variables;
          fits = if_fits t (frame l p) u ts h4.is ∙ and_from (is_condition l u) (all_fit (frame l p) (map tested ts.items)) (condition_is u o r.1 h3) i.fits;
        }
    stmt_fits _ _ _ _ _ (while_loop p st after s place e body env u o ts t h0 h1 h2 h3 h4) may has a =
        let r = parts.types _ _ _ _ _ _ h1 (entered_agrees l st.env a) in
        let i = arms_fit _ _ _ _ _ h2 tt has r.0 in
        record {
          agrees = left_agrees l st.env after.env a i.agrees;
          variables = i.variables;
          fits = while_fits t (frame l p) u ts h4.is ∙ and_from (is_condition l u) (all_fit (in_loop (frame l p)) (map tested ts.items)) (condition_is u o r.1 h3) i.fits;
        }
    stmt_fits _ _ _ _ _ (do_loop p st middle s place e body env u o ts t h0 h1 h2 h3 h4) may has a =
        let i = arms_fit _ _ _ _ _ h1 tt has (entered_agrees l st.env a) in
        let r = parts.types _ _ _ _ _ _ h2 i.agrees in
        record {
          agrees = left_agrees l st.env env a r.0;
          variables = i.variables;
          fits = do_fits t (frame l p) ts u h4.is ∙ and_from (is_condition l u) (all_fit (in_loop (frame l p)) (map tested ts.items)) (condition_is u o r.1 h3) i.fits;
        }
    stmt_fits _ _ _ _ _ (for_loop p st declared after s place decl body first cond next x y z t1 o1 u o t3 o3 ds ts t h0 h1 h2 h3 h4 h5 h6 h7) may has a =
        let d = items_fit _ _ _ _ _ h1 tt (λ k v e. has k v ((arms_go l.types _ _ _ _ _ h5).vars k v e)) (entered_agrees l st.env a) in
        let m1 = may_be_fits _ _ _ _ _ h2 d.agrees in
        let c = for_condition_fits place _ _ _ _ _ h3 m1.0 in
        let m3 = may_be_fits _ _ _ _ _ h4 c.0 in
        let i = arms_fit _ _ _ _ _ h5 tt has m3.0 in
        let cond = condition_is u o c.1 h6 in
        record {
          agrees = left_agrees l st.env after.env a i.agrees;
          variables = λ h. i.variables (d.variables h);
          fits = for_fits t (frame l p) ds t1 u t3 ts h7.is ∙ (λ j. d.fits j && m1.1 j && cond j && m3.1 j && i.fits j);
        }
    stmt_fits _ _ _ _ _ (switch p st after s place e groups env u v o sections t h0 h1 h2 h3 h4 h5) may has a =
        let r = parts.types _ _ _ _ _ _ h1 (entered_agrees l st.env a) in
        let g = tested_type o.shape in
        let x = or_parts (not (is_number o.shape)) (nat_lt 32 g.bits) h3 in
        let num = not-false (is_number o.shape) x.0 in
        let w = number_shape o.shape num x.1 in
        let bv = shape_behind l (shape.Integers g) u v o r.1 (number_becomes g u o r.1 num) h4 in
        let i = sections_fit_all g w.0 w.1 bv.ty bv.wanted _ _ _ _ _ _ h2 refl tt has r.0 in
        let n = sections_count l.types _ _ _ _ _ _ h2 in
        let ss = map tested_section sections.items in
        let is : is_tested (shape_of l.types bv.ty) ≡ true = ap is_tested (shape_wanted l.types (shape.Integers g) bv.ty bv.wanted) ∙ and_from (nat_eq g.count 1) (nat_eq g.bits 32) w.0 w.1 in
        let cases = i.cases [] (λ m h. absurd (true≢false (sym h))) in
        let few : nat_le (defaults (labels_of ss)) 1 ≡ true = few_held (defaults (labels_of ss)) n.0 n.1 in
        let ends = sections_end l.types _ _ _ _ _ _ h2 in
        record {
          agrees = left_agrees l st.env after.env a i.agrees;
          variables = i.variables;
          fits =
              switch_fits t (frame l p) v sections h5.is ∙ ap (λ k. switches_at (frame l p) k ss) bv.typed ∙
              (λ j. is j && cases j && few j && ends j && i.fits j);
        }
    stmt_fits _ _ _ _ _ (break p st s place t h0 h1 h2) may has a = record { agrees = a; variables = λ h. h; fits = break_fits t (frame l p) h2.is ∙ h1 }
    stmt_fits _ _ _ _ _ (continue p st s place t h0 h1 h2) may has a = record { agrees = a; variables = λ h. h; fits = continue_fits t (frame l p) h2.is ∙ h1 }
    stmt_fits _ _ _ _ _ (return p st s place t h0 h1 h2) may has a = record {
      agrees = a;
      variables = λ h. h;
      fits = return_fits t (frame l p) None h2.is ∙ not-false (is_void (shape_of l.types p.result)) (test_kept (323, not (is_void (shape_of l.types p.result))) [] h1);
    }
    stmt_fits _ _ _ _ _ (return_value p st s place e env u v o t h0 h1 h2 h3 h4) may has a =
        let r = parts.types _ _ _ _ _ _ h1 a in
        let k = returned l.types o p.result h2 in
        let bv = type_behind l p.result u v o r.1 (λ ty w. subst (λ z. converts_to l o.facts z (shape_of l.types z) ≡ true) (sym (number_wanted l.types p.result ty w)) (target_converts l o p.result (shape_of l.types p.result) r.1.ready k.value k.pointer)) h3 in
        let typed : has_type p.result (type_of l v) ≡ true = ap (has_type p.result) bv.typed ∙ eq-eqb p.result.0 bv.ty.0 (ap (λ z. z.0) (sym (number_wanted l.types p.result bv.ty bv.wanted))) in
        record { agrees = r.0; variables = λ h. h; fits = return_fits t (frame l p) (Some v) h4.is ∙ and_from (has_type p.result (type_of l v)) (not (is_void (shape_of l.types p.result))) typed (ap not k.some) }
    stmt_fits _ _ _ _ _ (empty p st s place t h0 h1) may has a = record { agrees = a; variables = λ h. h; fits = empty_fits t (frame l p) h1.is }

    arms_fit : (p : Setting) (st : State) (ss : List Stmt) (after : State) (ts : List TStmt) → ArmsAre l.types p st ss after ts → MayStand p.variables kernel → HasVariables l after → Agrees l st.env → Fits l kernel st after (all_fit (frame l p) (map tested ts))
    arms_fit _ _ _ _ _ (no_arm p st) may has a = record { agrees = a; variables = λ h. h; fits = refl }
    arms_fit _ _ _ _ _ (more_arms p st middle after s ss t ts h0 h1) may has a =
        let r = stmt_fits _ _ _ _ _ h0 may (λ k x e. has k x ((arms_go l.types _ _ _ _ _ h1).vars k x e)) (entered_agrees l st.env a) in
        let i = arms_fit _ _ _ _ _ h1 may has (left_agrees l st.env middle.env a r.agrees) in
        record { agrees = i.agrees; variables = λ h. i.variables (r.variables h); fits = and_from ((tested t).fits (frame l p)) (all_fit (frame l p) (map tested ts)) r.fits i.fits }
    arms_fit _ _ _ _ _ (declaration_arm p st middle after s ss place spec items us t ts h0 h1 h2 h3) may has a =
        let r = items_fit _ _ _ _ _ h1 may (λ k x e. has k x ((arms_go l.types _ _ _ _ _ h3).vars k x e)) (entered_agrees l st.env a) in
        let i = arms_fit _ _ _ _ _ h3 may has (left_agrees l st.env middle.env a r.agrees) in
        record { agrees = i.agrees; variables = λ h. i.variables (r.variables h); fits = and_from ((tested t).fits (frame l p)) (all_fit (frame l p) (map tested ts)) (block_fits t (frame l p) us h2.is ∙ r.fits) i.fits }

    sections_fit_all : (g : Gentype) → nat_eq g.count 1 ≡ true → nat_eq g.bits 32 ≡ true → (ty : TypeId) → IsWanted l.types (want.Of (shape.Integers g)) ty → (p : Setting) (k : Tested) (st : State) (gs : List Group) (after : State) (ss : List Section) → SectionsAre l.types p k st gs after ss → k.of ≡ g → MayStand p.variables kernel → HasVariables l after → Agrees l st.env → SectionsFit l kernel g ty p k st after ss
    sections_fit_all g one wide ty wanted _ _ _ _ _ _ (no_section p k st) of may has a = record { agrees = a; variables = λ h. h; cases = λ seen c. refl; fits = refl }
    sections_fit_all g one wide ty wanted _ _ _ _ _ _ (more_sections p k j st middle after gr gs labels body env ls ts s ss h0 h1 h2 h3 h4) of may has a =
        let lf = labels_fit g one wide ty wanted _ _ _ _ _ _ _ h1 of a in
        let r = items_fit _ _ _ _ _ h2 may (λ n x e. has n x ((sections_go l.types _ _ _ _ _ _ h4).vars n x e)) lf.agrees in
        let i = sections_fit_all g one wide ty wanted _ _ _ _ _ _ h4 lf.of may has r.agrees in
        record {
          agrees = i.agrees;
          variables = λ h. i.variables (r.variables h);
          cases = λ seen c.
              ap (λ z. are_cases l ty seen (z ++ labels_of (map tested_section ss))) (ap (λ x. x.labels) (section_is s) ∙ h3.under) ∙
              lf.cases seen (labels_of (map tested_section ss)) c (λ later d. i.cases later d);
          fits =
              and_from ((tested_section s).fits (frame l p)) (sections_fit (frame l p) (map tested_section ss))
              (ap (λ x. x.fits (frame l p)) (section_is s) ∙ ap (λ z. all_fit (frame l p) (map tested z)) h3.has ∙ r.fits) i.fits;
        }
