-- Nodes of typed operands, each from what its rule says of them.
use Rattle.std.proofs.Common.{◌≡◌, ℕ, Bool, true, false, if◌then◌else◌, List, [], ◌∷◌, length, map, take, get_or, Option, Some, None, is_some, Result, Ok, Err, refl, sym, ap, ◌∙◌, subst, arith, nat_eq, not, ◌||◌, ◌&&◌, slice_get}
use Rattle.std.specs.Prelude.{IfOk, IfErr, IsErrAnd}
use Rattle.std.proofs.lemmas.Result.{err_from_is_err_and}
use Rattle.std.proofs.lemmas.List.{length-map}
use Rattle.std.proofs.lemmas.List.Elements.{All-head, All-tail, All-weaker, All-cons, All-nil}
use Rattle.clv_place.specs.declared.place.Place.{Place}
use Rattle.clv_place.specs.declared.stop.Stop.{Stop}
use Rattle.clv_place.specs.declared.stop.Stop.TheVariants.{Out, NoMemory}
use Rattle.cl_types.specs.declared.types.ClType.{ClType}
use Rattle.cl_types.specs.declared.types.ClType.TheVariants as ty
use Rattle.cl_types.specs.declared.types.TypeId.{TypeId}
use Rattle.cl_types.specs.declared.operator.UnOp.TheVariants as un
use Rattle.cl_types.specs.Layout.{size_of}
use Rattle.cl_types.specs.Table.{IsTable, is_sized, tree_of as layout}
use Rattle.cl_builtins.specs.Kinds.{int, uint, element_of, is_gentype}
use Rattle.cl_builtins.specs.Found.{IsKnown, IsGrown}
use Rattle.cl_builtins.proofs.Growth.{grown_twice, grown_known}
use Rattle.cl_ast.specs.declared.expression.Expr.{Expr}
use Rattle.cl_ast.specs.declared.expression.ExprNode.{ExprNode}
use Rattle.cl_ast.specs.declared.expression.ExprNode.TheVariants as node
use Rattle.cl_ast.specs.declared.expression.TypeTerm.{TypeTerm}
use Rattle.cl_ast.specs.declared.expression.Base.TheViews.{out-Expr, out-TypeTerm}
use Rattle.cl_tree.specs.declared.shape.Shape.{Shape}
use Rattle.cl_tree.specs.Constants.{constancy_of, divides, number_of, number_in}
use Rattle.cl_tree.specs.Shapes.{shape_of, shape_in, members_of, is_void, is_vector}
use Rattle.cl_scope.specs.declared.scope.Declared.{Declared}
use Rattle.cl_scope.specs.Names.{Env, find}
use Rattle.cl_scope.specs.Scopes.{IsKnownEnv}
use Rattle.cl_rules.specs.declared.rule.Head.{Head}
use Rattle.cl_rules.specs.declared.rule.Head.TheVariants as head
use Rattle.cl_rules.specs.declared.rule.Judged.{Judged}
use Rattle.cl_rules.specs.declared.rule.Judged.TheVariants.{Broken, Makes}
use Rattle.cl_rules.specs.declared.rule.Made.{Made}
use Rattle.cl_rules.specs.declared.rule.Operand.{Operand}
use Rattle.cl_rules.specs.declared.rule.Qualified.{Qualified}
use Rattle.cl_rules.specs.Operands.{first_broken, component, integers, type_of}
use Rattle.cl_rules.specs.Operators.{dereferenced}
use Rattle.cl_rules.specs.Parts.{member}
use Rattle.cl_rules.specs.Calls.{cast_rule, literal, no_size, no_space, size_tests}
use Rattle.cl_words.specs.Words.{restrict_behind}
use Rattle.cl_make.specs.declared.typed.Typed.{Typed}
use Rattle.cl_make.specs.Building.{IsMade, IsNumber, number_type, name_head}
use Rattle.cl_make.specs.Answered.{IsMadeOf, IsNumberOf, IsNamedOf}
use Rattle.cl_make.specs.Ready.{IsReady, AreReady, IsReadyOperand, IsReadyType, AreKnownOperands, tree_of, operand_in}
use Rattle.cl_make.proofs.Growing.{none_some, layout_stays, members_stay}
use Rattle.cl_make.proofs.Stays.{constancy_stays, number_of_stays}
use Rattle.cl_make.proofs.Trees.{ready_stable}
use Rattle.cl_make.specs.Wanted.{IsAsked}
use Rattle.cl_make.proofs.Asked.{Asked, AskedIf, operands_ready, element_asked}
use Rattle.cl_type_expr.specs.Judging.{judge, IsVectorIndexed}
use Rattle.cl_type_expr.specs.Syntax.{IsExpr, IsTerm}
use Rattle.cl_type_expr.specs.Expressions.{first_left, is_value, term_size, component_in, Types, AreTyped, IsTermOf, IsSpecified, name as a_name, literal_number, operation, arrow as behind_arrow, component_at, size_of_value, size_of_type, cast, vector_literal, in_brackets}
use Rattle.cl_type_expr.specs.Offences.{at, Offends, unknown, operation as breaks, no_pointer, no_member, index_divides, no_component, no_size_of_value, no_size_of_type, no_cast as no_such_cast, no_vector as no_such_vector}
use Rattle.cl_type_expr.specs.Typing.{AreTypedAs, NodeIs, NodeStops, TermNodeIs, TermNodeStops, JudgedAsks, JudgedIs, JudgedStops, SizeIs, SizeStops, MemberIs, MemberStops}
use Rattle.cl_type_expr.proofs.Judging.{judge_stays, judge_asks}

-- ---- results

pub if_ok : {A E : Type 0} (r : Result A E) (P Q : A → Type 0) → ((x : A) → P x → Q x) → IfOk r P → IfOk r Q
if_ok (Ok x) P Q f h = f x h
if_ok (Err e) P Q f h = tt

pub if_err : {A E : Type 0} (r : Result A E) (P Q : E → Type 0) → ((x : E) → P x → Q x) → IfErr r P → IfErr r Q
if_err (Ok x) P Q f h = tt
if_err (Err e) P Q f h = f e h

pub stop_exit : {A E : Type 0} (r : Result A E) (e : E) (P : E → Type 0) → IsErrAnd r (λ x. x ≡ e) → P e → IfErr r P
stop_exit r e P is h = let p = err_from_is_err_and r is in subst (λ z. IfErr z P) (sym (p.1 ∙ ap Err p.2)) h

pub no_ok : {A : Type 0} (r : Result A Stop) (e : Stop) (P : A → Type 0) → IsErrAnd r (λ x. x ≡ e) → IfOk r P
no_ok r e P is = let p = err_from_is_err_and r is in subst (λ z. IfOk z P) (sym (p.1 ∙ ap Err p.2)) tt

-- ---- nodes by their fields

pub is_expr : (e : Expr) → IsExpr e (out-Expr e).place (out-Expr e).node (out-Expr e).args.items
is_expr e = record { at = refl; is = refl; has = refl }

pub is_node : (e : Expr) (n : ExprNode) → (out-Expr e).node ≡ n → IsExpr e (out-Expr e).place n (out-Expr e).args.items
is_node e n is = record { at = refl; is = is; has = refl }

pub is_term : (term : TypeTerm) → IsTerm term (out-TypeTerm term).spec (out-TypeTerm term).star
is_term term = record { is = refl; has = refl }

-- the operands, of which the first is on the left or not as the node says
pub flagged : (cs : List ClType) (env after : Env) (left : Bool) (e : Expr) (n : ExprNode) (rs : List Typed) → (out-Expr e).node ≡ n → AreTypedAs cs env (first_left left (out-Expr e).node) (out-Expr e).args.items after rs → AreTypedAs cs env (first_left left n) (out-Expr e).args.items after rs
flagged cs env after left e n rs is typed = subst (λ m. AreTypedAs cs env (first_left left m) (out-Expr e).args.items after rs) is typed

-- ---- operands that are ready

operand_known : (cs : List ClType) (o : Operand) → IsReadyOperand cs o → IsKnown cs o.facts.ty
operand_known cs o h = h.known

pub operands_known : (cs : List ClType) (rs : List Typed) → AreReady cs rs → AreKnownOperands cs (map operand_in rs)
operands_known cs rs h = All-weaker (IsReadyOperand cs) (λ o. IsKnown cs o.facts.ty) (λ o k. operand_known cs o k) (map operand_in rs) (operands_ready cs rs h)

-- ---- what a rule says

asks : (cs : List ClType) (n : ℕ) (j : Judged) → Asked cs n j → JudgedAsks cs n j
asks cs n (Broken code) h = tt
asks cs n (Makes m) h = h

pub judged_asks : (cs : List ClType) (n m : ℕ) (j : Judged) → n ≡ m → Asked cs n j → JudgedAsks cs m j
judged_asks cs n m j e h = asks cs m j (subst (λ k. Asked cs k j) e h)

pub node_asks : (cs : List ClType) (env : Env) (left : Bool) (n : ExprNode) (rs : List Typed) (j : Judged) → IsTable cs → IsKnownEnv cs env → AreReady cs rs → judge cs env left n (map operand_in rs) ≡ Some j → JudgedAsks cs (length rs) j
node_asks cs env left n rs j b k h e =
    judged_asks cs (length (map operand_in rs)) (length rs) j (length-map rs operand_in)
    (subst (AskedIf cs (length (map operand_in rs))) e (judge_asks cs b env left n (map operand_in rs) k (operands_ready cs rs h)))

-- what was judged of the operands' list
pub judged_same : (cs : List ClType) (env : Env) (left : Bool) (n : ExprNode) (rs : List Typed) (os : List Operand) (j r : Option Judged) → os ≡ map operand_in rs → j ≡ judge cs env left n os → j ≡ r → judge cs env left n (map operand_in rs) ≡ r
judged_same cs env left n rs os j r same is e = ap (judge cs env left n) (sym same) ∙ sym is ∙ e

pub judged_broken : (j : Judged) (place : Place) (code : ℕ) (s : Stop) → j ≡ Broken code → s ≡ Out (at code place) → JudgedStops j place s
judged_broken j place code s e is = subst (JudgedStops j place) (sym is) (refl, e)

module _ (old new : List ClType) (b : IsTable old) (g : IsGrown old new) (after : Env) (left : Bool) (e : Expr) (rs : List Typed) (k : IsKnownEnv old after) (h : AreReady old rs) where
  pub judged_later : (n : ExprNode) (j : Option Judged) (more : List ClType) → IsGrown new more → judge old after left n (map operand_in rs) ≡ j → judge more after left n (map operand_in rs) ≡ j
  judged_later n j more m is = judge_stays old more b (grown_twice old new more g m) after left n (map operand_in rs) k (operands_known old rs h) ∙ is

  pub node_ok : (j : Judged) (r : Typed) → judge old after left (out-Expr e).node (map operand_in rs) ≡ Some j → JudgedIs new j (out-Expr e).place rs r → NodeIs new after left e rs r
  node_ok j r is made = record {
    types = λ more m env typed. operation env after left e (out-Expr e).place (out-Expr e).node (out-Expr e).args.items (map tree_of rs) (map operand_in rs) made.rule r.tree r.operand (is_expr e) typed
        (judged_later (out-Expr e).node (Some j) more m is ∙ ap Some made.judged) (made.made.made more m);
    ready = made.made.ready;
  }

  pub node_out : (j : Judged) (s : Stop) → judge old after left (out-Expr e).node (map operand_in rs) ≡ Some j → JudgedStops j (out-Expr e).place s → NodeStops new after left e rs s
  node_out j NoMemory is stops = tt
  node_out j (Out o) is stops = λ more m env typed.
      subst (λ p. Offends more env left e (at o.code p)) (sym stops.0)
      (breaks env after left e (out-Expr e).place (out-Expr e).node (out-Expr e).args.items (map tree_of rs) (map operand_in rs) o.code (is_expr e) typed (judged_later (out-Expr e).node (Some j) more m is ∙ ap Some stops.1))

-- ---- names and numbers

pub name_out : (cs : List ClType) (after : Env) (left : Bool) (e : Expr) (rs : List Typed) (text : List ℕ) → (out-Expr e).node ≡ node.Name text → is_value (find after text) ≡ false → NodeStops cs after left e rs (Out (at 301 (out-Expr e).place))
name_out cs after left e rs text is none = λ more m env typed.
    unknown env after left e (out-Expr e).place text (out-Expr e).args.items (map tree_of rs) (map operand_in rs) (is_node e (node.Name text) is) (flagged more env after left e (node.Name text) rs is typed) none

pub no_value : (d : Declared) → name_head d.kind ≡ None → is_value (Some d) ≡ false
no_value d e = ap is_some e

pub name_ok : (cs : List ClType) (after : Env) (left : Bool) (e : Expr) (rs : List Typed) (text : List ℕ) (d : Declared) (h : Head) (r : Typed) → (out-Expr e).node ≡ node.Name text → find after text ≡ Some d → name_head d.kind ≡ Some h → IsKnown cs d.ty → IsNamedOf cs d h (out-Expr e).place r → NodeIs cs after left e rs r
name_ok cs after left e rs text d h r is found head known named = record {
  types = λ more m env typed. subst (λ o. Types more env left e after r.tree o) (sym (named.operand more m))
      (a_name env after left e (out-Expr e).place text (out-Expr e).args.items (map tree_of rs) (map operand_in rs) d h r.tree (is_node e (node.Name text) is)
      (flagged more env after left e (node.Name text) rs is typed) found head (grown_known cs more d.ty m known) named.node);
  ready = named.ready;
}

pub number_fine : (ty : ℕ) → is_gentype (number_type ty) ≡ true
number_fine ty = by (nat_eq ty 0) (nat_eq ty 1) (nat_eq ty 2)
  where
    by : (a b s : Bool) → is_gentype (if a then int else if b then uint else record { bits = 64; signed = s; count = 1 }) ≡ true
    by true b s = refl
    by false true s = refl
    by false false s = refl

pub literal_ok : (cs : List ClType) (after : Env) (left : Bool) (e : Expr) (rs : List Typed) (n t : ℕ) (r : Typed) → (out-Expr e).node ≡ node.Number n t → IsNumberOf cs (number_type t) n (out-Expr e).place r → NodeIs cs after left e rs r
literal_ok cs after left e rs n t r is made = record {
  types = λ more m env typed. literal_number env after left e (out-Expr e).place n t (out-Expr e).args.items (map tree_of rs) (map operand_in rs) r.tree r.operand (is_node e (node.Number n t) is)
      (flagged more env after left e (node.Number n t) rs is typed) (made.number more m);
  ready = made.ready;
}

-- ---- single operands

pub alone : (rs : List Typed) (r : Typed) → length rs ≡ 1 → r ≡ get_or rs 0 r → rs ≡ r ∷ []
alone [] r l is = absurd (omega arith)
alone (a ∷ []) r l is = ap (λ z. z ∷ []) (sym is)
alone (a ∷ b ∷ rs) r l is = absurd (omega arith)

pub one_ready : (cs : List ClType) (rs : List Typed) (r : Typed) → length rs ≡ 1 → r ≡ get_or rs 0 r → AreReady cs rs → IsReady cs r
one_ready cs rs r l is h = All-head (IsReady cs) r [] (subst (AreReady cs) (alone rs r l is) h)

-- ---- sizes

sized_in : (cs : List ClType) (o : Option ClType) → is_void (shape_in cs o) ≡ false → is_sized o ≡ true
sized_in cs None h = sym h
sized_in cs (Some ty.Void) h = sym h
sized_in cs (Some ty.Bool) h = refl
sized_in cs (Some (ty.Int bits signed)) h = refl
sized_in cs (Some (ty.Vector elem n)) h = refl
sized_in cs (Some (ty.Array elem n)) h = refl
sized_in cs (Some (ty.Struct name members)) h = refl
sized_in cs (Some (ty.Pointer space to readonly restricted)) h = refl

pub sized : (cs : List ClType) (s : Shape) (t : TypeId) → s ≡ shape_of cs t → is_void s ≡ false → is_sized (slice_get cs t.0) ≡ true
sized cs s t e h = sized_in cs (slice_get cs t.0) (ap is_void (sym e) ∙ h)

or_first : (a b : Bool) → (a || b) ≡ false → a ≡ false
or_first true b h = h
or_first false b h = refl

pub size_void : (o : Operand) → no_size o ≡ false → is_void o.shape ≡ false
size_void o h = or_first (is_void o.shape) (not o.complete) h

pub size_value_out : (cs : List ClType) (after : Env) (left : Bool) (e : Expr) (rs : List Typed) (r : Typed) → (out-Expr e).node ≡ node.Unary un.Sizeof → rs ≡ r ∷ [] → no_size r.operand ≡ true → NodeStops cs after left e rs (Out (at 303 (out-Expr e).place))
size_value_out cs after left e rs r is only h = λ more m env typed.
    no_size_of_value env after left e (out-Expr e).place (out-Expr e).args.items r.tree r.operand (is_node e (node.Unary un.Sizeof) is)
    (subst (AreTypedAs more env false (out-Expr e).args.items after) only (flagged more env after left e (node.Unary un.Sizeof) rs is typed)) h

pub size_value_ok : (old cs : List ClType) (after : Env) (left : Bool) (e : Expr) (rs : List Typed) (r u : Typed) (n : ℕ) → IsGrown old cs → IsKnown old r.operand.facts.ty → (out-Expr e).node ≡ node.Unary un.Sizeof → rs ≡ r ∷ [] → no_size r.operand ≡ false → n ≡ size_of (layout old r.operand.facts.ty.0) → IsNumberOf cs uint n (out-Expr e).place u → NodeIs cs after left e rs u
size_value_ok old cs after left e rs r u n g known is only h size made = record {
  types = λ more m env typed. size_of_value env after left e (out-Expr e).place (out-Expr e).args.items r.tree u.tree r.operand u.operand (is_node e (node.Unary un.Sizeof) is)
      (subst (AreTypedAs more env false (out-Expr e).args.items after) only (flagged more env after left e (node.Unary un.Sizeof) rs is typed)) h
      (subst (λ z. IsNumber more uint z (out-Expr e).place u.tree u.operand) (size ∙ ap size_of (sym (layout_stays old more r.operand.facts.ty (grown_twice old cs more g m) known))) (made.number more m));
  ready = made.ready;
}

-- ---- members behind `->`

never_left : (l : Bool) → (l && not true) ≡ false
never_left true = refl
never_left false = refl

module _ (old mid new : List ClType) (after : Env) (left : Bool) (e : Expr) (name : List ℕ) (rs : List Typed) (r : Typed) (is : (out-Expr e).node ≡ node.Member name true) (only : rs ≡ r ∷ []) where
  arrow_operand : (more : List ClType) (env : Env) → AreTypedAs more env (first_left left (out-Expr e).node) (out-Expr e).args.items after rs → AreTyped more env false (out-Expr e).args.items after (r.tree ∷ []) (r.operand ∷ [])
  arrow_operand more env typed =
      let flag : first_left left (node.Member name true) ≡ false = never_left left in
      subst (AreTypedAs more env false (out-Expr e).args.items after) only
      (subst (λ z. AreTypedAs more env z (out-Expr e).args.items after rs) flag (flagged more env after left e (node.Member name true) rs is typed))

  pub arrow_no_pointer : (code : ℕ) → dereferenced r.operand r.operand.shape ≡ Broken code → NodeStops new after left e rs (Out (at code (out-Expr e).place))
  arrow_no_pointer code broken = λ more m env typed.
      no_pointer env after left e (out-Expr e).place name (out-Expr e).args.items r.tree r.operand code (is_node e (node.Member name true) is) (arrow_operand more env typed) broken

  -- what `*p` is, made in a table on the way
  made_one : (rule : Made) (whole : Typed) (more : List ClType) → IsMadeOf mid rule (out-Expr e).place rs whole → IsGrown mid more → IsMade more rule (out-Expr e).place (r.tree ∷ []) whole.tree whole.operand
  made_one rule whole more made g = subst (λ z. IsMade more rule (out-Expr e).place (map tree_of z) whole.tree whole.operand) only (made.made more g)

  pub arrow_ok : (rule : Made) (whole u : Typed) → IsGrown mid new → dereferenced r.operand r.operand.shape ≡ Makes rule → IsMadeOf mid rule (out-Expr e).place rs whole → MemberIs new (out-Expr e).place left name whole u → NodeIs new after left e rs u
  arrow_ok rule whole u g makes made of = record {
    types = λ more m env typed. behind_arrow env after left e (out-Expr e).place name (out-Expr e).args.items r.tree whole.tree u.tree r.operand whole.operand u.operand rule of.rule
        (is_node e (node.Member name true) is) (arrow_operand more env typed) makes (made_one rule whole more made (grown_twice mid new more g m)) (of.judged more m) (of.made.made more m);
    ready = of.made.ready;
  }

  pub arrow_out : (rule : Made) (whole : Typed) (s : Stop) → IsGrown mid new → dereferenced r.operand r.operand.shape ≡ Makes rule → IsMadeOf mid rule (out-Expr e).place rs whole → MemberStops new (out-Expr e).place left name whole s → NodeStops new after left e rs s
  arrow_out rule whole NoMemory g makes made stops = tt
  arrow_out rule whole (Out o) g makes made stops = λ more m env typed.
      subst (λ p. Offends more env left e (at o.code p)) (sym stops.0)
      (no_member env after left e (out-Expr e).place name (out-Expr e).args.items r.tree whole.tree r.operand whole.operand rule o.code (is_node e (node.Member name true) is) (arrow_operand more env typed) makes
      (made_one rule whole more made (grown_twice mid new more g m)) (stops.1 more m))

module _ (old new : List ClType) (place : Place) (left : Bool) (name : List ℕ) (whole : Typed) (g : IsGrown old new) (k : IsKnown old whole.operand.facts.ty) where
  member_later : (j : Judged) (more : List ClType) → IsGrown new more → member left (members_of old whole.operand.facts.ty) name whole.operand ≡ j → member left (members_of more whole.operand.facts.ty) name whole.operand ≡ j
  member_later j more m is = ap (λ ms. member left ms name whole.operand) (members_stay old more whole.operand.facts.ty (grown_twice old new more g m) k) ∙ is

  pub member_ok : (j : Judged) (rs : List Typed) (r : Typed) → rs ≡ whole ∷ [] → j ≡ member left (members_of old whole.operand.facts.ty) name whole.operand → JudgedIs new j place rs r → MemberIs new place left name whole r
  member_ok j rs r only is made = record {
    rule = made.rule;
    judged = λ more m. member_later (Makes made.rule) more m (sym is ∙ made.judged);
    made = subst (λ z. IsMadeOf new made.rule place z r) only made.made;
  }

  pub member_out : (j : Judged) (s : Stop) → j ≡ member left (members_of old whole.operand.facts.ty) name whole.operand → JudgedStops j place s → MemberStops new place left name whole s
  member_out j NoMemory is stops = tt
  member_out j (Out o) is stops = (stops.0, λ more m. member_later (Broken o.code) more m (sym is ∙ stops.1))

-- ---- components by number

-- two operands
pub both : (rs : List Typed) (r i : Typed) → length rs ≡ 2 → r ≡ get_or rs 0 r → i ≡ get_or rs 1 i → rs ≡ r ∷ i ∷ []
both [] r i l a b = absurd (omega arith)
both (x ∷ []) r i l a b = absurd (omega arith)
both (x ∷ y ∷ []) r i l a b = ap (λ z. z ∷ y ∷ []) (sym a) ∙ ap (λ z. r ∷ z ∷ []) (sym b)
both (x ∷ y ∷ z ∷ rs) r i l a b = absurd (omega arith)

pub second_ready : (cs : List ClType) (rs : List Typed) (r i : Typed) → rs ≡ r ∷ i ∷ [] → AreReady cs rs → IsReady cs i
second_ready cs rs r i two h = All-head (IsReady cs) i [] (All-tail (IsReady cs) r (i ∷ []) (subst (AreReady cs) two h))

pub first_ready : (cs : List ClType) (rs : List Typed) (r i : Typed) → rs ≡ r ∷ i ∷ [] → AreReady cs rs → IsReady cs r
first_ready cs rs r i two h = All-head (IsReady cs) r (i ∷ []) (subst (AreReady cs) two h)

-- the first of two operands alone
first_alone : (rs first : List Typed) (r i : Typed) → rs ≡ r ∷ i ∷ [] → first ≡ take 1 rs → first ≡ r ∷ []
first_alone rs first r i two only = only ∙ ap (take 1) two

pub alone_ready : (cs : List ClType) (rs first : List Typed) (r i : Typed) → rs ≡ r ∷ i ∷ [] → first ≡ take 1 rs → AreReady cs rs → AreReady cs first
alone_ready cs rs first r i two only h =
    subst (AreReady cs) (sym (first_alone rs first r i two only)) (All-cons (IsReady cs) r [] (first_ready cs rs r i two h) (All-nil (IsReady cs)))

pub component_asks : (cs : List ClType) (k : ℕ) (rs first : List Typed) (r i : Typed) (rule : Made) → IsTable cs → rs ≡ r ∷ i ∷ [] → first ≡ take 1 rs → AreReady cs rs → rule ≡ component (head.Components (k ∷ [])) (integers (element_of (type_of r.operand.shape))) r.operand → IsAsked cs rule (length first)
component_asks cs k rs first r i rule b two only h same =
    subst (λ z. IsAsked cs z (length first)) (sym same)
    (subst (IsAsked cs (component (head.Components (k ∷ [])) (integers (element_of (type_of r.operand.shape))) r.operand)) (sym (ap length (first_alone rs first r i two only)))
    (element_asked cs b (k ∷ []) r.operand (first_ready cs rs r i two h).operand))

module _ (old new : List ClType) (b : IsTable old) (after : Env) (left : Bool) (e : Expr) (rs : List Typed) (r i : Typed) (g : IsGrown old new) (ready : IsReady old i) (is : (out-Expr e).node ≡ node.Index) (two : rs ≡ r ∷ i ∷ []) (vector : IsVectorIndexed (map operand_in rs)) where
  is_indexed : is_vector r.operand.shape ≡ true
  is_indexed = subst (λ z. IsVectorIndexed (map operand_in z)) two vector

  index_operands : (more : List ClType) (env : Env) → AreTypedAs more env (first_left left (out-Expr e).node) (out-Expr e).args.items after rs → AreTypedAs more env left (out-Expr e).args.items after (r ∷ i ∷ [])
  index_operands more env typed = subst (AreTypedAs more env left (out-Expr e).args.items after) two (flagged more env after left e node.Index rs is typed)

  index_constancy : (more : List ClType) → IsGrown new more → constancy_of more i.tree ≡ constancy_of old i.tree
  index_constancy more m = constancy_stays old more i.tree (grown_twice old new more g m) ready.steady

  index_number : (more : List ClType) → IsGrown new more → number_of more i.tree ≡ number_of old i.tree
  index_number more m = number_of_stays old more i.tree b (grown_twice old new more g m) (ready_stable old i ready)

  pub component_divides : (p : Place) → divides (constancy_of old i.tree) ≡ Some p → NodeStops new after left e rs (Out (at 334 p))
  component_divides p h = λ more m env typed.
      index_divides env after left e (out-Expr e).place p (out-Expr e).args.items r.tree i.tree r.operand i.operand (is_node e node.Index is) (index_operands more env typed) is_indexed (ap divides (index_constancy more m) ∙ h)

  pub component_past : divides (constancy_of old i.tree) ≡ None → component_in (type_of r.operand.shape).count (number_of old i.tree) ≡ None → NodeStops new after left e rs (Out (at 307 (out-Expr e).place))
  component_past h past = λ more m env typed.
      no_component env after left e (out-Expr e).place (out-Expr e).args.items r.tree i.tree r.operand i.operand (is_node e node.Index is) (index_operands more env typed) is_indexed (ap divides (index_constancy more m) ∙ h)
      (ap (component_in (type_of r.operand.shape).count) (index_number more m) ∙ past)

  pub component_ok : (k : ℕ) (rule : Made) (first : List Typed) (u : Typed) → component_in (type_of r.operand.shape).count (number_of old i.tree) ≡ Some k → rule ≡ component (head.Components (k ∷ [])) (integers (element_of (type_of r.operand.shape))) r.operand → first ≡ take 1 rs → IsMadeOf new rule (out-Expr e).place first u → NodeIs new after left e rs u
  component_ok k rule first u found same only made = record {
    types = λ more m env typed. component_at env after left e (out-Expr e).place (out-Expr e).args.items r.tree i.tree u.tree r.operand i.operand u.operand k (is_node e node.Index is) (index_operands more env typed) is_indexed
        (ap (component_in (type_of r.operand.shape).count) (index_number more m) ∙ found)
        (subst (λ z. IsMade more z (out-Expr e).place (r.tree ∷ []) u.tree u.operand) same
        (subst (λ z. IsMade more rule (out-Expr e).place (map tree_of z) u.tree u.operand) (only ∙ ap (take 1) two) (made.made more m)));
    ready = made.ready;
  }

pub index_number_is : (cs : List ClType) (i : Typed) → IsReady cs i → number_in i.operand.shape (constancy_of cs i.tree) ≡ number_of cs i.tree
index_number_is cs i h = ap (λ s. number_in s (constancy_of cs i.tree)) (h.operand.shape ∙ ap (shape_of cs) (sym h.root))

-- ---- behind a type in brackets

-- whether the `*` of a type is `restrict`
abbrev pub Star : TypeTerm → Option Bool
Star term = restrict_behind (out-TypeTerm term).star

term_size_stays : (old more : List ClType) (q : Qualified) (star : Option Bool) → IsReadyType old q → IsGrown old more → term_size more q star ≡ term_size old q star
term_size_stays old more q None ready m = ap size_of (layout_stays old more q.ty m ready.known)
term_size_stays old more q (Some restricted) ready m = refl

module _ (cs : List ClType) (after : Env) (left : Bool) (e : Expr) (term : TypeTerm) (q : Qualified) (rs : List Typed) where
  of_term : (more : List ClType) (env middle : Env) → IsSpecified more env (out-TypeTerm term).spec middle q → IsTermOf more env term middle q (Star term)
  of_term more env middle spelled = in_brackets env middle term (out-TypeTerm term).spec (out-TypeTerm term).star q (is_term term) spelled

  pub cast_ok : (j : Judged) (r : Typed) → (out-Expr e).node ≡ node.Cast term → j ≡ cast_rule q (Star term) (map operand_in rs) → JudgedIs cs j (out-Expr e).place rs r → TermNodeIs cs after left e term q rs r
  cast_ok j r is rule made = record {
    types = λ more m env middle words typed. cast env middle after left e (out-Expr e).place term (out-Expr e).args.items q (Star term) (map tree_of rs) (map operand_in rs) made.rule r.tree r.operand (is_node e (node.Cast term) is)
        (of_term more env middle words) typed (sym rule ∙ made.judged) (made.made.made more m);
    ready = made.made.ready;
  }

  pub cast_out : (j : Judged) (s : Stop) → (out-Expr e).node ≡ node.Cast term → j ≡ cast_rule q (Star term) (map operand_in rs) → JudgedStops j (out-Expr e).place s → TermNodeStops cs after left e term q rs s
  cast_out j NoMemory is rule stops = tt
  cast_out j (Out o) is rule stops = λ more m env middle words typed.
      subst (λ p. Offends more env left e (at o.code p)) (sym stops.0)
      (no_such_cast env middle after left e (out-Expr e).place term (out-Expr e).args.items q (Star term) (map tree_of rs) (map operand_in rs) o.code (is_node e (node.Cast term) is) (of_term more env middle words) typed (sym rule ∙ stops.1))

  pub vector_ok : (j : Judged) (r : Typed) → (out-Expr e).node ≡ node.Vector term → j ≡ literal q (Star term) (map operand_in rs) → JudgedIs cs j (out-Expr e).place rs r → TermNodeIs cs after left e term q rs r
  vector_ok j r is rule made = record {
    types = λ more m env middle words typed. vector_literal env middle after left e (out-Expr e).place term (out-Expr e).args.items q (Star term) (map tree_of rs) (map operand_in rs) made.rule r.tree r.operand (is_node e (node.Vector term) is)
        (of_term more env middle words) typed (sym rule ∙ made.judged) (made.made.made more m);
    ready = made.made.ready;
  }

  pub vector_out : (j : Judged) (s : Stop) → (out-Expr e).node ≡ node.Vector term → j ≡ literal q (Star term) (map operand_in rs) → JudgedStops j (out-Expr e).place s → TermNodeStops cs after left e term q rs s
  vector_out j NoMemory is rule stops = tt
  vector_out j (Out o) is rule stops = λ more m env middle words typed.
      subst (λ p. Offends more env left e (at o.code p)) (sym stops.0)
      (no_such_vector env middle after left e (out-Expr e).place term (out-Expr e).args.items q (Star term) (map tree_of rs) (map operand_in rs) o.code (is_node e (node.Vector term) is) (of_term more env middle words) typed (sym rule ∙ stops.1))

  pub size_type_out : (code : ℕ) → (out-Expr e).node ≡ node.SizeofType term → first_broken (size_tests q (Star term)) ≡ Some code → SizeStops cs after left e term q (Out (at code (out-Expr e).place))
  size_type_out code is broken = λ more m env words.
      no_size_of_type env after left e (out-Expr e).place term (out-Expr e).args.items q (Star term) code (is_node e (node.SizeofType term) is) (of_term more env after words) broken

  pub size_type_ok : (old : List ClType) (n : ℕ) (r : Typed) → IsGrown old cs → IsReadyType old q → (out-Expr e).node ≡ node.SizeofType term → first_broken (size_tests q (Star term)) ≡ None → n ≡ term_size old q (Star term) → IsNumberOf cs uint n (out-Expr e).place r → SizeIs cs after left e term q r
  size_type_ok old n r g ready is fits size made = record {
    types = λ more m env words. size_of_type env after left e (out-Expr e).place term (out-Expr e).args.items q (Star term) r.tree r.operand (is_node e (node.SizeofType term) is) (of_term more env after words) fits
        (subst (λ z. IsNumber more uint z (out-Expr e).place r.tree r.operand) (size ∙ sym (term_size_stays old more q (Star term) ready (grown_twice old cs more g m))) (made.number more m));
    ready = made.ready;
  }

size_kept : (q : Qualified) → first_broken (size_tests q None) ≡ None → is_void q.shape ≡ false
size_kept q h = by (is_void q.shape) h
  where
    by : (v : Bool) → (if v then Some 303 else first_broken ((326, no_space q false) ∷ [])) ≡ None → v ≡ false
    by true e = absurd (none_some (sym e))
    by false e = refl

pub term_sized : (cs : List ClType) (q : Qualified) (star : Option Bool) → IsReadyType cs q → star ≡ None → first_broken (size_tests q star) ≡ None → is_sized (slice_get cs q.ty.0) ≡ true
term_sized cs q star ready none h = sized cs q.shape q.ty ready.shape (size_kept q (subst (λ s. first_broken (size_tests q s) ≡ None) none h))
