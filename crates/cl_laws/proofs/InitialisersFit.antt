-- Lists in braces are typed: the walk over the facts of what fills a type takes for each part what the rule took for it.
use Rattle.std.proofs.Common.{◌≡◌, ℕ, zero, suc, ◌<◌, ◌≤◌, List, [], ◌∷◌, ◌++◌, length, map, refl, sym, ap, ◌∙◌, subst, arith, append_assoc, Bool, true, false, not, ◌&&◌, ◌||◌, if◌then◌else◌, true≢false, nat_eq, Option, Some}
use Rattle.std.specs.Cmp.{first_so, second_so}
use Rattle.std.proofs.lemmas.Bool.{or_parts, not-false, eqb-true}
use Rattle.std.proofs.lemmas.List.{append-nil}
use Rattle.clv_place.specs.declared.place.Place.{Place}
use Rattle.cl_types.specs.declared.types.Member.{Member}
use Rattle.cl_types.specs.declared.types.TypeId.{TypeId}
use Rattle.cl_types.specs.Layout.{depth_of}
use Rattle.cl_types.specs.Table.{tree_of, IsTable}
use Rattle.cl_ast.specs.declared.declaration.Init.{Init}
use Rattle.cl_ast.specs.declared.declaration.Init.TheVariants as init
use Rattle.cl_ast.specs.declared.expression.Expr.{Expr}
use Rattle.cl_builtins.specs.Found.{IsKnown}
use Rattle.cl_tree.specs.declared.expression.Facts.{Facts}
use Rattle.cl_tree.specs.declared.expression.TExpr.{TExpr}
use Rattle.cl_tree.specs.declared.shape.Shape.{Shape}
use Rattle.cl_tree.specs.declared.shape.Shape.TheVariants as shape
use Rattle.cl_tree.specs.Facts.{Lists, bind, before, each, when, value, converts_to, is_whole, behind, fill_each, fill_members, fill_inside, fill_part, is_done, fills, facts_of}
use Rattle.cl_tree.specs.Shapes.{shape_of, same_type, is_void, is_number, takes_value, converts, members_of}
use Rattle.cl_rules.specs.declared.rule.Head.TheVariants as head
use Rattle.cl_rules.specs.declared.rule.Operand.{Operand}
use Rattle.cl_rules.specs.declared.rule.Want.TheVariants as want
use Rattle.cl_rules.specs.Operands.{no_value}
use Rattle.cl_scope.specs.Names.{Env}
use Rattle.cl_make.specs.Building.{IsConverted, IsNode, fitting, converted}
use Rattle.cl_make.specs.Ready.{IsReadyOperand}
use Rattle.cl_type_expr.specs.Expressions.{Types}
use Rattle.cl_variables.specs.declared.tally.Tally.{Tally}
use Rattle.cl_variables.specs.Initialisers.{clean, with, tally_of, is_right, some, has_parts, IsValue, FillsPart, by_list, by_value, by_wrong_value, by_parts, FillsParts, its_elements, its_members, FillsElements, elements_full, elements_ended, more_elements, FillsMembers, members_full, members_ended, more_members, FillsBraces, its_parts, itself, IsList, filled, FillsAll, all_ended, more_all, IsOpenList}
use Rattle.cl_laws.specs.Agreement.{Agrees, IsTypedAs}
use Rattle.cl_laws.proofs.CallsFit.{target_converts}
use Rattle.cl_laws.proofs.Fitted.{kept_when, same_types}
use Rattle.cl_laws.proofs.NamesKept.{IsKept, kept, kept_twice, kept_agrees, types_keep}
use Rattle.cl_laws.proofs.Nesting.{elements_inside, AreInside, members_inside}
use Rattle.cl_laws.proofs.NodesFit.{node_by}
use Rattle.cl_laws.proofs.SameTypes.{number_wanted}

-- the typed tree of an expression is typed, in lists that agree with the declarations round it
abbrev pub TypesFit : Lists → Type 0
TypesFit l = (env : Env) (left : Bool) (e : Expr) (after : Env) (t : TExpr) (o : Operand) → Types l.types env left e after t o → Agrees l env → Agrees l after × IsTypedAs l t o

-- ---- facts of trees in a row

abbrev AreFacts : Lists → List TExpr → List Facts → Type 0
AreFacts l [] [] = Unit {0}
AreFacts l (t ∷ ts) (f ∷ fs) = (facts_of t l ≡ Some f) × AreFacts l ts fs
AreFacts l [] (f ∷ fs) = ⊥
AreFacts l (t ∷ ts) [] = ⊥

each_are : (l : Lists) (ts : List TExpr) (fs : List Facts) → AreFacts l ts fs → each l (map facts_of ts) ≡ Some fs
each_are l [] [] h = refl
each_are l [] (f ∷ fs) h = absurd h
each_are l (t ∷ ts) [] h = absurd h
each_are l (t ∷ ts) (f ∷ fs) h = let r = each_are l ts fs h.1 in (λ i. bind (h.0 i) (before (r i)))

both_are : (l : Lists) (ts us : List TExpr) (fs gs : List Facts) → AreFacts l ts fs → AreFacts l us gs → AreFacts l (ts ++ us) (fs ++ gs)
both_are l [] us [] gs h k = k
both_are l [] us (f ∷ fs) gs h k = absurd h
both_are l (t ∷ ts) us [] gs h k = absurd h
both_are l (t ∷ ts) us (f ∷ fs) gs h k = (h.0, both_are l ts us fs gs h.1 k)

none_are : (l : Lists) (ts : List TExpr) (fs : List Facts) → ts ≡ [] → AreFacts l ts fs → fs ≡ []
none_are l ts fs e h = by fs (subst (λ z. AreFacts l z fs) e h)
  where
    by : (fs : List Facts) → AreFacts l [] fs → fs ≡ []
    by [] h = refl
    by (f ∷ fs) h = absurd h

-- ---- the walk of the test

-- the first operand has a type with a number below this one
abbrev IsUnder : ℕ → List Facts → Type 0
IsUnder i [] = ⊥
IsUnder i (f ∷ fs) = f.ty.0 < i

under_more : (i j : ℕ) (fs : List Facts) → IsUnder i fs → i ≤ j → IsUnder j fs
under_more i j [] h k = absurd h
under_more i j (f ∷ fs) h k = omega arith

under_both : (i : ℕ) (fs gs : List Facts) → IsUnder i fs → IsUnder i (fs ++ gs)
under_both i [] gs h = absurd h
under_both i (f ∷ fs) gs h = h

numbers_differ : (m n : ℕ) → n < m → nat_eq m n ≡ false
numbers_differ m n h = by (nat_eq m n) refl
  where
    by : (c : Bool) → nat_eq m n ≡ c → c ≡ false
    by true e = let g = eqb-true m n e in absurd (omega arith)
    by false e = refl

-- an operand of a type with a lower number doesn't stand for the part
no_whole : (t : TypeId) (fs : List Facts) → IsUnder t.0 fs → is_whole t fs ≡ false
no_whole t [] h = absurd h
no_whole t (f ∷ fs) h = numbers_differ t.0 f.ty.0 h

take_whole : (deep : ℕ) (l : Lists) (t : TypeId) (f : Facts) (fs : List Facts) → same_type t f.ty ≡ true → fill_part deep l t (f ∷ fs) ≡ Some fs
take_whole zero l t f fs e = ap (λ w. when w fs) e
take_whole (suc deep) l t f fs e = ap (λ w. if w then Some fs else fill_inside (fill_part deep l) l t (shape_of l.types t) (f ∷ fs)) e

enter_part : (deep : ℕ) (l : Lists) (t : TypeId) (fs left : List Facts) → is_whole t fs ≡ false → fill_inside (fill_part deep l) l t (shape_of l.types t) fs ≡ Some left → fill_part (suc deep) l t fs ≡ Some left
enter_part deep l t fs left e h = ap (λ w. if w then Some (behind fs) else fill_inside (fill_part deep l) l t (shape_of l.types t) fs) e ∙ h

one_more : (one : List Facts → Option (List Facts)) (n i : ℕ) (fs left : List Facts) → IsUnder i fs → one fs ≡ Some left → fill_each one (suc n) fs ≡ fill_each one n left
one_more one n i [] left h e = absurd h
one_more one n i (f ∷ fs) left h e = ap (λ o. bind o (fill_each one n)) e

member_more : (one : TypeId → List Facts → Option (List Facts)) (m : Member) (ms : List Member) (i : ℕ) (fs left : List Facts) → IsUnder i fs → one m.ty fs ≡ Some left → fill_members one (m ∷ ms) fs ≡ fill_members one ms left
member_more one m ms i [] left h e = absurd h
member_more one m ms i (f ∷ fs) left h e = ap (λ o. bind o (fill_members one ms)) e

none_behind : {A B : Type 0} (fs gs : List A) (left : List B) → fs ≡ [] → (left ≡ [] → gs ≡ []) → left ≡ [] → fs ++ gs ≡ []
none_behind fs gs left e k n = (λ i. e i ++ k n i)

-- ---- what fills a type

-- one value of a type that is filled as a whole
abbrev IsOne : Lists → TypeId → List Facts → Type 0
IsOne l t [] = ⊥
IsOne l t (f ∷ []) = (same_type t f.ty ≡ true) × (is_void (shape_of l.types t) ≡ false)
IsOne l t (f ∷ g ∷ fs) = ⊥

fills_as_one : (l : Lists) (t : TypeId) (s : Shape) (f : Facts) → has_parts s ≡ false → is_void s ≡ false → same_type t f.ty ≡ true → fills l t s (f ∷ []) ≡ true
fills_as_one l t shape.Void f n v e = absurd (true≢false v)
fills_as_one l t shape.Bool f n v e = e
fills_as_one l t (shape.Integers g) f n v e = e
fills_as_one l t (shape.Array elem len nested) f n v e = absurd (true≢false n)
fills_as_one l t shape.Struct f n v e = absurd (true≢false n)
fills_as_one l t (shape.Pointer s to ro re) f n v e = e

fills_by_one : (l : Lists) (t : TypeId) (fs : List Facts) → has_parts (shape_of l.types t) ≡ false → IsOne l t fs → fills l t (shape_of l.types t) fs ≡ true
fills_by_one l t [] n h = absurd h
fills_by_one l t (f ∷ []) n h = fills_as_one l t (shape_of l.types t) f n h.1 h.0
fills_by_one l t (f ∷ g ∷ fs) n h = absurd h

one_no_void : (l : Lists) (t : TypeId) (fs : List Facts) → IsOne l t fs → is_void (shape_of l.types t) ≡ false
one_no_void l t [] h = absurd h
one_no_void l t (f ∷ []) h = h.1
one_no_void l t (f ∷ g ∷ fs) h = absurd h

fills_by_parts : (l : Lists) (t : TypeId) (s : Shape) (fs : List Facts) → has_parts s ≡ true → fill_inside (fill_part 16 l) l t s fs ≡ Some [] → fills l t s fs ≡ true
fills_by_parts l t shape.Void fs p e = absurd (true≢false (sym p))
fills_by_parts l t shape.Bool fs p e = absurd (true≢false (sym p))
fills_by_parts l t (shape.Integers g) fs p e = absurd (true≢false (sym p))
fills_by_parts l t (shape.Array elem len nested) fs p e = ap is_done e
fills_by_parts l t shape.Struct fs p e = ap is_done e
fills_by_parts l t (shape.Pointer s to ro re) fs p e = absurd (true≢false (sym p))

parts_no_void : (s : Shape) → has_parts s ≡ true → is_void s ≡ false
parts_no_void shape.Void p = absurd (true≢false (sym p))
parts_no_void shape.Bool p = refl
parts_no_void (shape.Integers g) p = refl
parts_no_void (shape.Array elem len nested) p = refl
parts_no_void shape.Struct p = refl
parts_no_void (shape.Pointer s to ro re) p = refl

-- ---- values

only_same : (a c : Bool) → (a && false || c) ≡ true → c ≡ true
only_same true c h = h
only_same false c h = h

-- nothing converts to void
no_void : (l : Lists) (o : Operand) (t : TypeId) (s : Shape) → IsReadyOperand l.types o → s ≡ shape_of l.types t → no_value o (record { ty = t; shape = s }) ≡ false → is_void s ≡ false
no_void l o t shape.Void r e h =
    let k = only_same (is_number o.shape) (takes_value o.shape && same_type o.facts.ty t) (not-false (converts o.shape o.facts.ty shape.Void t) h) in
    let n = eqb-true o.facts.ty.0 t.0 (second_so (takes_value o.shape) (same_type o.facts.ty t) k) in
    let u : o.facts.ty ≡ t = λ i. record { 0 = n i } in
    absurd (true≢false (sym (first_so (takes_value o.shape) (same_type o.facts.ty t) k) ∙ ap takes_value (r.shape ∙ ap (shape_of l.types) u ∙ sym e)))
no_void l o t shape.Bool r e h = refl
no_void l o t (shape.Integers g) r e h = refl
no_void l o t (shape.Array elem len nested) r e h = refl
no_void l o t shape.Struct r e h = refl
no_void l o t (shape.Pointer s to ro re) r e h = refl

-- a tree behind the conversion to a type has that type
pub record HasType (l : Lists) (t : TypeId) (u : TExpr) : Type 0 where
  pub is : Facts
  pub facts : facts_of u l ≡ Some is
  pub type : is.ty ≡ t

pub converted_to : (l : Lists) (ty : TypeId) (t u : TExpr) (o : Operand) → IsTypedAs l t o → converts_to l o.facts ty (shape_of l.types ty) ≡ true → IsConverted l.types (want.Type ty) t u → HasType l ty u
converted_to l ty t u o a c (fitting w x h) = record { is = o.facts; facts = a.facts; type = sym a.root ∙ number_wanted l.types ty _ h }
converted_to l ty t u o a c (converted w own x y h n node) =
    let e : own ≡ ty = number_wanted l.types ty own h in
    record {
      is = value own;
      facts =
          node_by l y own _ head.Convert (x ∷ []) (o.facts ∷ []) node (ap (λ z. bind z (before (Some []))) a.facts) ∙
          kept_when (converts_to l o.facts own (shape_of l.types own)) (value own) (subst (λ z. converts_to l o.facts z (shape_of l.types z) ≡ true) (sym e) c);
      type = e;
    }

right_parts : (t : Tally) → is_right t ≡ true → (t.no_value ≡ false) × (t.no_pointer ≡ false)
right_parts t h = or_parts t.no_value t.no_pointer (by (t.no_value || t.no_pointer) h)
  where
    by : (c : Bool) → not c ≡ true → c ≡ false
    by true e = absurd (true≢false (sym e))
    by false e = refl

-- a value that is right converts
pub record ConvertsTo (l : Lists) (ty : TypeId) (o : Operand) : Type 0 where
  pub converts : converts_to l o.facts ty (shape_of l.types ty) ≡ true
  pub some : is_void (shape_of l.types ty) ≡ false

pub right_converts : (l : Lists) (ty : TypeId) (o : Operand) (varies : Bool) (tally : Tally) → IsReadyOperand l.types o → tally ≡ tally_of l.types o ty varies → is_right tally ≡ true → ConvertsTo l ty o
right_converts l ty o varies tally r e h =
    let p = right_parts (tally_of l.types o ty varies) (sym (ap is_right e) ∙ h) in
    record {
      converts = target_converts l o ty (shape_of l.types ty) r p.0 p.1;
      some = no_void l o ty (shape_of l.types ty) r refl p.0;
    }

with_right : (x y : Tally) → is_right (with x y) ≡ true → (is_right x ≡ true) × (is_right y ≡ true)
with_right x y h = by x.no_value y.no_value x.no_pointer y.no_pointer h
  where
    by : (a b c d : Bool) → not ((a || b) || (c || d)) ≡ true → (not (a || c) ≡ true) × (not (b || d) ≡ true)
    by true b c d e = absurd (true≢false (sym e))
    by false true c d e = absurd (true≢false (sym e))
    by false false true d e = absurd (true≢false (sym e))
    by false false false true e = absurd (true≢false (sym e))
    by false false false false e = (refl, refl)

-- ---- items that have ended

some_item : {A : Type 0} {i : Init} {items : List Init} → i ∷ items ≡ [] → A
some_item e = absurd (true≢false (ap some e))

no_facts : {A : Type 0} {f : Facts} {fs : List Facts} → f ∷ fs ≡ [] → A
no_facts e = cc

module _ (l : Lists) (constant : Bool) where
  no_elements : (env : Env) (items : List Init) (elem : TypeId) (n : ℕ) (after : Env) (left : List Init) (ts : List TExpr) (tally : Tally) → FillsElements l.types constant env items elem n after left ts tally → items ≡ [] → (ts ≡ []) × (left ≡ [])
  no_elements _ _ _ _ _ _ _ _ (elements_full env items elem) e = (refl, e)
  no_elements _ _ _ _ _ _ _ _ (elements_ended env elem n) e = (refl, refl)
  no_elements _ _ _ _ _ _ _ _ (more_elements env middle after i items between left elem n ts us x y h0 h1) e = some_item e

  no_members : (env : Env) (items : List Init) (ms : List Member) (after : Env) (left : List Init) (ts : List TExpr) (tally : Tally) → FillsMembers l.types constant env items ms after left ts tally → items ≡ [] → (ts ≡ []) × (left ≡ [])
  no_members _ _ _ _ _ _ _ (members_full env items) e = (refl, e)
  no_members _ _ _ _ _ _ _ (members_ended env m ms) e = (refl, refl)
  no_members _ _ _ _ _ _ _ (more_members env middle after i items between left m ms ts us x y h0 h1) e = some_item e

  none_filled : (env : Env) (items : List Init) (elem : TypeId) (n : ℕ) (after : Env) (ts : List TExpr) (tally : Tally) → FillsAll l.types constant env items elem n after ts tally → items ≡ [] → ts ≡ []
  none_filled _ _ _ _ _ _ _ (all_ended env elem) e = refl
  none_filled _ _ _ _ _ _ _ (more_all env middle after i items between elem n ts us x y h0 h1) e = some_item e

-- ---- what the test walks over

-- what fills a part, before the facts of what fills those behind it; none is behind it where the items end
record PartWalks (l : Lists) (ty : TypeId) (left : List Init) (ts : List TExpr) : Type 0 where
  are : List Facts
  facts : AreFacts l ts are
  first : IsUnder (suc ty.0) are
  single : has_parts (shape_of l.types ty) ≡ false → IsOne l ty are
  walks : (deep : ℕ) (gs : List Facts) → depth_of (tree_of l.types ty.0) ≤ deep → (left ≡ [] → gs ≡ []) → fill_part deep l ty (are ++ gs) ≡ Some gs

record InsideWalks (l : Lists) (ty : TypeId) (items left : List Init) (ts : List TExpr) : Type 0 where
  are : List Facts
  facts : AreFacts l ts are
  first : some items ≡ true → IsUnder ty.0 are
  known : IsKnown l.types ty
  parts : has_parts (shape_of l.types ty) ≡ true
  deep : 0 < depth_of (tree_of l.types ty.0)
  walks : (deep : ℕ) (gs : List Facts) → depth_of (tree_of l.types ty.0) ≤ suc deep → (left ≡ [] → gs ≡ []) → fill_inside (fill_part deep l) l ty (shape_of l.types ty) (are ++ gs) ≡ Some gs

record ElementsWalk (l : Lists) (elem : TypeId) (n : ℕ) (items left : List Init) (ts : List TExpr) : Type 0 where
  are : List Facts
  facts : AreFacts l ts are
  first : some items ≡ true → 0 < n → IsUnder (suc elem.0) are
  walks : (deep : ℕ) (gs : List Facts) → depth_of (tree_of l.types elem.0) ≤ deep → (left ≡ [] → gs ≡ []) → fill_each (fill_part deep l elem) n (are ++ gs) ≡ Some gs

record MembersWalk (l : Lists) (ms : List Member) (items left : List Init) (ts : List TExpr) : Type 0 where
  are : List Facts
  facts : AreFacts l ts are
  first : (i deep : ℕ) → AreInside l.types i deep ms → some items ≡ true → 0 < length ms → IsUnder i are
  walks : (i deep : ℕ) (gs : List Facts) → AreInside l.types i deep ms → (left ≡ [] → gs ≡ []) → fill_members (fill_part deep l) ms (are ++ gs) ≡ Some gs

record AllWalk (l : Lists) (elem : TypeId) (n : ℕ) (ts : List TExpr) : Type 0 where
  are : List Facts
  facts : AreFacts l ts are
  walks : (deep : ℕ) → depth_of (tree_of l.types elem.0) ≤ deep → fill_each (fill_part deep l elem) n are ≡ Some []

record BracesFill (l : Lists) (ty : TypeId) (ts : List TExpr) : Type 0 where
  are : List Facts
  facts : AreFacts l ts are
  fill : fills l ty (shape_of l.types ty) are ≡ true
  some : is_void (shape_of l.types ty) ≡ false

record ListFills (l : Lists) (ty : TypeId) (t : TExpr) : Type 0 where
  facts : facts_of t l ≡ Some (value ty)
  some : is_void (shape_of l.types ty) ≡ false

-- what is filled rightly, between these declarations
record Filling (l : Lists) (env after : Env) (tally : Tally) (W : Type 0) : Type 0 where
  names : IsKept env after
  fits : Agrees l env → is_right tally ≡ true → W

whole_part : (l : Lists) (ty : TypeId) (left : List Init) (t : TExpr) (f : Facts) → facts_of t l ≡ Some f → f.ty ≡ ty → is_void (shape_of l.types ty) ≡ false → PartWalks l ty left (t ∷ [])
whole_part l ty left t f e h v =
    let s = same_types ty f.ty (sym h) in
    record {
      are = f ∷ [];
      facts = (e, tt);
      first = subst (λ z. z.0 < suc ty.0) (sym h) (omega arith);
      single = λ n. (s, v);
      walks = λ deep gs d k. take_whole deep l ty f gs s;
    }

entered_part : (l : Lists) (ty : TypeId) (items left : List Init) (ts : List TExpr) → some items ≡ true → InsideWalks l ty items left ts → PartWalks l ty left ts
entered_part l ty items left ts s p = record {
  are = p.are;
  facts = p.facts;
  first = under_more ty.0 (suc ty.0) p.are (p.first s) (omega arith);
  single = λ n. absurd (true≢false (sym p.parts ∙ n));
  walks = λ deep gs d k. by deep gs d k;
}
  where
    by : (deep : ℕ) (gs : List Facts) → depth_of (tree_of l.types ty.0) ≤ deep → (left ≡ [] → gs ≡ []) → fill_part deep l ty (p.are ++ gs) ≡ Some gs
    by zero gs d k = let h = p.deep in absurd (omega arith)
    by (suc deep) gs d k = enter_part deep l ty (p.are ++ gs) gs (no_whole ty (p.are ++ gs) (under_both ty.0 p.are gs (p.first s))) (p.walks deep gs d k)

-- one more element before others
element_before : (l : Lists) (elem : TypeId) (n : ℕ) (i : Init) (items between left : List Init) (ts us : List TExpr) → PartWalks l elem between ts → ElementsWalk l elem n between left us → (between ≡ [] → (us ≡ []) × (left ≡ [])) → ElementsWalk l elem (suc n) (i ∷ items) left (ts ++ us)
element_before l elem n i items between left ts us p q none = record {
  are = p.are ++ q.are;
  facts = both_are l ts us p.are q.are p.facts q.facts;
  first = λ s k. under_both (suc elem.0) p.are q.are p.first;
  walks = λ deep gs d k.
      let rest = q.are ++ gs in
      ap (fill_each (fill_part deep l elem) (suc n)) (append_assoc p.are q.are gs) ∙
      one_more (fill_part deep l elem) n (suc elem.0) (p.are ++ rest) rest (under_both (suc elem.0) p.are rest p.first)
      (p.walks deep rest d (λ e. none_behind q.are gs left (none_are l us q.are (none e).0 q.facts) k (none e).1)) ∙
      q.walks deep gs d k;
}

-- one more member before others
member_before : (l : Lists) (m : Member) (ms : List Member) (i : Init) (items between left : List Init) (ts us : List TExpr) → PartWalks l m.ty between ts → MembersWalk l ms between left us → (between ≡ [] → (us ≡ []) × (left ≡ [])) → MembersWalk l (m ∷ ms) (i ∷ items) left (ts ++ us)
member_before l m ms i items between left ts us p q none = record {
  are = p.are ++ q.are;
  facts = both_are l ts us p.are q.are p.facts q.facts;
  first = λ i deep h s k. under_both i p.are q.are (under_more (suc m.ty.0) i p.are p.first (let low = h.0 in omega arith));
  walks = λ i deep gs h k.
      let rest = q.are ++ gs in
      ap (fill_members (fill_part deep l) (m ∷ ms)) (append_assoc p.are q.are gs) ∙
      member_more (fill_part deep l) m ms (suc m.ty.0) (p.are ++ rest) rest (under_both (suc m.ty.0) p.are rest p.first)
      (p.walks deep rest h.1 (λ e. none_behind q.are gs left (none_are l us q.are (none e).0 q.facts) k (none e).1)) ∙
      q.walks i deep gs h.2 k;
}

-- one more element of all
element_of_all : (l : Lists) (elem : TypeId) (n : ℕ) (between : List Init) (ts us : List TExpr) → PartWalks l elem between ts → AllWalk l elem n us → (between ≡ [] → us ≡ []) → AllWalk l elem (suc n) (ts ++ us)
element_of_all l elem n between ts us p q none = record {
  are = p.are ++ q.are;
  facts = both_are l ts us p.are q.are p.facts q.facts;
  walks = λ deep d.
      one_more (fill_part deep l elem) n (suc elem.0) (p.are ++ q.are) q.are (under_both (suc elem.0) p.are q.are p.first)
      (p.walks deep q.are d (λ e. none_are l us q.are (none e) q.facts)) ∙
      q.walks deep d;
}

elements_over : (one : List Facts → Option (List Facts)) (n : ℕ) (gs : List Facts) → gs ≡ [] → fill_each one (suc n) gs ≡ Some gs
elements_over one n [] e = refl
elements_over one n (f ∷ fs) e = no_facts e

members_over : (one : TypeId → List Facts → Option (List Facts)) (m : Member) (ms : List Member) (gs : List Facts) → gs ≡ [] → fill_members one (m ∷ ms) gs ≡ Some gs
members_over one m ms [] e = refl
members_over one m ms (f ∷ fs) e = no_facts e

array_inside : (l : Lists) (b : IsTable l.types) (ty elem : TypeId) (len : ℕ) (nested : Bool) (items left : List Init) (ts : List TExpr) → shape_of l.types ty ≡ shape.Array elem len nested → ElementsWalk l elem len items left ts → InsideWalks l ty items left ts
array_inside l b ty elem len nested items left ts e p =
    let h = elements_inside l.types ty elem len nested b.built e in
    let depth = h.depth in
    let low = h.earlier in
    record {
      are = p.are;
      facts = p.facts;
      first = λ s. under_more (suc elem.0) ty.0 p.are (p.first s h.some) (omega arith);
      known = h.known;
      parts = ap has_parts e;
      deep = omega arith;
      walks = λ deep gs d k. ap (λ s. fill_inside (fill_part deep l) l ty s (p.are ++ gs)) e ∙ p.walks deep gs (omega arith) k;
    }

struct_inside : (l : Lists) (b : IsTable l.types) (ty : TypeId) (items left : List Init) (ts : List TExpr) → shape_of l.types ty ≡ shape.Struct → MembersWalk l (members_of l.types ty) items left ts → InsideWalks l ty items left ts
struct_inside l b ty items left ts e p =
    let h = members_inside l.types ty b.built e in
    let depth : ℕ = depth_of (tree_of l.types ty.0) in
    record {
      are = p.are;
      facts = p.facts;
      first = λ s. p.first ty.0 depth (h.inside depth (omega arith)) s h.some;
      known = h.known;
      parts = ap has_parts e;
      deep = h.deep;
      walks = λ deep gs d k. ap (λ s. fill_inside (fill_part deep l) l ty s (p.are ++ gs)) e ∙ p.walks ty.0 deep gs (h.inside deep d) k;
    }

parts_fill : (l : Lists) (b : IsTable l.types) (ty : TypeId) (items left : List Init) (ts : List TExpr) → InsideWalks l ty items left ts → BracesFill l ty ts
parts_fill l b ty items left ts p =
    let depth = (b.within ty.0 p.known).depth in
    record {
      are = p.are;
      facts = p.facts;
      fill =
          fills_by_parts l ty (shape_of l.types ty) p.are p.parts
          (ap (fill_inside (fill_part 16 l) l ty (shape_of l.types ty)) (sym (append-nil p.are)) ∙ p.walks 16 [] (omega arith) (λ e. refl));
      some = parts_no_void (shape_of l.types ty) p.parts;
    }

one_fills : (l : Lists) (ty : TypeId) (left : List Init) (ts : List TExpr) → has_parts (shape_of l.types ty) ≡ false → PartWalks l ty left ts → BracesFill l ty ts
one_fills l ty left ts n p = record {
  are = p.are;
  facts = p.facts;
  fill = fills_by_one l ty p.are n (p.single n);
  some = one_no_void l ty p.are (p.single n);
}

braces_list : (l : Lists) (ty : TypeId) (place : Place) (t : TExpr) (ts : List TExpr) → IsNode t ty place head.Fill ts → BracesFill l ty ts → ListFills l ty t
braces_list l ty place t ts node p = record {
  facts = node_by l t ty place head.Fill ts p.are node (each_are l ts p.are p.facts) ∙ kept_when (fills l ty (shape_of l.types ty) p.are) (value ty) p.fill;
  some = p.some;
}

-- all elements of an array
all_list : (l : Lists) (b : IsTable l.types) (whole elem : TypeId) (n : ℕ) (nested : Bool) (place : Place) (t : TExpr) (ts : List TExpr) → shape_of l.types whole ≡ shape.Array elem n nested → IsNode t whole place head.Fill ts → AllWalk l elem n ts → facts_of t l ≡ Some (value whole)
all_list l b whole elem n nested place t ts e node p =
    let h = elements_inside l.types whole elem n nested b.built e in
    let depth = h.depth in
    let low = (b.within whole.0 h.known).depth in
    node_by l t whole place head.Fill ts p.are node (each_are l ts p.are p.facts) ∙
    kept_when (fills l whole (shape_of l.types whole) p.are) (value whole)
    (ap (λ s. fills l whole s p.are) e ∙ fills_by_parts l whole (shape.Array elem n nested) p.are refl (p.walks 16 (omega arith)))

-- ---- lists

module _ (l : Lists) (b : IsTable l.types) (typed : TypesFit l) (constant : Bool) where
  value_keeps : (env : Env) (e : Expr) (after : Env) (t : TExpr) (o : Operand) (varies : Bool) → IsValue l.types constant env e after t o varies → IsKept env after
  value_keeps env e after t o varies v = types_keep l.types env false e after t o v.types

  -- a value for a part, behind its conversion
  value_walks : (env : Env) (e : Expr) (after : Env) (left : List Init) (ty : TypeId) (t u : TExpr) (o : Operand) (varies : Bool) (tally : Tally) → IsValue l.types constant env e after t o varies → tally ≡ tally_of l.types o ty varies → IsConverted l.types (want.Type ty) t u → Agrees l env → is_right tally ≡ true → PartWalks l ty left (u ∷ [])
  value_walks env e after left ty t u o varies tally v told h a r =
      let is = (typed env false e after t o v.types a).1 in
      let c = right_converts l ty o varies tally is.ready told r in
      let at = converted_to l ty t u o is c.converts h in
      whole_part l ty left u at.is at.facts at.type c.some

  mutual
    part_fits : (i0 : Env) (i1 : List Init) (i2 : TypeId) (i3 : Env) (i4 : List Init) (i5 : List TExpr) (i6 : Tally) → FillsPart l.types constant i0 i1 i2 i3 i4 i5 i6 → Filling l i0 i3 i6 (PartWalks l i2 i4 i5)
    part_fits _ _ _ _ _ _ _ (by_list env after place items left ty t varies h0) =
        let r = list_fills _ _ _ _ _ _ _ h0 in
        record { names = r.names; fits = λ a k. let f = r.fits a refl in whole_part l ty left t (value ty) f.facts refl f.some }
    part_fits _ _ _ _ _ _ _ (by_value env after e left ty t u o varies tally h0 h1 h2 h3 h4) = record {
      names = value_keeps env e after t o varies h0;
      fits = λ a k. value_walks env e after left ty t u o varies tally h0 h2 h4 a k;
    }
    part_fits _ _ _ _ _ _ _ (by_wrong_value env after e left ty t o varies tally h0 h1 h2 h3) = record {
      names = value_keeps env e after t o varies h0;
      fits = λ a k. absurd (true≢false (sym k ∙ h3));
    }
    part_fits _ _ _ _ _ _ _ (by_parts env seen after e items left ty t ts o varies tally h0 h1 h2) =
        let r = parts_fit _ _ _ _ _ _ _ h2 in
        record { names = r.names; fits = λ a k. entered_part l ty (init.Value e ∷ items) left ts refl (r.fits a k) }

    parts_fit : (i0 : Env) (i1 : List Init) (i2 : TypeId) (i3 : Env) (i4 : List Init) (i5 : List TExpr) (i6 : Tally) → FillsParts l.types constant i0 i1 i2 i3 i4 i5 i6 → Filling l i0 i3 i6 (InsideWalks l i2 i1 i4 i5)
    parts_fit _ _ _ _ _ _ _ (its_elements env after items left ty elem len nested ts tally h0 h1) =
        let r = elements_fit _ _ _ _ _ _ _ _ h1 in
        record { names = r.names; fits = λ a k. array_inside l b ty elem len nested items left ts h0 (r.fits a k) }
    parts_fit _ _ _ _ _ _ _ (its_members env after items left ty ts tally h0 h1) =
        let r = members_fit _ _ _ _ _ _ _ h1 in
        record { names = r.names; fits = λ a k. struct_inside l b ty items left ts h0 (r.fits a k) }

    elements_fit : (i0 : Env) (i1 : List Init) (i2 : TypeId) (i3 : ℕ) (i4 : Env) (i5 : List Init) (i6 : List TExpr) (i7 : Tally) → FillsElements l.types constant i0 i1 i2 i3 i4 i5 i6 i7 → Filling l i0 i4 i7 (ElementsWalk l i2 i3 i1 i5 i6)
    elements_fit _ _ _ _ _ _ _ _ (elements_full env items elem) = record {
      names = kept env;
      fits = λ a k. record { are = []; facts = tt; first = λ s n. absurd (omega arith); walks = λ deep gs d n. refl };
    }
    elements_fit _ _ _ _ _ _ _ _ (elements_ended env elem n) = record {
      names = kept env;
      fits = λ a k. record { are = []; facts = tt; first = λ s m. absurd (true≢false (sym s)); walks = λ deep gs d m. elements_over (fill_part deep l elem) n gs (m refl) };
    }
    elements_fit _ _ _ _ _ _ _ _ (more_elements env middle after i items between left elem n ts us x y h0 h1) =
        let p = part_fits _ _ _ _ _ _ _ h0 in
        let q = elements_fit _ _ _ _ _ _ _ _ h1 in
        record {
          names = kept_twice env middle after p.names q.names;
          fits = λ a k.
              let w = with_right x y k in
              element_before l elem n i items between left ts us (p.fits a w.0) (q.fits (kept_agrees l env middle p.names a) w.1) (no_elements l constant middle between elem n after left us y h1);
        }

    members_fit : (i0 : Env) (i1 : List Init) (i2 : List Member) (i3 : Env) (i4 : List Init) (i5 : List TExpr) (i6 : Tally) → FillsMembers l.types constant i0 i1 i2 i3 i4 i5 i6 → Filling l i0 i3 i6 (MembersWalk l i2 i1 i4 i5)
    members_fit _ _ _ _ _ _ _ (members_full env items) = record {
      names = kept env;
      fits = λ a k. record { are = []; facts = tt; first = λ i deep h s n. absurd (omega arith); walks = λ i deep gs h n. refl };
    }
    members_fit _ _ _ _ _ _ _ (members_ended env m ms) = record {
      names = kept env;
      fits = λ a k. record { are = []; facts = tt; first = λ i deep h s n. absurd (true≢false (sym s)); walks = λ i deep gs h n. members_over (fill_part deep l) m ms gs (n refl) };
    }
    members_fit _ _ _ _ _ _ _ (more_members env middle after i items between left m ms ts us x y h0 h1) =
        let p = part_fits _ _ _ _ _ _ _ h0 in
        let q = members_fit _ _ _ _ _ _ _ h1 in
        record {
          names = kept_twice env middle after p.names q.names;
          fits = λ a k.
              let w = with_right x y k in
              member_before l m ms i items between left ts us (p.fits a w.0) (q.fits (kept_agrees l env middle p.names a) w.1) (no_members l constant middle between ms after left us y h1);
        }

    braces_fit : (i0 : Env) (i1 : List Init) (i2 : TypeId) (i3 : Env) (i4 : List Init) (i5 : List TExpr) (i6 : Tally) → FillsBraces l.types constant i0 i1 i2 i3 i4 i5 i6 → Filling l i0 i3 i6 (BracesFill l i2 i5)
    braces_fit _ _ _ _ _ _ _ (its_parts env after items left ty ts tally h0 h1) =
        let r = parts_fit _ _ _ _ _ _ _ h1 in
        record { names = r.names; fits = λ a k. parts_fill l b ty items left ts (r.fits a k) }
    braces_fit _ _ _ _ _ _ _ (itself env after e left ty ts tally h0 h1) =
        let r = part_fits _ _ _ _ _ _ _ h1 in
        record { names = r.names; fits = λ a k. one_fills l ty left ts h0 (r.fits a k) }

    list_fills : (i0 : Env) (i1 : Place) (i2 : List Init) (i3 : TypeId) (i4 : Env) (i5 : TExpr) (i6 : Bool) → IsList l.types constant i0 i1 i2 i3 i4 i5 i6 → Filling l i0 i4 clean (ListFills l i3 i5)
    list_fills _ _ _ _ _ _ _ (filled env after place items ty ts t tally h0 h1 h2) =
        let r = braces_fit _ _ _ _ _ _ _ h0 in
        record { names = r.names; fits = λ a k. braces_list l ty place t ts h2 (r.fits a h1) }

  all_fit : (i0 : Env) (i1 : List Init) (i2 : TypeId) (i3 : ℕ) (i4 : Env) (i5 : List TExpr) (i6 : Tally) → FillsAll l.types constant i0 i1 i2 i3 i4 i5 i6 → Filling l i0 i4 i6 (AllWalk l i2 i3 i5)
  all_fit _ _ _ _ _ _ _ (all_ended env elem) = record { names = kept env; fits = λ a k. record { are = []; facts = tt; walks = λ deep d. refl } }
  all_fit _ _ _ _ _ _ _ (more_all env middle after i items between elem n ts us x y h0 h1) =
      let p = part_fits _ _ _ _ _ _ _ h0 in
      let q = all_fit _ _ _ _ _ _ _ h1 in
      record {
        names = kept_twice env middle after p.names q.names;
        fits = λ a k.
            let w = with_right x y k in
            element_of_all l elem n between ts us (p.fits a w.0) (q.fits (kept_agrees l env middle p.names a) w.1) (none_filled l constant middle between elem n after us y h1);
      }

  pub list_keeps : (env : Env) (place : Place) (items : List Init) (ty : TypeId) (after : Env) (t : TExpr) (varies : Bool) → IsList l.types constant env place items ty after t varies → IsKept env after
  list_keeps env place items ty after t varies h = (list_fills env place items ty after t varies h).names

  pub list_fits : (env : Env) (place : Place) (items : List Init) (ty : TypeId) (after : Env) (t : TExpr) (varies : Bool) → IsList l.types constant env place items ty after t varies → Agrees l env → Agrees l after × (facts_of t l ≡ Some (value ty))
  list_fits env place items ty after t varies h a =
      let r = list_fills env place items ty after t varies h in
      (kept_agrees l env after r.names a, (r.fits a refl).facts)

  pub open_list_keeps : (env : Env) (items : List Init) (elem : TypeId) (after : Env) (n : ℕ) (ts : List TExpr) (varies : Bool) → IsOpenList l.types constant env items elem after n ts varies → IsKept env after
  open_list_keeps env items elem after n ts varies h = (all_fit env items elem n after ts h.tally h.fills).names

  pub open_list_fits : (env : Env) (items : List Init) (elem : TypeId) (after : Env) (n : ℕ) (ts : List TExpr) (varies : Bool) (whole : TypeId) (nested : Bool) (place : Place) (t : TExpr) → shape_of l.types whole ≡ shape.Array elem n nested → IsOpenList l.types constant env items elem after n ts varies → IsNode t whole place head.Fill ts → Agrees l env → Agrees l after × (facts_of t l ≡ Some (value whole))
  open_list_fits env items elem after n ts varies whole nested place t e h node a =
      let r = all_fit env items elem n after ts h.tally h.fills in
      (kept_agrees l env after r.names a, all_list l b whole elem n nested place t ts e node (r.fits a h.right))
