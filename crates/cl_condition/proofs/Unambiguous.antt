-- The grammar of conditions is unambiguous: what terms begin with is read in one way.
use Rattle.std.proofs.Common.{◌≡◌, ℕ, List, [], ◌∷◌, ◌++◌, refl, sym, ap, ◌∙◌, subst, append_assoc, arith}
use Rattle.std.specs.Prelude.{Bool, Some, None}
use Rattle.cl_precedence.specs.Grouping.{Groups, JoinsOne}
use Rattle.cl_precedence.proofs.Unique as unique
use Rattle.cl_condition.specs.declared.term.Term.{Term}
use Rattle.cl_condition.specs.declared.term.Term.TheVariants as term
use Rattle.cl_condition.specs.declared.operator.UnaryOperator.{UnaryOperator}
use Rattle.cl_condition.specs.declared.operator.BinaryOperator.{BinaryOperator}
use Rattle.cl_condition.specs.Operators.{unary_of, binary_of, level_of}
use Rattle.cl_condition.specs.Values.{Tree, Number, Unary, Choice}
use Rattle.cl_condition.specs.Conditions.{IsBinary, IsCondition, plain, choice, IsRow, single, more, IsUnary, number, prefix, bracket}
use Rattle.cl_condition.specs.Readings.{EndsRow, EndsCondition}

-- ---- what a part of a condition begins with

-- the terms that a unary, and others behind it, begin with
pub data Begins (t : Term) (w v : List Term) (a : Tree) : Type 0 where
  a_number : (bits : ℕ) (unsigned : Bool) → t ≡ term.Value bits unsigned → w ≡ v → a ≡ Number bits unsigned → Begins t w v a
  a_prefix : (mark : ℕ) (op : UnaryOperator) (u : List Term) (b : Tree) → t ≡ term.Mark mark → unary_of mark ≡ Some op → w ≡ u ++ v → IsUnary u b → a ≡ Unary op b → Begins t w v a
  a_bracket : (u : List Term) (b : Tree) → t ≡ term.Mark 8 → w ≡ u ++ term.Mark 9 ∷ v → IsCondition u b → a ≡ b → Begins t w v a

pub begins : (t : Term) (w u v : List Term) (a : Tree) → IsUnary u a → t ∷ w ≡ u ++ v → Begins t w v a
begins t w _ v _ (number bits unsigned) e =
    let h : t ∷ w ≡ term.Value bits unsigned ∷ v = e in
    a_number bits unsigned (cc) (cc) refl
begins t w _ v _ (prefix u mark op b is k) e =
    let h : t ∷ w ≡ term.Mark mark ∷ (u ++ v) = e in
    a_prefix mark op u b (cc) is (cc) k refl
begins t w _ v _ (bracket u b k) e =
    let h : t ∷ w ≡ term.Mark 8 ∷ ((u ++ term.Mark 9 ∷ []) ++ v) = e in
    let tail : w ≡ (u ++ term.Mark 9 ∷ []) ++ v = cc in
    a_bracket u b (cc) (tail ∙ append_assoc u (term.Mark 9 ∷ []) v) k refl

pub nothing_begins : (u v : List Term) (a : Tree) → IsUnary u a → [] ≡ u ++ v → ⊥
nothing_begins _ v _ (number bits unsigned) e = let h : [] ≡ term.Value bits unsigned ∷ v = e in cc
nothing_begins _ v _ (prefix u mark op b is k) e = let h : [] ≡ term.Mark mark ∷ (u ++ v) = e in cc
nothing_begins _ v _ (bracket u b k) e = let h : [] ≡ term.Mark 8 ∷ ((u ++ term.Mark 9 ∷ []) ++ v) = e in cc

-- a row is its first operand, and then nothing, or an operator and a row
pub data GoesOn (v : List Term) (rest : List (BinaryOperator × Tree)) (all : List Term) : Type 0 where
  no_more : all ≡ v → rest ≡ [] → GoesOn v rest all
  with_more : (mark : ℕ) (op : BinaryOperator) (w : List Term) (next : Tree) (others : List (BinaryOperator × Tree))
      → binary_of mark ≡ Some op → IsRow w next others → rest ≡ (op, next) ∷ others → all ≡ term.Mark mark ∷ (w ++ v) → GoesOn v rest all

pub record RowBegins (s v : List Term) (a : Tree) (rest : List (BinaryOperator × Tree)) : Type 0 where
  pub first : List Term
  pub behind : List Term
  pub is : IsUnary first a
  pub split : s ≡ first ++ behind
  pub on : GoesOn v rest behind

pub row_begins : (s u v : List Term) (a : Tree) (rest : List (BinaryOperator × Tree)) → IsRow u a rest → s ≡ u ++ v → RowBegins s v a rest
row_begins s _ v _ _ (single u a h) e = record { first = u; behind = v; is = h; split = e; on = no_more refl refl }
row_begins s _ v _ _ (more u w mark op a next rest h is k) e = record {
  first = u;
  behind = term.Mark mark ∷ (w ++ v);
  is = h;
  split = e ∙ append_assoc u (term.Mark mark ∷ w) v;
  on = with_more mark op w next rest is k refl refl;
}

-- a condition is a row, and then nothing, or `?`, a condition, `:` and a condition
pub data Chooses (v : List Term) (test tree : Tree) (all : List Term) : Type 0 where
  no_choice : all ≡ v → tree ≡ test → Chooses v test tree all
  with_choice : (y n : List Term) (passed failed : Tree) → IsCondition y passed → IsCondition n failed → tree ≡ Choice test passed failed
      → all ≡ term.Mark 35 ∷ (y ++ term.Mark 23 ∷ (n ++ v)) → Chooses v test tree all

pub record ConditionBegins (s v : List Term) (tree : Tree) : Type 0 where
  pub row : List Term
  pub behind : List Term
  pub first : Tree
  pub rest : List (BinaryOperator × Tree)
  pub test : Tree
  pub is : IsRow row first rest
  pub groups : Groups level_of IsBinary first rest test
  pub split : s ≡ row ++ behind
  pub chooses : Chooses v test tree behind

pub condition_begins : (s u v : List Term) (tree : Tree) → IsCondition u tree → s ≡ u ++ v → ConditionBegins s v tree
condition_begins s _ v _ (plain u first rest tree h g) e = record { row = u; behind = v; first = first; rest = rest; test = tree; is = h; groups = g; split = e; chooses = no_choice refl refl }
condition_begins s _ v _ (choice u y n first rest test passed failed h g k l) e = record {
  row = u;
  behind = term.Mark 35 ∷ (y ++ term.Mark 23 ∷ (n ++ v));
  first = first;
  rest = rest;
  test = test;
  is = h;
  groups = g;
  split = e ∙ append_assoc u (term.Mark 35 ∷ (y ++ term.Mark 23 ∷ n)) v ∙ ap (λ z. u ++ term.Mark 35 ∷ z) (append_assoc y (term.Mark 23 ∷ n) v);
  chooses = with_choice y n passed failed k l refl refl;
}

-- ---- a part is read in one way

pub joins_one : JoinsOne IsBinary
joins_one = record { one = λ op left right a b e f. e ∙ sym f }

-- terms that end a condition or go on with `?` end a row
pub ends_row : (v : List Term) → EndsCondition v → EndsRow v
ends_row [] h = tt
ends_row (term.Value bits unsigned ∷ v) h = tt
ends_row (term.Mark mark ∷ v) h = h.0
ends_row (term.Stray ∷ v) h = tt

-- what begins with an operator doesn't end a row
pub no_end : (v w : List Term) (mark : ℕ) (op : BinaryOperator) → v ≡ term.Mark mark ∷ w → binary_of mark ≡ Some op → EndsRow v → ⊥
no_end v w mark op e is h = let none : binary_of mark ≡ None = subst EndsRow e h in let k : None ≡ Some op = sym none ∙ is in cc

-- what begins with `?` doesn't end a condition
pub no_choice_end : (v w : List Term) → v ≡ term.Mark 35 ∷ w → EndsCondition v → ⊥
no_choice_end v w e h = let k = subst EndsCondition e h in k.1 refl

-- a row in a condition is ended
pub ends_choice : (v : List Term) (test tree : Tree) (all : List Term) → Chooses v test tree all → EndsCondition v → EndsRow all
ends_choice v test tree all (no_choice e f) h = subst EndsRow (sym e) (ends_row v h)
ends_choice v test tree all (with_choice y n passed failed k l e f) h = subst EndsRow (sym f) refl

one_number : (bits : ℕ) (unsigned : Bool) (v v2 : List Term) (a2 : Tree) → Begins (term.Value bits unsigned) v v2 a2 → (v ≡ v2) × (Number bits unsigned ≡ a2)
one_number bits unsigned v v2 a2 (a_number b u is e f) = (e, (cc))
one_number bits unsigned v v2 a2 (a_prefix mark op u b is o e k f) = absurd (cc)
one_number bits unsigned v v2 a2 (a_bracket u b is e k f) = absurd (cc)

one_prefix : (mark : ℕ) (op : UnaryOperator) (u : List Term) (a : Tree) (v v2 : List Term) (a2 : Tree) → unary_of mark ≡ Some op
    → ((u3 : List Term) (b : Tree) → IsUnary u3 b → u ++ v ≡ u3 ++ v2 → (v ≡ v2) × (a ≡ b)) → Begins (term.Mark mark) (u ++ v) v2 a2 → (v ≡ v2) × (Unary op a ≡ a2)
one_prefix mark op u a v v2 a2 is again (a_number b w e f g) = absurd (cc)
one_prefix mark op u a v v2 a2 is again (a_prefix mark3 op3 u3 b e is3 f k g) =
    let marks : mark3 ≡ mark = cc in
    let same : Some op ≡ Some op3 = sym is ∙ ap unary_of (sym marks) ∙ is3 in
    let ops : op ≡ op3 = cc in
    let r = again u3 b k f in
    let trees : a ≡ b = r.1 in
    (r.0, (cc))
one_prefix mark op u a v v2 a2 is again (a_bracket u3 b e f k g) =
    absurd (let marks : mark ≡ 8 = cc in let h : None ≡ Some op = ap unary_of (sym marks) ∙ is in cc)

one_bracket : (u : List Term) (a : Tree) (v v2 : List Term) (a2 : Tree)
    → ((u3 : List Term) (b : Tree) → IsCondition u3 b → (w w2 : List Term) → u ++ w ≡ u3 ++ w2 → EndsCondition w → EndsCondition w2 → (w ≡ w2) × (a ≡ b))
    → Begins (term.Mark 8) (u ++ term.Mark 9 ∷ v) v2 a2 → (v ≡ v2) × (a ≡ a2)
one_bracket u a v v2 a2 again (a_number b w e f g) = absurd (cc)
one_bracket u a v v2 a2 again (a_prefix mark op u3 b e is f k g) =
    absurd (let marks : mark ≡ 8 = cc in let h : None ≡ Some op = ap unary_of (sym marks) ∙ is in cc)
one_bracket u a v v2 a2 again (a_bracket u3 b e f k g) =
    let r = again u3 b k (term.Mark 9 ∷ v) (term.Mark 9 ∷ v2) f (refl, λ h. omega arith) (refl, λ h. omega arith) in
    let rests : term.Mark 9 ∷ v ≡ term.Mark 9 ∷ v2 = r.0 in
    ((cc), r.1 ∙ sym g)

single_row : (v v2 : List Term) (a a2 : Tree) (r2 : List (BinaryOperator × Tree)) (all : List Term) → GoesOn v2 r2 all → v ≡ all → a ≡ a2 → EndsRow v → (v ≡ v2) × (a ≡ a2) × ([] ≡ r2)
single_row v v2 a a2 r2 all (no_more e f) same trees h = (same ∙ e, trees, sym f)
single_row v v2 a a2 r2 all (with_more mark op w next others is k f e) same trees h = absurd (no_end v (w ++ v2) mark op (same ∙ e) is h)

more_row : (mark : ℕ) (op : BinaryOperator) (w : List Term) (next : Tree) (rest : List (BinaryOperator × Tree)) (v v2 : List Term) (a a2 : Tree) (r2 : List (BinaryOperator × Tree)) (all : List Term) → binary_of mark ≡ Some op
    → ((u3 : List Term) (a3 : Tree) (r3 : List (BinaryOperator × Tree)) → IsRow u3 a3 r3 → w ++ v ≡ u3 ++ v2 → (v ≡ v2) × (next ≡ a3) × (rest ≡ r3))
    → GoesOn v2 r2 all → term.Mark mark ∷ (w ++ v) ≡ all → a ≡ a2 → EndsRow v2 → (v ≡ v2) × (a ≡ a2) × ((op, next) ∷ rest ≡ r2)
more_row mark op w next rest v v2 a a2 r2 all is again (no_more e f) same trees h = absurd (no_end v2 (w ++ v) mark op (sym (same ∙ e)) is h)
more_row mark op w next rest v v2 a a2 r2 all is again (with_more mark3 op3 w3 next3 others is3 k f e) same trees h =
    let s : term.Mark mark ∷ (w ++ v) ≡ term.Mark mark3 ∷ (w3 ++ v2) = same ∙ e in
    let marks : mark ≡ mark3 = cc in
    let tails : w ++ v ≡ w3 ++ v2 = cc in
    let o : Some op ≡ Some op3 = sym is ∙ ap binary_of marks ∙ is3 in
    let ops : op ≡ op3 = cc in
    let r = again w3 next3 others k tails in
    let nexts : next ≡ next3 = r.1 in
    let rests : rest ≡ others = r.2 in
    (r.0, trees, (cc))

plain_condition : (v v2 : List Term) (tree a2 : Tree) (all : List Term) (test : Tree) → Chooses v2 test a2 all → v ≡ all → tree ≡ test → EndsCondition v → (v ≡ v2) × (tree ≡ a2)
plain_condition v v2 tree a2 all test (no_choice e f) same trees h = (same ∙ e, trees ∙ sym f)
plain_condition v v2 tree a2 all test (with_choice y n passed failed k l f e) same trees h = absurd (no_choice_end v (y ++ term.Mark 23 ∷ (n ++ v2)) (same ∙ e) h)

choice_condition : (w n : List Term) (test passed failed : Tree) (v v2 : List Term) (a2 : Tree) (all : List Term) (test2 : Tree)
    → ((u3 : List Term) (b : Tree) → IsCondition u3 b → (z z2 : List Term) → w ++ z ≡ u3 ++ z2 → EndsCondition z → EndsCondition z2 → (z ≡ z2) × (passed ≡ b))
    → ((u3 : List Term) (b : Tree) → IsCondition u3 b → n ++ v ≡ u3 ++ v2 → (v ≡ v2) × (failed ≡ b))
    → Chooses v2 test2 a2 all → term.Mark 35 ∷ (w ++ term.Mark 23 ∷ (n ++ v)) ≡ all → test ≡ test2 → EndsCondition v2 → (v ≡ v2) × (Choice test passed failed ≡ a2)
choice_condition w n test passed failed v v2 a2 all test2 first second (no_choice e f) same tests h = absurd (no_choice_end v2 (w ++ term.Mark 23 ∷ (n ++ v)) (sym (same ∙ e)) h)
choice_condition w n test passed failed v v2 a2 all test2 first second (with_choice y m passed2 failed2 k l f e) same tests h =
    let s : term.Mark 35 ∷ (w ++ term.Mark 23 ∷ (n ++ v)) ≡ term.Mark 35 ∷ (y ++ term.Mark 23 ∷ (m ++ v2)) = same ∙ e in
    let tails : w ++ term.Mark 23 ∷ (n ++ v) ≡ y ++ term.Mark 23 ∷ (m ++ v2) = cc in
    let r = first y passed2 k (term.Mark 23 ∷ (n ++ v)) (term.Mark 23 ∷ (m ++ v2)) tails (refl, λ h. omega arith) (refl, λ h. omega arith) in
    let rests : term.Mark 23 ∷ (n ++ v) ≡ term.Mark 23 ∷ (m ++ v2) = r.0 in
    let behind : n ++ v ≡ m ++ v2 = cc in
    let t = second m failed2 l behind in
    let arms : passed ≡ passed2 = r.1 in
    let others : failed ≡ failed2 = t.1 in
    (t.0, (cc))

same_group : (a a2 : Tree) (r r2 : List (BinaryOperator × Tree)) (t t2 : Tree) → Groups level_of IsBinary a r t → Groups level_of IsBinary a2 r2 t2 → a ≡ a2 → r ≡ r2 → t ≡ t2
same_group a a2 r r2 t t2 g h e f = unique.one level_of IsBinary joins_one a r t t2 g (subst (λ z. Groups level_of IsBinary z r t2) (sym e) (subst (λ z. Groups level_of IsBinary a2 z t2) (sym f) h))

mutual
  pub one_unary : (u : List Term) (a : Tree) → IsUnary u a → (u2 v v2 : List Term) (a2 : Tree) → IsUnary u2 a2 → u ++ v ≡ u2 ++ v2 → (v ≡ v2) × (a ≡ a2)
  one_unary _ _ (number bits unsigned) u2 v v2 a2 h e = one_number bits unsigned v v2 a2 (begins (term.Value bits unsigned) v u2 v2 a2 h e)
  one_unary _ _ (prefix u mark op a is k) u2 v v2 a2 h e = one_prefix mark op u a v v2 a2 is (λ u3 b l f. one_unary u a k u3 v v2 b l f) (begins (term.Mark mark) (u ++ v) u2 v2 a2 h e)
  one_unary _ _ (bracket u a k) u2 v v2 a2 h e =
      one_bracket u a v v2 a2 (λ u3 b l w w2 f x y. one_condition u a k u3 w w2 b l f x y)
      (begins (term.Mark 8) (u ++ term.Mark 9 ∷ v) u2 v2 a2 h (ap (λ z. term.Mark 8 ∷ z) (sym (append_assoc u (term.Mark 9 ∷ []) v)) ∙ e))

  pub one_row : (u : List Term) (a : Tree) (r : List (BinaryOperator × Tree)) → IsRow u a r → (u2 v v2 : List Term) (a2 : Tree) (r2 : List (BinaryOperator × Tree)) → IsRow u2 a2 r2 → u ++ v ≡ u2 ++ v2 → EndsRow v → EndsRow v2
      → (v ≡ v2) × (a ≡ a2) × (r ≡ r2)
  one_row _ _ _ (single u a k) u2 v v2 a2 r2 h e x y =
      let b = row_begins (u ++ v) u2 v2 a2 r2 h e in
      let o = one_unary u a k b.first v b.behind a2 b.is b.split in
      single_row v v2 a a2 r2 b.behind b.on o.0 o.1 x
  one_row _ _ _ (more u w mark op a next rest k is l) u2 v v2 a2 r2 h e x y =
      let f = sym (append_assoc u (term.Mark mark ∷ w) v) ∙ e in
      let b = row_begins (u ++ term.Mark mark ∷ (w ++ v)) u2 v2 a2 r2 h f in
      let o = one_unary u a k b.first (term.Mark mark ∷ (w ++ v)) b.behind a2 b.is b.split in
      more_row mark op w next rest v v2 a a2 r2 b.behind is (λ u3 a3 r3 m g. one_row w next rest l u3 v v2 a3 r3 m g x y) b.on o.0 o.1 y

  pub one_condition : (u : List Term) (a : Tree) → IsCondition u a → (u2 v v2 : List Term) (a2 : Tree) → IsCondition u2 a2 → u ++ v ≡ u2 ++ v2 → EndsCondition v → EndsCondition v2 → (v ≡ v2) × (a ≡ a2)
  one_condition _ _ (plain u first rest tree k g) u2 v v2 a2 h e x y =
      let b = condition_begins (u ++ v) u2 v2 a2 h e in
      let o = one_row u first rest k b.row v b.behind b.first b.rest b.is b.split (ends_row v x) (ends_choice v2 b.test a2 b.behind b.chooses y) in
      plain_condition v v2 tree a2 b.behind b.test b.chooses o.0 (same_group first b.first rest b.rest tree b.test g b.groups o.1 o.2) x
  one_condition _ _ (choice u w n first rest test passed failed k g l m) u2 v v2 a2 h e x y =
      let f = sym (append_assoc u (term.Mark 35 ∷ (w ++ term.Mark 23 ∷ n)) v ∙ ap (λ z. u ++ term.Mark 35 ∷ z) (append_assoc w (term.Mark 23 ∷ n) v)) ∙ e in
      let b = condition_begins (u ++ term.Mark 35 ∷ (w ++ term.Mark 23 ∷ (n ++ v))) u2 v2 a2 h f in
      let o = one_row u first rest k b.row (term.Mark 35 ∷ (w ++ term.Mark 23 ∷ (n ++ v))) b.behind b.first b.rest b.is b.split refl (ends_choice v2 b.test a2 b.behind b.chooses y) in
      choice_condition w n test passed failed v v2 a2 b.behind b.test (λ u3 b3 q z z2 c i j. one_condition w passed l u3 z z2 b3 q c i j) (λ u3 b3 q c. one_condition n failed m u3 v v2 b3 q c x y)
      b.chooses o.0 (same_group first b.first rest b.rest test b.test g b.groups o.1 o.2) y
