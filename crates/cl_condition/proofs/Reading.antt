-- What was read at each step, and why a reading stops.
use Rattle.std.proofs.Common.{◌≡◌, ◌≢◌, ℕ, ◌+◌, List, [], ◌∷◌, ◌++◌, drop, refl, sym, ap, ◌∙◌, subst, append_assoc, arith}
use Rattle.std.specs.Prelude.{Bool, Some, None}
use Rattle.cl_precedence.specs.Grouping.{Groups, viewed, JoinsOne, JoinsSome}
use Rattle.cl_precedence.proofs.Unique as unique
use Rattle.cl_condition.specs.declared.term.Term.{Term}
use Rattle.cl_condition.specs.declared.term.Term.TheVariants as term
use Rattle.cl_condition.specs.declared.outcome.Outcome.{Outcome}
use Rattle.cl_condition.specs.declared.read.Halt.{Halt}
use Rattle.cl_condition.specs.declared.read.Halt.TheVariants.{Malformed, NoMemory}
use Rattle.cl_condition.specs.declared.operator.UnaryOperator.{UnaryOperator}
use Rattle.cl_condition.specs.declared.operator.BinaryOperator.{BinaryOperator}
use Rattle.cl_condition.specs.Operators.{unary_of, binary_of, level_of}
use Rattle.cl_condition.specs.Values.{Tree, Number, Unary, Binary, Choice}
use Rattle.cl_condition.specs.Conditions.{IsBinary, IsCondition, plain, choice, IsRow, single, more, IsUnary, number, prefix, bracket}
use Rattle.cl_condition.specs.Readings.{outcome_of, unary_outcome, binary_outcome, choice_outcome, EndsRow, EndsCondition, StandsAt, MarkAt, IsEndAt, OtherAt, OperatorAt, NoOperatorAt, UnaryAt, RowAt, ConditionAt, PartAt, NoUnaryAt, NoConditionAt, UnaryStopped, RowStopped, ConditionStopped}
use Rattle.cl_condition.proofs.Unambiguous.{Begins, a_number, a_prefix, a_bracket, begins, nothing_begins, GoesOn, no_more, with_more, row_begins, Chooses, no_choice, with_choice, condition_begins, no_end, no_choice_end, ends_choice, one_unary, one_row, one_condition}

-- ---- a unary

pub number_at : (ts : List Term) (at bits : ℕ) (unsigned : Bool) (o : Outcome) → StandsAt ts at (term.Value bits unsigned) → o ≡ outcome_of (Number bits unsigned) → UnaryAt ts at (at + 1) o
number_at ts at bits unsigned o h e = record {
  forth = omega arith;
  within = let lt = h.within in omega arith;
  used = term.Value bits unsigned ∷ [];
  tree = Number bits unsigned;
  split = h.here;
  is = number bits unsigned;
  comes = e;
}

-- what stands there begins no unary
nothing_from : (ts : List Term) (at : ℕ) (t : Term) → StandsAt ts at t → ((v : List Term) (a : Tree) → Begins t (drop (at + 1) ts) v a → ⊥) → UnaryStopped ts at Malformed
nothing_from ts at t h no_way = record { stopped = record { none = λ u v a e k. no_way v a (begins t (drop (at + 1) ts) u v a k (sym h.here ∙ e)) } }

stray_begins : (w v : List Term) (a : Tree) → Begins term.Stray w v a → ⊥
stray_begins w v a (a_number bits unsigned e f g) = cc
stray_begins w v a (a_prefix mark op u b e is f k g) = cc
stray_begins w v a (a_bracket u b e f k g) = cc

pub no_unary_stray : (ts : List Term) (at : ℕ) → StandsAt ts at term.Stray → UnaryStopped ts at Malformed
no_unary_stray ts at h = nothing_from ts at term.Stray h (stray_begins (drop (at + 1) ts))

pub no_unary_end : (ts : List Term) (at : ℕ) → IsEndAt ts at → UnaryStopped ts at Malformed
no_unary_end ts at h = record { stopped = record { none = λ u v a e k. nothing_begins u v a k (sym h.none ∙ e) } }

mark_begins : (m : ℕ) (w v : List Term) (a : Tree) → unary_of m ≡ None → m ≢ 8 → Begins (term.Mark m) w v a → ⊥
mark_begins m w v a none other (a_number bits unsigned e f g) = cc
mark_begins m w v a none other (a_prefix mark op u b e is f k g) = let marks : m ≡ mark = cc in let h : None ≡ Some op = sym none ∙ ap unary_of marks ∙ is in cc
mark_begins m w v a none other (a_bracket u b e f k g) = other (let marks : m ≡ 8 = cc in marks)

pub no_unary_mark : (ts : List Term) (at m : ℕ) → MarkAt ts at m → unary_of m ≡ None → m ≢ 8 → UnaryStopped ts at Malformed
no_unary_mark ts at m h none other = nothing_from ts at (term.Mark m) h (λ v a b. mark_begins m (drop (at + 1) ts) v a none other b)

-- ---- a bracket

pub bracket_at : (ts : List Term) (at close : ℕ) (o : Outcome) → MarkAt ts at 8 → ConditionAt ts (at + 1) close o → MarkAt ts close 9 → UnaryAt ts at (close + 1) o
bracket_at ts at close o h c k = record {
  forth = let lt = c.forth in omega arith;
  within = let lt = k.within in omega arith;
  used = term.Mark 8 ∷ (c.used ++ term.Mark 9 ∷ []);
  tree = c.tree;
  split = h.here ∙ ap (λ z. term.Mark 8 ∷ z) (c.split ∙ ap (λ z. c.used ++ z) k.here ∙ sym (append_assoc c.used (term.Mark 9 ∷ []) (drop (close + 1) ts)));
  is = bracket c.used c.tree c.is;
  comes = c.comes;
}

-- only a bracket begins so
open_begins : (w v : List Term) (a : Tree) → Begins (term.Mark 8) w v a → (u : List Term) × (b : Tree) × (w ≡ u ++ term.Mark 9 ∷ v) × IsCondition u b
open_begins w v a (a_number bits unsigned e f g) = absurd (cc)
open_begins w v a (a_prefix mark op u b e is f k g) = absurd (let marks : mark ≡ 8 = cc in let h : None ≡ Some op = ap unary_of (sym marks) ∙ is in cc)
open_begins w v a (a_bracket u b e f k g) = (u, b, f, k)

open_from : (ts : List Term) (at : ℕ) → MarkAt ts at 8 → ((u v : List Term) (b : Tree) → drop (at + 1) ts ≡ u ++ term.Mark 9 ∷ v → IsCondition u b → ⊥) → NoUnaryAt ts at
open_from ts at h no_way = record { none = λ u v a e k. let o = open_begins (drop (at + 1) ts) v a (begins (term.Mark 8) (drop (at + 1) ts) u v a k (sym h.here ∙ e)) in no_way o.0 v o.1 o.2 o.3 }

pub bracket_open : (ts : List Term) (at close : ℕ) (o : Outcome) → MarkAt ts at 8 → ConditionAt ts (at + 1) close o → OtherAt ts close 9 → UnaryStopped ts at Malformed
bracket_open ts at close o h c k = record {
  stopped = open_from ts at h (λ u v b e q.
      let r = one_condition c.used c.tree c.is u (drop close ts) (term.Mark 9 ∷ v) b q (sym c.split ∙ e) c.ends (refl, λ x. omega arith) in
      k.other v r.0);
}

pub bracket_stopped : (ts : List Term) (at : ℕ) (stop : Halt) → MarkAt ts at 8 → ConditionStopped ts (at + 1) stop → UnaryStopped ts at stop
bracket_stopped ts at Malformed h c = record { stopped = open_from ts at h (λ u v b e q. c.stopped.none u (term.Mark 9 ∷ v) b e q (refl, λ x. omega arith)) }
bracket_stopped ts at NoMemory h c = record { stopped = tt }

-- ---- an operator before its operand

pub prefix_at : (ts : List Term) (at next m : ℕ) (op : UnaryOperator) (o p : Outcome) → MarkAt ts at m → unary_of m ≡ Some op → UnaryAt ts (at + 1) next o → p ≡ unary_outcome op o → UnaryAt ts at next p
prefix_at ts at next m op o p h is k e = record {
  forth = let lt = k.forth in omega arith;
  within = k.within;
  used = term.Mark m ∷ k.used;
  tree = Unary op k.tree;
  split = h.here ∙ ap (λ z. term.Mark m ∷ z) k.split;
  is = prefix k.used m op k.tree is k.is;
  comes = e ∙ ap (unary_outcome op) k.comes;
}

prefix_begins : (m : ℕ) (op : UnaryOperator) (w v : List Term) (a : Tree) → unary_of m ≡ Some op → Begins (term.Mark m) w v a → (u : List Term) × (b : Tree) × (w ≡ u ++ v) × IsUnary u b
prefix_begins m op w v a is (a_number bits unsigned e f g) = absurd (cc)
prefix_begins m op w v a is (a_prefix mark op2 u b e is2 f k g) = (u, b, f, k)
prefix_begins m op w v a is (a_bracket u b e f k g) = absurd (let marks : m ≡ 8 = cc in let h : None ≡ Some op = ap unary_of (sym marks) ∙ is in cc)

pub prefix_stopped : (ts : List Term) (at m : ℕ) (op : UnaryOperator) (stop : Halt) → MarkAt ts at m → unary_of m ≡ Some op → UnaryStopped ts (at + 1) stop → UnaryStopped ts at stop
prefix_stopped ts at m op Malformed h is k = record {
  stopped = record {
    none = λ u v a e q. let o = prefix_begins m op (drop (at + 1) ts) v a is (begins (term.Mark m) (drop (at + 1) ts) u v a q (sym h.here ∙ e)) in k.stopped.none o.0 v o.1 o.2 o.3;
  };
}
prefix_stopped ts at m op NoMemory h is k = record { stopped = tt }

-- ---- a row

viewed_more : {Op A B : Type 0} (view : A → B) (xs : List (Op × A)) (op : Op) (a : A) → viewed view (xs ++ (op, a) ∷ []) ≡ viewed view xs ++ (op, view a) ∷ []
viewed_more view [] op a = refl
viewed_more view (x ∷ xs) op a = ap (λ z. (x.0, view x.1) ∷ z) (viewed_more view xs op a)

row_more : (u v : List Term) (m : ℕ) (op : BinaryOperator) (a b : Tree) (r : List (BinaryOperator × Tree)) → IsRow u a r → binary_of m ≡ Some op → IsUnary v b → IsRow (u ++ term.Mark m ∷ v) a (r ++ (op, b) ∷ [])
row_more _ v m op _ b _ (single u a h) is k = more u v m op a b [] h is (single v b k)
row_more _ v m op _ b _ (more u w mark op2 a next rest h is2 l) is k =
    subst (λ z. IsRow z a ((op2, next) ∷ (rest ++ (op, b) ∷ []))) (sym (append_assoc u (term.Mark mark ∷ w) (term.Mark m ∷ v)))
    (more u (w ++ term.Mark m ∷ v) mark op2 a next (rest ++ (op, b) ∷ []) h is2 (row_more w v m op next b rest l is k))

pub part_first : (ts : List Term) (at next : ℕ) (o : Outcome) → UnaryAt ts at next o → PartAt ts at next o []
part_first ts at next o k = record { forth = k.forth; within = k.within; used = k.used; first = k.tree; rest = []; split = k.split; is = single k.used k.tree k.is; comes = k.comes; come = refl }

pub part_more : (ts : List Term) (at here next : ℕ) (o p : Outcome) (os : List (BinaryOperator × Outcome)) (op : BinaryOperator) → PartAt ts at here o os → OperatorAt ts here op → UnaryAt ts (here + 1) next p → PartAt ts at next o (os ++ (op, p) ∷ [])
part_more ts at here next o p os op h k l = record {
  forth = let a = h.forth in let b = l.forth in omega arith;
  within = l.within;
  used = h.used ++ term.Mark k.mark ∷ l.used;
  first = h.first;
  rest = h.rest ++ (op, l.tree) ∷ [];
  split = h.split ∙ ap (λ z. h.used ++ z) (k.stands.here ∙ ap (λ z. term.Mark k.mark ∷ z) l.split) ∙ sym (append_assoc h.used (term.Mark k.mark ∷ l.used) (drop next ts));
  is = row_more h.used l.used k.mark op h.first l.tree h.rest h.is k.is l.is;
  comes = h.comes;
  come = ap (λ z. z ++ (op, p) ∷ []) h.come ∙ ap (λ z. viewed outcome_of h.rest ++ (op, z) ∷ []) l.comes ∙ sym (viewed_more outcome_of h.rest op l.tree);
}

-- outcomes of trees that operators join are joined by them
abbrev pub IsJoined : BinaryOperator → Outcome → Outcome → Outcome → Type 0
IsJoined op left right outcome = outcome ≡ binary_outcome op left right

joined_one : JoinsOne IsJoined
joined_one = record { one = λ op left right a b e f. e ∙ sym f }

trees_some : JoinsSome IsBinary
trees_some = record { some = λ op left right. (Binary op left right, refl) }

pub row_done : (ts : List Term) (at here : ℕ) (o g : Outcome) (os : List (BinaryOperator × Outcome)) → PartAt ts at here o os → NoOperatorAt ts here → Groups level_of IsJoined o os g → RowAt ts at here g
row_done ts at here o g os h k l =
    let t = unique.some level_of IsBinary trees_some h.first h.rest in
    let seen : Groups level_of IsJoined (outcome_of h.first) (viewed outcome_of h.rest) (outcome_of t.0) = unique.seen level_of IsBinary IsJoined outcome_of (λ op left right tree e. ap outcome_of e) h.first h.rest t.0 t.1 in
    let had : Groups level_of IsJoined (outcome_of h.first) (viewed outcome_of h.rest) g = subst (λ z. Groups level_of IsJoined z (viewed outcome_of h.rest) g) h.comes (subst (λ z. Groups level_of IsJoined o z g) h.come l) in
    record {
      forth = h.forth;
      within = h.within;
      used = h.used;
      first = h.first;
      rest = h.rest;
      tree = t.0;
      split = h.split;
      is = h.is;
      groups = t.1;
      comes = unique.one level_of IsJoined joined_one (outcome_of h.first) (viewed outcome_of h.rest) g (outcome_of t.0) had seen;
      ends = k.ends;
    }

pub row_stopped_first : (ts : List Term) (at : ℕ) (stop : Halt) → UnaryStopped ts at stop → RowStopped ts at stop
row_stopped_first ts at Malformed h = record { stopped = record { none = λ u v a r e k x. let b = row_begins (drop at ts) u v a r k e in h.stopped.none b.first b.behind a b.split b.is } }
row_stopped_first ts at NoMemory h = record { stopped = tt }

next_behind : (m : ℕ) (op : BinaryOperator) (w v2 : List Term) (r2 : List (BinaryOperator × Tree)) (all : List Term) → binary_of m ≡ Some op → GoesOn v2 r2 all → term.Mark m ∷ w ≡ all → EndsRow v2
    → ((u3 v3 : List Term) (b : Tree) → w ≡ u3 ++ v3 → IsUnary u3 b → ⊥) → ⊥
next_behind m op w v2 r2 all is (no_more e f) same x no_way = no_end v2 w m op (sym (same ∙ e)) is x
next_behind m op w v2 r2 all is (with_more mark op2 y next others is2 k f e) same x no_way =
    let s : term.Mark m ∷ w ≡ term.Mark mark ∷ (y ++ v2) = same ∙ e in
    let tails : w ≡ y ++ v2 = cc in
    let b = row_begins w y v2 next others k tails in
    no_way b.first b.behind next b.split b.is

more_behind : (m : ℕ) (op : BinaryOperator) (y w v2 : List Term) (r2 : List (BinaryOperator × Tree)) (all : List Term) → binary_of m ≡ Some op → GoesOn v2 r2 all → term.Mark m ∷ (y ++ w) ≡ all → EndsRow v2
    → ((u3 : List Term) (a3 : Tree) (r3 : List (BinaryOperator × Tree)) → IsRow u3 a3 r3 → y ++ w ≡ u3 ++ v2 → ⊥) → ⊥
more_behind m op y w v2 r2 all is (no_more e f) same x again = no_end v2 (y ++ w) m op (sym (same ∙ e)) is x
more_behind m op y w v2 r2 all is (with_more mark op2 z next others is2 k f e) same x again =
    let s : term.Mark m ∷ (y ++ w) ≡ term.Mark mark ∷ (z ++ v2) = same ∙ e in
    again z next others k (let tails : y ++ w ≡ z ++ v2 = cc in tails)

-- a row that goes on with an operator has an operand behind it
has_next : (u : List Term) (a : Tree) (r : List (BinaryOperator × Tree)) → IsRow u a r → (m : ℕ) (op : BinaryOperator) (w : List Term) → binary_of m ≡ Some op → (u2 v2 : List Term) (a2 : Tree) (r2 : List (BinaryOperator × Tree)) → IsRow u2 a2 r2
    → u ++ term.Mark m ∷ w ≡ u2 ++ v2 → EndsRow v2 → ((u3 v3 : List Term) (b : Tree) → w ≡ u3 ++ v3 → IsUnary u3 b → ⊥) → ⊥
has_next _ _ _ (single u a h) m op w is u2 v2 a2 r2 k e x no_way =
    let b = row_begins (u ++ term.Mark m ∷ w) u2 v2 a2 r2 k e in
    let o = one_unary u a h b.first (term.Mark m ∷ w) b.behind a2 b.is b.split in
    next_behind m op w v2 r2 b.behind is b.on o.0 x no_way
has_next _ _ _ (more u y mark op2 a next rest h is2 l) m op w is u2 v2 a2 r2 k e x no_way =
    let f = sym (append_assoc u (term.Mark mark ∷ y) (term.Mark m ∷ w)) ∙ e in
    let b = row_begins (u ++ term.Mark mark ∷ (y ++ term.Mark m ∷ w)) u2 v2 a2 r2 k f in
    let o = one_unary u a h b.first (term.Mark mark ∷ (y ++ term.Mark m ∷ w)) b.behind a2 b.is b.split in
    more_behind mark op2 y (term.Mark m ∷ w) v2 r2 b.behind is2 b.on o.0 x (λ u3 a3 r3 q i. has_next y next rest l m op w is u3 v2 a3 r3 q i x no_way)

pub row_stopped_more : (ts : List Term) (at here : ℕ) (o : Outcome) (os : List (BinaryOperator × Outcome)) (op : BinaryOperator) (stop : Halt) → PartAt ts at here o os → OperatorAt ts here op → UnaryStopped ts (here + 1) stop → RowStopped ts at stop
row_stopped_more ts at here o os op Malformed h k l = record {
  stopped = record {
    none = λ u v a r e q x.
        has_next h.used h.first h.rest h.is k.mark op (drop (here + 1) ts) k.is u v a r q (sym (h.split ∙ ap (λ z. h.used ++ z) k.stands.here) ∙ e) x l.stopped.none;
  };
}
row_stopped_more ts at here o os op NoMemory h k l = record { stopped = tt }

pub row_no_memory : (ts : List Term) (at : ℕ) → RowStopped ts at NoMemory
row_no_memory ts at = record { stopped = tt }

-- ---- a condition

-- what doesn't go on with `?` ends a condition
ends_here : (s : List Term) → EndsRow s → ((rest : List Term) → s ≡ term.Mark 35 ∷ rest → ⊥) → EndsCondition s
ends_here [] h k = tt
ends_here (term.Value bits unsigned ∷ s) h k = tt
ends_here (term.Mark m ∷ s) h k = (h, λ e. k s (ap (λ z. term.Mark z ∷ s) e))
ends_here (term.Stray ∷ s) h k = tt

pub condition_plain : (ts : List Term) (at here : ℕ) (o : Outcome) → RowAt ts at here o → OtherAt ts here 35 → ConditionAt ts at here o
condition_plain ts at here o h k = record {
  forth = h.forth;
  within = h.within;
  used = h.used;
  tree = h.tree;
  split = h.split;
  is = plain h.used h.first h.rest h.tree h.is h.groups;
  comes = h.comes;
  ends = ends_here (drop here ts) h.ends k.other;
}

pub condition_choice : (ts : List Term) (at here colon next : ℕ) (o p q r : Outcome) → RowAt ts at here o → MarkAt ts here 35 → ConditionAt ts (here + 1) colon p → MarkAt ts colon 23 → ConditionAt ts (colon + 1) next q → r ≡ choice_outcome o p q → ConditionAt ts at next r
condition_choice ts at here colon next o p q r h m c k d e = record {
  forth = let a = h.forth in let b = c.forth in let f = d.forth in omega arith;
  within = d.within;
  used = h.used ++ term.Mark 35 ∷ (c.used ++ term.Mark 23 ∷ d.used);
  tree = Choice h.tree c.tree d.tree;
  split =
      h.split ∙ ap (λ z. h.used ++ z) (m.here ∙ ap (λ z. term.Mark 35 ∷ z) (c.split ∙ ap (λ z. c.used ++ z) (k.here ∙ ap (λ z. term.Mark 23 ∷ z) d.split)))
      ∙ sym (append_assoc h.used (term.Mark 35 ∷ (c.used ++ term.Mark 23 ∷ d.used)) (drop next ts) ∙ ap (λ z. h.used ++ term.Mark 35 ∷ z) (append_assoc c.used (term.Mark 23 ∷ d.used) (drop next ts)));
  is = choice h.used c.used d.used h.first h.rest h.tree c.tree d.tree h.is h.groups c.is d.is;
  comes = e ∙ ap (λ z. choice_outcome z p q) h.comes ∙ ap (λ z. choice_outcome (outcome_of h.tree) z q) c.comes ∙ ap (λ z. choice_outcome (outcome_of h.tree) (outcome_of c.tree) z) d.comes;
  ends = d.ends;
}

pub condition_stopped_row : (ts : List Term) (at : ℕ) (stop : Halt) → RowStopped ts at stop → ConditionStopped ts at stop
condition_stopped_row ts at Malformed h = record {
  stopped = record {
    none = λ u v a e k x. let b = condition_begins (drop at ts) u v a k e in h.stopped.none b.row b.behind b.first b.rest b.split b.is (ends_choice v b.test a b.behind b.chooses x);
  };
}
condition_stopped_row ts at NoMemory h = record { stopped = tt }

-- a condition whose row goes on with `?` has two arms
arms_behind : (v w : List Term) (test tree : Tree) (all : List Term) → Chooses v test tree all → term.Mark 35 ∷ w ≡ all → EndsCondition v → (y n : List Term) × (a b : Tree) × IsCondition y a × IsCondition n b × (w ≡ y ++ term.Mark 23 ∷ (n ++ v))
arms_behind v w test tree all (no_choice e f) same x = absurd (no_choice_end v w (sym (same ∙ e)) x)
arms_behind v w test tree all (with_choice y n a b k l f e) same x =
    let s : term.Mark 35 ∷ w ≡ term.Mark 35 ∷ (y ++ term.Mark 23 ∷ (n ++ v)) = same ∙ e in
    (y, n, a, b, k, l, (cc))

arms_from : (ts : List Term) (at here : ℕ) (o : Outcome) → RowAt ts at here o → MarkAt ts here 35
    → ((y n v : List Term) (a b : Tree) → IsCondition y a → IsCondition n b → drop (here + 1) ts ≡ y ++ term.Mark 23 ∷ (n ++ v) → EndsCondition v → ⊥) → NoConditionAt ts at
arms_from ts at here o h m no_way = record {
  none = λ u v a e k x.
      let b = condition_begins (drop at ts) u v a k e in
      let r = one_row h.used h.first h.rest h.is b.row (drop here ts) b.behind b.first b.rest b.is (sym h.split ∙ b.split) h.ends (ends_choice v b.test a b.behind b.chooses x) in
      let arms = arms_behind v (drop (here + 1) ts) b.test a b.behind b.chooses (sym m.here ∙ r.0) x in
      no_way arms.0 arms.1 v arms.2 arms.3 arms.4 arms.5 arms.6 x;
}

pub condition_stopped_passed : (ts : List Term) (at here : ℕ) (o : Outcome) (stop : Halt) → RowAt ts at here o → MarkAt ts here 35 → ConditionStopped ts (here + 1) stop → ConditionStopped ts at stop
condition_stopped_passed ts at here o Malformed h m c = record { stopped = arms_from ts at here o h m (λ y n v a b k l e x. c.stopped.none y (term.Mark 23 ∷ (n ++ v)) a e k (refl, λ z. omega arith)) }
condition_stopped_passed ts at here o NoMemory h m c = record { stopped = tt }

-- the first arm is the one that was read
first_arm : (ts : List Term) (here colon : ℕ) (p : Outcome) (y n v : List Term) (a : Tree) → ConditionAt ts (here + 1) colon p → IsCondition y a → drop (here + 1) ts ≡ y ++ term.Mark 23 ∷ (n ++ v) → drop colon ts ≡ term.Mark 23 ∷ (n ++ v)
first_arm ts here colon p y n v a c k e = (one_condition c.used c.tree c.is y (drop colon ts) (term.Mark 23 ∷ (n ++ v)) a k (sym c.split ∙ e) c.ends (refl, λ z. omega arith)).0

pub condition_no_colon : (ts : List Term) (at here colon : ℕ) (o p : Outcome) → RowAt ts at here o → MarkAt ts here 35 → ConditionAt ts (here + 1) colon p → OtherAt ts colon 23 → ConditionStopped ts at Malformed
condition_no_colon ts at here colon o p h m c other = record { stopped = arms_from ts at here o h m (λ y n v a b k l e x. other.other (n ++ v) (first_arm ts here colon p y n v a c k e)) }

pub condition_stopped_failed : (ts : List Term) (at here colon : ℕ) (o p : Outcome) (stop : Halt) → RowAt ts at here o → MarkAt ts here 35 → ConditionAt ts (here + 1) colon p → MarkAt ts colon 23 → ConditionStopped ts (colon + 1) stop → ConditionStopped ts at stop
condition_stopped_failed ts at here colon o p Malformed h m c k d = record {
  stopped = arms_from ts at here o h m (λ y n v a b q l e x.
      let f : term.Mark 23 ∷ drop (colon + 1) ts ≡ term.Mark 23 ∷ (n ++ v) = sym k.here ∙ first_arm ts here colon p y n v a c q e in
      let g : drop (colon + 1) ts ≡ n ++ v = cc in
      d.stopped.none n v b g l x);
}
condition_stopped_failed ts at here colon o p NoMemory h m c k d = record { stopped = tt }

pub ruleset reading = (number_at, no_unary_stray, no_unary_end, no_unary_mark, bracket_at, bracket_open, bracket_stopped, prefix_at, prefix_stopped, part_first, part_more, row_done, row_stopped_first, row_stopped_more, row_no_memory, condition_plain, condition_choice, condition_stopped_row, condition_stopped_passed, condition_no_colon, condition_stopped_failed)
