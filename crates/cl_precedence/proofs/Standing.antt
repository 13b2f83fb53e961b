-- What stands while a row is read: operators that wait for their right operands, and the tree since the last of them.
use Rattle.std.proofs.Common.{◌≡◌, ℕ, ◌≤◌, ◌<◌, List, [], ◌∷◌, ◌++◌, refl, sym, ap, ◌∙◌, subst, append_assoc, arith}
use Rattle.cl_precedence.specs.Grouping.{AllAtLeast, AllAbove, Groups, alone, joined}
use Rattle.cl_precedence.specs.Waiting.{IsLoose, Stands, bottom, above, Held, Keeps, LeavesLoose, TakesLast}

pub at_least_both : {Op Node : Type 0} (level : Op → ℕ) (l : ℕ) (xs ys : List (Op × Node)) → AllAtLeast level l xs → AllAtLeast level l ys → AllAtLeast level l (xs ++ ys)
at_least_both level l [] ys h k = k
at_least_both level l (x ∷ xs) ys h k = (h.0, at_least_both level l xs ys h.1 k)

pub above_both : {Op Node : Type 0} (level : Op → ℕ) (l : ℕ) (xs ys : List (Op × Node)) → AllAbove level l xs → AllAbove level l ys → AllAbove level l (xs ++ ys)
above_both level l [] ys h k = k
above_both level l (x ∷ xs) ys h k = (h.0, above_both level l xs ys h.1 k)

pub at_least_less : {Op Node : Type 0} (level : Op → ℕ) (l m : ℕ) (xs : List (Op × Node)) → l ≤ m → AllAtLeast level m xs → AllAtLeast level l xs
at_least_less level l m [] e h = tt
at_least_less level l m (x ∷ xs) e h = (let k = h.0 in omega arith, at_least_less level l m xs e h.1)

above_less : {Op Node : Type 0} (level : Op → ℕ) (l m : ℕ) (xs : List (Op × Node)) → l < m → AllAtLeast level m xs → AllAbove level l xs
above_less level l m [] e h = tt
above_less level l m (x ∷ xs) e h = (let k = h.0 in omega arith, above_less level l m xs e h.1)

above_less_again : {Op Node : Type 0} (level : Op → ℕ) (l m : ℕ) (xs : List (Op × Node)) → l < m → AllAbove level m xs → AllAbove level l xs
above_less_again level l m [] e h = tt
above_less_again level l m (x ∷ xs) e h = (let k = h.0 in omega arith, above_less_again level l m xs e h.1)

pub at_least_above : {Op Node : Type 0} (level : Op → ℕ) (l m : ℕ) (xs : List (Op × Node)) → l ≤ m → AllAbove level m xs → AllAtLeast level l xs
at_least_above level l m [] e h = tt
at_least_above level l m (x ∷ xs) e h = (let k = h.0 in omega arith, at_least_above level l m xs e h.1)

-- one list with one last item has one front
pub same_last : {A : Type 0} (xs ys : List A) (x y : A) → xs ++ x ∷ [] ≡ ys ++ y ∷ [] → (xs ≡ ys) × (x ≡ y)
same_last [] [] x y e = (refl, (cc))
same_last [] (b ∷ []) x y e = absurd (let h : x ∷ [] ≡ b ∷ (y ∷ []) = e in cc)
same_last [] (b ∷ c ∷ ys) x y e = absurd (let h : x ∷ [] ≡ b ∷ (c ∷ (ys ++ y ∷ [])) = e in cc)
same_last (a ∷ []) [] x y e = absurd (let h : a ∷ (x ∷ []) ≡ y ∷ [] = e in cc)
same_last (a ∷ c ∷ xs) [] x y e = absurd (let h : a ∷ (c ∷ (xs ++ x ∷ [])) ≡ y ∷ [] = e in cc)
same_last (a ∷ xs) (b ∷ ys) x y e =
    let h : a ∷ (xs ++ x ∷ []) ≡ b ∷ (ys ++ y ∷ []) = e in
    let first : a ≡ b = cc in
    let rest : xs ++ x ∷ [] ≡ ys ++ y ∷ [] = cc in
    let both = same_last xs ys x y rest in
    let fronts : xs ≡ ys = both.0 in
    ((cc), both.1)

pub no_last : {A : Type 0} (xs : List A) (x : A) → [] ≡ xs ++ x ∷ [] → ⊥
no_last [] x e = cc
no_last (a ∷ xs) x e = let h : [] ≡ a ∷ (xs ++ x ∷ []) = e in cc

extended : {Op Node : Type 0} (level : Op → ℕ) (Joins : Op → Node → Node → Node → Type 0) (first : Node) (read : List (Op × Node)) (waiting : List (Node × Op)) (start : Node) (part more : List (Op × Node))
    → Stands level Joins first read waiting start part → Stands level Joins first (read ++ more) waiting start (part ++ more)
extended level Joins first _ _ _ _ more (bottom part) = bottom (part ++ more)
extended level Joins first _ _ _ _ more (above read waiting start before left op next part whole all s g h k e f) =
    above read waiting start before left op next (part ++ more) (whole ++ more) all s g h k (ap (λ z. z ++ more) e ∙ append_assoc read ((op, next) ∷ part) more) f

pub held_first : {Op Node : Type 0} (level : Op → ℕ) (Joins : Op → Node → Node → Node → Type 0) (first : Node) (l : ℕ) → Held level Joins first [] [] first l
held_first level Joins first l = record { start = first; part = []; stands = bottom []; groups = alone first; least = tt; tighter = λ front last e. tt }

-- the last that waits gets its right operand
closing : {Op Node : Type 0} (level : Op → ℕ) (Joins : Op → Node → Node → Node → Type 0) (first : Node) (read : List (Op × Node)) (waiting front : List (Node × Op)) (left : Node) (op : Op) (here tree next : Node) (part : List (Op × Node)) (l : ℕ)
    → Stands level Joins first read waiting next part → Groups level Joins next part here → AllAtLeast level l part
    → AllAbove level (level op) part → waiting ≡ front ++ (left, op) ∷ [] → l ≤ level op → Joins op left here tree → Held level Joins first read front tree l
closing level Joins first _ _ front left op here tree _ _ l (bottom part) g least tight e le j = absurd (no_last front (left, op) e)
closing level Joins first _ _ front left op here tree _ _ l (above read waiting start before left2 op2 next part whole all s g h k e f) gr least tight is le j =
    let both = same_last waiting front (left2, op2) (left, op) (sym f ∙ is) in
    let fronts : waiting ≡ front = both.0 in
    let op_is : op2 ≡ op = ap (λ z. z.1) both.1 in
    let left_is : left2 ≡ left = ap (λ z. z.0) both.1 in
    let new = before ++ (op, next) ∷ part in
    let g2 : Groups level Joins start before left = subst (Groups level Joins start before) left_is g in
    let h2 : AllAtLeast level (level op) before = subst (λ z. AllAtLeast level (level z) before) op_is h in
    let k2 : IsLoose level front (level op) = subst (λ z. IsLoose level z (level op)) fronts (subst (λ z. IsLoose level waiting (level z)) op_is k) in
    let s2 : Stands level Joins first (read ++ (op, next) ∷ part) front start new = subst (λ z. Stands level Joins first (read ++ (op, next) ∷ part) z start new) fronts (extended level Joins first read waiting start before ((op, next) ∷ part) s) in
    let e2 : whole ≡ read ++ (op, next) ∷ part = e ∙ ap (λ z. read ++ (z, next) ∷ part) op_is in
    record {
      start = start;
      part = new;
      stands = subst (λ z. Stands level Joins first z front start new) (sym e2) s2;
      groups = joined start before op next part left here tree h2 tight g2 gr j;
      least = at_least_both level l before ((op, next) ∷ part) (at_least_less level l (level op) before le h2) (le, least);
      tighter = λ front2 last is2.
          let lt = k2.loose front2 last is2 in
          above_both level (level last.1) before ((op, next) ∷ part) (above_less level (level last.1) (level op) before lt h2) (lt, above_less_again level (level last.1) (level op) part lt tight);
    }

pub held_closed : {Op Node : Type 0} (level : Op → ℕ) (Joins : Op → Node → Node → Node → Type 0) (first : Node) (read : List (Op × Node)) (waiting front : List (Node × Op)) (left : Node) (op : Op) (here tree : Node) (l : ℕ)
    → Held level Joins first read waiting here l → waiting ≡ front ++ (left, op) ∷ [] → l ≤ level op → Joins op left here tree → Held level Joins first read front tree l
held_closed level Joins first read waiting front left op here tree l held e le j =
    closing level Joins first read waiting front left op here tree held.start held.part l held.stands held.groups held.least (held.tighter front (left, op) e) e le j

-- the next operator waits behind the tree
pub held_more : {Op Node : Type 0} (level : Op → ℕ) (Joins : Op → Node → Node → Node → Type 0) (first : Node) (read : List (Op × Node)) (waiting : List (Node × Op)) (here : Node) (op : Op) (next : Node) (l : ℕ)
    → Held level Joins first read waiting here (level op) → IsLoose level waiting (level op) → Held level Joins first (read ++ (op, next) ∷ []) (waiting ++ (here, op) ∷ []) next l
held_more level Joins first read waiting here op next l held loose = record {
  start = next;
  part = [];
  stands = above read waiting held.start held.part here op next [] (read ++ (op, next) ∷ []) (waiting ++ (here, op) ∷ []) held.stands held.groups held.least loose refl refl;
  groups = alone next;
  least = tt;
  tighter = λ front last e. tt;
}

-- nothing waits any more
closed_stands : {Op Node : Type 0} (level : Op → ℕ) (Joins : Op → Node → Node → Node → Type 0) (first : Node) (read : List (Op × Node)) (waiting : List (Node × Op)) (start here : Node) (part : List (Op × Node))
    → Stands level Joins first read waiting start part → Groups level Joins start part here → IsLoose level waiting 0 → Groups level Joins first read here
closed_stands level Joins first _ _ _ here _ (bottom part) g loose = g
closed_stands level Joins first _ _ _ here _ (above read waiting start before left op next part whole all s g h k e f) gr loose =
    absurd (let lt = loose.loose waiting (left, op) f in omega arith)

pub held_last : {Op Node : Type 0} (level : Op → ℕ) (Joins : Op → Node → Node → Node → Type 0) (first : Node) (read : List (Op × Node)) (waiting : List (Node × Op)) (here : Node)
    → Held level Joins first read waiting here 0 → IsLoose level waiting 0 → Groups level Joins first read here
held_last level Joins first read waiting here held loose = closed_stands level Joins first read waiting held.start here held.part held.stands held.groups loose

-- ---- what the functions keep

pub keeps_none : {Op Node : Type 0} (level : Op → ℕ) (Joins : Op → Node → Node → Node → Type 0) (waiting : List (Node × Op)) (here : Node) (l : ℕ) → Keeps level Joins waiting here waiting here l
keeps_none level Joins waiting here l = record { keeps = λ first read held. held }

pub keeps_more : {Op Node : Type 0} (level : Op → ℕ) (Joins : Op → Node → Node → Node → Type 0) (old waiting new : List (Node × Op)) (right here tree left : Node) (op : Op) (l : ℕ)
    → Keeps level Joins old right waiting here l → TakesLast level waiting new left op l → Joins op left here tree → Keeps level Joins old right new tree l
keeps_more level Joins old waiting new right here tree left op l k t j = record {
  keeps = λ first read held. held_closed level Joins first read waiting new left op here tree l (k.keeps first read held) t.taken t.binds j;
}

pub loose_again : {Op Node : Type 0} (level : Op → ℕ) (old new : List (Node × Op)) (l : ℕ) → LeavesLoose level old new l → IsLoose level new l
loose_again level old new l h = subst (λ z. IsLoose level z l) (sym h.same) h.loose
