-- A row has exactly one grouping.
use Rattle.std.proofs.Common.{◌≡◌, inl, inr, ℕ, ◌≤◌, ◌<◌, List, [], ◌∷◌, ◌++◌, refl, sym, ap, subst, append_assoc, arith}
use Rattle.std.proofs.lemmas.List.{append-nil}
use Rattle.std.proofs.lemmas.Bool.{cases_lt}
use Rattle.cl_precedence.specs.Grouping.{AllAtLeast, AllAbove, Groups, alone, joined, viewed, JoinsSome, JoinsOne, HasGrouping, GroupsOnce}
use Rattle.cl_precedence.proofs.Standing.{above_both, at_least_both, at_least_less, at_least_above}

-- an operator behind others that bind tighter than a level does so too
last_above : {Op Node : Type 0} (level : Op → ℕ) (l : ℕ) (xs : List (Op × Node)) (x : Op × Node) (ys zs : List (Op × Node)) → zs ≡ xs ++ x ∷ ys → AllAbove level l zs → l < level x.0
last_above level l [] x ys zs e h = (subst (AllAbove level l) e h).0
last_above level l (a ∷ xs) x ys zs e h = last_above level l xs x ys (xs ++ x ∷ ys) refl (subst (AllAbove level l) e h).1

-- the operator at the root stands at one place
same_root : {Op Node : Type 0} (level : Op → ℕ) (xs : List (Op × Node)) (x : Op × Node) (ys zs : List (Op × Node)) (z : Op × Node) (ws : List (Op × Node))
    → xs ++ x ∷ ys ≡ zs ++ z ∷ ws → AllAtLeast level (level x.0) xs → AllAbove level (level x.0) ys → AllAtLeast level (level z.0) zs → AllAbove level (level z.0) ws
    → (xs ≡ zs) × (x ≡ z) × (ys ≡ ws)
same_root level [] x ys [] z ws e a b c d = (refl, (cc), (cc))
same_root level [] x ys (p ∷ zs) z ws e a b c d =
    let h : x ∷ ys ≡ p ∷ (zs ++ z ∷ ws) = e in
    let first : x ≡ p = cc in
    let rest : ys ≡ zs ++ z ∷ ws = cc in
    absurd (let lt = last_above level (level x.0) zs z ws ys rest b in let le = c.0 in let same : level x.0 ≡ level p.0 = ap (λ v. level v.0) first in omega arith)
same_root level (p ∷ xs) x ys [] z ws e a b c d =
    let h : p ∷ (xs ++ x ∷ ys) ≡ z ∷ ws = e in
    let first : z ≡ p = cc in
    let rest : ws ≡ xs ++ x ∷ ys = cc in
    absurd (let lt = last_above level (level z.0) xs x ys ws rest d in let le = a.0 in let same : level z.0 ≡ level p.0 = ap (λ v. level v.0) first in omega arith)
same_root level (p ∷ xs) x ys (q ∷ zs) z ws e a b c d =
    let h : p ∷ (xs ++ x ∷ ys) ≡ q ∷ (zs ++ z ∷ ws) = e in
    let first : p ≡ q = cc in
    let rest : xs ++ x ∷ ys ≡ zs ++ z ∷ ws = cc in
    let r = same_root level xs x ys zs z ws rest a.1 b c.1 d in
    let fronts : xs ≡ zs = r.0 in
    ((cc), r.1, r.2)

no_row : {A : Type 0} (xs : List A) (x : A) (ys : List A) → [] ≡ xs ++ x ∷ ys → ⊥
no_row [] x ys e = cc
no_row (a ∷ xs) x ys e = let h : [] ≡ a ∷ (xs ++ x ∷ ys) = e in cc

one_from : {Op Node : Type 0} (level : Op → ℕ) (Joins : Op → Node → Node → Node → Type 0) → JoinsOne Joins → (f g : Node) (r s : List (Op × Node)) (a b : Node) → Groups level Joins f r a → Groups level Joins g s b → f ≡ g → r ≡ s → a ≡ b
one_from level Joins o _ _ _ _ _ _ (alone a) (alone b) same rows = same
one_from level Joins o _ _ _ _ _ _ (alone a) (joined first before op next after left right tree h k g1 g2 j) same rows = absurd (no_row before (op, next) after rows)
one_from level Joins o _ _ _ _ _ _ (joined first before op next after left right tree h k g1 g2 j) (alone b) same rows = absurd (no_row before (op, next) after (sym rows))
one_from level Joins o _ _ _ _ _ _ (joined first before op next after left right tree h k g1 g2 j) (joined first2 before2 op2 next2 after2 left2 right2 tree2 h2 k2 g3 g4 j2) same rows =
    let r = same_root level before (op, next) after before2 (op2, next2) after2 rows h k h2 k2 in
    let ops : op ≡ op2 = ap (λ z. z.0) r.1 in
    let nexts : next ≡ next2 = ap (λ z. z.1) r.1 in
    let lefts : left ≡ left2 = one_from level Joins o first first2 before before2 left left2 g1 g3 same r.0 in
    let rights : right ≡ right2 = one_from level Joins o next next2 after after2 right right2 g2 g4 nexts r.2 in
    let k2 : Joins op left right tree2 = subst (λ z. Joins z left right tree2) (sym ops) (subst (λ z. Joins op2 z right tree2) (sym lefts) (subst (λ z. Joins op2 left2 z tree2) (sym rights) j2)) in
    o.one op left right tree tree2 j k2

pub one : {Op Node : Type 0} (level : Op → ℕ) (Joins : Op → Node → Node → Node → Type 0) → JoinsOne Joins → (first : Node) (row : List (Op × Node)) (a b : Node) → Groups level Joins first row a → Groups level Joins first row b → a ≡ b
one level Joins o first row a b g h = one_from level Joins o first first row row a b g h refl refl

-- an operator more at the end of a row joins what of the row binds at least as tight
over_all : {Op Node : Type 0} (level : Op → ℕ) (Joins : Op → Node → Node → Node → Type 0) → JoinsSome Joins
    → (first : Node) (before : List (Op × Node)) (op0 : Op) (next0 : Node) (after : List (Op × Node)) (tree : Node) (op : Op) (next : Node)
    → AllAtLeast level (level op0) before → AllAbove level (level op0) after → Groups level Joins first (before ++ (op0, next0) ∷ after) tree → level op ≤ level op0
    → HasGrouping level Joins first ((before ++ (op0, next0) ∷ after) ++ (op, next) ∷ [])
over_all level Joins s first before op0 next0 after tree op next h k g le =
    let row = before ++ (op0, next0) ∷ after in
    let all : AllAtLeast level (level op) row =
    at_least_both level (level op) before ((op0, next0) ∷ after) (at_least_less level (level op) (level op0) before le h) (le, at_least_above level (level op) (level op0) after le k) in
    let j = s.some op tree next in
    (j.0, joined first row op next [] tree next j.0 all tt g (alone next) j.1)

appended : {Op Node : Type 0} (level : Op → ℕ) (Joins : Op → Node → Node → Node → Type 0) → JoinsSome Joins → (first : Node) (row : List (Op × Node)) (a : Node) (op : Op) (next : Node) → Groups level Joins first row a → HasGrouping level Joins first (row ++ (op, next) ∷ [])
appended level Joins s _ _ _ op next (alone a) = let j = s.some op a next in (j.0, joined a [] op next [] a next j.0 tt tt (alone a) (alone next) j.1)
appended level Joins s _ _ _ op next (joined first before op0 next0 after left right tree h k g1 g2 j) =
    elim (cases_lt (level op0) (level op)) [
      | inl lt ↦
          let r = appended level Joins s next0 after right op next g2 in
          let j2 = s.some op0 left r.0 in (
            j2.0,
            subst (λ z. Groups level Joins first z j2.0) (sym (append_assoc before ((op0, next0) ∷ after) ((op, next) ∷ [])))
                (joined first before op0 next0 (after ++ (op, next) ∷ []) left r.0 j2.0 h (above_both level (level op0) after ((op, next) ∷ []) k (lt, tt)) g1 r.1 j2.1),
          )
      | inr le ↦ over_all level Joins s first before op0 next0 after tree op next h k (joined first before op0 next0 after left right tree h k g1 g2 j) le
    ]

some_from : {Op Node : Type 0} (level : Op → ℕ) (Joins : Op → Node → Node → Node → Type 0) → JoinsSome Joins → (first : Node) (read row : List (Op × Node)) → HasGrouping level Joins first read → HasGrouping level Joins first (read ++ row)
some_from level Joins s first read [] h = subst (HasGrouping level Joins first) (sym (append-nil read)) h
some_from level Joins s first read (x ∷ row) h =
    subst (HasGrouping level Joins first) (append_assoc read (x ∷ []) row)
    (some_from level Joins s first (read ++ x ∷ []) row (appended level Joins s first read h.0 x.0 x.1 h.1))

pub some : {Op Node : Type 0} (level : Op → ℕ) (Joins : Op → Node → Node → Node → Type 0) → JoinsSome Joins → (first : Node) (row : List (Op × Node)) → HasGrouping level Joins first row
some level Joins s first row = some_from level Joins s first [] row (first, alone first)

pub one_grouping : {Op Node : Type 0} (level : Op → ℕ) (Joins : Op → Node → Node → Node → Type 0) → GroupsOnce level Joins
one_grouping level Joins = record { some = some level Joins; one = one level Joins }

-- ---- a view of trees

viewed_both : {Op Tree Node : Type 0} (view : Tree → Node) (xs ys : List (Op × Tree)) → viewed view (xs ++ ys) ≡ viewed view xs ++ viewed view ys
viewed_both view [] ys = refl
viewed_both view (x ∷ xs) ys = ap (λ z. (x.0, view x.1) ∷ z) (viewed_both view xs ys)

at_least_viewed : {Op Tree Node : Type 0} (level : Op → ℕ) (view : Tree → Node) (l : ℕ) (xs : List (Op × Tree)) → AllAtLeast level l xs → AllAtLeast level l (viewed view xs)
at_least_viewed level view l [] h = tt
at_least_viewed level view l (x ∷ xs) h = (h.0, at_least_viewed level view l xs h.1)

above_viewed : {Op Tree Node : Type 0} (level : Op → ℕ) (view : Tree → Node) (l : ℕ) (xs : List (Op × Tree)) → AllAbove level l xs → AllAbove level l (viewed view xs)
above_viewed level view l [] h = tt
above_viewed level view l (x ∷ xs) h = (h.0, above_viewed level view l xs h.1)

-- what groups trees groups what is seen of them
pub seen : {Op Tree Node : Type 0} (level : Op → ℕ) (Joins : Op → Tree → Tree → Tree → Type 0) (Joined : Op → Node → Node → Node → Type 0) (view : Tree → Node)
    → ((op : Op) (left right tree : Tree) → Joins op left right tree → Joined op (view left) (view right) (view tree))
    → (first : Tree) (row : List (Op × Tree)) (tree : Tree) → Groups level Joins first row tree → Groups level Joined (view first) (viewed view row) (view tree)
seen level Joins Joined view f _ _ _ (alone a) = alone (view a)
seen level Joins Joined view f _ _ _ (joined first before op next after left right tree h k g1 g2 j) =
    subst (λ z. Groups level Joined (view first) z (view tree)) (sym (viewed_both view before ((op, next) ∷ after)))
    (joined (view first) (viewed view before) op (view next) (viewed view after) (view left) (view right) (view tree) (at_least_viewed level view (level op) before h) (above_viewed level view (level op) after k)
    (seen level Joins Joined view f first before left g1) (seen level Joins Joined view f next after right g2) (f op left right tree j))
