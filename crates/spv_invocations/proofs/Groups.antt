-- Queues of items, the items of a group, and what becomes of a group.
use Rattle.std.proofs.Common.{◌≡◌, ◌⊎◌, ℕ, zero, suc, ◌+◌, ◌<◌, ◌≤◌, inl, inr, Bool, true, false, ◌&&◌, ◌||◌, List, [], ◌∷◌, ◌++◌, Option, Some, None, refl, sym, ap, ◌∙◌, subst, arith, nat_eq, if◌then◌else◌, cond, eqb-true, eq-eqb}
use Rattle.std.specs.List.{list_any, filter}
use Rattle.std.proofs.lemmas.Bool.{cases_eq}
use Rattle.launch_text.specs.WorkItems.{volume, group_of}
use Rattle.spv_invocations.specs.Start.{Start}
use Rattle.spv_invocations.specs.Schedule.{numbers_from, is_in_group, members_of, are_same, is_chain, all_wait, or_first, first_waiting, GoesOn, Opens, Mismatches, settled_by, is_among, settled_of}

-- ---- lists of items

abbrev pub Each : (ℕ → Type 0) → List ℕ → Type 0
Each P [] = Unit {0}
Each P (x ∷ xs) = P x × Each P xs

pub each_append : (P : ℕ → Type 0) (xs ys : List ℕ) → Each P xs → Each P ys → Each P (xs ++ ys)
each_append P [] ys p q = q
each_append P (x ∷ xs) ys p q = (p.0, each_append P xs ys p.1 q)

pub each_back : (P : ℕ → Type 0) (xs : List ℕ) (y : ℕ) → Each P xs → P y → Each P (xs ++ y ∷ [])
each_back P xs y k p = each_append P xs (y ∷ []) k (p, tt)

abbrev pub Has : ℕ → List ℕ → Type 0
Has i [] = ⊥
Has i (x ∷ xs) = (x ≡ i) ⊎ Has i xs

pub each_of : (P : ℕ → Type 0) (xs : List ℕ) → ((k : ℕ) → Has k xs → P k) → Each P xs
each_of P [] h = tt
each_of P (x ∷ xs) h = (h x (inl refl), each_of P xs (λ k q. h k (inr q)))

pub each_has : (P : ℕ → Type 0) (xs : List ℕ) (k : ℕ) → Each P xs → Has k xs → P k
each_has P [] k e h = absurd h
each_has P (x ∷ xs) k e (inl q) = subst P q e.0
each_has P (x ∷ xs) k e (inr h) = each_has P xs k e.1 h

pub has_left : (k : ℕ) (xs ys : List ℕ) → Has k xs → Has k (xs ++ ys)
has_left k [] ys h = absurd h
has_left k (x ∷ xs) ys (inl e) = inl e
has_left k (x ∷ xs) ys (inr h) = inr (has_left k xs ys h)

pub has_right : (k : ℕ) (xs ys : List ℕ) → Has k ys → Has k (xs ++ ys)
has_right k [] ys h = h
has_right k (x ∷ xs) ys h = inr (has_right k xs ys h)

pub has_either : (k : ℕ) (xs ys : List ℕ) → Has k (xs ++ ys) → Has k xs ⊎ Has k ys
has_either k [] ys h = inr h
has_either k (x ∷ xs) ys (inl e) = inl (inl e)
has_either k (x ∷ xs) ys (inr h) = elim (has_either k xs ys h) [ inl a ↦ inl (inr a) | inr b ↦ inr b ]

pub has_back : (i x : ℕ) (xs : List ℕ) → Has i (x ∷ xs) → Has i (xs ++ x ∷ [])
has_back i x xs (inl e) = has_right i xs (x ∷ []) (inl e)
has_back i x xs (inr h) = has_left i xs (x ∷ []) h

pub back_has : (i x : ℕ) (xs : List ℕ) → Has i (xs ++ x ∷ []) → Has i (x ∷ xs)
back_has i x xs h = elim (has_either i xs (x ∷ []) h) [ inl a ↦ inr a | inr b ↦ elim b [ inl e ↦ inl e | inr n ↦ absurd n ] ]

-- ---- numbers

pub has_numbers : (m n i : ℕ) → m ≤ i → i < m + n → Has i (numbers_from m n)
has_numbers m zero i low high = absurd (omega (arith, low, high))
has_numbers m (suc n) i low high = elim (cases_eq m i) [
  | inl e ↦ inl e
  | inr other ↦ inr (has_numbers (m + 1) n i (omega (arith, low, other)) (omega (arith, high)))
]

pub numbers_above : (m n i : ℕ) → Has i (numbers_from m n) → m ≤ i
numbers_above m zero i h = absurd h
numbers_above m (suc n) i (inl e) = omega (arith, e)
numbers_above m (suc n) i (inr h) = let k = numbers_above (m + 1) n i h in omega (arith, k)

pub numbers_below : (m n i : ℕ) → Has i (numbers_from m n) → i < m + n
numbers_below m zero i h = absurd h
numbers_below m (suc n) i (inl e) = omega (arith, e)
numbers_below m (suc n) i (inr h) = let k = numbers_below (m + 1) n i h in omega (arith, k)

-- ---- distinct items

abbrev pub Distinct : List ℕ → Type 0
Distinct [] = Unit {0}
Distinct (x ∷ xs) = (Has x xs → ⊥) × Distinct xs

pub distinct_append : (xs ys : List ℕ) → Distinct xs → Distinct ys → ((k : ℕ) → Has k xs → Has k ys → ⊥) → Distinct (xs ++ ys)
distinct_append [] ys d e apart = e
distinct_append (x ∷ xs) ys d e apart =
    (λ h. elim (has_either x xs ys h) [ inl a ↦ d.0 a | inr b ↦ apart x (inl refl) b ], distinct_append xs ys d.1 e (λ k p q. apart k (inr p) q))

pub distinct_back : (x : ℕ) (xs : List ℕ) → Distinct (x ∷ xs) → Distinct (xs ++ x ∷ [])
distinct_back x xs d = distinct_append xs (x ∷ []) d.1 (λ h. h, tt) (λ k p q. elim q [ inl e ↦ d.0 (subst (λ n. Has n xs) (sym e) p) | inr n ↦ n ])

pub distinct_numbers : (m n : ℕ) → Distinct (numbers_from m n)
distinct_numbers m zero = tt
distinct_numbers m (suc n) = (λ h. let k = numbers_above (m + 1) n m h in omega (arith, k), distinct_numbers (m + 1) n)

-- ---- filters

module _ (p : ℕ → Bool) where
  kept : (x : ℕ) (xs : List ℕ) (b : Bool) → p x ≡ b → filter p (x ∷ xs) ≡ cond b (x ∷ filter p xs) (filter p xs)
  kept x xs b e = ap (λ c. cond c (x ∷ filter p xs) (filter p xs)) e

  has_one : (k x : ℕ) (xs : List ℕ) (b : Bool) → p x ≡ b → Has k (filter p (x ∷ xs)) → Has k (cond b (x ∷ filter p xs) (filter p xs))
  has_one k x xs b e h = subst (Has k) (kept x xs b e) h

  one_has : (k x : ℕ) (xs : List ℕ) (b : Bool) → p x ≡ b → Has k (cond b (x ∷ filter p xs) (filter p xs)) → Has k (filter p (x ∷ xs))
  one_has k x xs b e h = subst (Has k) (sym (kept x xs b e)) h

  filter_by : (k x : ℕ) (xs : List ℕ) (b : Bool) → p x ≡ b → (Has k (filter p xs) → Has k xs × (p k ≡ true)) → Has k (filter p (x ∷ xs)) → Has k (x ∷ xs) × (p k ≡ true)
  filter_by k x xs true e behind h = elim (has_one k x xs true e h) [ inl q ↦ (inl q, subst (λ n. p n ≡ true) q e) | inr g ↦ (let r = behind g in (inr r.0, r.1)) ]
  filter_by k x xs false e behind h = let r = behind (has_one k x xs false e h) in (inr r.0, r.1)

  pub filter_has : (k : ℕ) (xs : List ℕ) → Has k (filter p xs) → Has k xs × (p k ≡ true)
  filter_has k [] h = absurd h
  filter_has k (x ∷ xs) h = filter_by k x xs (p x) refl (filter_has k xs) h

  has_by : (k x : ℕ) (xs : List ℕ) (b : Bool) → p x ≡ b → Has k (filter p xs) → Has k (filter p (x ∷ xs))
  has_by k x xs true e h = one_has k x xs true e (inr h)
  has_by k x xs false e h = one_has k x xs false e h

  pub has_filter : (k : ℕ) (xs : List ℕ) → p k ≡ true → Has k xs → Has k (filter p xs)
  has_filter k [] t h = absurd h
  has_filter k (x ∷ xs) t (inl q) = one_has k x xs true (ap p q ∙ t) (inl q)
  has_filter k (x ∷ xs) t (inr h) = has_by k x xs (p x) refl (has_filter k xs t h)

  distinct_by : (x : ℕ) (xs : List ℕ) (b : Bool) → p x ≡ b → (Has x xs → ⊥) → Distinct (filter p xs) → Distinct (filter p (x ∷ xs))
  distinct_by x xs true e new d = subst Distinct (sym (kept x xs true e)) (λ h. new (filter_has x xs h).0, d)
  distinct_by x xs false e new d = subst Distinct (sym (kept x xs false e)) d

  pub distinct_filter : (xs : List ℕ) → Distinct xs → Distinct (filter p xs)
  distinct_filter [] d = tt
  distinct_filter (x ∷ xs) d = distinct_by x xs (p x) refl d.0 (distinct_filter xs d.1)

-- ---- whether an item is in a queue

pub among_has : (queue : List ℕ) (k : ℕ) → is_among queue k ≡ true → Has k queue
among_has [] k e = absurd (let h : false ≡ true = e in cc)
among_has (x ∷ xs) k e = by_test (nat_eq k x) refl (among_has xs k) e
  where
    by_test : (b : Bool) → nat_eq k x ≡ b → (is_among xs k ≡ true → Has k xs) → (nat_eq k x || is_among xs k) ≡ true → Has k (x ∷ xs)
    by_test true t behind h = inl (sym (eqb-true k x t))
    by_test false t behind h = inr (behind (sym (ap (λ b. b || is_among xs k) t) ∙ h))

pub has_among : (queue : List ℕ) (k : ℕ) → Has k queue → is_among queue k ≡ true
has_among [] k h = absurd h
has_among (x ∷ xs) k (inl e) = ap (λ b. b || is_among xs k) (eq-eqb k x (sym e))
has_among (x ∷ xs) k (inr h) = ap (λ b. nat_eq k x || b) (has_among xs k h) ∙ or_true (nat_eq k x)
  where
    or_true : (b : Bool) → (b || true) ≡ true
    or_true true = refl
    or_true false = refl

not_both : (b : Bool) → b ≡ true → b ≡ false → ⊥
not_both b t f = let h : true ≡ false = sym t ∙ f in cc

pub not_among : (queue : List ℕ) (k : ℕ) → (Has k queue → ⊥) → is_among queue k ≡ false
not_among queue k out = by_test (is_among queue k) refl
  where
    by_test : (b : Bool) → is_among queue k ≡ b → is_among queue k ≡ false
    by_test true e = absurd (out (among_has queue k e))
    by_test false e = e

pub among_not : (queue : List ℕ) (k : ℕ) → is_among queue k ≡ false → Has k queue → ⊥
among_not queue k e h = not_both (is_among queue k) (has_among queue k h) e

pub same_among : (a b : List ℕ) (k : ℕ) → (Has k a → Has k b) → (Has k b → Has k a) → is_among a k ≡ is_among b k
same_among a b k to from = by_test (is_among a k) refl
  where
    by_test : (t : Bool) → is_among a k ≡ t → is_among a k ≡ is_among b k
    by_test true e = e ∙ sym (has_among b k (to (among_has a k e)))
    by_test false e = e ∙ sym (not_among b k (λ h. among_not a k e (from h)))

-- ---- the items of a group

module _ (start : Start) (g : ℕ) where
  pub in_group : (k : ℕ) → Has k (members_of start g) → (k < volume start.global) × (group_of start.global start.local k ≡ g)
  in_group k h =
      let r = filter_has (is_in_group start g) k (numbers_from 0 (volume start.global)) h in
      let low = numbers_below 0 (volume start.global) k r.0 in
      (omega (arith, low), eqb-true (group_of start.global start.local k) g r.1)

  pub is_member : (k : ℕ) → k < volume start.global → group_of start.global start.local k ≡ g → Has k (members_of start g)
  is_member k low e = has_filter (is_in_group start g) k (numbers_from 0 (volume start.global)) (eq-eqb (group_of start.global start.local k) g e) (has_numbers 0 (volume start.global) k (omega arith) (omega (arith, low)))

  pub distinct_members : Distinct (members_of start g)
  distinct_members = distinct_filter (is_in_group start g) (numbers_from 0 (volume start.global)) (distinct_numbers 0 (volume start.global))

-- ---- what becomes of a group

and_left : (a b : Bool) → (a && b) ≡ true → a ≡ true
and_left true b e = refl
and_left false b e = e

and_right : (a b : Bool) → (a && b) ≡ true → b ≡ true
and_right true b e = e
and_right false b e = absurd (let h : false ≡ true = e in cc)

pub same_list : (a b : List ℕ) → are_same a b ≡ true → a ≡ b
same_list [] [] e = refl
same_list [] (n ∷ ns) e = absurd (let h : false ≡ true = e in cc)
same_list (m ∷ ms) [] e = absurd (let h : false ≡ true = e in cc)
same_list (m ∷ ms) (n ∷ ns) e =
    let first : m ≡ n = eqb-true m n (and_left (nat_eq m n) (are_same ms ns) e) in
    let rest : ms ≡ ns = same_list ms ns (and_right (nat_eq m n) (are_same ms ns) e) in
    ap (λ k. k ∷ ms) first ∙ ap (λ ks. n ∷ ks) rest

list_same : (a : List ℕ) → are_same a a ≡ true
list_same [] = refl
list_same (n ∷ ns) = ap (λ b. b && are_same ns ns) (eq-eqb n n refl) ∙ list_same ns

chain_is : (chain : List ℕ) (c : Option (List ℕ)) → is_chain chain c ≡ true → c ≡ Some chain
chain_is chain (Some other) e = ap Some (same_list other chain e)
chain_is chain None e = absurd (let h : false ≡ true = e in cc)

module _ (chains : ℕ → Option (List ℕ)) where
  waits_each : (chain : List ℕ) (js : List ℕ) → all_wait chains chain js ≡ true → (k : ℕ) → Has k js → chains k ≡ Some chain
  waits_each chain [] e k h = absurd h
  waits_each chain (j ∷ js) e k (inl q) = subst (λ n. chains n ≡ Some chain) q (chain_is chain (chains j) (and_left (is_chain chain (chains j)) (all_wait chains chain js) e))
  waits_each chain (j ∷ js) e k (inr h) = waits_each chain js (and_right (is_chain chain (chains j)) (all_wait chains chain js) e) k h

  each_waits : (chain : List ℕ) (js : List ℕ) → ((k : ℕ) → Has k js → chains k ≡ Some chain) → all_wait chains chain js ≡ true
  each_waits chain [] f = refl
  each_waits chain (j ∷ js) f = ap (λ c. is_chain chain c && all_wait chains chain js) (f j (inl refl)) ∙ ap (λ b. b && all_wait chains chain js) (list_same chain) ∙ each_waits chain js (λ k h. f k (inr h))

  abbrev IsFirst : List ℕ → Option (ℕ × List ℕ) → Type 0
  IsFirst ks None = (k : ℕ) → Has k ks → chains k ≡ None
  IsFirst ks (Some (j, chain)) = Has j ks × (chains j ≡ Some chain)

  first_step : (j : ℕ) (js : List ℕ) (o : Option (List ℕ)) → chains j ≡ o → (r : Option (ℕ × List ℕ)) → IsFirst js r → IsFirst (j ∷ js) (or_first j o r)
  first_step j js (Some chain) e r f = (inl refl, e)
  first_step j js None e None f = λ k h. elim h [ inl q ↦ subst (λ n. chains n ≡ None) q e | inr g ↦ f k g ]
  first_step j js None e (Some (i, chain)) f = (inr f.0, f.1)

  first_is : (ks : List ℕ) → IsFirst ks (first_waiting chains ks)
  first_is [] = λ k h. absurd h
  first_is (j ∷ js) = first_step j js (chains j) refl (first_waiting chains js) (first_is js)

  module _ (queue members : List ℕ) where
    abbrev NoneMoves : Type 0
    NoneMoves = (k : ℕ) → Has k members → Has k queue → ⊥

    some_moves : (ks : List ℕ) → list_any (is_among queue) ks ≡ true → (k : ℕ) × Has k ks × Has k queue
    some_moves [] e = absurd (let h : false ≡ true = e in cc)
    some_moves (x ∷ xs) e = by_test (is_among queue x) refl (some_moves xs) e
      where
        by_test : (b : Bool) → is_among queue x ≡ b → (list_any (is_among queue) xs ≡ true → (k : ℕ) × Has k xs × Has k queue) → (is_among queue x || list_any (is_among queue) xs) ≡ true → (k : ℕ) × Has k (x ∷ xs) × Has k queue
        by_test true t behind h = (x, inl refl, among_has queue x t)
        by_test false t behind h = let r = behind (sym (ap (λ b. b || list_any (is_among queue) xs) t) ∙ h) in (r.0, inr r.1, r.2)

    none_moves : (ks : List ℕ) → list_any (is_among queue) ks ≡ false → (k : ℕ) → Has k ks → Has k queue → ⊥
    none_moves [] e k h q = h
    none_moves (x ∷ xs) e k (inl r) q = or_false (is_among queue x) (list_any (is_among queue) xs) e (has_among queue x (subst (λ n. Has n queue) (sym r) q))
      where
        or_false : (a b : Bool) → (a || b) ≡ false → a ≡ true → ⊥
        or_false a b f t = let h : true ≡ false = sym (ap (λ c. c || b) t) ∙ f in cc
    none_moves (x ∷ xs) e k (inr h) q = none_moves xs (right (is_among queue x) (list_any (is_among queue) xs) e) k h q
      where
        right : (a b : Bool) → (a || b) ≡ false → b ≡ false
        right true b f = absurd (let h : true ≡ false = f in cc)
        right false b f = f

    opens_by : (f : Option (ℕ × List ℕ)) → settled_by chains members f ≡ Opens → (chain : List ℕ) × ((k : ℕ) → Has k members → chains k ≡ Some chain)
    opens_by None e = absurd (let h : GoesOn ≡ Opens = e in cc)
    opens_by (Some (j, chain)) e = (chain, waits_each chain members (by_test (all_wait chains chain members) e))
      where
        by_test : (b : Bool) → (if b then Opens else Mismatches j) ≡ Opens → b ≡ true
        by_test true h = refl
        by_test false h = absurd (let g : Mismatches j ≡ Opens = h in cc)

    goes_by : (f : Option (ℕ × List ℕ)) → IsFirst members f → settled_by chains members f ≡ GoesOn → (k : ℕ) → Has k members → chains k ≡ None
    goes_by None first e = first
    goes_by (Some (j, chain)) first e = absurd (by_test (all_wait chains chain members) e)
      where
        by_test : (b : Bool) → (if b then Opens else Mismatches j) ≡ GoesOn → ⊥
        by_test true h = let g : Opens ≡ GoesOn = h in cc
        by_test false h = let g : Mismatches j ≡ GoesOn = h in cc

    -- an item of the group waits, and not all of them at one barrier
    abbrev pub Stops : ℕ → Type 0
    Stops j = Has j members × ((chain : List ℕ) × (chains j ≡ Some chain)) × ((d : List ℕ) → ((k : ℕ) → Has k members → chains k ≡ Some d) → ⊥)

    stops_by : (j : ℕ) (f : Option (ℕ × List ℕ)) → IsFirst members f → settled_by chains members f ≡ Mismatches j → Stops j
    stops_by j None first e = absurd (let h : GoesOn ≡ Mismatches j = e in cc)
    stops_by j (Some (i, chain)) first e = by_test (all_wait chains chain members) refl e
      where
        by_test : (b : Bool) → all_wait chains chain members ≡ b → (if b then Opens else Mismatches i) ≡ Mismatches j → Stops j
        by_test true t h = absurd (let g : Opens ≡ Mismatches j = h in cc)
        by_test false t h =
            let g : Mismatches i ≡ Mismatches j = h in
            let same : i ≡ j = cc in (
              subst (λ n. Has n members) same first.0,
              (chain, subst (λ n. chains n ≡ Some chain) same first.1),
              λ d all. let one : Some chain ≡ Some d = sym first.1 ∙ all i first.0 in let eq : chain ≡ d = cc in not_both (all_wait chains chain members) (each_waits chain members (λ k m. all k m ∙ ap Some (sym eq))) t,
            )

    still : (b : Bool) → list_any (is_among queue) members ≡ b → settled_of chains queue members ≡ (if b then GoesOn else settled_by chains members (first_waiting chains members))
    still b e = ap (λ c. if c then GoesOn else settled_by chains members (first_waiting chains members)) e

    pub opens_all : settled_of chains queue members ≡ Opens → ((chain : List ℕ) × ((k : ℕ) → Has k members → chains k ≡ Some chain)) × NoneMoves
    opens_all e = by_test (list_any (is_among queue) members) refl
      where
        by_test : (b : Bool) → list_any (is_among queue) members ≡ b → ((chain : List ℕ) × ((k : ℕ) → Has k members → chains k ≡ Some chain)) × NoneMoves
        by_test true t = absurd (let h : GoesOn ≡ Opens = sym (still true t) ∙ e in cc)
        by_test false t = (opens_by (first_waiting chains members) (sym (still false t) ∙ e), none_moves members t)

    pub stops_at : (j : ℕ) → settled_of chains queue members ≡ Mismatches j → Stops j × NoneMoves
    stops_at j e = by_test (list_any (is_among queue) members) refl
      where
        by_test : (b : Bool) → list_any (is_among queue) members ≡ b → Stops j × NoneMoves
        by_test true t = absurd (let h : GoesOn ≡ Mismatches j = sym (still true t) ∙ e in cc)
        by_test false t = (stops_by j (first_waiting chains members) (first_is members) (sym (still false t) ∙ e), none_moves members t)

    pub goes_on : settled_of chains queue members ≡ GoesOn → ((k : ℕ) × Has k members × Has k queue) ⊎ ((k : ℕ) → Has k members → chains k ≡ None)
    goes_on e = by_test (list_any (is_among queue) members) refl
      where
        by_test : (b : Bool) → list_any (is_among queue) members ≡ b → ((k : ℕ) × Has k members × Has k queue) ⊎ ((k : ℕ) → Has k members → chains k ≡ None)
        by_test true t = inl (some_moves members t)
        by_test false t = inr (goes_by (first_waiting chains members) (first_is members) (sym (still false t) ∙ e))
