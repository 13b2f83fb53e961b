-- Which rules a launch breaks, and that the one that is computed is the one that is named.
use Rattle.std.proofs.Common.{◌≡◌, ◌⊎◌, inl, inr, ℕ, zero, suc, ◌+◌, ◌<◌, ◌≤◌, Bool, true, false, cond, eqb, ltb, List, [], ◌∷◌, length, Option, Some, None, refl, sym, ap, ◌∙◌, subst, arith, slice_get, Contains}
use Rattle.std.specs.Option.{option_or}
use Rattle.std.proofs.lemmas.Bool.{eqb-true, eqb-false, ltb-true, ltb-false}
use Rattle.std.proofs.lemmas.List.Elements.{Contains-push_cases, Contains-append_right, Contains-append_cases}
use Rattle.std.proofs.lemmas.Option.{slice_get_past, same_Some}
use Rattle.launch_text.specs.declared.launch.ArgKind.{ArgKind}
use Rattle.launch_text.specs.declared.launch.ArgLine.{ArgLine}
use Rattle.launch_text.specs.Rules.{LoadedLaunch, Parameter, Taken, given_to, is_unmatched, breaks_given, breaks_both, breaks_at, breaks_whole, breaks, BrokenRule, broken, Breaks, IsNoLater, IsLeastBroken, KeepsRules}
use Rattle.launch_text.specs.BrokenRule.{least_below, end_of, least_at, broken_by, broken_among, broken_rule, IsNamed}

pub true_false : {A : Type 0} (b : Bool) → b ≡ true → b ≡ false → A
true_false b d e = absurd (let never : true ≡ false = sym d ∙ e in cc)

pub not_true : (b : Bool) → (b ≡ true → ⊥) → b ≡ false
not_true true h = absurd (h refl)
not_true false h = refl

pub lt_or_eq_by : (m n : ℕ) (b : Bool) → ltb m n ≡ b → m ≤ n → (m < n) ⊎ (m ≡ n)
lt_or_eq_by m n true e h = inl (ltb-true m n e)
lt_or_eq_by m n false e h = inr (let k = ltb-false m n e in omega (arith, h, k))

pub lt_or_eq : (m n : ℕ) → m ≤ n → (m < n) ⊎ (m ≡ n)
lt_or_eq m n h = lt_or_eq_by m n (ltb m n) refl h

-- ---- lines

pub first_among : (a b : ArgLine) (as_ : List ArgLine) → Contains (a ∷ []) b ⊎ Contains as_ b → (a ≡ b) ⊎ Contains as_ b
first_among a b as_ (inl p) = elim (Contains-push_cases [] a b p) [ inl q ↦ absurd (let h = q.1 in omega (arith, h)) | inr q ↦ inl q ]
first_among a b as_ (inr p) = inr p

pub first_or : (a b : ArgLine) (as_ : List ArgLine) → Contains (a ∷ as_) b → (a ≡ b) ⊎ Contains as_ b
first_or a b as_ c = first_among a b as_ (Contains-append_cases (a ∷ []) as_ b c)

pub here : (a : ArgLine) (as_ : List ArgLine) → Contains (a ∷ as_) a
here a as_ = (0, omega arith, refl)

pub there : (a b : ArgLine) (as_ : List ArgLine) → Contains as_ b → Contains (a ∷ as_) b
there a b as_ c = Contains-append_right (a ∷ []) as_ b c

pub line_by : (a : ArgLine) (as_ : List ArgLine) (n : ℕ) (kind : ArgKind) (b : Bool) → eqb a.ordinal n ≡ b → (given_to n as_ ≡ Some kind → Contains as_ (record { ordinal = n; kind = kind })) → cond b (Some a.kind) (given_to n as_) ≡ Some kind → Contains (a ∷ as_) (record { ordinal = n; kind = kind })
line_by a as_ n kind true test rest h =
    let number = eqb-true a.ordinal n test in
    let same : a.kind ≡ kind = same_Some a.kind kind h in
    subst (λ m. Contains (a ∷ as_) (record { ordinal = m; kind = kind })) number (subst (λ k. Contains (a ∷ as_) (record { ordinal = a.ordinal; kind = k })) same (here a as_))
line_by a as_ n kind false test rest h = there a _ as_ (rest h)

pub line_gives : (args : List ArgLine) (n : ℕ) (kind : ArgKind) → given_to n args ≡ Some kind → Contains args (record { ordinal = n; kind = kind })
line_gives [] n kind h = absurd (let never : ⊥ = cc in never)
line_gives (a ∷ as_) n kind h = line_by a as_ n kind (eqb a.ordinal n) refl (line_gives as_ n kind) h

pub none_by : (a : ArgLine) (as_ : List ArgLine) (n : ℕ) (kind : ArgKind) (b : Bool) → eqb a.ordinal n ≡ b → (given_to n as_ ≡ None → Contains as_ (record { ordinal = n; kind = kind }) → ⊥) → cond b (Some a.kind) (given_to n as_) ≡ None → Contains (a ∷ as_) (record { ordinal = n; kind = kind }) → ⊥
none_by a as_ n kind true test rest h c = cc
none_by a as_ n kind false test rest h c = elim (first_or a (record { ordinal = n; kind = kind }) as_ c) [
  | inl p ↦ eqb-false a.ordinal n test (ap (λ (b : ArgLine). b.ordinal) p)
  | inr p ↦ rest h p
]

pub line_missing : (args : List ArgLine) (n : ℕ) → given_to n args ≡ None → (kind : ArgKind) → Contains args (record { ordinal = n; kind = kind }) → ⊥
line_missing [] n h kind c = let w = c.1 in omega (arith, w)
line_missing (a ∷ as_) n h kind c = none_by a as_ n kind (eqb a.ordinal n) refl (λ e. line_missing as_ n e kind) h c

-- what a line gives is given, though an earlier line may give something else
pub given_by : (args : List ArgLine) (n : ℕ) (kind : ArgKind) (o : Option ArgKind) → given_to n args ≡ o → Contains args (record { ordinal = n; kind = kind }) → (other : ArgKind) × (given_to n args ≡ Some other)
given_by args n kind None e c = absurd (line_missing args n e kind c)
given_by args n kind (Some other) e c = (other, e)

-- ---- rules by their numbers

pub both_none : (l : LoadedLaunch) (t : Taken) (rule n : ℕ) (g : Option ArgKind) → breaks_both l t rule n None g ≡ false
both_none l t rule n None = refl
both_none l t rule n (Some given) = refl

pub both_unsaid : (l : LoadedLaunch) (t : Taken) (rule n : ℕ) (p : Option Parameter) → breaks_both l t rule n p None ≡ false
both_unsaid l t rule n None = refl
both_unsaid l t rule n (Some p) = refl

abbrev OutOf : ℕ → ℕ → ℕ → Type 0
OutOf low high rule = (rule < low) ⊎ (high < rule)

pub apart_by : (low high rule k : ℕ) (b : Bool) → eqb rule k ≡ b → OutOf low high rule → low ≤ k → k ≤ high → eqb rule k ≡ false
apart_by low high rule k false e out above below = e
apart_by low high rule k true e (inl less) above below = absurd (let same = eqb-true rule k e in omega (arith, same, less, above))
apart_by low high rule k true e (inr more) above below = absurd (let same = eqb-true rule k e in omega (arith, same, more, below))

pub apart : (low high rule k : ℕ) → OutOf low high rule → low ≤ k → k ≤ high → eqb rule k ≡ false
apart low high rule k out above below = apart_by low high rule k (eqb rule k) refl out above below

pub skip : (b x y : Bool) → b ≡ false → cond b x y ≡ y
skip true x y e = absurd (let never : true ≡ false = e in cc)
skip false x y e = refl

pub given_outside : (l : LoadedLaunch) (t : Taken) (rule n : ℕ) (p : Parameter) (g : ArgKind) → OutOf 11 17 rule → breaks_given l t rule n p g ≡ false
given_outside l t rule n p g out =
    skip (eqb rule 12) _ _ (apart 11 17 rule 12 out (omega arith) (omega arith))
    ∙ skip (eqb rule 13) _ _ (apart 11 17 rule 13 out (omega arith) (omega arith))
    ∙ skip (eqb rule 14) _ _ (apart 11 17 rule 14 out (omega arith) (omega arith))
    ∙ skip (eqb rule 15) _ _ (apart 11 17 rule 15 out (omega arith) (omega arith))
    ∙ skip (eqb rule 16) _ _ (apart 11 17 rule 16 out (omega arith) (omega arith))
    ∙ skip (eqb rule 17) _ _ (apart 11 17 rule 17 out (omega arith) (omega arith))

pub both_outside : (l : LoadedLaunch) (t : Taken) (rule n : ℕ) (p : Option Parameter) (g : Option ArgKind) → OutOf 11 17 rule → breaks_both l t rule n p g ≡ false
both_outside l t rule n None g out = both_none l t rule n g
both_outside l t rule n (Some p) None out = refl
both_outside l t rule n (Some p) (Some g) out = given_outside l t rule n p g out

pub at_outside : (l : LoadedLaunch) (t : Taken) (rule n : ℕ) → OutOf 11 17 rule → breaks_at l t rule n ≡ false
at_outside l t rule n out = skip (eqb rule 11) _ _ (apart 11 17 rule 11 out (omega arith) (omega arith)) ∙ both_outside l t rule n (slice_get t.parameters n) (given_to n l.arguments) out

pub whole_outside : (l : LoadedLaunch) (t : Taken) (rule : ℕ) → OutOf 18 21 rule → breaks_whole l t rule ≡ false
whole_outside l t rule out =
    skip (eqb rule 18) _ _ (apart 18 21 rule 18 out (omega arith) (omega arith))
    ∙ skip (eqb rule 19) _ _ (apart 18 21 rule 19 out (omega arith) (omega arith))
    ∙ skip (eqb rule 20) _ _ (apart 18 21 rule 20 out (omega arith) (omega arith))
    ∙ skip (eqb rule 21) _ _ (apart 18 21 rule 21 out (omega arith) (omega arith))

-- ---- one rule after another

-- no rule below this number is broken
pub record Passed (l : LoadedLaunch) (t : Taken) (rule : ℕ) : Type 0 where
  pub none : (s : BrokenRule) → Breaks l (Some t) s → rule ≤ s.number

pub low_kept : (l : LoadedLaunch) (t : Taken) (rule : ℕ) (x : Option ℕ) → rule < 11 → breaks l (Some t) rule x ≡ false
low_kept l t rule None low = whole_outside l t rule (inl (omega (arith, low)))
low_kept l t rule (Some n) low = at_outside l t rule n (inl low)

pub not_below : (m n : ℕ) → (m < n → ⊥) → n ≤ m
not_below m n h = omega arith

pub passed_11 : (l : LoadedLaunch) (t : Taken) → Passed l t 11
passed_11 l t = record { none = λ s b. not_below s.number 11 (λ low. true_false (breaks l (Some t) s.number s.argument) b (low_kept l t s.number s.argument low)) }

-- where neither an argument breaks the next one nor the launch as a whole does
each_kept : (l : LoadedLaunch) (t : Taken) (rule : ℕ) (x : Option ℕ) → ((n : ℕ) → breaks_at l t rule n ≡ false) → breaks_whole l t rule ≡ false → breaks l (Some t) rule x ≡ false
each_kept l t rule None at whole = whole
each_kept l t rule (Some n) at whole = at n

pub passed_more : (l : LoadedLaunch) (t : Taken) (rule : ℕ) → Passed l t rule → ((n : ℕ) → breaks_at l t rule n ≡ false) → breaks_whole l t rule ≡ false → Passed l t (rule + 1)
passed_more l t rule p at whole = record {
  none = λ s b. elim (lt_or_eq rule s.number (p.none s b)) [
    | inl more ↦ omega (arith, more)
    | inr same ↦ true_false (breaks l (Some t) s.number s.argument) b (subst (λ k. breaks l (Some t) k s.argument ≡ false) same (each_kept l t rule s.argument at whole))
  ];
}

no_later : (l : LoadedLaunch) (t : Taken) (rule n number : ℕ) (x : Option ℕ) → ((m : ℕ) → m < n → breaks_at l t rule m ≡ false) → breaks l (Some t) number x ≡ true → number ≡ rule → IsNoLater (Some n) x
no_later l t rule n number None before b e = tt
no_later l t rule n number (Some m) before b e = not_below m n (λ low. true_false (breaks_at l t rule m) (subst (λ k. breaks_at l t k m ≡ true) e b) (before m low))

pub least_by : (l : LoadedLaunch) (t : Taken) (rule n : ℕ) → Passed l t rule → breaks_at l t rule n ≡ true → ((m : ℕ) → m < n → breaks_at l t rule m ≡ false) → IsLeastBroken l (Some t) (broken rule (Some n))
least_by l t rule n p h before = record {
  breaks = h;
  least = p.none;
  first = λ s b e. no_later l t rule n s.number s.argument before b e;
}

pub least_of_all : (l : LoadedLaunch) (t : Taken) (rule : ℕ) → Passed l t rule → breaks_whole l t rule ≡ true → IsLeastBroken l (Some t) (broken rule None)
least_of_all l t rule p h = record { breaks = h; least = p.none; first = λ s b e. tt }

high_kept : (l : LoadedLaunch) (t : Taken) (rule : ℕ) (x : Option ℕ) → 22 ≤ rule → breaks l (Some t) rule x ≡ false
high_kept l t rule None high = whole_outside l t rule (inr (omega (arith, high)))
high_kept l t rule (Some n) high = at_outside l t rule n (inr (omega (arith, high)))

pub keeps_all : (l : LoadedLaunch) (t : Taken) → Passed l t 22 → KeepsRules t l
keeps_all l t p = record { none = λ rule x. not_true (breaks l (Some t) rule x) (λ b. true_false (breaks l (Some t) rule x) b (high_kept l t rule x (p.none (broken rule x) b))) }

no_kernel_by : (l : LoadedLaunch) (number : ℕ) (x : Option ℕ) → breaks l None number x ≡ true → 10 ≤ number
no_kernel_by l number None b = (let same = eqb-true number 10 b in omega (arith, same))
no_kernel_by l number (Some n) b = absurd (let never : false ≡ true = b in cc)

-- there is no such kernel
pub least_kernel : (l : LoadedLaunch) → IsLeastBroken l None (broken 10 None)
least_kernel l = record { breaks = refl; least = λ s b. no_kernel_by l s.number s.argument b; first = λ s b e. tt }

-- ---- the least argument

-- What the search has found below a bound.
pub record IsLeastBelow (test : ℕ → Bool) (n : ℕ) : Type 0 where
  pub holds : test n ≡ true
  pub before : (m : ℕ) → m < n → test m ≡ false

abbrev pub FoundBelow : ℕ → (ℕ → Bool) → Option ℕ → Type 0
FoundBelow end test (Some n) = IsLeastBelow test n
FoundBelow end test None = (m : ℕ) → m < end → test m ≡ false

below_more : (end : ℕ) (test : ℕ → Bool) (b : Bool) → test end ≡ b → ((m : ℕ) → m < end → test m ≡ false) → FoundBelow (suc end) test (cond b (Some end) None)
below_more end test true e h = record { holds = e; before = h }
below_more end test false e h = λ m low. elim (lt_or_eq m end (omega (arith, low))) [ inl p ↦ h m p | inr p ↦ subst (λ k. test k ≡ false) (sym p) e ]

below_step : (end : ℕ) (test : ℕ → Bool) (o : Option ℕ) → FoundBelow end test o → FoundBelow (suc end) test (option_or o (cond (test end) (Some end) None))
below_step end test (Some n) h = h
below_step end test None h = below_more end test (test end) refl h

found_below : (end : ℕ) (test : ℕ → Bool) → FoundBelow end test (least_below end test)
found_below zero test = λ m low. absurd (omega (arith, low))
found_below (suc end) test = below_step end test (least_below end test) (found_below end test)

-- ---- no argument past the parameters and the lines breaks a rule

past_lines_by : (a : ArgLine) (as_ : List ArgLine) (n : ℕ) (b : Bool) → eqb a.ordinal n ≡ b → a.ordinal < n → given_to n as_ ≡ None → cond b (Some a.kind) (given_to n as_) ≡ None
past_lines_by a as_ n true e low h = absurd (let same = eqb-true a.ordinal n e in omega (arith, same, low))
past_lines_by a as_ n false e low h = h

past_lines : (args : List ArgLine) (n : ℕ) → end_of args ≤ n → given_to n args ≡ None
past_lines [] n h = refl
past_lines (a ∷ as_) n h = past_lines_by a as_ n (eqb a.ordinal n) refl (omega (arith, h)) (past_lines as_ n (omega (arith, h)))

both_past_by : (l : LoadedLaunch) (t : Taken) (rule n : ℕ) (b : Bool) (p : Option Parameter) (g : Option ArgKind) → p ≡ None → g ≡ None → cond b (is_unmatched p g) (breaks_both l t rule n p g) ≡ false
both_past_by l t rule n true None None d e = refl
both_past_by l t rule n false None None d e = refl
both_past_by l t rule n b (Some p) g d e = absurd (let never : ⊥ = cc in never)
both_past_by l t rule n b None (Some g) d e = absurd (let never : ⊥ = cc in never)

past_all : (l : LoadedLaunch) (t : Taken) (rule n : ℕ) → length t.parameters + end_of l.arguments ≤ n → breaks_at l t rule n ≡ false
past_all l t rule n h = both_past_by l t rule n (eqb rule 11) (slice_get t.parameters n) (given_to n l.arguments) (slice_get_past t.parameters n (omega (arith, h))) (past_lines l.arguments n (omega (arith, h)))

none_at_all : (l : LoadedLaunch) (t : Taken) (rule n : ℕ) (b : Bool) → ltb n (length t.parameters + end_of l.arguments) ≡ b → ((m : ℕ) → m < length t.parameters + end_of l.arguments → breaks_at l t rule m ≡ false) → breaks_at l t rule n ≡ false
none_at_all l t rule n true e h = h n (ltb-true n (length t.parameters + end_of l.arguments) e)
none_at_all l t rule n false e h = past_all l t rule n (ltb-false n (length t.parameters + end_of l.arguments) e)

-- ---- the rule that is computed

abbrev Goes : LoadedLaunch → Taken → ℕ → Option BrokenRule → Type 0
Goes l t rule (Some r) = IsLeastBroken l (Some t) r
Goes l t rule None = Passed l t (rule + 1)

whole_goes : (l : LoadedLaunch) (t : Taken) (rule : ℕ) (b : Bool) → breaks_whole l t rule ≡ b → Passed l t rule → ((n : ℕ) → breaks_at l t rule n ≡ false) → Goes l t rule (cond b (Some (broken rule None)) None)
whole_goes l t rule true e p at = least_of_all l t rule p e
whole_goes l t rule false e p at = passed_more l t rule p at e

rule_goes : (l : LoadedLaunch) (t : Taken) (rule : ℕ) (o : Option ℕ) → FoundBelow (length t.parameters + end_of l.arguments) (breaks_at l t rule) o → Passed l t rule → Goes l t rule (broken_by l t rule o)
rule_goes l t rule (Some n) h p = least_by l t rule n p h.holds h.before
rule_goes l t rule None h p = whole_goes l t rule (breaks_whole l t rule) refl p (λ n. none_at_all l t rule n (ltb n (length t.parameters + end_of l.arguments)) refl h)

one_of : (l : LoadedLaunch) (t : Taken) (rule : ℕ) (o rest : Option BrokenRule) → Goes l t rule o → (Passed l t (rule + 1) → IsNamed l (Some t) rest) → IsNamed l (Some t) (option_or o rest)
one_of l t rule (Some r) rest h next = h
one_of l t rule None rest h next = next h

names_among : (count : ℕ) (l : LoadedLaunch) (t : Taken) (rule : ℕ) → rule + count ≡ 22 → Passed l t rule → IsNamed l (Some t) (broken_among l t count rule)
names_among zero l t rule e p = keeps_all l t (subst (Passed l t) (let same : rule ≡ 22 = omega (arith, e) in same) p)
names_among (suc count) l t rule e p = one_of l t rule (broken_by l t rule (least_at l t rule)) (broken_among l t count (rule + 1)) (rule_goes l t rule (least_at l t rule) (found_below (length t.parameters + end_of l.arguments) (breaks_at l t rule)) p) (names_among count l t (rule + 1) (omega (arith, e)))

pub names_one : (l : LoadedLaunch) (takes : Option Taken) → IsNamed l takes (broken_rule l takes)
names_one l None = least_kernel l
names_one l (Some t) = names_among 11 l t 11 refl (passed_11 l t)
