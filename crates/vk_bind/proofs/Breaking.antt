-- Which rules a launch breaks, as far as the modules can break them that are read so far.
use Rattle.std.proofs.Common.{◌≡◌, inl, inr, ℕ, suc, ◌+◌, ◌<◌, ◌≤◌, Bool, true, false, cond, not, ◌&&◌, ◌||◌, ltb, leb, List, [], ◌∷◌, ◌++◌, length, Option, Some, None, refl, sym, ap, ◌∙◌, subst, arith, slice_get, get_or, Contains, take}
use Rattle.std.specs.List.{list_all}
use Rattle.std.specs.Option.{option_map}
use Rattle.std.proofs.lemmas.List.{length-map, take_more}
use Rattle.std.proofs.lemmas.Bool.{leb-true, leb-false, le-leb, ltb-true, ltb-false}
use Rattle.std.proofs.lemmas.List.Elements.{Contains-push_cases, Contains-append_left, Contains-push}
use Rattle.std.proofs.lemmas.Option.{slice_get-get_or, slice_get-map, slice_get_past}
use Rattle.launch_text.specs.declared.launch.ArgKind.{ArgKind}
use Rattle.launch_text.specs.declared.launch.ArgKind.TheVariants.{Buffer, Local, Plain}
use Rattle.launch_text.specs.declared.launch.ArgLine.{ArgLine}
use Rattle.launch_text.specs.Rules.{LoadedLaunch, Parameter, PlainValue, Taken, given_to, is_unmatched, is_of_size, added_by, sum_before, goes_over, fills_grid, is_within_limits, same_sizes, local_sum, breaks_both, breaks_at, breaks_whole, breaks, BrokenRule, broken, Breaks, IsLeastBroken, KeepsRules}
use Rattle.launch_text.proofs.Breaking.{true_false, not_true, lt_or_eq, line_gives, given_by, both_none, both_unsaid, at_outside, whole_outside, Passed, not_below, passed_11, passed_more, least_by, least_kernel}
use Rattle.vk_bind.specs.declared.parameters.Parameter.{Parameter as Found}
use Rattle.vk_bind.specs.declared.rules.ArgumentRule.{ArgumentRule}
use Rattle.vk_bind.specs.declared.rules.ArgumentRule.TheVariants.{Kind, Elements, Restricted}
use Rattle.vk_bind.specs.Answers.{parameter_from, taken_from, number_by, alone_both, alone_at, NoneBreaks, IsFirst, Finds, NoneWhole, IsFirstWhole, AreGiven, IsFirstMissing, FindsMissing, AreWithin, IsLeastPast, FindsPast, sooner, SumAfter, IsSum, sum_within}

-- ---- lines

pub given_more : (args : List ArgLine) (n : ℕ) → AreGiven n args → ((kind : ArgKind) × (given_to n args ≡ Some kind)) → AreGiven (n + 1) args
given_more args n h k = record { given = λ m low. elim (lt_or_eq m n (omega (arith, low))) [ inl p ↦ h.given m p | inr p ↦ subst (λ i. (kind : ArgKind) × (given_to i args ≡ Some kind)) (sym p) k ] }

-- ---- rule 11

missing_is : (ps : List Parameter) (args : List ArgLine) (n : ℕ) → n < length ps → given_to n args ≡ None → is_unmatched (slice_get ps n) (given_to n args) ≡ true
missing_is ps args n w e = ap (λ p. is_unmatched p (given_to n args)) (slice_get-get_or ps n (PlainValue 0) w) ∙ ap (is_unmatched (Some (get_or ps n (PlainValue 0)))) e

matched_is : (ps : List Parameter) (args : List ArgLine) (n : ℕ) (kind : ArgKind) → n < length ps → given_to n args ≡ Some kind → is_unmatched (slice_get ps n) (given_to n args) ≡ false
matched_is ps args n kind w e = ap (λ p. is_unmatched p (given_to n args)) (slice_get-get_or ps n (PlainValue 0) w) ∙ ap (is_unmatched (Some (get_or ps n (PlainValue 0)))) e

past_is : (ps : List Parameter) (args : List ArgLine) (n : ℕ) (kind : ArgKind) → length ps ≤ n → given_to n args ≡ Some kind → is_unmatched (slice_get ps n) (given_to n args) ≡ true
past_is ps args n kind w e = ap (λ p. is_unmatched p (given_to n args)) (slice_get_past ps n w) ∙ ap (is_unmatched None) e

absent_is : (ps : List Parameter) (args : List ArgLine) (n : ℕ) → length ps ≤ n → given_to n args ≡ None → is_unmatched (slice_get ps n) (given_to n args) ≡ false
absent_is ps args n w e = ap (λ p. is_unmatched p (given_to n args)) (slice_get_past ps n w) ∙ ap (is_unmatched None) e

missing_breaks : (l : LoadedLaunch) (t : Taken) (n : ℕ) → IsFirstMissing (length t.parameters) l.arguments n → IsFirst l t 11 n
missing_breaks l t n h = record {
  breaks = missing_is t.parameters l.arguments n h.within h.missing;
  before = λ m low. (let g = h.before.given m low in let w = h.within in matched_is t.parameters l.arguments m g.0 (omega (arith, w, low)) g.1);
}

-- an argument before the least one past the end
before_past : (l : LoadedLaunch) (t : Taken) (n m : ℕ) (b : Bool) (o : Option ArgKind) → ltb m (length t.parameters) ≡ b → given_to m l.arguments ≡ o → AreGiven (length t.parameters) l.arguments → ((kind : ArgKind) → length t.parameters ≤ m → Contains l.arguments (record { ordinal = m; kind = kind }) → ⊥) → breaks_at l t 11 m ≡ false
before_past l t n m true o low e g h = (let w = ltb-true m (length t.parameters) low in let k = g.given m w in matched_is t.parameters l.arguments m k.0 w k.1)
before_past l t n m false None low e g h = absent_is t.parameters l.arguments m (ltb-false m (length t.parameters) low) e
before_past l t n m false (Some kind) low e g h = absurd (h kind (ltb-false m (length t.parameters) low) (line_gives l.arguments m kind e))

past_breaks : (l : LoadedLaunch) (t : Taken) (n : ℕ) → AreGiven (length t.parameters) l.arguments → IsLeastPast (length t.parameters) l.arguments n → IsFirst l t 11 n
past_breaks l t n g h = record {
  breaks = (let k = given_by l.arguments n h.kind (given_to n l.arguments) refl h.line in past_is t.parameters l.arguments n k.0 h.past k.1);
  before = λ m low. before_past l t n m (ltb m (length t.parameters)) (given_to m l.arguments) refl refl g (λ kind high c. (let least = h.least _ c high in omega (arith, least, low)));
}

none_unmatched : (l : LoadedLaunch) (t : Taken) → AreGiven (length t.parameters) l.arguments → AreWithin (length t.parameters) l.arguments → NoneBreaks l t 11
none_unmatched l t g h = record {
  none = λ m. before_past l t 0 m (ltb m (length t.parameters)) (given_to m l.arguments) refl refl g (λ kind high c. (let w = h.within _ c in omega (arith, w, high)));
}

pub finds_missing : (l : LoadedLaunch) (t : Taken) (count n : ℕ) (args : List ArgLine) → count ≡ length t.parameters → args ≡ l.arguments → FindsMissing count args (Some n) → Finds l t 11 (Some n)
finds_missing l t count n args e d h = missing_breaks l t n (subst (λ c. IsFirstMissing c l.arguments n) e (subst (λ as_. IsFirstMissing count as_ n) d h))

past_or_none : (l : LoadedLaunch) (t : Taken) (o : Option ℕ) → AreGiven (length t.parameters) l.arguments → FindsPast (length t.parameters) l.arguments o → Finds l t 11 o
past_or_none l t None g h = none_unmatched l t g h
past_or_none l t (Some n) g h = past_breaks l t n g h

pub finds_past : (l : LoadedLaunch) (t : Taken) (count : ℕ) (o : Option ℕ) (args : List ArgLine) → count ≡ length t.parameters → args ≡ l.arguments → FindsMissing count args None → FindsPast count args o → Finds l t 11 o
finds_past l t count o args e d g h = past_or_none l t o (subst (λ c. AreGiven c l.arguments) e (subst (λ as_. AreGiven count as_) d g)) (subst (λ c. FindsPast c l.arguments o) e (subst (λ as_. FindsPast count as_ o) d h))

-- one line later

pub past_none : (count : ℕ) → FindsPast count [] None
past_none count = record { within = λ a c. absurd (let w = c.1 in omega (arith, w)) }

within_more : (count : ℕ) (seen : List ArgLine) (a : ArgLine) → AreWithin count seen → a.ordinal < count → AreWithin count (seen ++ a ∷ [])
within_more count seen a h low = record { within = λ b c. elim (Contains-push_cases seen a b c) [ inl p ↦ h.within b p | inr p ↦ (let e : a.ordinal ≡ b.ordinal = ap (λ (x : ArgLine). x.ordinal) p in omega (arith, e, low)) ] }

least_kept : (count n : ℕ) (seen : List ArgLine) (a : ArgLine) → IsLeastPast count seen n → (count ≤ a.ordinal → n ≤ a.ordinal) → IsLeastPast count (seen ++ a ∷ []) n
least_kept count n seen a h later = record {
  past = h.past;
  kind = h.kind;
  line = Contains-append_left seen (a ∷ []) _ h.line;
  least = λ b c past. elim (Contains-push_cases seen a b c) [ inl p ↦ h.least b p past | inr p ↦ subst (λ (x : ArgLine). count ≤ x.ordinal → n ≤ x.ordinal) p later past ];
}

least_new : (count : ℕ) (seen : List ArgLine) (a : ArgLine) → count ≤ a.ordinal → ((b : ArgLine) → Contains seen b → count ≤ b.ordinal → a.ordinal ≤ b.ordinal) → IsLeastPast count (seen ++ a ∷ []) a.ordinal
least_new count seen a past least = record {
  past = past;
  kind = a.kind;
  line = Contains-push seen a;
  least = λ b c high. elim (Contains-push_cases seen a b c) [ inl p ↦ least b p high | inr p ↦ (let e : a.ordinal ≡ b.ordinal = ap (λ (x : ArgLine). x.ordinal) p in omega (arith, e)) ];
}

past_first : (count : ℕ) (seen : List ArgLine) (a : ArgLine) (b : Bool) → ltb a.ordinal count ≡ b → AreWithin count seen → FindsPast count (seen ++ a ∷ []) (cond b None (Some a.ordinal))
past_first count seen a true test h = within_more count seen a h (ltb-true a.ordinal count test)
past_first count seen a false test h = least_new count seen a (ltb-false a.ordinal count test) (λ b c high. absurd (let w = h.within b c in omega (arith, w, high)))

past_next : (count n : ℕ) (seen : List ArgLine) (a : ArgLine) (b c : Bool) → ltb a.ordinal count ≡ b → leb n a.ordinal ≡ c → IsLeastPast count seen n → FindsPast count (seen ++ a ∷ []) (cond (b || c) (Some n) (Some a.ordinal))
past_next count n seen a true c low test h = least_kept count n seen a h (let w = ltb-true a.ordinal count low in λ high. absurd (omega (arith, w, high)))
past_next count n seen a false true low test h = least_kept count n seen a h (λ high. leb-true n a.ordinal test)
past_next count n seen a false false low test h = (let less = leb-false n a.ordinal test in least_new count seen a (ltb-false a.ordinal count low) (λ b c high. (let least = h.least b c high in omega (arith, least, less))))

pub past_more : (count : ℕ) (seen : List ArgLine) (a : ArgLine) (o : Option ℕ) → FindsPast count seen o → FindsPast count (seen ++ a ∷ []) (sooner o count a.ordinal)
past_more count seen a None h = past_first count seen a (ltb a.ordinal count) refl h
past_more count seen a (Some n) h = past_next count n seen a (ltb a.ordinal count) (leb n a.ordinal) refl refl h

pub past_step : (count : ℕ) (args : List ArgLine) (i : ℕ) (a : ArgLine) (o new : Option ℕ) → i < length args → a ≡ get_or args i a → FindsPast count (take i args) o → new ≡ sooner o count a.ordinal → FindsPast count (take (i + 1) args) new
past_step count args i a o new w is h e = subst (λ n. FindsPast count (take (i + 1) args) n) (sym e) (subst (λ as_. FindsPast count as_ (sooner o count a.ordinal)) (sym (take_more args i a w ∙ ap (λ b. take i args ++ b ∷ []) (sym is))) (past_more count (take i args) a o h))

-- ---- the least argument that breaks a rule

-- no argument before this one breaks the rule
pub record NoneBefore (l : LoadedLaunch) (t : Taken) (rule n : ℕ) : Type 0 where
  pub before : (m : ℕ) → m < n → breaks_at l t rule m ≡ false

pub none_yet : (l : LoadedLaunch) (t : Taken) (rule : ℕ) → NoneBefore l t rule 0
none_yet l t rule = record { before = λ m low. absurd (omega (arith, low)) }

pub none_more : (l : LoadedLaunch) (t : Taken) (rule n : ℕ) → NoneBefore l t rule n → breaks_at l t rule n ≡ false → NoneBefore l t rule (n + 1)
none_more l t rule n h here = record {
  before = λ m low. elim (lt_or_eq m n (omega (arith, low))) [
    | inl p ↦ h.before m p
    | inr p ↦ subst (λ k. breaks_at l t rule k ≡ false) (sym p) here
  ];
}

pub first_here : (l : LoadedLaunch) (t : Taken) (rule n : ℕ) → NoneBefore l t rule n → breaks_at l t rule n ≡ true → IsFirst l t rule n
first_here l t rule n h b = record { breaks = b; before = h.before }

alone_none : (ps : List Parameter) (lines : List ArgLine) (rule : ArgumentRule) (n : ℕ) (g : Option ArgKind) → alone_both ps lines rule n None g ≡ false
alone_none ps lines rule n None = refl
alone_none ps lines rule n (Some given) = refl

-- rules but 11 look at both
abbrev LooksAtBoth : ℕ → Type 0
LooksAtBoth rule = (l : LoadedLaunch) (t : Taken) (n : ℕ) → breaks_at l t rule n ≡ breaks_both l t rule n (slice_get t.parameters n) (given_to n l.arguments)

looks_14 : LooksAtBoth 14
looks_14 l t n = refl

looks_by : (rule : ArgumentRule) → LooksAtBoth (number_by rule)
looks_by Kind l t n = refl
looks_by Elements l t n = refl
looks_by Restricted l t n = refl

past_kept : (l : LoadedLaunch) (t : Taken) (rule n : ℕ) → LooksAtBoth rule → length t.parameters ≤ n → breaks_at l t rule n ≡ false
past_kept l t rule n looks high = looks l t n ∙ ap (λ p. breaks_both l t rule n p (given_to n l.arguments)) (slice_get_past t.parameters n high) ∙ both_none l t rule n (given_to n l.arguments)

none_by_end : (l : LoadedLaunch) (t : Taken) (rule n m : ℕ) (b : Bool) → ltb m n ≡ b → LooksAtBoth rule → NoneBefore l t rule n → length t.parameters ≤ n → breaks_at l t rule m ≡ false
none_by_end l t rule n m true e looks h past = h.before m (ltb-true m n e)
none_by_end l t rule n m false e looks h past = past_kept l t rule m looks (let high = ltb-false m n e in omega (arith, high, past))

-- none is past the parameters
none_at_end : (l : LoadedLaunch) (found : List Found) (required : Option (List ℕ)) (rule n : ℕ) → LooksAtBoth rule → NoneBefore l (taken_from found required) rule n → length found ≤ n → NoneBreaks l (taken_from found required) rule
none_at_end l found required rule n looks h past = record { none = λ m. none_by_end l (taken_from found required) rule n m (ltb m n) refl looks h (let same = length-map found parameter_from in omega (arith, same, past)) }

pub alone_end : (l : LoadedLaunch) (found : List Found) (required : Option (List ℕ)) (rule : ArgumentRule) (n : ℕ) → NoneBefore l (taken_from found required) (number_by rule) n → length found ≤ n → NoneBreaks l (taken_from found required) (number_by rule)
alone_end l found required rule n h past = none_at_end l found required (number_by rule) n (looks_by rule) h past

-- what the code looks for is the rule of this number
alone_is : (l : LoadedLaunch) (t : Taken) (rule : ArgumentRule) (n : ℕ) (p : Option Parameter) (g : Option ArgKind) → breaks_both l t (number_by rule) n p g ≡ alone_both t.parameters l.arguments rule n p g
alone_is l t rule n None g = both_none l t (number_by rule) n g ∙ sym (alone_none t.parameters l.arguments rule n g)
alone_is l t rule n (Some p) None = refl
alone_is l t Kind n (Some p) (Some g) = refl
alone_is l t Elements n (Some p) (Some g) = refl
alone_is l t Restricted n (Some p) (Some g) = refl

pub alone_found : (l : LoadedLaunch) (t : Taken) (rule : ArgumentRule) (n : ℕ) (r : Bool) → r ≡ alone_at t.parameters l.arguments rule n → breaks_at l t (number_by rule) n ≡ r
alone_found l t rule n r e = looks_by rule l t n ∙ alone_is l t rule n (slice_get t.parameters n) (given_to n l.arguments) ∙ sym e

pub alone_said : (l : LoadedLaunch) (t : Taken) (rule : ArgumentRule) (n : ℕ) (r : Bool) (args : List ArgLine) → args ≡ l.arguments → r ≡ alone_at t.parameters args rule n → breaks_at l t (number_by rule) n ≡ r
alone_said l t rule n r args same e = alone_found l t rule n r (e ∙ ap (λ as_. alone_at t.parameters as_ rule n) same)

-- nothing was found
pub none_found : (l : LoadedLaunch) (t : Taken) (rule : ℕ) (o : Option ℕ) → ((x : ℕ) → o ≡ Some x → ⊥) → Finds l t rule o → NoneBreaks l t rule
none_found l t rule None h f = f
none_found l t rule (Some x) h f = absurd (h x refl)

-- ---- rules 13 and 17, which pointers into buffers can't break

plain_kept : (l : LoadedLaunch) (t : Taken) (n : ℕ) (o : Option Found) (g : Option ArgKind) → breaks_both l t 13 n (option_map parameter_from o) g ≡ false
plain_kept l t n None g = both_none l t 13 n g
plain_kept l t n (Some p) None = refl
plain_kept l t n (Some p) (Some (Buffer file)) = refl
plain_kept l t n (Some p) (Some (Local bytes)) = refl
plain_kept l t n (Some p) (Some (Plain bytes)) = refl

local_kept : (l : LoadedLaunch) (t : Taken) (n : ℕ) (o : Option Found) (g : Option ArgKind) → breaks_both l t 17 n (option_map parameter_from o) g ≡ false
local_kept l t n None g = both_none l t 17 n g
local_kept l t n (Some p) None = refl
local_kept l t n (Some p) (Some (Buffer file)) = refl
local_kept l t n (Some p) (Some (Local bytes)) = refl
local_kept l t n (Some p) (Some (Plain bytes)) = refl

none_13 : (l : LoadedLaunch) (found : List Found) (required : Option (List ℕ)) → NoneBreaks l (taken_from found required) 13
none_13 l found required = record { none = λ n. ap (λ p. breaks_both l (taken_from found required) 13 n p (given_to n l.arguments)) (slice_get-map parameter_from found n) ∙ plain_kept l (taken_from found required) n (slice_get found n) (given_to n l.arguments) }

none_17 : (l : LoadedLaunch) (found : List Found) (required : Option (List ℕ)) → NoneBreaks l (taken_from found required) 17
none_17 l found required = record { none = λ n. ap (λ p. breaks_both l (taken_from found required) 17 n p (given_to n l.arguments)) (slice_get-map parameter_from found n) ∙ local_kept l (taken_from found required) n (slice_get found n) (given_to n l.arguments) }

-- ---- one rule after another

passed_next : (l : LoadedLaunch) (t : Taken) (rule : ℕ) → Passed l t rule → NoneBreaks l t rule → rule < 18 → Passed l t (rule + 1)
passed_next l t rule p h low = passed_more l t rule p h.none (whole_outside l t rule (inl low))

pub passed_12 : (l : LoadedLaunch) (t : Taken) → NoneBreaks l t 11 → Passed l t 12
passed_12 l t h = passed_next l t 11 (passed_11 l t) h (omega arith)

pub passed_14 : (l : LoadedLaunch) (found : List Found) (required : Option (List ℕ)) → NoneBreaks l (taken_from found required) 11 → NoneBreaks l (taken_from found required) 12 → Passed l (taken_from found required) 14
passed_14 l found required a b = let t = taken_from found required in passed_next l t 13 (passed_next l t 12 (passed_12 l t a) b (omega arith)) (none_13 l found required) (omega arith)

pub passed_15 : (l : LoadedLaunch) (found : List Found) (required : Option (List ℕ)) → NoneBreaks l (taken_from found required) 11 → NoneBreaks l (taken_from found required) 12 → NoneBreaks l (taken_from found required) 14 → Passed l (taken_from found required) 15
passed_15 l found required a b c = passed_next l (taken_from found required) 14 (passed_14 l found required a b) c (omega arith)

pub passed_16 : (l : LoadedLaunch) (found : List Found) (required : Option (List ℕ)) → NoneBreaks l (taken_from found required) 11 → NoneBreaks l (taken_from found required) 12 → NoneBreaks l (taken_from found required) 14 → NoneBreaks l (taken_from found required) 15 → Passed l (taken_from found required) 16
passed_16 l found required a b c d = passed_next l (taken_from found required) 15 (passed_15 l found required a b c) d (omega arith)

pub passed_18 : (l : LoadedLaunch) (found : List Found) (required : Option (List ℕ)) → NoneBreaks l (taken_from found required) 11 → NoneBreaks l (taken_from found required) 12 → NoneBreaks l (taken_from found required) 14 → NoneBreaks l (taken_from found required) 15 → NoneBreaks l (taken_from found required) 16 → Passed l (taken_from found required) 18
passed_18 l found required a b c d e = let t = taken_from found required in passed_next l t 17 (passed_next l t 16 (passed_16 l found required a b c d) e (omega arith)) (none_17 l found required) (omega arith)

pub least_at : (l : LoadedLaunch) (t : Taken) (rule n : ℕ) → Passed l t rule → IsFirst l t rule n → IsLeastBroken l (Some t) (broken rule (Some n))
least_at l t rule n p h = least_by l t rule n p h.breaks h.before

not_earlier : (l : LoadedLaunch) (t : Taken) (rule number : ℕ) (x : Option ℕ) → IsFirstWhole l t rule → 18 ≤ number → breaks l (Some t) number x ≡ true → rule ≤ number
not_earlier l t rule number None h high b = not_below number rule (λ low. true_false (breaks_whole l t number) b (h.before number high low))
not_earlier l t rule number (Some n) h high b = true_false (breaks_at l t number n) b (at_outside l t number n (inr (omega (arith, high))))

pub least_whole : (l : LoadedLaunch) (t : Taken) (rule : ℕ) → Passed l t 18 → IsFirstWhole l t rule → IsLeastBroken l (Some t) (broken rule None)
least_whole l t rule p h = record {
  breaks = h.breaks;
  least = λ s b. not_earlier l t rule s.number s.argument h (p.none s b) b;
  first = λ s b e. tt;
}

none_kept : (l : LoadedLaunch) (t : Taken) (number : ℕ) (x : Option ℕ) → NoneWhole l t → 18 ≤ number → breaks l (Some t) number x ≡ false
none_kept l t number None h high = h.none number high
none_kept l t number (Some n) h high = at_outside l t number n (inr (omega (arith, high)))

pub keeps_rules : (l : LoadedLaunch) (t : Taken) → Passed l t 18 → NoneWhole l t → KeepsRules t l
keeps_rules l t p h = record { none = λ number x. not_true (breaks l (Some t) number x) (λ b. true_false (breaks l (Some t) number x) b (none_kept l t number x h (p.none (broken number x) b))) }

-- there is no such kernel
pub no_kernel : (l : LoadedLaunch) → IsLeastBroken l None (broken 10 None)
no_kernel l = least_kernel l

-- ---- the laws

pub unbroken_is_kept : (l : LoadedLaunch) (t : Taken) → ((r : BrokenRule) → Breaks l (Some t) r → ⊥) → KeepsRules t l
unbroken_is_kept l t h = record { none = λ number x. not_true (breaks l (Some t) number x) (h (broken number x)) }

pub unbroken : (l : LoadedLaunch) (t : Taken) → KeepsRules t l → (r : BrokenRule) → Breaks l (Some t) r → ⊥
unbroken l t k r b = true_false (breaks l (Some t) r.number r.argument) b (k.none r.number r.argument)

-- ---- the launch as a whole

-- it breaks no rule from 18 on below this one
record UpTo (l : LoadedLaunch) (t : Taken) (rule : ℕ) : Type 0 where
  kept : (other : ℕ) → 18 ≤ other → other < rule → breaks_whole l t other ≡ false

up_to_18 : (l : LoadedLaunch) (t : Taken) → UpTo l t 18
up_to_18 l t = record { kept = λ other high low. absurd (omega (arith, high, low)) }

up_to_next : (l : LoadedLaunch) (t : Taken) (rule : ℕ) → UpTo l t rule → breaks_whole l t rule ≡ false → UpTo l t (rule + 1)
up_to_next l t rule h e = record {
  kept = λ other high low. elim (lt_or_eq other rule (omega (arith, low))) [
    | inl p ↦ h.kept other high p
    | inr p ↦ subst (λ k. breaks_whole l t k ≡ false) (sym p) e
  ];
}

pub first_18 : (l : LoadedLaunch) (t : Taken) → false ≡ fills_grid l.global l.local → IsFirstWhole l t 18
first_18 l t a = record { high = omega arith; breaks = ap not (sym a); before = (up_to_18 l t).kept }

up_to_19 : (l : LoadedLaunch) (t : Taken) → true ≡ fills_grid l.global l.local → UpTo l t 19
up_to_19 l t a = up_to_next l t 18 (up_to_18 l t) (ap not (sym a))

pub first_19 : (l : LoadedLaunch) (t : Taken) → true ≡ fills_grid l.global l.local → false ≡ is_within_limits l.global l.local → IsFirstWhole l t 19
first_19 l t a b = record { high = omega arith; breaks = ap not (sym b); before = (up_to_19 l t a).kept }

up_to_20 : (l : LoadedLaunch) (t : Taken) → true ≡ fills_grid l.global l.local → true ≡ is_within_limits l.global l.local → UpTo l t 20
up_to_20 l t a b = up_to_next l t 19 (up_to_19 l t a) (ap not (sym b))

pub first_20 : (l : LoadedLaunch) (t : Taken) → true ≡ fills_grid l.global l.local → true ≡ is_within_limits l.global l.local → false ≡ list_all (same_sizes l.local) t.required → IsFirstWhole l t 20
first_20 l t a b c = record { high = omega arith; breaks = ap not (sym c); before = (up_to_20 l t a b).kept }

up_to_21 : (l : LoadedLaunch) (t : Taken) → true ≡ fills_grid l.global l.local → true ≡ is_within_limits l.global l.local → true ≡ list_all (same_sizes l.local) t.required → UpTo l t 21
up_to_21 l t a b c = up_to_next l t 20 (up_to_20 l t a b) (ap not (sym c))

pub first_21 : (l : LoadedLaunch) (t : Taken) → true ≡ fills_grid l.global l.local → true ≡ is_within_limits l.global l.local → true ≡ list_all (same_sizes l.local) t.required → true ≡ ltb 32768 (local_sum l.arguments) → IsFirstWhole l t 21
first_21 l t a b c d = record { high = omega arith; breaks = sym d; before = (up_to_21 l t a b c).kept }

whole_by : (l : LoadedLaunch) (t : Taken) (rule : ℕ) (b : Bool) → ltb rule 22 ≡ b → UpTo l t 22 → 18 ≤ rule → breaks_whole l t rule ≡ false
whole_by l t rule true e h high = h.kept rule high (ltb-true rule 22 e)
whole_by l t rule false e h high = whole_outside l t rule (inr (let more = ltb-false rule 22 e in omega (arith, more)))

pub none_whole : (l : LoadedLaunch) (t : Taken) → true ≡ fills_grid l.global l.local → true ≡ is_within_limits l.global l.local → true ≡ list_all (same_sizes l.local) t.required → false ≡ ltb 32768 (local_sum l.arguments) → NoneWhole l t
none_whole l t a b c d = record { none = λ rule high. whole_by l t rule (ltb rule 22) refl (up_to_next l t 21 (up_to_21 l t a b c) (sym d)) high }

-- ---- the sum of the buffers

or_true : (b : Bool) → b || true ≡ true
or_true true = refl
or_true false = refl

and_false : (b : Bool) → b && false ≡ false
and_false true = refl
and_false false = refl

both_14 : (l : LoadedLaunch) (t : Taken) (n : ℕ) (p : Parameter) (given : ArgKind) → slice_get t.parameters n ≡ Some p → Some given ≡ given_to n l.arguments → breaks_at l t 14 n ≡ not (is_of_size l.buffers p given) || goes_over l n
both_14 l t n p given at line = ap (λ q. breaks_both l t 14 n q (given_to n l.arguments)) at ∙ ap (breaks_both l t 14 n (Some p)) (sym line)

pub wrong_size : (l : LoadedLaunch) (t : Taken) (n : ℕ) (p : Parameter) (given : ArgKind) → slice_get t.parameters n ≡ Some p → Some given ≡ given_to n l.arguments → false ≡ is_of_size l.buffers p given → breaks_at l t 14 n ≡ true
wrong_size l t n p given at line e = both_14 l t n p given at line ∙ ap (λ b. not b || goes_over l n) (sym e)

sum_next : (l : LoadedLaunch) (n : ℕ) (given : ArgKind) (sum added : ℕ) → Some given ≡ given_to n l.arguments → sum ≡ sum_before l n → added ≡ added_by l.buffers l.arguments n (Some given) → sum + added ≡ sum_before l (suc n)
sum_next l n given sum added line e d = ap (λ k. k + added) e ∙ ap (λ k. sum_before l n + k) (d ∙ ap (added_by l.buffers l.arguments n) line)

sum_by : (l : LoadedLaunch) (t : Taken) (n sum added : ℕ) (b : Bool) (r : Option ℕ) → ltb 67108864 (sum + added) ≡ b → breaks_at l t 14 n ≡ goes_over l n → sum ≡ sum_before l n → sum ≤ 67108864 → sum + added ≡ sum_before l (suc n) → r ≡ cond b None (Some (sum + added)) → SumAfter l t n r
sum_by l t n sum added true r e at s low next is = subst (SumAfter l t n) (sym is) (
    at ∙ ap (λ b. b && ltb 67108864 (sum_before l (suc n))) (ap (λ k. leb k 67108864) (sym s) ∙ le-leb sum 67108864 low) ∙ ap (ltb 67108864) (sym next) ∙ e)
sum_by l t n sum added false r e at s low next is = subst (SumAfter l t n) (sym is) (record {
  keeps = at ∙ ap (λ b. leb (sum_before l n) 67108864 && b) (ap (ltb 67108864) (sym next) ∙ e) ∙ and_false (leb (sum_before l n) 67108864);
  is = next;
  within = ltb-false 67108864 (sum + added) e;
})

pub sum_said : (l : LoadedLaunch) (t : Taken) (n : ℕ) (p : Parameter) (given : ArgKind) (sum added : ℕ) (r : Option ℕ) → slice_get t.parameters n ≡ Some p → Some given ≡ given_to n l.arguments → true ≡ is_of_size l.buffers p given → sum ≡ sum_before l n → sum ≤ 67108864 → added ≡ added_by l.buffers l.arguments n (Some given) → r ≡ sum_within (sum + added) → SumAfter l t n r
sum_said l t n p given sum added r at line fits s low more is = sum_by l t n sum added (ltb 67108864 (sum + added)) r refl (both_14 l t n p given at line ∙ ap (λ b. not b || goes_over l n) (sym fits)) s low (sum_next l n given sum added line s more) is

pub sum_unsaid : (l : LoadedLaunch) (t : Taken) (n sum : ℕ) → None ≡ given_to n l.arguments → sum ≡ sum_before l n → sum ≤ 67108864 → IsSum l t n sum
sum_unsaid l t n sum line s low = record {
  keeps = ap (breaks_both l t 14 n (slice_get t.parameters n)) (sym line) ∙ both_unsaid l t 14 n (slice_get t.parameters n);
  is = s ∙ (let z : sum_before l n ≡ sum_before l n + 0 = omega arith in z) ∙ ap (λ k. sum_before l n + k) (ap (added_by l.buffers l.arguments n) line);
  within = low;
}

pub taken_at : (found : List Found) (required : Option (List ℕ)) (n : ℕ) (d : Found) → n < length found → slice_get (taken_from found required).parameters n ≡ Some (parameter_from (get_or found n d))
taken_at found required n d w = slice_get-map parameter_from found n ∙ ap (option_map parameter_from) (slice_get-get_or found n d w)

-- the sum so far, with which no argument has broken rule 14
pub record Summed (l : LoadedLaunch) (t : Taken) (n sum : ℕ) : Type 0 where
  pub none : NoneBefore l t 14 n
  pub is : sum ≡ sum_before l n
  pub within : sum ≤ 67108864

pub summed_first : (l : LoadedLaunch) (t : Taken) → Summed l t 0 0
summed_first l t = record { none = none_yet l t 14; is = refl; within = omega arith }

pub summed_more : (l : LoadedLaunch) (t : Taken) (n sum : ℕ) → NoneBefore l t 14 n → IsSum l t n sum → Summed l t (n + 1) sum
summed_more l t n sum h s = record {
  none = none_more l t 14 n h s.keeps;
  is = s.is ∙ (let one : suc n ≡ n + 1 = omega arith in ap (sum_before l) one);
  within = s.within;
}

pub sizes_end : (l : LoadedLaunch) (found : List Found) (required : Option (List ℕ)) (n : ℕ) → NoneBefore l (taken_from found required) 14 n → length found ≤ n → NoneBreaks l (taken_from found required) 14
sizes_end l found required n h past = none_at_end l found required 14 n looks_14 h past
