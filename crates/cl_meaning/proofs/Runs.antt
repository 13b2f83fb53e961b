-- Runs of one item beside each other.
use Rattle.std.proofs.Common.{◌≡◌, ℕ, zero, suc, ◌+◌, ◌-◌, ◌<◌, ◌≤◌, ◌⊎◌, inl, inr, true, false, if◌then◌else◌, List, [], ◌∷◌, ◌++◌, take, length, Option, Some, None, refl, sym, ap, ◌∙◌, subst, arith}
use Rattle.std.specs.Prelude.{option_map, nat_lt}
use Rattle.std.proofs.lemmas.Bool.{cases_lt}
use Rattle.std.proofs.lemmas.Bool.Decides.{nat_tests}
use Rattle.std.proofs.lemmas.List.{append-nil}
use Rattle.clv_steps.specs.Machines.{Status, Runs, Asks, Ends, Fails, IsLive, after}
use Rattle.cl_tree.specs.declared.event.Event.{Event}
use Rattle.cl_tree.specs.declared.event.Outcome.{Outcome}
use Rattle.cl_tree.specs.declared.event.Outcome.TheVariants as outcome
use Rattle.cl_common.specs.Events.{Asked}
use Rattle.cl_meaning.specs.declared.run.ItemRun.{ItemRun}
use Rattle.cl_meaning.specs.Tasks.{Task, Step, Quiet}
use Rattle.cl_meaning.specs.States.{Surroundings, Item}
use Rattle.cl_meaning.specs.Items.{source_item, picks, weight, weight_by}
use Rattle.cl_meaning.specs.ItemRuns.{at_once, and_steps, and_event, event_by, spent, answered, fuelled, from, run_within, IsItemRun}
use Rattle.cl_meaning.specs.Source.{first_item, kernel_of, surroundings_of}
use Rattle.cl_meaning.specs.Laws.{OneRun, GoesOn, MoreFuel, MoreAnswers, UndefinedStays, RunsAreThere}
use Rattle.cl_meaning.proofs.Loops.{FunctionsHaveBodies}
use Rattle.cl_meaning.proofs.Quiet.{quiet_left, IsSteady}
use Rattle.cl_meaning.proofs.Bodies.{functions_have_bodies}
use Rattle.cl_meaning.proofs.Steady.{keeps, keeps_all, falls, begun_steady}

-- what an optional result comes from
mapped : {A B : Type 0} (g : A → B) (o : Option A) (r : B) → option_map g o ≡ Some r → (q : A) × (o ≡ Some q) × (g q ≡ r)
mapped g None r e = cc
mapped g (Some q) r e = (q, refl, (let k : Some (g q) ≡ Some r = e in cc))

some_same : {A : Type 0} (a b : A) → Some a ≡ Some b → a ≡ b
some_same a b e = cc

-- ---- fuel

pub no_fuel : (w fuel : ℕ) → fuel < w → spent w fuel ≡ None
no_fuel w fuel low = let b : nat_lt fuel w ≡ true = grind (arith, nat_tests) in ap (λ z. if z then None else Some (fuel - w)) b

pub some_fuel : (w fuel : ℕ) → w ≤ fuel → spent w fuel ≡ Some (fuel - w)
some_fuel w fuel high = let b : nat_lt fuel w ≡ false = grind (arith, nat_tests) in ap (λ z. if z then None else Some (fuel - w)) b

more_fuel : (w fuel k : ℕ) → w ≤ fuel → spent w (fuel + k) ≡ Some (fuel - w + k)
more_fuel w fuel k high =
    let e : fuel + k - w ≡ fuel - w + k = omega (arith, high) in
    some_fuel w (fuel + k) (omega (arith, high)) ∙ ap Some e

-- ---- one run beside one with more

data Grows (more : List ℕ) (k : ℕ) (a b : ItemRun) : Type 0 where
  same : b ≡ a → Grows more k a b
  by_fuel : a.outcome ≡ outcome.Running → (k ≡ 0 → ⊥) → GoesOn a b → Grows more k a b
  by_answers : (e : Event) → a.outcome ≡ outcome.Asks e → (more ≡ [] → ⊥) → GoesOn a b → Grows more k a b

steps_on : (n : ℕ) (a b : ItemRun) → GoesOn a b → GoesOn (and_steps n a) (and_steps n b)
steps_on n a b g = record { more = g.more; events = g.events; steps = let s = g.steps in omega (arith, s) }

event_on : (e : Event) (a b : ItemRun) → GoesOn a b → GoesOn (and_event e a) (and_event e b)
event_on e a b g = record { more = g.more; events = ap (λ l. e ∷ l) g.events; steps = g.steps }

module _ (more : List ℕ) (k : ℕ) where
  grows_steps : (n : ℕ) (a b : ItemRun) → Grows more k a b → Grows more k (and_steps n a) (and_steps n b)
  grows_steps n a b (same e) = same (ap (and_steps n) e)
  grows_steps n a b (by_fuel e z g) = by_fuel e z (steps_on n a b g)
  grows_steps n a b (by_answers v e z g) = by_answers v e z (steps_on n a b g)

  grows_event : (e : Event) (a b : ItemRun) → Grows more k a b → Grows more k (and_event e a) (and_event e b)
  grows_event v a b (same e) = same (ap (and_event v) e)
  grows_event v a b (by_fuel e z g) = by_fuel e z (event_on v a b g)
  grows_event v a b (by_answers u e z g) = by_answers u e z (event_on v a b g)

  grows_at : (a b c d : ItemRun) → a ≡ c → b ≡ d → Grows more k a b → Grows more k c d
  grows_at a b c d e f g = subst (λ z. Grows more k c z) f (subst (λ z. Grows more k z b) e g)

-- a run that stands at once goes on by any other
at_first : (o : Outcome) (a b : ItemRun) → at_once o ≡ Some a → GoesOn a b
at_first o a b e = subst (λ z. GoesOn z b) (some_same (record { events = []; outcome = o; steps = 0 }) a e) (record { more = b.events; events = refl; steps = omega arith })

outcome_at : (o : Outcome) (a : ItemRun) → at_once o ≡ Some a → a.outcome ≡ o
outcome_at o a e = sym (ap (λ z. z.outcome) (some_same (record { events = []; outcome = o; steps = 0 }) a e))

both_at : (o : Option ItemRun) (a b : ItemRun) → o ≡ Some a → o ≡ Some b → b ≡ a
both_at o a b e f = some_same b a (sym f ∙ e)

module _ (s : Surroundings) (more : List ℕ) (k : ℕ) (on on2 : Item → List ℕ → ℕ → Option ItemRun)
    (ih : (i : Item) (answers : List ℕ) (fuel : ℕ) (a b : ItemRun) → on i answers fuel ≡ Some a → on2 i (answers ++ more) (fuel + k) ≡ Some b → Grows more k a b) where
  grows_asked : (i : Item) (fuel : ℕ) (e : Event) (a b : ItemRun) (rest : List ℕ) → more ≡ rest → at_once (outcome.Asks e) ≡ Some a → answered s on2 i (fuel + k) (Some e) rest ≡ Some b → Grows more k a b
  grows_asked i fuel e a b [] m p q = same (both_at _ a b p q)
  grows_asked i fuel e a b (x ∷ rest) m p q = by_answers e (outcome_at _ a p) (λ n. (let z : x ∷ rest ≡ [] = sym m ∙ n in cc)) (at_first _ a b p)

  grows_answered : (i : Item) (fuel : ℕ) (e : Option Event) (answers : List ℕ) (a b : ItemRun) → answered s on i fuel e answers ≡ Some a → answered s on2 i (fuel + k) e (answers ++ more) ≡ Some b → Grows more k a b
  grows_answered i fuel None answers a b p q = ih _ answers fuel a b p q
  grows_answered i fuel (Some e) [] a b p q = grows_asked i fuel e a b more refl p q
  grows_answered i fuel (Some e) (x ∷ xs) a b p q =
      let m = mapped (and_event e) _ a p in
      let n = mapped (and_event e) _ b q in
      grows_at more k (and_event e m.0) (and_event e n.0) a b m.2 n.2 (grows_event more k e m.0 n.0 (ih _ xs fuel m.0 n.0 m.1 n.1))

  grows_low : (i : Item) (fuel : ℕ) (e : Option Event) (answers : List ℕ) (a b : ItemRun) (z : ℕ) → k ≡ z → fuel < weight i → at_once outcome.Running ≡ Some a → fuelled s on2 i (answers ++ more) (spent (weight i) (fuel + k)) e ≡ Some b → Grows more k a b
  grows_low i fuel e answers a b zero is low p q =
      let none : spent (weight i) (fuel + k) ≡ None = no_fuel (weight i) (fuel + k) (omega (arith, low, is)) in
      same (both_at _ a b p (ap (λ f. fuelled s on2 i (answers ++ more) f e) (sym none) ∙ q))
  grows_low i fuel e answers a b (suc z) is low p q = by_fuel (outcome_at _ a p) (λ n. (let c : suc z ≡ 0 = sym is ∙ n in cc)) (at_first _ a b p)

  grows_fuelled : (i : Item) (fuel : ℕ) (e : Option Event) (answers : List ℕ) (a b : ItemRun) → fuelled s on i answers (spent (weight i) fuel) e ≡ Some a → fuelled s on2 i (answers ++ more) (spent (weight i) (fuel + k)) e ≡ Some b → Grows more k a b
  grows_fuelled i fuel e answers a b p q = elim (cases_lt fuel (weight i)) [
    | inl low ↦ grows_low i fuel e answers a b k refl low (ap (λ f. fuelled s on i answers f e) (sym (no_fuel (weight i) fuel low)) ∙ p) q
    | inr high ↦ (
        let m = mapped (and_steps (weight i)) _ a (ap (λ f. fuelled s on i answers f e) (sym (some_fuel (weight i) fuel high)) ∙ p) in
        let n = mapped (and_steps (weight i)) _ b (ap (λ f. fuelled s on2 i (answers ++ more) f e) (sym (more_fuel (weight i) fuel k high)) ∙ q) in
        grows_at more k (and_steps (weight i) m.0) (and_steps (weight i) n.0) a b m.2 n.2 (grows_steps more k (weight i) m.0 n.0 (grows_answered i (fuel - weight i) e answers m.0 n.0 m.1 n.1)))
  ]

  grows_from : (i : Item) (answers : List ℕ) (fuel : ℕ) (st : Status Asked) (a b : ItemRun) → from s on i answers fuel st ≡ Some a → from s on2 i (answers ++ more) (fuel + k) st ≡ Some b → Grows more k a b
  grows_from i answers fuel Ends a b p q = same (both_at _ a b p q)
  grows_from i answers fuel Fails a b p q = same (both_at _ a b p q)
  grows_from i answers fuel Runs a b p q = grows_fuelled i fuel (event_by (picks s i) Runs) answers a b p q
  grows_from i answers fuel (Asks e) a b p q = grows_fuelled i fuel (event_by (picks s i) (Asks e)) answers a b p q

grows : (s : Surroundings) (more : List ℕ) (k m n : ℕ) (i : Item) (answers : List ℕ) (fuel : ℕ) (a b : ItemRun) → run_within s m i answers fuel ≡ Some a → run_within s n i (answers ++ more) (fuel + k) ≡ Some b → Grows more k a b
grows s more k zero n i answers fuel a b p q = cc
grows s more k (suc m) zero i answers fuel a b p q = cc
grows s more k (suc m) (suc n) i answers fuel a b p q = grows_from s more k (run_within s m) (run_within s n) (λ j answers2 fuel2 a2 b2. grows s more k m n j answers2 fuel2 a2 b2) i answers fuel ((source_item s).status i) a b p q

-- ---- the laws

with_none : (s : Surroundings) (i : Item) (answers : List ℕ) (fuel : ℕ) (b : ItemRun) → IsItemRun s i answers fuel b → IsItemRun s i (answers ++ []) fuel b
with_none s i answers fuel b r = subst (λ z. IsItemRun s i z fuel b) (sym (append-nil answers)) r

with_zero : (s : Surroundings) (i : Item) (answers : List ℕ) (fuel : ℕ) (b : ItemRun) → IsItemRun s i answers fuel b → IsItemRun s i answers (fuel + 0) b
with_zero s i answers fuel b r = let e : fuel ≡ fuel + 0 = omega arith in subst (λ z. IsItemRun s i answers z b) e r

one_of : (a b : ItemRun) → Grows [] 0 a b → b ≡ a
one_of a b (same e) = e
one_of a b (by_fuel e z g) = absurd (z refl)
one_of a b (by_answers v e z g) = absurd (z refl)

pub one_run : OneRun
one_run s i answers fuel a b p q =
    let r = with_zero s i (answers ++ []) fuel b (with_none s i answers fuel b q) in
    one_of a b (grows s [] 0 p.0 r.0 i answers fuel a b p.1 r.1)

fuel_of : (k : ℕ) (a b : ItemRun) → Grows [] k a b → (b ≡ a) ⊎ ((a.outcome ≡ outcome.Running) × GoesOn a b)
fuel_of k a b (same e) = inl e
fuel_of k a b (by_fuel e z g) = inr (e, g)
fuel_of k a b (by_answers v e z g) = absurd (z refl)

pub more_fuel_law : MoreFuel
more_fuel_law s i answers fuel more a b p q =
    let r = with_none s i answers (fuel + more) b q in
    fuel_of more a b (grows s [] more p.0 r.0 i answers fuel a b p.1 r.1)

answers_of : (more : List ℕ) (a b : ItemRun) → Grows more 0 a b → (b ≡ a) ⊎ ((e : Event) × (a.outcome ≡ outcome.Asks e) × GoesOn a b)
answers_of more a b (same e) = inl e
answers_of more a b (by_fuel e z g) = absurd (z refl)
answers_of more a b (by_answers v e z g) = inr (v, e, g)

pub more_answers_law : MoreAnswers
more_answers_law s i answers more fuel a b p q =
    let r = with_zero s i (answers ++ more) fuel b q in
    answers_of more a b (grows s more 0 p.0 r.0 i answers fuel a b p.1 r.1)

-- ---- what is undefined stays

not_undefined : (o : Outcome) (a : ItemRun) → at_once o ≡ Some a → a.outcome ≡ outcome.Undefined → o ≡ outcome.Undefined
not_undefined o a e u = sym (outcome_at o a e) ∙ u

module _ (s : Surroundings) (k : ℕ) (others : List ℕ) (on : Item → List ℕ → ℕ → Option ItemRun)
    (ih : (i : Item) (answers : List ℕ) (fuel : ℕ) (a : ItemRun) → on i answers fuel ≡ Some a → a.outcome ≡ outcome.Undefined → on i (take (length a.events) answers ++ others) (fuel + k) ≡ Some a) where
  stays_answered : (i : Item) (fuel : ℕ) (e : Option Event) (answers : List ℕ) (a : ItemRun) → answered s on i fuel e answers ≡ Some a → a.outcome ≡ outcome.Undefined → answered s on i (fuel + k) e (take (length a.events) answers ++ others) ≡ Some a
  stays_answered i fuel None answers a p u = ih _ answers fuel a p u
  stays_answered i fuel (Some e) [] a p u = absurd (let z = not_undefined (outcome.Asks e) a p u in cc)
  stays_answered i fuel (Some e) (x ∷ xs) a p u =
      let m = mapped (and_event e) _ a p in
      let r = ih _ xs fuel m.0 m.1 (ap (λ z. z.outcome) m.2 ∙ u) in
      subst (λ z. answered s on i (fuel + k) (Some e) (take (length z.events) (x ∷ xs) ++ others) ≡ Some z) m.2 (ap (option_map (and_event e)) r)

  stays_fuelled : (i : Item) (fuel : ℕ) (e : Option Event) (answers : List ℕ) (a : ItemRun) → fuelled s on i answers (spent (weight i) fuel) e ≡ Some a → a.outcome ≡ outcome.Undefined → fuelled s on i (take (length a.events) answers ++ others) (spent (weight i) (fuel + k)) e ≡ Some a
  stays_fuelled i fuel e answers a p u = elim (cases_lt fuel (weight i)) [
    | inl low ↦ absurd (let z = not_undefined outcome.Running a (ap (λ f. fuelled s on i answers f e) (sym (no_fuel (weight i) fuel low)) ∙ p) u in cc)
    | inr high ↦ (
        let m = mapped (and_steps (weight i)) _ a (ap (λ f. fuelled s on i answers f e) (sym (some_fuel (weight i) fuel high)) ∙ p) in
        let r = stays_answered i (fuel - weight i) e answers m.0 m.1 (ap (λ z. z.outcome) m.2 ∙ u) in
        ap (λ f. fuelled s on i (take (length a.events) answers ++ others) f e) (more_fuel (weight i) fuel k high)
        ∙ subst (λ z. option_map (and_steps (weight i)) (answered s on i (fuel - weight i + k) e (take (length z.events) answers ++ others)) ≡ Some z) m.2 (ap (option_map (and_steps (weight i))) r))
  ]

  stays_from : (i : Item) (answers : List ℕ) (fuel : ℕ) (st : Status Asked) (a : ItemRun) → from s on i answers fuel st ≡ Some a → a.outcome ≡ outcome.Undefined → from s on i (take (length a.events) answers ++ others) (fuel + k) st ≡ Some a
  stays_from i answers fuel Ends a p u = absurd (let z = not_undefined outcome.Done a p u in cc)
  stays_from i answers fuel Fails a p u = p
  stays_from i answers fuel Runs a p u = stays_fuelled i fuel (event_by (picks s i) Runs) answers a p u
  stays_from i answers fuel (Asks e) a p u = stays_fuelled i fuel (event_by (picks s i) (Asks e)) answers a p u

stays : (s : Surroundings) (k : ℕ) (others : List ℕ) (m : ℕ) (i : Item) (answers : List ℕ) (fuel : ℕ) (a : ItemRun) → run_within s m i answers fuel ≡ Some a → a.outcome ≡ outcome.Undefined → run_within s m i (take (length a.events) answers ++ others) (fuel + k) ≡ Some a
stays s k others zero i answers fuel a p u = cc
stays s k others (suc m) i answers fuel a p u = stays_from s k others (run_within s m) (λ j answers2 fuel2 a2. stays s k others m j answers2 fuel2 a2) i answers fuel ((source_item s).status i) a p u

pub undefined_stays : UndefinedStays
undefined_stays s i answers others fuel more a r u = (r.0, stays s more others r.0 i answers fuel a r.1 u)

-- ---- a run is there

abbrev There : Surroundings → Item → List ℕ → ℕ → Type 0
There s i answers fuel = (r : ItemRun) × IsItemRun s i answers fuel r

module _ (s : Surroundings) (i : Item) (fuel left : ℕ) (enough : spent (weight i) fuel ≡ Some left) (rest : (x : ℕ) (answers : List ℕ) → There s ((source_item s).next x i) answers left) where
  there_answered : (e : Option Event) (answers : List ℕ) → (moves : ℕ) × (r : ItemRun) × (answered s (run_within s moves) i left e answers ≡ Some r)
  there_answered None answers = let q = rest 0 answers in (q.1.0, q.0, q.1.1)
  there_answered (Some e) [] = (0, record { events = []; outcome = outcome.Asks e; steps = 0 }, refl)
  there_answered (Some e) (x ∷ xs) = let q = rest x xs in (q.1.0, and_event e q.0, ap (option_map (and_event e)) q.1.1)

  there_fuelled : (e : Option Event) (answers : List ℕ) → (moves : ℕ) × (r : ItemRun) × (fuelled s (run_within s moves) i answers (spent (weight i) fuel) e ≡ Some r)
  there_fuelled e answers =
      let q = there_answered e answers in
      (q.0, and_steps (weight i) q.1, ap (λ f. fuelled s (run_within s q.0) i answers f e) enough ∙ ap (option_map (and_steps (weight i))) q.2)

  there_live : (st : Status Asked) → (source_item s).status i ≡ st → IsLive st → (answers : List ℕ) → There s i answers fuel
  there_live Runs is l answers = let q = there_fuelled (event_by (picks s i) Runs) answers in (q.1, (suc q.0, ap (from s (run_within s q.0) i answers fuel) is ∙ q.2))
  there_live (Asks e) is l answers = let q = there_fuelled (event_by (picks s i) (Asks e)) answers in (q.1, (suc q.0, ap (from s (run_within s q.0) i answers fuel) is ∙ q.2))
  there_live Ends is l answers = absurd l
  there_live Fails is l answers = absurd l

pub weights : (ts : List Task) → (weight_by ts ≡ 0) ⊎ (weight_by ts ≡ 1)
weights [] = inl refl
weights (Step a ∷ ts) = inr refl
weights (Quiet a ∷ ts) = inl refl

module _ (s : Surroundings) (f : FunctionsHaveBodies s.functions) where
  -- runs with one less fuel
  abbrev AreThere : ℕ → Type 0
  AreThere fuel = (i : Item) → IsSteady i → (answers : List ℕ) → There s i answers fuel

  abbrev Before : ℕ → Type 0
  Before zero = Unit {0}
  Before (suc fuel) = AreThere fuel

  no_step : (i : Item) (fuel : ℕ) → fuel < weight i → (st : Status Asked) → (source_item s).status i ≡ st → IsLive st → (answers : List ℕ) → There s i answers fuel
  no_step i fuel low Runs is l answers = (record { events = []; outcome = outcome.Running; steps = 0 }, (1, ap (from s (run_within s 0) i answers fuel) is ∙ ap (λ z. fuelled s (run_within s 0) i answers z (event_by (picks s i) Runs)) (no_fuel (weight i) fuel low)))
  no_step i fuel low (Asks e) is l answers = (record { events = []; outcome = outcome.Running; steps = 0 }, (1, ap (from s (run_within s 0) i answers fuel) is ∙ ap (λ z. fuelled s (run_within s 0) i answers z (event_by (picks s i) (Asks e))) (no_fuel (weight i) fuel low)))
  no_step i fuel low Ends is l answers = absurd l
  no_step i fuel low Fails is l answers = absurd l

  one_step : (fuel : ℕ) → Before fuel → (i : Item) → IsSteady i → weight i ≡ 1 → (st : Status Asked) → (source_item s).status i ≡ st → IsLive st → (answers : List ℕ) → There s i answers fuel
  one_step zero before i h one st is l answers = no_step i zero (omega (arith, one)) st is l answers
  one_step (suc fuel) before i h one st is l answers =
      let left : suc fuel - weight i ≡ fuel = omega (arith, one) in
      there_live s i (suc fuel) fuel (some_fuel (weight i) (suc fuel) (omega (arith, one)) ∙ ap Some left) (λ x answers2. before ((source_item s).next x i) (keeps s f i h x) answers2) st is l answers

  no_weight : (i : Item) (fuel : ℕ) → weight i ≡ 0 → spent (weight i) fuel ≡ Some fuel
  no_weight i fuel none = let left : fuel - weight i ≡ fuel = omega (arith, none) in some_fuel (weight i) fuel (omega (arith, none)) ∙ ap Some left

  live_of : (st st2 : Status Asked) → st ≡ st2 → IsLive st2 → IsLive st
  live_of st st2 e l = subst IsLive (sym e) l

  -- an item that is to move, with at most n quiet moves, where the runs with fewer are there
  quiet_move : (fuel n : ℕ) → ((j : Item) → IsSteady j → quiet_left j < n → (answers : List ℕ) → There s j answers fuel) → (i : Item) → IsSteady i → quiet_left i ≤ n → weight i ≡ 0 → (st : Status Asked) → (source_item s).status i ≡ st → IsLive st → (answers : List ℕ) → There s i answers fuel
  quiet_move fuel n fewer i h low none st is l answers =
      there_live s i fuel fuel (no_weight i fuel none) (λ x answers2. fewer ((source_item s).next x i) (keeps s f i h x) (let b = falls s f i h (live_of _ st is l) none x in omega (arith, b, low)) answers2) st is l answers

  live_move : (fuel n : ℕ) → Before fuel → ((j : Item) → IsSteady j → quiet_left j < n → (answers : List ℕ) → There s j answers fuel) → (i : Item) → IsSteady i → quiet_left i ≤ n → (st : Status Asked) → (source_item s).status i ≡ st → IsLive st → (answers : List ℕ) → There s i answers fuel
  live_move fuel n before fewer i h low st is l answers = elim (weights i.todo) [
    | inl none ↦ quiet_move fuel n fewer i h low none st is l answers
    | inr one ↦ one_step fuel before i h one st is l answers
  ]

  any_move : (fuel n : ℕ) → Before fuel → ((j : Item) → IsSteady j → quiet_left j < n → (answers : List ℕ) → There s j answers fuel) → (i : Item) → IsSteady i → quiet_left i ≤ n → (st : Status Asked) → (source_item s).status i ≡ st → (answers : List ℕ) → There s i answers fuel
  any_move fuel n before fewer i h low Ends is answers = (record { events = []; outcome = outcome.Done; steps = 0 }, (1, ap (from s (run_within s 0) i answers fuel) is))
  any_move fuel n before fewer i h low Fails is answers = (record { events = []; outcome = outcome.Undefined; steps = 0 }, (1, ap (from s (run_within s 0) i answers fuel) is))
  any_move fuel n before fewer i h low Runs is answers = live_move fuel n before fewer i h low Runs is tt answers
  any_move fuel n before fewer i h low (Asks e) is answers = live_move fuel n before fewer i h low (Asks e) is tt answers

  quiet_moves : (fuel : ℕ) → Before fuel → (n : ℕ) (i : Item) → IsSteady i → quiet_left i ≤ n → (answers : List ℕ) → There s i answers fuel
  quiet_moves fuel before zero i h low answers = any_move fuel zero before (λ j k b. absurd (omega (arith, b))) i h low ((source_item s).status i) refl answers
  quiet_moves fuel before (suc n) i h low answers = any_move fuel (suc n) before (λ j k b. quiet_moves fuel before n j k (omega (arith, b))) i h low ((source_item s).status i) refl answers

  -- a steady item has a run on all answers, with all fuel
  pub run_is_there : (fuel : ℕ) (i : Item) → IsSteady i → (answers : List ℕ) → There s i answers fuel
  run_is_there zero i h answers = quiet_moves zero tt (quiet_left i) i h (omega arith) answers
  run_is_there (suc fuel) i h answers = quiet_moves (suc fuel) (run_is_there fuel) (quiet_left i) i h (omega arith) answers

pub runs_are_there : RunsAreThere
runs_are_there u l item history answers fuel =
    let s = surroundings_of u l item in
    let f = functions_have_bodies u.types u.functions in
    let kernel = kernel_of l.kernel u.functions in
    run_is_there s f fuel (after (source_item s) history (first_item s kernel)) (keeps_all s f history (first_item s kernel) (begun_steady s f kernel)) answers
