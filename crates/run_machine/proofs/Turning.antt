-- A run by turns: whatever completes the rest completes the whole.
use Rattle.std.proofs.Common.{◌≡◌, ◌≢◌, ℕ, zero, suc, ◌+◌, ◌-◌, ◌<◌, ◌≤◌, List, [], ◌∷◌, ◌++◌, refl, sym, ap, ◌∙◌, subst, length, get_or, arith}
use Rattle.std.specs.Prelude.{slice_get}
use Rattle.std.proofs.lemmas.List.{length-map}
use Rattle.launch_text.specs.WorkItems.{volume}
use Rattle.clv_steps.specs.Machines.{Ends, Fails, IsLive}
use Rattle.clv_worlds.specs.Worlds.{opening}
use Rattle.spv_module.specs.declared.module.Inst.{Inst}
use Rattle.spv_meaning.specs.Start.{Start}
use Rattle.spv_meaning.specs.Invocation.{Run, status, given_of}
use Rattle.spv_meaning.specs.Schedule.{Invocations, run_of, status_of, after_step, TrapsAt, Trapped, Ending, IsDone, HasTrapped, IsSpent, Turns, complete, spent, turned, traps, ends, goes, numbers_from, ScheduledRun}
use Rattle.run_machine.specs.declared.invocation.Run.{Run as PlainRun}
use Rattle.run_machine.specs.declared.invocation.Run.TheVariants.{At, Over}
use Rattle.run_machine.specs.declared.ending.Trap.{Trap}
use Rattle.run_machine.specs.declared.ending.Stepped.{Stepped}
use Rattle.run_machine.specs.declared.ending.Stepped.TheVariants.{Went, Ended, Trapped as DidTrap}
use Rattle.run_machine.specs.declared.ending.Ending.TheVariants as ending
use Rattle.run_machine.specs.declared.machine.Machine.{Machine}
use Rattle.run_machine.specs.Views.{run_by, body_by, start_by}
use Rattle.run_machine.specs.Machines.{Stand, IsGoing, IsReady, IsAt, StepsAt, Steps, runs_of, trap_by, RunsTo}
use Rattle.run_machine.proofs.Stepping.{get_map, never_ends, step_other}

-- ---- queues

abbrev pub Each : (ℕ → Type 0) → List ℕ → Type 0
Each P [] = Unit {0}
Each P (x ∷ xs) = P x × Each P xs

abbrev pub AreDistinct : List ℕ → Type 0
AreDistinct [] = Unit {0}
AreDistinct (x ∷ xs) = Each (λ y. x ≡ y → ⊥) xs × AreDistinct xs

each_back : (P : ℕ → Type 0) (xs : List ℕ) (y : ℕ) → Each P xs → P y → Each P (xs ++ y ∷ [])
each_back P [] y k p = (p, tt)
each_back P (x ∷ xs) y k p = (k.0, each_back P xs y k.1 p)

each_both : (P Q R : ℕ → Type 0) (xs : List ℕ) → ((x : ℕ) → P x → Q x → R x) → Each P xs → Each Q xs → Each R xs
each_both P Q R [] f k l = tt
each_both P Q R (x ∷ xs) f k l = (f x k.0 l.0, each_both P Q R xs f k.1 l.1)

distinct_back : (x : ℕ) (xs : List ℕ) → AreDistinct (x ∷ xs) → AreDistinct (xs ++ x ∷ [])
distinct_back x [] d = (tt, tt)
distinct_back x (y ∷ xs) d = (each_back (λ z. y ≡ z → ⊥) xs x d.1.0 (λ e. d.0.0 (sym e)), distinct_back x xs (d.0.1, d.1.1))

numbers_over : (P : ℕ → Type 0) (m n : ℕ) → ((k : ℕ) → m ≤ k → k < m + n → P k) → Each P (numbers_from m n)
numbers_over P m zero h = tt
numbers_over P m (suc n) h = (h m (omega arith) (omega arith), numbers_over P (m + 1) n (λ k low high. h k (omega (arith, low)) (omega (arith, high))))

numbers_distinct : (m n : ℕ) → AreDistinct (numbers_from m n)
numbers_distinct m zero = tt
numbers_distinct m (suc n) = (numbers_over (λ y. m ≡ y → ⊥) (m + 1) n (λ k low high e. absurd (omega (arith, low, e))), numbers_distinct (m + 1) n)

-- ---- what is left of a run

module _ (body : List Inst) (start : Start) (turn : ℕ) where
  spent_only : (xs : List ℕ) (left budget made : ℕ) (w v : Invocations) (e : Ending) → Turns body start turn xs left budget made w e v → budget ≡ 0 → (xs ≡ [] → ⊥) → (e ≡ IsSpent) × (v ≡ w)
  spent_only _ _ _ _ _ _ _ (complete left budget made w) z k = absurd (k refl)
  spent_only _ _ _ _ _ _ _ (spent i queue left made w) z k = (refl, refl)
  spent_only _ _ _ _ _ _ _ (turned i queue budget made w v e t) z k = absurd (omega (arith, z))
  spent_only _ _ _ _ _ _ _ (traps i queue left budget made w t f g) z k = absurd (omega (arith, z))
  spent_only _ _ _ _ _ _ _ (ends i queue left budget made w v e l f t) z k = absurd (omega (arith, z))
  spent_only _ _ _ _ _ _ _ (goes i queue left budget made w v e l f t) z k = absurd (omega (arith, z))

  not_empty : (queue : List ℕ) (i : ℕ) → queue ++ i ∷ [] ≡ [] → ⊥
  not_empty [] i e = cc
  not_empty (x ∷ queue) i e = cc

  turned_any : (i : ℕ) (queue : List ℕ) (budget made : ℕ) (w v : Invocations) (e : Ending) → Turns body start turn (queue ++ i ∷ []) turn budget made w e v → Turns body start turn (i ∷ queue) zero budget made w e v
  turned_any i queue zero made w v e t =
      let k = spent_only (queue ++ i ∷ []) turn zero made w v e t refl (not_empty queue i) in
      subst (λ f. Turns body start turn (i ∷ queue) zero zero made w f v) (sym k.0) (subst (λ u. Turns body start turn (i ∷ queue) zero zero made w IsSpent u) (sym k.1) (spent i queue zero made w))
  turned_any i queue (suc budget) made w v e t = turned i queue budget made w v e t

  abbrev pub IsLeft : Invocations → ℕ → Type 0
  IsLeft w i = (i < volume start.global) × (status_of body start w i ≢ Ends)

  left_other : (w : Invocations) (i j : ℕ) → (i ≡ j → ⊥) → IsLeft w j → IsLeft (after_step body start w i) j
  left_other w i j other k = (k.0, λ e. k.1 (ap (status (given_of body start j)) (sym (step_other body start w i (status_of body start w i) j other)) ∙ e))

  -- What holds between two steps of a run with this budget, where so many steps are made.
  pub record Goes (budget : ℕ) (queue : List ℕ) (left made : ℕ) (w : Invocations) : Type 0 where
    pub ready : Each (IsLeft w) queue
    pub distinct : AreDistinct queue
    pub some : 1 ≤ left
    pub whole : (e : Ending) (v : Invocations) → Turns body start turn queue left (budget - made) made w e v → ScheduledRun body start turn budget e v

  one_less : (budget made : ℕ) → made < budget → budget - made ≡ suc (budget - (made + 1))
  one_less budget made h = omega (arith, h)

  after_end : (budget i : ℕ) (queue : List ℕ) (left made : ℕ) (w : Invocations) → Goes budget (i ∷ queue) left made w → made < budget → 1 ≤ turn → IsLive (status_of body start w i) → status_of body start (after_step body start w i) i ≡ Ends → Goes budget queue turn (made + 1) (after_step body start w i)
  after_end budget i queue zero made w g low some live end_ = absurd (let h = g.some in omega (arith, h))
  after_end budget i queue (suc left) made w g low some live end_ = record {
    ready = each_both (λ j. i ≡ j → ⊥) (IsLeft w) (IsLeft (after_step body start w i)) queue (λ j other k. left_other w i j other k) g.distinct.0 g.ready.1;
    distinct = g.distinct.1;
    some = some;
    whole = λ e v t. g.whole e v (subst (λ b. Turns body start turn (i ∷ queue) (suc left) b made w e v) (sym (one_less budget made low)) (ends i queue left (budget - (made + 1)) made w v e live end_ t));
  }

  after_turn : (budget i : ℕ) (queue : List ℕ) (left made : ℕ) (w : Invocations) → Goes budget (i ∷ queue) left made w → made < budget → 1 ≤ turn → left ≡ 1 → IsLive (status_of body start w i) → status_of body start (after_step body start w i) i ≢ Ends → Goes budget (queue ++ i ∷ []) turn (made + 1) (after_step body start w i)
  after_turn budget i queue left made w g low some last live more = record {
    ready = each_back (IsLeft (after_step body start w i)) queue i (each_both (λ j. i ≡ j → ⊥) (IsLeft w) (IsLeft (after_step body start w i)) queue (λ j other k. left_other w i j other k) g.distinct.0 g.ready.1) (g.ready.0.0, more);
    distinct = distinct_back i queue g.distinct;
    some = some;
    whole = λ e v t. g.whole e v (subst (λ l. Turns body start turn (i ∷ queue) l (budget - made) made w e v) (sym last) (subst (λ b. Turns body start turn (i ∷ queue) 1 b made w e v) (sym (one_less budget made low)) (goes i queue zero (budget - (made + 1)) made w v e live more (turned_any i queue (budget - (made + 1)) (made + 1) (after_step body start w i) v e t))));
  }

  after_more : (budget i : ℕ) (queue : List ℕ) (left made : ℕ) (w : Invocations) → Goes budget (i ∷ queue) left made w → made < budget → 1 < left → IsLive (status_of body start w i) → status_of body start (after_step body start w i) i ≢ Ends → Goes budget (i ∷ queue) (left - 1) (made + 1) (after_step body start w i)
  after_more budget i queue left made w g low several live more = record {
    ready = ((g.ready.0.0, more), each_both (λ j. i ≡ j → ⊥) (IsLeft w) (IsLeft (after_step body start w i)) queue (λ j other k. left_other w i j other k) g.distinct.0 g.ready.1);
    distinct = g.distinct;
    some = omega (arith, several);
    whole = λ e v t. g.whole e v (subst (λ l. Turns body start turn (i ∷ queue) l (budget - made) made w e v) (let q : suc (left - 1) ≡ left = omega (arith, several) in q) (subst (λ b. Turns body start turn (i ∷ queue) (suc (left - 1)) b made w e v) (sym (one_less budget made low)) (goes i queue (left - 1) (budget - (made + 1)) made w v e live more t)));
  }

  after_trap : (budget i : ℕ) (queue : List ℕ) (left made : ℕ) (w : Invocations) (t : Trapped) → Goes budget (i ∷ queue) left made w → made < budget → status_of body start w i ≡ Fails → TrapsAt body start i (run_of body start w i) t → ScheduledRun body start turn budget (HasTrapped t (made + 1)) w
  after_trap budget i queue zero made w t g low fails at = absurd (let h = g.some in omega (arith, h))
  after_trap budget i queue (suc left) made w t g low fails at = g.whole (HasTrapped t (made + 1)) w (subst (λ b. Turns body start turn (i ∷ queue) (suc left) b made w (HasTrapped t (made + 1)) w) (sym (one_less budget made low)) (traps i queue left (budget - (made + 1)) made w t fails at))

  at_done : (budget left made : ℕ) (w : Invocations) → Goes budget [] left made w → ScheduledRun body start turn budget (IsDone made) w
  at_done budget left made w g = g.whole (IsDone made) w (complete left (budget - made) made w)

  at_spent : (budget i : ℕ) (queue : List ℕ) (left : ℕ) (w : Invocations) → Goes budget (i ∷ queue) left budget w → ScheduledRun body start turn budget IsSpent w
  at_spent budget i queue left w g = g.whole IsSpent w (subst (λ b. Turns body start turn (i ∷ queue) left b budget w IsSpent w) (let q : 0 ≡ budget - budget = omega arith in q) (spent i queue left budget w))

  at_start : (budget : ℕ) → 1 ≤ turn → Goes budget (numbers_from 0 (volume start.global)) turn 0 (opening start.buffers)
  at_start budget some = record {
    ready = numbers_over (IsLeft (opening start.buffers)) 0 (volume start.global) (λ k low high. (omega (arith, high), λ e. never_ends _ _ e));
    distinct = numbers_distinct 0 (volume start.global);
    some = some;
    whole = λ e v t. subst (λ b. Turns body start turn (numbers_from 0 (volume start.global)) turn b 0 (opening start.buffers) e v) (let q : budget - 0 ≡ budget = omega arith in q) t;
  }

-- ---- the machine

going_from : (body : List Inst) (start : Start) (item : ℕ) (runs : List PlainRun) (i : ℕ) → i < length runs → status (given_of body start item) (run_by (get_or runs i Over)) ≢ Ends → IsGoing (slice_get runs i)
going_from body start item [] i low h = absurd (omega (arith, low))
going_from body start item (At f ∷ rs) zero low h = tt
going_from body start item (Over ∷ rs) zero low h = absurd (h refl)
going_from body start item (r ∷ rs) (suc i) low h = going_from body start item rs i (omega (arith, low)) h

pub record Held (first now : Machine) (turn budget : ℕ) (queue : List ℕ) (left made : ℕ) : Type 0 where
  pub same : now.start ≡ first.start
  pub world : Invocations
  pub at : Stand (body_by first.start) (start_by first.start) now.buffers.items (runs_of now) world
  pub still : Goes (body_by first.start) (start_by first.start) turn budget queue left made world

at_now : (first now : Machine) (w : Invocations) → now.start ≡ first.start → Stand (body_by first.start) (start_by first.start) now.buffers.items (runs_of now) w → IsAt now w
at_now first now w e k = subst (λ z. Stand (body_by z) (start_by z) now.buffers.items (runs_of now) w) (sym e) k

at_first : (first now : Machine) (w : Invocations) → now.start ≡ first.start → IsAt now w → Stand (body_by first.start) (start_by first.start) now.buffers.items (runs_of now) w
at_first first now w e k = subst (λ z. Stand (body_by z) (start_by z) now.buffers.items (runs_of now) w) e k

pub held_ready : (first now : Machine) (turn budget : ℕ) (queue : List ℕ) (left made i : ℕ) → Held first now turn budget (i ∷ queue) left made → IsReady now i
held_ready first now turn budget queue left made i h =
    let low = h.still.ready.0.0 in
    let state : status (given_of (body_by first.start) (start_by first.start) i) (run_by (get_or now.runs.items i Over)) ≢ Ends = λ e. h.still.ready.0.1 (ap (status (given_of (body_by first.start) (start_by first.start) i)) (sym (h.at.each i low) ∙ get_map now.runs.items i) ∙ e) in
    let count = h.at.count in
    going_from (body_by first.start) (start_by first.start) i now.runs.items i (omega (arith, low, count, length-map {A = PlainRun} {B = Run})) state

-- the step as it is said of the first start
abbrev StepsFirst : Machine → Machine → ℕ → Machine → Stepped → Invocations → Type 0
StepsFirst first now i new s w = StepsAt (body_by first.start) (start_by first.start) now i new s w

steps_first : (first now new : Machine) (i : ℕ) (s : Stepped) (w : Invocations) → now.start ≡ first.start → Steps now i new s → IsAt now w → StepsFirst first now i new s w
steps_first first now new i s w e step k = subst (λ z. StepsAt (body_by z) (start_by z) now i new s w) e (step w k)

pub held_end : (first now new : Machine) (turn budget : ℕ) (queue : List ℕ) (left made i : ℕ) → Held first now turn budget (i ∷ queue) left made → made < budget → 1 ≤ turn → new.start ≡ now.start → Steps now i new Ended → Held first new turn budget queue turn (made + 1)
held_end first now new turn budget queue left made i h low some same step =
    let k = steps_first first now new i Ended h.world h.same step (at_now first now h.world h.same h.at) in
    record { same = same ∙ h.same; world = after_step (body_by first.start) (start_by first.start) h.world i; at = at_first first new _ (same ∙ h.same) k.2; still = after_end (body_by first.start) (start_by first.start) turn budget i queue left made h.world h.still low some k.0 k.1 }

pub held_turn : (first now new : Machine) (turn budget : ℕ) (queue : List ℕ) (left made i : ℕ) → Held first now turn budget (i ∷ queue) left made → made < budget → 1 ≤ turn → left ≡ 1 → new.start ≡ now.start → Steps now i new Went → Held first new turn budget (queue ++ i ∷ []) turn (made + 1)
held_turn first now new turn budget queue left made i h low some last same step =
    let k = steps_first first now new i Went h.world h.same step (at_now first now h.world h.same h.at) in
    record { same = same ∙ h.same; world = after_step (body_by first.start) (start_by first.start) h.world i; at = at_first first new _ (same ∙ h.same) k.2; still = after_turn (body_by first.start) (start_by first.start) turn budget i queue left made h.world h.still low some last k.0 k.1 }

pub held_more : (first now new : Machine) (turn budget : ℕ) (queue : List ℕ) (left made i : ℕ) → Held first now turn budget (i ∷ queue) left made → made < budget → 1 < left → new.start ≡ now.start → Steps now i new Went → Held first new turn budget (i ∷ queue) (left - 1) (made + 1)
held_more first now new turn budget queue left made i h low several same step =
    let k = steps_first first now new i Went h.world h.same step (at_now first now h.world h.same h.at) in
    record { same = same ∙ h.same; world = after_step (body_by first.start) (start_by first.start) h.world i; at = at_first first new _ (same ∙ h.same) k.2; still = after_more (body_by first.start) (start_by first.start) turn budget i queue left made h.world h.still low several k.0 k.1 }

pub held_trap : (first now new : Machine) (turn budget : ℕ) (queue : List ℕ) (left made i : ℕ) (t : Trap) → Held first now turn budget (i ∷ queue) left made → made < budget → new.start ≡ now.start → Steps now i new (DidTrap t) → RunsTo turn budget first new (ending.Trap t (made + 1))
held_trap first now new turn budget queue left made i t h low same step =
    let k = steps_first first now new i (DidTrap t) h.world h.same step (at_now first now h.world h.same h.at) in
    record { world = h.world; run = after_trap (body_by first.start) (start_by first.start) turn budget i queue left made h.world (trap_by t) h.still low k.0 k.1; at = k.2 }

pub held_done : (first now : Machine) (turn budget left made : ℕ) → Held first now turn budget [] left made → RunsTo turn budget first now (ending.Done made)
held_done first now turn budget left made h = record { world = h.world; run = at_done (body_by first.start) (start_by first.start) turn budget left made h.world h.still; at = at_now first now h.world h.same h.at }

pub held_spent : (first now : Machine) (turn budget : ℕ) (queue : List ℕ) (left : ℕ) → (queue ≡ [] → ⊥) → Held first now turn budget queue left budget → RunsTo turn budget first now ending.Spent
held_spent first now turn budget [] left k h = absurd (k refl)
held_spent first now turn budget (i ∷ queue) left k h = record { world = h.world; run = at_spent (body_by first.start) (start_by first.start) turn budget i queue left h.world h.still; at = at_now first now h.world h.same h.at }

pub held_start : (first : Machine) (turn budget : ℕ) → 1 ≤ turn → IsAt first (opening (start_by first.start).buffers) → Held first first turn budget (numbers_from 0 (volume (start_by first.start).global)) turn 0
held_start first turn budget some k = record { same = refl; world = opening (start_by first.start).buffers; at = k; still = at_start (body_by first.start) (start_by first.start) turn budget some }

pub numbers_more : (m n : ℕ) → numbers_from m n ++ (m + n) ∷ [] ≡ numbers_from m (n + 1)
numbers_more m zero = ap (λ k. k ∷ []) (let q : m + 0 ≡ m = omega arith in q)
numbers_more m (suc n) = ap (λ l. m ∷ l) (ap (λ k. numbers_from (m + 1) n ++ k ∷ []) (let q : m + suc n ≡ m + 1 + n = omega arith in q) ∙ numbers_more (m + 1) n) ∙ ap (numbers_from m) (let q : suc (n + 1) ≡ suc n + 1 = omega arith in q)

pub numbers_push : (queue : List ℕ) (n : ℕ) → queue ≡ numbers_from 0 n → queue ++ n ∷ [] ≡ numbers_from 0 (n + 1)
numbers_push queue n e = ap (λ q. q ++ n ∷ []) e ∙ ap (λ k. numbers_from 0 n ++ k ∷ []) (let q : n ≡ 0 + n = omega arith in q) ∙ numbers_more 0 n

pub ruleset numbering = (numbers_push)

pub ruleset running = (held_ready)
