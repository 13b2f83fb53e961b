-- One move of a run beside the definition of runs, and how many moves are left to a run.
use Rattle.std.proofs.Common.{◌≡◌, ℕ, zero, suc, ◌+◌, ◌-◌, ◌<◌, ◌≤◌, inl, inr, true, false, List, [], ◌∷◌, ◌++◌, drop, length, get_or, ltb, Option, Some, None, refl, sym, ap, ◌∙◌, subst, arith}
use Rattle.std.specs.Prelude.{option_map, slice_get}
use Rattle.std.proofs.lemmas.List.{append-nil, append_assoc, length-append}
use Rattle.std.proofs.lemmas.Bool.{ltb-true, ltb-false}
use Rattle.std.proofs.lemmas.Option.{slice_get-map, slice_get_past, slice_get_read}
use Rattle.clv_steps.specs.Machines.{Status, Runs, Asks, Ends, Fails, IsLive}
use Rattle.cl_tree.specs.declared.event.NodeId.{NodeId}
use Rattle.cl_tree.specs.declared.event.Answer.{Answer}
use Rattle.cl_tree.specs.declared.event.Event.{Event}
use Rattle.cl_tree.specs.declared.event.Event.TheVariants as event
use Rattle.cl_tree.specs.declared.event.Outcome.{Outcome}
use Rattle.cl_tree.specs.declared.event.Outcome.TheVariants as outcome
use Rattle.cl_common.specs.Events.{Asked}
use Rattle.cl_meaning.specs.declared.did.Then.{Then}
use Rattle.cl_meaning.specs.declared.did.Did.{Did}
use Rattle.cl_meaning.specs.declared.did.Did.TheVariants as did
use Rattle.cl_meaning.specs.declared.run.ItemRun.{ItemRun}
use Rattle.cl_meaning.specs.States.{Surroundings, Item}
use Rattle.cl_meaning.specs.Effects.{Effect, Goes, Picks, Questions, Undefined}
use Rattle.cl_meaning.specs.Items.{status_by, move_by, picks_by, source_item, next_effect, picks, weight}
use Rattle.cl_meaning.specs.ItemRuns.{and_steps, and_event, event_by, spent, answered, fuelled, from, run_within, IsItemRun}
use Rattle.cl_meaning.specs.Views.{answered_by, values_of}
use Rattle.cl_meaning.specs.Running.{IsSeen, IsFirst, is_undefined, question_in, ComesTo, Answered, IsTurn, Stands, ended, joined}
use Rattle.cl_meaning.proofs.Loops.{FunctionsHaveBodies}
use Rattle.cl_meaning.proofs.Quiet.{quiet_left, IsSteady}
use Rattle.cl_meaning.proofs.Bodies.{functions_have_bodies}
use Rattle.cl_meaning.proofs.Steady.{keeps, falls, begun_steady}
use Rattle.cl_meaning.proofs.Runs.{no_fuel, some_fuel, weights}

-- ---- what a task came to

live_of : (calls : List NodeId) (e : Option Effect) (d : Did) (j : Item) → ComesTo e d j → is_undefined d ≡ false → IsLive (status_by calls e)
live_of calls None d j h k = absurd h
live_of calls (Some (Goes to)) d j h k = tt
live_of calls (Some (Picks bits to)) d j h k = tt
live_of calls (Some (Questions asked to)) d j h k = tt
live_of calls (Some Undefined) did.Went j h k = cc
live_of calls (Some Undefined) (did.Picks bits how) j h k = absurd h
live_of calls (Some Undefined) (did.Asks asked how) j h k = absurd h
live_of calls (Some Undefined) did.Undefined j h k = cc

abbrev asked_in : Option (Event × Then) → Option Event
asked_in None = None
asked_in (Some q) = Some q.0

abbrev goes_on : Option (Event × Then) → ℕ → Item → Item
goes_on None x j = j
goes_on (Some q) x j = answered_by q.1 x j

asks_of : (calls : List NodeId) (e : Option Effect) (d : Did) (j : Item) → ComesTo e d j → is_undefined d ≡ false → event_by (picks_by e) (status_by calls e) ≡ asked_in (question_in d)
asks_of calls None d j h k = absurd h
asks_of calls (Some (Goes to)) did.Went j h k = refl
asks_of calls (Some (Goes to)) (did.Picks bits how) j h k = absurd h
asks_of calls (Some (Goes to)) (did.Asks asked how) j h k = absurd h
asks_of calls (Some (Goes to)) did.Undefined j h k = cc
asks_of calls (Some (Picks bits to)) did.Went j h k = cc
asks_of calls (Some (Picks bits to)) (did.Picks n how) j h k = ap (λ b. Some (event.Free b)) h.0
asks_of calls (Some (Picks bits to)) (did.Asks asked how) j h k = absurd h
asks_of calls (Some (Picks bits to)) did.Undefined j h k = cc
asks_of calls (Some (Questions asked to)) did.Went j h k = cc
asks_of calls (Some (Questions asked to)) (did.Picks bits how) j h k = absurd h
asks_of calls (Some (Questions asked to)) (did.Asks e how) j h k = ap Some h.0
asks_of calls (Some (Questions asked to)) did.Undefined j h k = cc
asks_of calls (Some Undefined) did.Went j h k = cc
asks_of calls (Some Undefined) (did.Picks bits how) j h k = absurd h
asks_of calls (Some Undefined) (did.Asks asked how) j h k = absurd h
asks_of calls (Some Undefined) did.Undefined j h k = cc

move_of : (x : ℕ) (i : Item) (e : Option Effect) (d : Did) (j : Item) → ComesTo e d j → is_undefined d ≡ false → move_by x i e ≡ goes_on (question_in d) x j
move_of x i None d j h k = absurd h
move_of x i (Some (Goes to)) did.Went j h k = cc
move_of x i (Some (Goes to)) (did.Picks bits how) j h k = absurd h
move_of x i (Some (Goes to)) (did.Asks asked how) j h k = absurd h
move_of x i (Some (Goes to)) did.Undefined j h k = cc
move_of x i (Some (Picks bits to)) did.Went j h k = cc
move_of x i (Some (Picks bits to)) (did.Picks n how) j h k = h.1 x
move_of x i (Some (Picks bits to)) (did.Asks asked how) j h k = absurd h
move_of x i (Some (Picks bits to)) did.Undefined j h k = cc
move_of x i (Some (Questions asked to)) did.Went j h k = cc
move_of x i (Some (Questions asked to)) (did.Picks bits how) j h k = absurd h
move_of x i (Some (Questions asked to)) (did.Asks e how) j h k = h.1 x
move_of x i (Some (Questions asked to)) did.Undefined j h k = cc
move_of x i (Some Undefined) did.Went j h k = cc
move_of x i (Some Undefined) (did.Picks bits how) j h k = absurd h
move_of x i (Some Undefined) (did.Asks asked how) j h k = absurd h
move_of x i (Some Undefined) did.Undefined j h k = cc

-- ---- answers by their numbers

at_number : (xs : List ℕ) (n x : ℕ) → slice_get xs n ≡ Some x → drop n xs ≡ x ∷ drop (suc n) xs
at_number [] n x e = cc
at_number (y ∷ xs) zero x e = let k : y ≡ x = cc in ap (λ z. z ∷ xs) k
at_number (y ∷ xs) (suc n) x e = at_number xs n x e

past_all : (xs : List ℕ) (n : ℕ) → slice_get xs n ≡ None → drop n xs ≡ []
past_all [] zero e = refl
past_all [] (suc n) e = refl
past_all (y ∷ xs) zero e = cc
past_all (y ∷ xs) (suc n) e = past_all xs n e

pub no_answer : (answers : List Answer) (n : ℕ) → false ≡ ltb n (length answers) → slice_get (values_of answers) n ≡ None
no_answer answers n e =
    let past : length answers ≤ n = ltb-false n (length answers) (sym e) in
    slice_get-map (λ (a : Answer). a.value) answers n ∙ ap (option_map (λ (a : Answer). a.value)) (slice_get_past answers n past)

pub one_answer : (answers : List Answer) (n : ℕ) (a : Answer) → true ≡ ltb n (length answers) → a ≡ get_or answers n a → slice_get (values_of answers) n ≡ Some a.value
one_answer answers n a e is =
    let within : n < length answers = ltb-true n (length answers) (sym e) in
    slice_get-map (λ (a : Answer). a.value) answers n ∙ ap (option_map (λ (a : Answer). a.value)) (slice_get_read answers (length answers) n a refl within is)

-- ---- one move

module _ (s : Surroundings) (on : Item → List ℕ → ℕ → Option ItemRun) (i : Item) (answers : List ℕ) (fuel : ℕ) where
  live_from : (st : Status Asked) → IsLive st → from s on i answers fuel st ≡ fuelled s on i answers (spent (weight i) fuel) (event_by (picks s i) st)
  live_from Runs l = refl
  live_from (Asks e) l = refl
  live_from Ends l = absurd l
  live_from Fails l = absurd l

  live_enough : (st : Status Asked) → IsLive st → weight i ≤ fuel → from s on i answers fuel st ≡ option_map (and_steps (weight i)) (answered s on i (fuel - weight i) (event_by (picks s i) st) answers)
  live_enough st l enough = live_from st l ∙ ap (λ f. fuelled s on i answers f (event_by (picks s i) st)) (some_fuel (weight i) fuel enough)

  live_low : (st : Status Asked) → IsLive st → fuel < weight i → from s on i answers fuel st ≡ Some (record { events = []; outcome = outcome.Running; steps = 0 })
  live_low st l low = live_from st l ∙ ap (λ f. fuelled s on i answers f (event_by (picks s i) st)) (no_fuel (weight i) fuel low)

  unanswered : (st : Status Asked) (e : Event) → IsLive st → weight i ≤ fuel → event_by (picks s i) st ≡ Some e → answers ≡ [] → from s on i answers fuel st ≡ Some (record { events = []; outcome = outcome.Asks e; steps = weight i })
  unanswered st e l enough asks none =
      let n : weight i + 0 ≡ weight i = omega arith in
      live_enough st l enough
      ∙ ap (λ q. option_map (and_steps (weight i)) (answered s on i (fuel - weight i) q answers)) asks
      ∙ ap (λ xs. option_map (and_steps (weight i)) (answered s on i (fuel - weight i) (Some e) xs)) none
      ∙ ap (λ m. Some (record { events = []; outcome = outcome.Asks e; steps = m })) n

-- a move that isn't made, for want of fuel
pub no_fuel_left : (s : Surroundings) (answers : List ℕ) (fuel : ℕ) (i j : Item) (made : ItemRun) (d : Did) (steps : ℕ) → ComesTo (next_effect s i) d j → steps ≡ weight i → is_undefined d ≡ false → fuel - made.steps < steps → Stands s answers fuel i made outcome.Running made
no_fuel_left s answers fuel i j made d steps comes is defined low = record {
  more = 0;
  stands = live_low s (run_within s 0) i (drop (length made.events) answers) (fuel - made.steps) ((source_item s).status i) (live_of i.frame.calls (next_effect s i) d j comes defined) (omega (arith, low, is));
  steps = omega arith;
  events = refl;
}

-- a move that isn't made, for want of an answer
pub no_answer_left : (s : Surroundings) (answers : List ℕ) (fuel : ℕ) (i j : Item) (made new : ItemRun) (d : Did) (steps : ℕ) (e : Event) (how : Then) → ComesTo (next_effect s i) d j → steps ≡ weight i → is_undefined d ≡ false → steps ≤ fuel - made.steps → question_in d ≡ Some (e, how) → slice_get answers (length made.events) ≡ None → new.steps ≡ made.steps + steps → new.events ≡ made.events → Stands s answers fuel i made (outcome.Asks e) new
no_answer_left s answers fuel i j made new d steps e how comes is defined enough asks none stepped same = record {
  more = weight i;
  stands = unanswered s (run_within s 0) i (drop (length made.events) answers) (fuel - made.steps) ((source_item s).status i) e
      (live_of i.frame.calls (next_effect s i) d j comes defined)
      (omega (arith, enough, is))
      (asks_of i.frame.calls (next_effect s i) d j comes defined ∙ ap asked_in asks)
      (past_all answers (length made.events) none);
  steps = omega (arith, stepped, is);
  events = same;
}

-- a move that asks, with the answer
pub went_on_with : (s : Surroundings) (answers : List ℕ) (fuel : ℕ) (i j k : Item) (made new : ItemRun) (d : Did) (steps x : ℕ) (e : Event) (how : Then) → ComesTo (next_effect s i) d j → steps ≡ weight i → is_undefined d ≡ false → steps ≤ fuel - made.steps → made.steps ≤ fuel → question_in d ≡ Some (e, how) → slice_get answers (length made.events) ≡ Some x → k ≡ answered_by how x j → new.steps ≡ made.steps + steps → new.events ≡ made.events ++ e ∷ [] → IsTurn s answers fuel i made k new
went_on_with s answers fuel i j k made new d steps x e how comes is defined enough within asks there next stepped told = record {
  live = live_of i.frame.calls (next_effect s i) d j comes defined;
  answer = x;
  answered = subst (λ q. Answered answers q x made.events new.events) (sym (asks_of i.frame.calls (next_effect s i) d j comes defined ∙ ap asked_in asks)) (there, told);
  next = next ∙ sym (move_of x i (next_effect s i) d j comes defined ∙ ap (λ q. goes_on q x j) asks);
  steps = omega (arith, stepped, is);
  within = omega (arith, stepped, enough, within);
}

-- ---- runs from one move to the next

-- What comes behind the events and the steps that are made goes on from there.
abbrev pub GoesOnFrom : Surroundings → List ℕ → ℕ → Item → Item → ItemRun → Type 0
GoesOnFrom s answers fuel first i made = (r : ItemRun) → IsItemRun s i (drop (length made.events) answers) (fuel - made.steps) r → IsItemRun s first answers fuel (joined made r)

-- what is behind a move's answer
abbrev behind : Option Event → List ℕ → List ℕ
behind None xs = xs
behind (Some e) [] = []
behind (Some e) (x ∷ xs) = xs

abbrev told : Option Event → List Event
told None = []
told (Some e) = e ∷ []

module _ (answers : List ℕ) (x : ℕ) (old new : List Event) where
  left_behind : (q : Option Event) → Answered answers q x old new → drop (length new) answers ≡ behind q (drop (length old) answers)
  left_behind None h = ap (λ es. drop (length es) answers) h.1
  left_behind (Some e) h =
      let n : length new ≡ suc (length old) = ap length h.1 ∙ length-append old (e ∷ []) ∙ omega arith in
      ap (λ m. drop m answers) n ∙ sym (ap (behind (Some e)) (at_number answers (length old) x h.0))

  told_by : (q : Option Event) → Answered answers q x old new → new ≡ old ++ told q
  told_by None h = h.1 ∙ sym (append-nil old)
  told_by (Some e) h = h.1

  run_of_answered : (s : Surroundings) (on : Item → List ℕ → ℕ → Option ItemRun) (i : Item) (fuel : ℕ) (r : ItemRun) (q : Option Event) → Answered answers q x old new → on ((source_item s).next x i) (drop (length new) answers) fuel ≡ Some r → answered s on i fuel q (drop (length old) answers) ≡ Some (record r { events = told q ++ r.events })
  run_of_answered s on i fuel r None h e =
      ap (λ y. on ((source_item s).next y i) (drop (length old) answers) fuel) (sym h.0)
      ∙ ap (λ xs. on ((source_item s).next x i) xs fuel) (sym (left_behind None h))
      ∙ e
  run_of_answered s on i fuel r (Some v) h e =
      ap (answered s on i fuel (Some v)) (at_number answers (length old) x h.0)
      ∙ ap (λ xs. option_map (and_event v) (on ((source_item s).next x i) xs fuel)) (sym (left_behind (Some v) h ∙ ap (behind (Some v)) (at_number answers (length old) x h.0)))
      ∙ ap (option_map (and_event v)) e

module _ (s : Surroundings) (answers : List ℕ) (fuel : ℕ) (first i j : Item) (old new : ItemRun) where
  -- the run from the state before a move, by one from behind it
  turn_run : IsTurn s answers fuel i old j new → (r : ItemRun) → IsItemRun s j (drop (length new.events) answers) (fuel - new.steps) r → (q : List Event) × (new.events ≡ old.events ++ q) × IsItemRun s i (drop (length old.events) answers) (fuel - old.steps) (record r { events = q ++ r.events; steps = weight i + r.steps })
  turn_run t r run =
      let q = event_by (picks s i) ((source_item s).status i) in
      let steps = t.steps in
      let within = t.within in
      let less : fuel - new.steps ≡ fuel - old.steps - weight i = omega (arith, steps, within) in
      let there : run_within s run.0 ((source_item s).next t.answer i) (drop (length new.events) answers) (fuel - old.steps - weight i) ≡ Some r =
      ap (λ z. run_within s run.0 z (drop (length new.events) answers) (fuel - old.steps - weight i)) (sym t.next) ∙ ap (run_within s run.0 j (drop (length new.events) answers)) (sym less) ∙ run.1 in (
        told q,
        told_by answers t.answer old.events new.events q t.answered,
        (
          suc run.0,
          live_enough s (run_within s run.0) i (drop (length old.events) answers) (fuel - old.steps) ((source_item s).status i) t.live (omega (arith, steps, within))
              ∙ ap (option_map (and_steps (weight i))) (run_of_answered answers t.answer old.events new.events s (run_within s run.0) i (fuel - old.steps - weight i) r q t.answered there),
        ),
      )

  pub turn_goes_on : GoesOnFrom s answers fuel first i old → IsTurn s answers fuel i old j new → GoesOnFrom s answers fuel first j new
  turn_goes_on g t r run =
      let h = turn_run t r run in
      let events : old.events ++ (h.0 ++ r.events) ≡ new.events ++ r.events = sym (append_assoc old.events h.0 r.events) ∙ ap (λ es. es ++ r.events) (sym h.1) in
      let known = t.steps in
      let steps : old.steps + (weight i + r.steps) ≡ new.steps + r.steps = omega (arith, known) in
      subst (λ n. IsItemRun s first answers fuel (record { events = new.events ++ r.events; outcome = r.outcome; steps = n })) steps
      (subst (λ es. IsItemRun s first answers fuel (record { events = es; outcome = r.outcome; steps = old.steps + (weight i + r.steps) })) events
      (g (record r { events = h.0 ++ r.events; steps = weight i + r.steps }) h.2))

  -- where the run stands
  pub stands_whole : (o : Outcome) → GoesOnFrom s answers fuel first i old → Stands s answers fuel i old o new → IsItemRun s first answers fuel (ended o new)
  stands_whole o g t =
      let events : old.events ++ [] ≡ new.events = append-nil old.events ∙ sym t.events in
      subst (λ n. IsItemRun s first answers fuel (record { events = new.events; outcome = o; steps = n })) (sym t.steps)
      (subst (λ es. IsItemRun s first answers fuel (record { events = es; outcome = o; steps = old.steps + t.more })) events
      (g (record { events = []; outcome = o; steps = t.more }) (1, t.stands)))

-- ---- where a run begins

pub seen_bodies : (s : Surroundings) → IsSeen s → FunctionsHaveBodies s.functions
seen_bodies s h = subst FunctionsHaveBodies (sym h.1) (functions_have_bodies s.types h.0)

pub first_steady : (s : Surroundings) (i : Item) → IsSeen s → IsFirst s i → IsSteady i
first_steady s i h k = subst IsSteady (sym k.1) (begun_steady s (seen_bodies s h) k.0)

pub turn_steady : (s : Surroundings) (answers : List ℕ) (fuel : ℕ) (i j : Item) (old new : ItemRun) → IsSeen s → IsSteady i → IsTurn s answers fuel i old j new → IsSteady j
turn_steady s answers fuel i j old new h k t = subst IsSteady (sym t.next) (keeps s (seen_bodies s h) i k t.answer)

pub goes_on_first : (s : Surroundings) (answers : List ℕ) (fuel : ℕ) (first : Item) (made : ItemRun) → made.events ≡ [] → made.steps ≡ 0 → GoesOnFrom s answers fuel first first made
goes_on_first s answers fuel first made none zeroed r run =
    let left : fuel - made.steps ≡ fuel = omega (arith, zeroed) in
    let steps : r.steps ≡ made.steps + r.steps = omega (arith, zeroed) in
    let whole : IsItemRun s first answers fuel r = subst (λ n. IsItemRun s first answers n r) left (subst (λ es. IsItemRun s first (drop (length es) answers) (fuel - made.steps) r) none run) in
    subst (λ n. IsItemRun s first answers fuel (record { events = made.events ++ r.events; outcome = r.outcome; steps = n })) steps
    (subst (λ es. IsItemRun s first answers fuel (record { events = es ++ r.events; outcome = r.outcome; steps = r.steps })) (sym none) whole)

-- ---- how many moves are left

abbrev by_weight : ℕ → ℕ → ℕ → ℕ
by_weight zero quiet step = quiet
by_weight (suc w) quiet step = step

-- the answer to the next move
abbrev first_answer : Option Event → List ℕ → ℕ
first_answer None xs = 0
first_answer (Some e) [] = 0
first_answer (Some e) (x ∷ xs) = x

module _ (s : Surroundings) where
  abbrev next_event : Item → Option Event
  next_event i = event_by (picks s i) ((source_item s).status i)

  abbrev next_item : Item → List ℕ → Item
  next_item i answers = (source_item s).next (first_answer (next_event i) answers) i

  abbrev next_answers : Item → List ℕ → List ℕ
  next_answers i answers = behind (next_event i) answers

  -- moves that are left with at most so many quiet ones before the next step, by those that are left behind the step
  abbrev pub quiet_moves : (Item → List ℕ → ℕ) → ℕ → Item → List ℕ → ℕ
  quiet_moves on zero i answers = by_weight (weight i) 0 (suc (on (next_item i answers) (next_answers i answers)))
  quiet_moves on (suc n) i answers = by_weight (weight i) (suc (quiet_moves on n (next_item i answers) (next_answers i answers))) (suc (on (next_item i answers) (next_answers i answers)))

  -- At most so many moves are left to a run: a step takes fuel, and between two steps there are finitely many.
  abbrev pub moves_left : ℕ → Item → List ℕ → ℕ
  moves_left zero i answers = quiet_moves (λ j xs. 0) (quiet_left i) i answers
  moves_left (suc fuel) i answers = quiet_moves (moves_left fuel) (quiet_left i) i answers

  either_weight : (w a b c d : ℕ) → a ≤ c → b ≤ d → by_weight w a b ≤ by_weight w c d
  either_weight zero a b c d h k = h
  either_weight (suc w) a b c d h k = k

  more_quiet : (on : Item → List ℕ → ℕ) (m n : ℕ) (i : Item) (answers : List ℕ) → m ≤ n → quiet_moves on m i answers ≤ quiet_moves on n i answers
  more_quiet on zero zero i answers h = omega arith
  more_quiet on zero (suc n) i answers h = either_weight (weight i) _ _ _ _ (omega arith) (omega arith)
  more_quiet on (suc m) zero i answers h = absurd (omega (arith, h))
  more_quiet on (suc m) (suc n) i answers h =
      let k = more_quiet on m n (next_item i answers) (next_answers i answers) (omega (arith, h)) in
      either_weight (weight i) _ _ _ _ (omega (arith, k)) (omega arith)

  -- a quiet move
  quiet_falls : (on : Item → List ℕ → ℕ) (n : ℕ) (i : Item) (answers : List ℕ) → weight i ≡ 0 → quiet_left (next_item i answers) < n → quiet_moves on (quiet_left (next_item i answers)) (next_item i answers) (next_answers i answers) < quiet_moves on n i answers
  quiet_falls on zero i answers none h = absurd (omega (arith, h))
  quiet_falls on (suc n) i answers none h =
      let k = more_quiet on (quiet_left (next_item i answers)) n (next_item i answers) (next_answers i answers) (omega (arith, h)) in
      let e : quiet_moves on (suc n) i answers ≡ suc (quiet_moves on n (next_item i answers) (next_answers i answers)) = ap (λ w. by_weight w (suc (quiet_moves on n (next_item i answers) (next_answers i answers))) (suc (on (next_item i answers) (next_answers i answers)))) none in
      omega (arith, k, e)

  -- a step
  step_falls : (on : Item → List ℕ → ℕ) (n : ℕ) (i : Item) (answers : List ℕ) → weight i ≡ 1 → on (next_item i answers) (next_answers i answers) < quiet_moves on n i answers
  step_falls on zero i answers one =
      let e : quiet_moves on zero i answers ≡ suc (on (next_item i answers) (next_answers i answers)) = ap (λ w. by_weight w 0 (suc (on (next_item i answers) (next_answers i answers)))) one in
      omega (arith, e)
  step_falls on (suc n) i answers one =
      let e : quiet_moves on (suc n) i answers ≡ suc (on (next_item i answers) (next_answers i answers)) = ap (λ w. by_weight w (suc (quiet_moves on n (next_item i answers) (next_answers i answers))) (suc (on (next_item i answers) (next_answers i answers)))) one in
      omega (arith, e)

  quiet_move_falls : (fuel : ℕ) (i : Item) (answers : List ℕ) → weight i ≡ 0 → quiet_left (next_item i answers) < quiet_left i → moves_left fuel (next_item i answers) (next_answers i answers) < moves_left fuel i answers
  quiet_move_falls zero i answers none h = quiet_falls (λ j xs. 0) (quiet_left i) i answers none h
  quiet_move_falls (suc fuel) i answers none h = quiet_falls (moves_left fuel) (quiet_left i) i answers none h

  move_falls : FunctionsHaveBodies s.functions → (fuel left : ℕ) (i : Item) (answers : List ℕ) → IsSteady i → IsLive ((source_item s).status i) → fuel ≡ left + weight i → moves_left left (next_item i answers) (next_answers i answers) < moves_left fuel i answers
  move_falls f fuel left i answers h live e = elim (weights i.todo) [
    | inl none ↦ (
        let same : left ≡ fuel = omega (arith, e, none) in
        subst (λ n. moves_left n (next_item i answers) (next_answers i answers) < moves_left fuel i answers) (sym same) (quiet_move_falls fuel i answers none (falls s f i h live none (first_answer (next_event i) answers))))
    | inr one ↦ (
        let more : suc left ≡ fuel = omega (arith, e, one) in
        subst (λ n. moves_left left (next_item i answers) (next_answers i answers) < moves_left n i answers) more (step_falls (moves_left left) (quiet_left i) i answers one))
  ]

  first_is : (answers : List ℕ) (x : ℕ) (old new : List Event) (q : Option Event) → Answered answers q x old new → x ≡ first_answer q (drop (length old) answers)
  first_is answers x old new None h = h.0
  first_is answers x old new (Some e) h = sym (ap (first_answer (Some e)) (at_number answers (length old) x h.0))

  pub turn_falls : FunctionsHaveBodies s.functions → (answers : List ℕ) (fuel : ℕ) (i j : Item) (old new : ItemRun) → IsSteady i → IsTurn s answers fuel i old j new → moves_left (fuel - new.steps) j (drop (length new.events) answers) < moves_left (fuel - old.steps) i (drop (length old.events) answers)
  turn_falls f answers fuel i j old new h t =
      let steps = t.steps in
      let within = t.within in
      let left = drop (length old.events) answers in
      let item : next_item i left ≡ j = ap (λ x. (source_item s).next x i) (sym (first_is answers t.answer old.events new.events (next_event i) t.answered)) ∙ sym t.next in
      let rest : next_answers i left ≡ drop (length new.events) answers = sym (left_behind answers t.answer old.events new.events (next_event i) t.answered) in
      subst (λ xs. moves_left (fuel - new.steps) j xs < moves_left (fuel - old.steps) i left) rest
      (subst (λ z. moves_left (fuel - new.steps) z (next_answers i left) < moves_left (fuel - old.steps) i left) item
      (move_falls f (fuel - old.steps) (fuel - new.steps) i left h t.live (omega (arith, steps, within))))
