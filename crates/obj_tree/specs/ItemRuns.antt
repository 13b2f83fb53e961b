-- The run of one work-item on a list of answers and so much fuel: the events that were answered; where it stands, with the event that has no answer;
-- and the steps made, among them that of the event at which it stands.
use Rattle.std.specs.Prelude.{◌≡◌, ℕ, zero, suc, ◌+◌, ◌-◌, nat_lt, if◌then◌else◌, List, [], ◌∷◌, Option, Some, None, option_map}
use Rattle.clv_steps.specs.Machines.{Status, Runs, Asks, Ends, Fails}
use Rattle.cl_tree.specs.declared.event.Event.{Event}
use Rattle.cl_tree.specs.declared.event.Event.TheVariants as event
use Rattle.cl_tree.specs.declared.event.Outcome.{Outcome}
use Rattle.cl_tree.specs.declared.event.Outcome.TheVariants as outcome
use Rattle.cl_common.specs.Events.{Asked}
use Rattle.obj_tree.specs.States.{Surroundings, Item}
use Rattle.obj_tree.specs.Items.{object_item, picks, weight}

pub record ObjectRun : Type 0 where
  pub events : List Event
  pub outcome : Outcome
  pub steps : ℕ

abbrev pub at_once : Outcome → Option ObjectRun
at_once o = Some (record { events = []; outcome = o; steps = 0 })

abbrev pub and_steps : ℕ → ObjectRun → ObjectRun
and_steps n r = record r { steps = n + r.steps }

abbrev pub and_event : Event → ObjectRun → ObjectRun
and_event e r = record r { events = e ∷ r.events }

-- What the next move asks: an event, or an unspecified value.
abbrev pub event_by : Option ℕ → Status Asked → Option Event
event_by bits (Asks a) = Some a.event
event_by (Some bits) Runs = Some (event.Free bits)
event_by _ _ = None

-- the fuel that is left
abbrev pub spent : ℕ → ℕ → Option ℕ
spent steps fuel = if nat_lt fuel steps then None else Some (fuel - steps)

-- The run from a state on, by the runs from the next one on.
module _ (s : Surroundings) (on : Item → List ℕ → ℕ → Option ObjectRun) where
  abbrev pub answered : Item → ℕ → Option Event → List ℕ → Option ObjectRun
  answered i fuel None answers = on ((object_item s).next 0 i) answers fuel
  answered i fuel (Some e) [] = at_once (outcome.Asks e)
  answered i fuel (Some e) (x ∷ xs) = option_map (and_event e) (on ((object_item s).next x i) xs fuel)

  abbrev pub fuelled : Item → List ℕ → Option ℕ → Option Event → Option ObjectRun
  fuelled i answers None e = at_once outcome.Running
  fuelled i answers (Some fuel) e = option_map (and_steps (weight i)) (answered i fuel e answers)

  abbrev pub from : Item → List ℕ → ℕ → Status Asked → Option ObjectRun
  from i answers fuel Ends = at_once outcome.Done
  from i answers fuel Fails = at_once outcome.Undefined
  from i answers fuel st = fuelled i answers (spent (weight i) fuel) (event_by (picks s i) st)

-- the run, where it takes fewer than so many moves
abbrev pub run_within : Surroundings → ℕ → Item → List ℕ → ℕ → Option ObjectRun
run_within s zero i answers fuel = None
run_within s (suc moves) i answers fuel = from s (run_within s moves) i answers fuel ((object_item s).status i)

-- Between two steps there are finitely many moves, so some number of moves does.
abbrev pub IsObjectRun : Surroundings → Item → List ℕ → ℕ → ObjectRun → Type 0
IsObjectRun s i answers fuel r = (moves : ℕ) × (run_within s moves i answers fuel ≡ Some r)
