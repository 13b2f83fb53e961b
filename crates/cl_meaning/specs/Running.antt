-- A run on its way, one move after another.
use Rattle.std.specs.Prelude.{◌≡◌, ℕ, ◌+◌, ◌-◌, ◌≤◌, Bool, true, false, List, [], ◌∷◌, ◌++◌, map, drop, length, slice_get, Option, Some, None}
use Rattle.clv_steps.specs.Machines.{IsLive}
use Rattle.cl_tree.specs.declared.event.Event.{Event}
use Rattle.cl_tree.specs.declared.event.Event.TheVariants as event
use Rattle.cl_tree.specs.declared.event.Outcome.{Outcome}
use Rattle.cl_tree.specs.declared.unit.Function.{Function}
use Rattle.cl_meaning.specs.declared.did.Then.{Then}
use Rattle.cl_meaning.specs.declared.did.Did.{Did}
use Rattle.cl_meaning.specs.declared.did.Did.TheVariants as did
use Rattle.cl_meaning.specs.declared.run.ItemRun.{ItemRun}
use Rattle.cl_meaning.specs.Code.{code_of}
use Rattle.cl_meaning.specs.Tasks.{Task}
use Rattle.cl_meaning.specs.States.{Surroundings, Item}
use Rattle.cl_meaning.specs.Effects.{Effect}
use Rattle.cl_meaning.specs.Items.{source_item, next_effect, picks, weight, weight_by}
use Rattle.cl_meaning.specs.ItemRuns.{event_by, run_within}
use Rattle.cl_meaning.specs.Source.{first_item}
use Rattle.cl_meaning.specs.Views.{Comes}

-- ---- where a run begins

-- The functions that an item sees are those of a typed tree.
abbrev pub IsSeen : Surroundings → Type 0
IsSeen s = (functions : List Function) × (s.functions ≡ map (code_of s.types) functions)

abbrev pub IsFirst : Surroundings → Item → Type 0
IsFirst s i = (kernel : ℕ) × (i ≡ first_item s kernel)

-- ---- a move

abbrev pub steps_of : Task → ℕ
steps_of t = weight_by (t ∷ [])

abbrev pub is_undefined : Did → Bool
is_undefined did.Undefined = true
is_undefined _ = false

-- what is asked, and what is done with the answer
abbrev pub question_in : Did → Option (Event × Then)
question_in (did.Picks bits how) = Some (event.Free bits, how)
question_in (did.Asks e how) = Some (e, how)
question_in _ = None

abbrev pub ComesTo : Option Effect → Did → Item → Type 0
ComesTo None d i = ⊥
ComesTo (Some e) d i = Comes e d i

-- This is what the next task came to, with its steps, and where the item then stands, but for the answer; or there was no task.
abbrev pub Moved : Surroundings → Item → Option (Did × ℕ) → Item → Type 0
Moved s i None j = next_effect s i ≡ None
Moved s i (Some m) j = ComesTo (next_effect s i) m.0 j × (m.1 ≡ weight i)

-- ---- a move of a run

-- What is asked is told, and its answer is the one of its number. What asks nothing takes 0.
abbrev pub Answered : List ℕ → Option Event → ℕ → (before after : List Event) → Type 0
Answered answers None x before after = (x ≡ 0) × (after ≡ before)
Answered answers (Some e) x before after = (slice_get answers (length before) ≡ Some x) × (after ≡ before ++ e ∷ [])

-- The move is made: there is fuel for it, and an answer where it asks.
pub record IsTurn (s : Surroundings) (answers : List ℕ) (fuel : ℕ) (i : Item) (old : ItemRun) (j : Item) (new : ItemRun) : Type 0 where
  pub live : IsLive ((source_item s).status i)
  pub answer : ℕ
  pub answered : Answered answers (event_by (picks s i) ((source_item s).status i)) answer old.events new.events
  pub next : j ≡ (source_item s).next answer i
  pub steps : new.steps ≡ old.steps + weight i
  pub within : new.steps ≤ fuel

-- It isn't made, and the run stands there; behind what was made come so many steps more.
pub record Stands (s : Surroundings) (answers : List ℕ) (fuel : ℕ) (i : Item) (old : ItemRun) (outcome : Outcome) (new : ItemRun) : Type 0 where
  pub more : ℕ
  pub stands : run_within s 1 i (drop (length old.events) answers) (fuel - old.steps) ≡ Some (record { events = []; outcome = outcome; steps = more })
  pub steps : new.steps ≡ old.steps + more
  pub events : new.events ≡ old.events

abbrev pub Turned : Surroundings → List ℕ → ℕ → Item → ItemRun → Option Outcome → Item → ItemRun → Type 0
Turned s answers fuel i old None j new = IsTurn s answers fuel i old j new
Turned s answers fuel i old (Some outcome) j new = Stands s answers fuel i old outcome new

-- ---- what was made so far

abbrev pub ended : Outcome → ItemRun → ItemRun
ended o made = record made { outcome = o }

-- what was made, and a run behind it
abbrev pub joined : ItemRun → ItemRun → ItemRun
joined made r = record r { events = made.events ++ r.events; steps = made.steps + r.steps }
