-- The one run of a module that a schedule gives: the invocations take turns of so many steps, in a queue, and each unspecified value is 0.
use Rattle.std.specs.Prelude.{◌≡◌, ◌≢◌, ℕ, zero, suc, ◌+◌, List, [], ◌∷◌, ◌++◌, Some}
use Rattle.launch_text.specs.WorkItems.{volume}
use Rattle.spv_module.specs.declared.module.Inst.{Inst}
use Rattle.spv_module.specs.Interface.{word_at}
use Rattle.clv_steps.specs.Machines.{Status, Runs, Asks, Ends, Fails, IsLive}
use Rattle.clv_worlds.specs.Worlds.{World, with_item, answered, state, opening}
use Rattle.spv_meaning.specs.declared.trap.TrapKind.{TrapKind}
use Rattle.spv_meaning.specs.Events.{Asked}
use Rattle.spv_meaning.specs.Start.{Start}
use Rattle.spv_meaning.specs.Invocation.{Run, run, over, invocation, given_of, trap_of}
use Rattle.spv_meaning.specs.Worlds.{Buffers, shared_over, module_world}

-- A world of the module's invocations.
abbrev pub Invocations : Type 0
Invocations = World Asked Buffers

abbrev pub run_of : List Inst → Start → Invocations → ℕ → Run
run_of body start w item = state (module_world body start) w item

abbrev pub status_of : List Inst → Start → Invocations → ℕ → Status Asked
status_of body start w item = (invocation (given_of body start item)).status (run_of body start w item)

-- the world after a step of an item: its own with the value 0, or with the memory's answer
abbrev pub after_status : List Inst → Start → Status Asked → Invocations → ℕ → Invocations
after_status body start Runs w item = record { memory = w.memory; items = with_item item (w.items item ++ 0 ∷ []) w.items; log = w.log }
after_status body start (Asks asked) w item = answered (shared_over start.global start.local) (module_world body start) w item asked 0
after_status body start _ w item = w

abbrev pub after_step : List Inst → Start → Invocations → ℕ → Invocations
after_step body start w item = after_status body start (status_of body start w item) w item

-- A trap: its kind, the id of the function, the index of the instruction's first word in the module, and the item.
pub record Trapped : Type 0 where
  pub kind : TrapKind
  pub function : ℕ
  pub word : ℕ
  pub item : ℕ

-- the item's next instruction traps
abbrev pub TrapsAt : List Inst → Start → ℕ → Run → Trapped → Type 0
TrapsAt body start item (run function place part values) t = (trap_of (given_of body start item) (run function place part values) ≡ Some t.kind) × (t.function ≡ function) × (t.word ≡ word_at body place) × (t.item ≡ item)
TrapsAt body start item over t = ⊥

-- how a run ends: all invocations have ended, one has trapped, or the steps of the budget are made; and how many steps were made
pub data Ending : Type 0 where
  IsDone : (steps : ℕ) → Ending
  HasTrapped : (trap : Trapped) (steps : ℕ) → Ending
  IsSpent : Ending

-- From this queue, with so many steps left of the turn of the item at its front, of the budget, and so many made: the run ends so, in this world. A step that traps is counted. An item that has ended leaves the queue, and one that has used its turn goes to its back.
pub data Turns (body : List Inst) (start : Start) (turn : ℕ) : List ℕ → ℕ → ℕ → ℕ → Invocations → Ending → Invocations → Type 0 where
  complete : (left budget made : ℕ) (w : Invocations) → Turns body start turn [] left budget made w (IsDone made) w
  spent : (i : ℕ) (queue : List ℕ) (left made : ℕ) (w : Invocations) → Turns body start turn (i ∷ queue) left zero made w IsSpent w
  turned : (i : ℕ) (queue : List ℕ) (budget made : ℕ) (w v : Invocations) (e : Ending) → Turns body start turn (queue ++ i ∷ []) turn (suc budget) made w e v → Turns body start turn (i ∷ queue) zero (suc budget) made w e v
  traps : (i : ℕ) (queue : List ℕ) (left budget made : ℕ) (w : Invocations) (t : Trapped) → status_of body start w i ≡ Fails → TrapsAt body start i (run_of body start w i) t → Turns body start turn (i ∷ queue) (suc left) (suc budget) made w (HasTrapped t (made + 1)) w
  ends : (i : ℕ) (queue : List ℕ) (left budget made : ℕ) (w v : Invocations) (e : Ending) → IsLive (status_of body start w i) → status_of body start (after_step body start w i) i ≡ Ends → Turns body start turn queue turn budget (made + 1) (after_step body start w i) e v → Turns body start turn (i ∷ queue) (suc left) (suc budget) made w e v
  goes : (i : ℕ) (queue : List ℕ) (left budget made : ℕ) (w v : Invocations) (e : Ending) → IsLive (status_of body start w i) → status_of body start (after_step body start w i) i ≢ Ends → Turns body start turn (i ∷ queue) left budget (made + 1) (after_step body start w i) e v → Turns body start turn (i ∷ queue) (suc left) (suc budget) made w e v

-- n numbers from m on
abbrev pub numbers_from : ℕ → ℕ → List ℕ
numbers_from m zero = []
numbers_from m (suc n) = m ∷ numbers_from (m + 1) n

-- The run of all items under turns of so many steps, with a budget: how it ends, and in which world. At the start all items are ready, in the order of their numbers.
abbrev pub ScheduledRun : List Inst → Start → ℕ → ℕ → Ending → Invocations → Type 0
ScheduledRun body start turn budget e w = Turns body start turn (numbers_from 0 (volume start.global)) turn budget 0 (opening start.buffers) e w
