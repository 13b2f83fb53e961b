-- The one run of a module that a schedule gives: the invocations take turns of so many steps, in a queue, and each unspecified value is 0.
use Rattle.std.specs.Prelude.{◌≡◌, ◌≢◌, ℕ, zero, suc, ◌+◌, ◌*◌, ◌/◌, ◌%◌, ◌^◌, ◌&&◌, Bool, true, false, nat_eq, if◌then◌else◌, List, [], ◌∷◌, ◌++◌, Option, Some, None}
use Rattle.std.specs.List.{list_any, filter}
use Rattle.launch_text.specs.declared.launch.Schedule.{Schedule}
use Rattle.launch_text.specs.declared.launch.Schedule.TheVariants.{Robin, Mixed}
use Rattle.launch_text.specs.WorkItems.{volume, group_of}
use Rattle.spv_module.specs.declared.module.Inst.{Inst}
use Rattle.spv_module.specs.Interface.{word_at}
use Rattle.clv_steps.specs.Machines.{Status, Runs, Asks, Ends, Fails, IsLive}
use Rattle.clv_worlds.specs.Worlds.{World, with_item, freed, Opened, answered, state, opening}
use Rattle.spv_meaning.specs.declared.trap.TrapKind.{TrapKind}
use Rattle.spv_meaning.specs.declared.trap.TrapKind.TheVariants.{Barrier}
use Rattle.spv_invocations.specs.Events.{Asked}
use Rattle.spv_invocations.specs.Start.{Start}
use Rattle.spv_invocations.specs.Invocation.{Run, run, over, invocation, given_of, trap_of}
use Rattle.spv_invocations.specs.Worlds.{Memory, shared_over, gate_of, first_memory, module_world}

-- ---- turns

-- The numbers that follow a seed, from the one of the first turn on.
abbrev pub seed_next : ℕ → ℕ
seed_next x = (x * 6364136223846793005 + 1442695040888963407) % 2 ^ 64

abbrev pub seed_at : ℕ → ℕ → ℕ
seed_at x zero = seed_next x
seed_at x (suc n) = seed_next (seed_at x n)

-- how many steps a turn has at the most, by its number from 0
abbrev pub turn_of : Schedule → ℕ → ℕ
turn_of (Robin steps) n = steps
turn_of (Mixed seed) n = 1 + (seed_at seed n / 2 ^ 33) % 64

-- ---- steps

-- A world of the module's invocations.
abbrev pub Invocations : Type 0
Invocations = World Asked Memory

abbrev pub run_of : List Inst → Start → Invocations → ℕ → Run
run_of body start w item = state (module_world body start) w item

abbrev pub status_of : List Inst → Start → Invocations → ℕ → Status Asked
status_of body start w item = (invocation (given_of body start item)).status (run_of body start w item)

-- the world after a step of an item: its own with the value 0, or with the memory's answer, which is 0 where it has none
abbrev pub reply_of : Start → Asked → Invocations → ℕ → ℕ
reply_of start asked w item = (shared_over start.global start.local).reply item asked w.memory

abbrev pub after_status : List Inst → Start → Status Asked → Invocations → ℕ → Invocations
after_status body start Runs w item = record { memory = w.memory; items = with_item item (w.items item ++ 0 ∷ []) w.items; log = w.log }
after_status body start (Asks asked) w item = answered (shared_over start.global start.local) (module_world body start) w item asked (reply_of start asked w item)
after_status body start _ w item = w

abbrev pub after_step : List Inst → Start → Invocations → ℕ → Invocations
after_step body start w item = after_status body start (status_of body start w item) w item

-- the chain of the barrier that an item has come to
abbrev pub chain_by : Status Asked → Option (List ℕ)
chain_by (Asks asked) = gate_of asked
chain_by _ = None

abbrev pub chain_of : List Inst → Start → Invocations → ℕ → Option (List ℕ)
chain_of body start w item = chain_by (status_of body start w item)

-- the item makes a step that is no barrier
pub record Steps (body : List Inst) (start : Start) (w : Invocations) (item : ℕ) : Type 0 where
  pub live : IsLive (status_of body start w item)
  pub no_barrier : chain_of body start w item ≡ None

-- ---- traps

-- A trap: its kind, the id of the function, the index of the instruction's first word in the module, and the item.
pub record Trapped : Type 0 where
  pub kind : TrapKind
  pub function : ℕ
  pub word : ℕ
  pub item : ℕ

-- it names the item's next instruction
abbrev pub StandsAt : List Inst → ℕ → Run → Trapped → Type 0
StandsAt body item (run s) t = (t.function ≡ s.frame.function) × (t.word ≡ word_at body s.frame.place) × (t.item ≡ item)
StandsAt body item over t = ⊥

-- the item's next instruction traps
abbrev pub TrapsAt : List Inst → Start → ℕ → Run → Trapped → Type 0
TrapsAt body start item r t = (trap_of (given_of body start item) r ≡ Some t.kind) × StandsAt body item r t

-- the group of an item that waits at its next instruction, a barrier, doesn't meet
abbrev pub MismatchesAt : List Inst → ℕ → Run → Trapped → Type 0
MismatchesAt body item r t = (t.kind ≡ Barrier) × StandsAt body item r t

-- ---- groups

-- n numbers from m on
abbrev pub numbers_from : ℕ → ℕ → List ℕ
numbers_from m zero = []
numbers_from m (suc n) = m ∷ numbers_from (m + 1) n

abbrev pub is_in_group : Start → ℕ → ℕ → Bool
is_in_group start group item = nat_eq (group_of start.global start.local item) group

-- the items of a group, in the order of their numbers
abbrev pub members_of : Start → ℕ → List ℕ
members_of start group = filter (is_in_group start group) (numbers_from 0 (volume start.global))

abbrev pub are_same : List ℕ → List ℕ → Bool
are_same [] [] = true
are_same (m ∷ ms) (n ∷ ns) = nat_eq m n && are_same ms ns
are_same _ _ = false

abbrev pub is_chain : List ℕ → Option (List ℕ) → Bool
is_chain chain (Some other) = are_same other chain
is_chain chain None = false

-- each of the items waits at the barrier of this chain, where the chain of each item is known
abbrev pub all_wait : (ℕ → Option (List ℕ)) → List ℕ → List ℕ → Bool
all_wait chains chain [] = true
all_wait chains chain (j ∷ js) = is_chain chain (chains j) && all_wait chains chain js

-- the first of the items that waits, with its chain
abbrev pub or_first : ℕ → Option (List ℕ) → Option (ℕ × List ℕ) → Option (ℕ × List ℕ)
or_first j (Some chain) others = Some (j, chain)
or_first j None others = others

abbrev pub first_waiting : (ℕ → Option (List ℕ)) → List ℕ → Option (ℕ × List ℕ)
first_waiting chains [] = None
first_waiting chains (j ∷ js) = or_first j (chains j) (first_waiting chains js)

-- What becomes of a group of which one item has come to wait, or has ended: nothing yet; the barrier opens; or its items don't meet, of which the least that waits is named.
pub data Settled : Type 0 where
  GoesOn : Settled
  Opens : Settled
  Mismatches : (item : ℕ) → Settled

-- where none of the items moves
abbrev pub settled_by : (ℕ → Option (List ℕ)) → List ℕ → Option (ℕ × List ℕ) → Settled
settled_by chains members None = GoesOn
settled_by chains members (Some (j, chain)) = if all_wait chains chain members then Opens else Mismatches j

-- The items in the queue move.
abbrev pub is_among : List ℕ → ℕ → Bool
is_among queue j = list_any (nat_eq j) queue

abbrev pub settled_of : (ℕ → Option (List ℕ)) → List ℕ → List ℕ → Settled
settled_of chains queue members = if list_any (is_among queue) members then GoesOn else settled_by chains members (first_waiting chains members)

-- what becomes of an item's group
abbrev pub settled : List Inst → Start → Invocations → List ℕ → ℕ → Settled
settled body start w queue item = settled_of (chain_of body start w) queue (members_of start (group_of start.global start.local item))

-- the world after the release of a group
abbrev pub opened : Start → Invocations → ℕ → Invocations
opened start w group = record { memory = w.memory; items = freed (group_of start.global start.local) group w.items; log = w.log ++ Opened group ∷ [] }

-- ---- the run

-- how a run ends: all invocations have ended, one has trapped, or the steps of the budget are made; and how many steps were made
pub data Ending : Type 0 where
  IsDone : (steps : ℕ) → Ending
  HasTrapped : (trap : Trapped) (steps : ℕ) → Ending
  IsSpent : Ending

-- The item at the front makes a step with which it leaves the queue: its last, or that of a barrier, where it waits until its group is released. The world then.
pub data Leaves (body : List Inst) (start : Start) (w : Invocations) (item : ℕ) : Invocations → Type 0 where
  ended : Steps body start w item → status_of body start (after_step body start w item) item ≡ Ends → Leaves body start w item (after_step body start w item)
  waits : (chain : List ℕ) → chain_of body start w item ≡ Some chain → Leaves body start w item w

-- From this queue, in the turn of this number, with so many steps left of it, of the budget, and so many made: the run ends so, in this world. A step that traps, and one by which a group's items fail to meet, is counted, and a release is none. An item that has used its turn goes to the queue's back, and those of a group that is released in the order of their numbers.
pub data Turns (body : List Inst) (start : Start) (turn : ℕ → ℕ) : ℕ → List ℕ → ℕ → ℕ → ℕ → Invocations → Ending → Invocations → Type 0 where
  complete : (n left budget made : ℕ) (w : Invocations) → Turns body start turn n [] left budget made w (IsDone made) w
  spent : (n i : ℕ) (queue : List ℕ) (left made : ℕ) (w : Invocations) → Turns body start turn n (i ∷ queue) left zero made w IsSpent w
  turned : (n i : ℕ) (queue : List ℕ) (budget made : ℕ) (w v : Invocations) (e : Ending) → Turns body start turn (suc n) (queue ++ i ∷ []) (turn (suc n)) (suc budget) made w e v → Turns body start turn n (i ∷ queue) zero (suc budget) made w e v
  traps : (n i : ℕ) (queue : List ℕ) (left budget made : ℕ) (w : Invocations) (t : Trapped) → status_of body start w i ≡ Fails → TrapsAt body start i (run_of body start w i) t → Turns body start turn n (i ∷ queue) (suc left) (suc budget) made w (HasTrapped t (made + 1)) w
  goes : (n i : ℕ) (queue : List ℕ) (left budget made : ℕ) (w v : Invocations) (e : Ending) → Steps body start w i → status_of body start (after_step body start w i) i ≢ Ends → Turns body start turn n (i ∷ queue) left budget (made + 1) (after_step body start w i) e v → Turns body start turn n (i ∷ queue) (suc left) (suc budget) made w e v
  leaves : (n i : ℕ) (queue : List ℕ) (left budget made : ℕ) (w u v : Invocations) (e : Ending) → Leaves body start w i u → settled body start u queue i ≡ GoesOn → Turns body start turn (suc n) queue (turn (suc n)) budget (made + 1) u e v → Turns body start turn n (i ∷ queue) (suc left) (suc budget) made w e v
  opens : (n i : ℕ) (queue : List ℕ) (left budget made : ℕ) (w u v : Invocations) (e : Ending) → Leaves body start w i u → settled body start u queue i ≡ Opens
      → Turns body start turn (suc n) (queue ++ members_of start (group_of start.global start.local i)) (turn (suc n)) budget (made + 1) (opened start u (group_of start.global start.local i)) e v → Turns body start turn n (i ∷ queue) (suc left) (suc budget) made w e v
  mismatches : (n i j : ℕ) (queue : List ℕ) (left budget made : ℕ) (w u : Invocations) (t : Trapped) → Leaves body start w i u → settled body start u queue i ≡ Mismatches j → MismatchesAt body j (run_of body start u j) t → Turns body start turn n (i ∷ queue) (suc left) (suc budget) made w (HasTrapped t (made + 1)) u

-- The run of all items under turns of such lengths, with a budget: how it ends, and in which world. At the start all items are ready, in the order of their numbers.
abbrev pub ScheduledRun : List Inst → Start → (ℕ → ℕ) → ℕ → Ending → Invocations → Type 0
ScheduledRun body start turn budget e w = Turns body start turn 0 (numbers_from 0 (volume start.global)) (turn 0) budget 0 (opening (first_memory body start)) e w
