-- What holds of the meaning as a whole.
use Rattle.std.specs.Prelude.{◌≡◌, ℕ, ◌+◌, ◌<◌, ◌≤◌, ◌⊎◌, Bool, true, false, List, ◌∷◌, ◌++◌, take, length}
use Rattle.clv_steps.specs.Machines.{Asks, after}
use Rattle.clv_worlds.specs.Worlds.{World, Opened, Entry, Leads, opening}
use Rattle.clv_worlds.specs.Histories.{LogTells, MemoryTells}
use Rattle.cl_tree.specs.declared.event.NodeId.{NodeId}
use Rattle.cl_tree.specs.declared.event.Event.{Event}
use Rattle.cl_tree.specs.declared.event.Outcome.TheVariants as outcome
use Rattle.cl_tree.specs.declared.event.Event.TheVariants as event
use Rattle.launch_text.specs.Rules.{LoadedLaunch}
use Rattle.launch_text.specs.WorkItems.{volume, group_of}
use Rattle.cl_common.specs.Events.{Asked}
use Rattle.cl_common.specs.SharedMemory.{SharedMemory, shared_by, opening_memory}
use Rattle.cl_meaning.specs.declared.run.ItemRun.{ItemRun}
use Rattle.cl_meaning.specs.Tasks.{Act, Enter, Leave, Task}
use Rattle.cl_meaning.specs.States.{Surroundings, Item}
use Rattle.cl_meaning.specs.Items.{source_item, act_of}
use Rattle.cl_meaning.specs.ItemRuns.{IsItemRun}
use Rattle.cl_meaning.specs.Source.{Unit as Compiled, surroundings_of, first_item, kernel_of, source_world}

-- ---- runs of one item

-- Two runs of one item on the same answers and fuel are the same.
abbrev pub OneRun : Type 0
OneRun = (s : Surroundings) (i : Item) (answers : List ℕ) (fuel : ℕ) (a b : ItemRun) → IsItemRun s i answers fuel a → IsItemRun s i answers fuel b → b ≡ a

-- The second run goes on where the first stands: its events begin with those of the first, and it has made as many steps at least.
pub record GoesOn (a b : ItemRun) : Type 0 where
  pub more : List Event
  pub events : b.events ≡ a.events ++ more
  pub steps : a.steps ≤ b.steps

-- A run with more fuel is the same, or the one with less had none left, and it goes on there.
abbrev pub MoreFuel : Type 0
MoreFuel = (s : Surroundings) (i : Item) (answers : List ℕ) (fuel more : ℕ) (a b : ItemRun) → IsItemRun s i answers fuel a → IsItemRun s i answers (fuel + more) b
    → (b ≡ a) ⊎ ((a.outcome ≡ outcome.Running) × GoesOn a b)

-- A run with more answers is the same, or the one with fewer stood at a question, and it goes on there.
abbrev pub MoreAnswers : Type 0
MoreAnswers = (s : Surroundings) (i : Item) (answers more : List ℕ) (fuel : ℕ) (a b : ItemRun) → IsItemRun s i answers fuel a → IsItemRun s i (answers ++ more) fuel b
    → (b ≡ a) ⊎ ((e : Event) × (a.outcome ≡ outcome.Asks e) × GoesOn a b)

-- A run that comes to undefined behaviour does so with more fuel too, and under all answers that begin with those to its events: what comes before
-- doesn't depend on what comes after.
abbrev pub UndefinedStays : Type 0
UndefinedStays = (s : Surroundings) (i : Item) (answers others : List ℕ) (fuel more : ℕ) (a : ItemRun) → IsItemRun s i answers fuel a → a.outcome ≡ outcome.Undefined
    → IsItemRun s i (take (length a.events) answers ++ others) (fuel + more) a

-- ---- each run ends

-- An item has a run from each state that it comes to, on all answers and with all fuel: between two steps there are
-- finitely many moves.
abbrev pub RunsAreThere : Type 0
RunsAreThere = (u : Compiled) (l : LoadedLaunch) (item : ℕ) (history : List ℕ) (answers : List ℕ) (fuel : ℕ)
    → (r : ItemRun) × IsItemRun (surroundings_of u l item) (after (source_item (surroundings_of u l item)) history (first_item (surroundings_of u l item) (kernel_of l.kernel u.functions))) answers fuel r

-- ---- calls

abbrev pub is_call : Act → Bool
is_call (Enter f number args least) = true
is_call Leave = true
is_call _ = false

-- Entering a function and leaving it alone change where the item is, and which calls are pending.
pub record SameCalls (i j : Item) : Type 0 where
  pub frame : j.frame ≡ i.frame
  pub callers : j.callers ≡ i.callers

abbrev pub CallsChangeCalls : Type 0
CallsChangeCalls = (s : Surroundings) (i : Item) (t : Task) (ts : List Task) (x : ℕ) → i.todo ≡ t ∷ ts → is_call (act_of t) ≡ false → SameCalls i ((source_item s).next x i)

-- ---- all items of a launch

-- The log of each world that a launch comes to says of each item what it has asked, in order: the events on memory with their answers, and a barrier for
-- each release of its group.
abbrev pub LogsTell : Type 0
LogsTell = (u : Compiled) (l : LoadedLaunch) → LogTells (shared_by u.constants l) (source_world u l) (opening_memory l.buffers)

-- So the events on memory are those of the items, in the order of each.
abbrev pub EventsAreTold : Type 0
EventsAreTold = (u : Compiled) (l : LoadedLaunch) → MemoryTells (shared_by u.constants l) (source_world u l) (opening_memory l.buffers)

-- The item stood at a barrier of these nodes, and went on from there.
pub record StoodAt (u : Compiled) (l : LoadedLaunch) (w : World Asked SharedMemory) (nodes : List NodeId) (item : ℕ) : Type 0 where
  pub front : List ℕ
  pub back : List ℕ
  pub history : w.items item ≡ front ++ 0 ∷ back
  pub calls : List NodeId
  pub stands : (source_item (surroundings_of u l item)).status (after (source_item (surroundings_of u l item)) front (first_item (surroundings_of u l item) (kernel_of l.kernel u.functions))) ≡ Asks (record { calls = calls; event = event.Barrier nodes })

-- Each release of a group in the log is a meeting of all its items at one barrier, to which the same calls led (OpenCL C 1.2, 6.12.8).
abbrev pub GroupsMeetAtOne : Type 0
GroupsMeetAtOne = (u : Compiled) (l : LoadedLaunch) (w : World Asked SharedMemory) → Leads (shared_by u.constants l) (source_world u l) (opening (opening_memory l.buffers)) w → (before behind : List (Entry Asked)) (group : ℕ) → w.log ≡ before ++ Opened group ∷ behind
    → (nodes : List NodeId) × ((item : ℕ) → item < volume l.global → group_of l.global l.local item ≡ group → StoodAt u l w nodes item)
