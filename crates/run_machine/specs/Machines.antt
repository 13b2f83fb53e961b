-- The machine at a world of the module's invocations.
use Rattle.std.specs.Prelude.{◌≡◌, ◌≢◌, ℕ, ◌+◌, ◌<◌, ◌^◌, List, map, length, slice_index_or, slice_get, Option, Some, None}
use Rattle.launch_text.specs.WorkItems.{volume}
use Rattle.clv_steps.specs.Machines.{Ends, Fails, IsLive}
use Rattle.spv_module.specs.declared.module.Inst.{Inst}
use Rattle.spv_module.specs.Interface.{word_at}
use Rattle.spv_meaning.specs.Events.{Write}
use Rattle.spv_meaning.specs.Start.{Start}
use Rattle.spv_meaning.specs.Invocation.{Run, over, next_by, row_by, said_at, given_of}
use Rattle.spv_meaning.specs.Cells.{cells_needed, MAX_CELLS}
use Rattle.spv_meaning.specs.Worlds.{Buffers, after_event}
use Rattle.spv_meaning.specs.Schedule.{Invocations, run_of, status_of, after_step, Trapped, TrapsAt, Ending, IsDone, HasTrapped, IsSpent, ScheduledRun}
use Rattle.run_machine.specs.declared.invocation.Run.{Run as PlainRun}
use Rattle.run_machine.specs.declared.invocation.Run.TheVariants as invocation
use Rattle.run_machine.specs.declared.row.Did.{Did}
use Rattle.run_machine.specs.declared.row.Did.TheVariants as did
use Rattle.run_machine.specs.declared.ending.Trap.{Trap}
use Rattle.run_machine.specs.declared.ending.Stepped.{Stepped}
use Rattle.run_machine.specs.declared.ending.Stepped.TheVariants.{Went, Ended, Trapped as DidTrap}
use Rattle.run_machine.specs.declared.ending.Ending.{Ending as PlainEnding}
use Rattle.run_machine.specs.declared.ending.Ending.TheVariants as ending
use Rattle.run_machine.specs.declared.machine.Machine.{Machine}
use Rattle.run_machine.specs.declared.spot.Spot.{Spot}
use Rattle.run_machine.specs.declared.stop.NewStop.{NewStop}
use Rattle.run_machine.specs.declared.stop.NewStop.TheVariants.{Cells, NoMemory}
use Rattle.run_machine.specs.Capped.{capped}
use Rattle.run_machine.specs.Views.{body_by, start_by, run_by, row_of, values_by, spot_of}

abbrev pub trap_by : Trap → Trapped
trap_by t = record { kind = t.kind; function = t.function; word = t.word; item = t.item }

abbrev pub ending_by : PlainEnding → Ending
ending_by (ending.Done steps) = IsDone steps
ending_by (ending.Trap trap steps) = HasTrapped (trap_by trap) steps
ending_by ending.Spent = IsSpent

-- the invocation's next run
abbrev pub next_as : PlainRun → Did → Run
next_as (invocation.At f) d = next_by 0 (row_of f d)
next_as invocation.Over d = over

-- there is a next place, where it is needed
abbrev pub HasRoom : PlainRun → Did → Type 0
HasRoom (invocation.At f) (did.Traps kind) = Unit {0}
HasRoom (invocation.At f) d = f.place + 1 < 2 ^ 64
HasRoom invocation.Over d = Unit {0}

abbrev pub write_of : Did → Option (Spot × ℕ)
write_of (did.Writes at n) = Some (at, n)
write_of _ = None

abbrev pub put_by : Option (Spot × ℕ) → Buffers → Buffers
put_by (Some (at, n)) bs = after_event (Write (spot_of at) n) bs
put_by None bs = bs

-- the buffers after what is done
abbrev pub written_by : Did → Buffers → Buffers
written_by d bs = put_by (write_of d) bs

abbrev pub stepped_by : Did → Stepped
stepped_by did.Returns = Ended
stepped_by _ = Went

-- This is what the invocation of the item does next.
abbrev pub Does : List Inst → Start → ℕ → PlainRun → Did → Type 0
Does body start item (invocation.At f) d = row_of f d ≡ row_by (given_of body start item) f.function f.place f.part.items (values_by f) (said_at body f.place)
Does body start item invocation.Over d = Unit {0}

-- These buffers and runs are those of the world.
pub record Stand (body : List Inst) (start : Start) (memory : Buffers) (runs : List Run) (w : Invocations) : Type 0 where
  pub buffers : memory ≡ w.memory
  pub count : length runs ≡ volume start.global
  pub each : (i : ℕ) → i < volume start.global → slice_index_or runs i over ≡ run_of body start w i

abbrev pub runs_of : Machine → List Run
runs_of m = map run_by m.runs.items

abbrev pub IsAt : Machine → Invocations → Type 0
IsAt m w = Stand (body_by m.start) (start_by m.start) m.buffers.items (runs_of m) w

-- Why there is no machine: the cells that the launch needs are more than there may be; or want of memory, of which nothing is said.
abbrev pub IsStopOf : List Inst → Start → NewStop → Type 0
IsStopOf body start (Cells need) = (MAX_CELLS < cells_needed body start) × (need ≡ capped (cells_needed body start))
IsStopOf body start NoMemory = Unit {0}

abbrev pub IsGoing : Option PlainRun → Type 0
IsGoing (Some (invocation.At f)) = Unit {0}
IsGoing (Some invocation.Over) = ⊥
IsGoing None = ⊥

-- The item is one of the launch's, and has not ended.
abbrev pub IsReady : Machine → ℕ → Type 0
IsReady m item = IsGoing (slice_get m.runs.items item)

-- the function and the first word of a run's next instruction
abbrev pub StandsIn : List Inst → PlainRun → ℕ → ℕ → Type 0
StandsIn body (invocation.At f) function word = (function ≡ f.function) × (word ≡ word_at body f.place)
StandsIn body invocation.Over function word = Unit {0}

-- What a step is at a world.
abbrev pub StepsAt : List Inst → Start → Machine → ℕ → Machine → Stepped → Invocations → Type 0
StepsAt body start old item new Went w = IsLive (status_of body start w item) × (status_of body start (after_step body start w item) item ≢ Ends) × IsAt new (after_step body start w item)
StepsAt body start old item new Ended w = IsLive (status_of body start w item) × (status_of body start (after_step body start w item) item ≡ Ends) × IsAt new (after_step body start w item)
StepsAt body start old item new (DidTrap t) w = (status_of body start w item ≡ Fails) × TrapsAt body start item (run_of body start w item) (trap_by t) × IsAt new w

abbrev pub Steps : Machine → ℕ → Machine → Stepped → Type 0
Steps old item new s = (w : Invocations) → IsAt old w → StepsAt (body_by old.start) (start_by old.start) old item new s w

-- A run by a schedule, from the beginning.
pub record RunsTo (turn budget : ℕ) (old new : Machine) (e : PlainEnding) : Type 0 where
  pub world : Invocations
  pub run : ScheduledRun (body_by old.start) (start_by old.start) turn budget (ending_by e) world
  pub at : IsAt new world
