-- What the steps of the command `run` come to, each from what those before it found.
use Rattle.std.specs.Prelude.{◌≡◌, ℕ, ◌+◌, ◌<◌, ◌≤◌, Bool, true, false, List, [], ◌∷◌, ◌++◌, length, Option, Some, Result, Ok, Err, slice_get, IsTrue, string_bytes, take}
use Rattle.clv_io.specs.Files.{FilesState, IsTooLarge}
use Rattle.launch_text.specs.declared.launch.Launch.{Launch}
use Rattle.launch_text.specs.declared.launch.Schedule.TheVariants.{Robin}
use Rattle.launch_text.specs.Rules.{LoadedLaunch, loaded, IsLeastBroken}
use Rattle.spv_module.specs.declared.module.Inst.{Inst}
use Rattle.spv_module.specs.declared.module.Module.{Module}
use Rattle.spv_module.specs.Words.{SpellsLittle}
use Rattle.spv_types_rules.specs.Rules.{IsValid}
use Rattle.spv_reflect.specs.declared.rows.Reflection.{Reflection}
use Rattle.spv_reflect.specs.Reflection.{rows_of}
use Rattle.spv_meaning.specs.Start.{Bound}
use Rattle.spv_meaning.specs.Cells.{cells_needed, MAX_CELLS}
use Rattle.spv_meaning.specs.Schedule.{Invocations, IsDone, HasTrapped, IsSpent, ScheduledRun}
use Rattle.spv_meaning.specs.Worlds.{Buffers}
use Rattle.vk_bind.specs.Binding.{takes_in}
use Rattle.vk_bind.specs.Answers.{bounds_from, start_from}
use Rattle.vk_bind.specs.declared.start.Start.{Start as Begin}
use Rattle.run_machine.specs.Machines.{trap_by}
use Rattle.clv_engine.specs.declared.outcome.Outcome.{Outcome}
use Rattle.clv_engine.specs.declared.outcome.Outcome.TheVariants as outcome
use Rattle.clv_engine.specs.declared.load.Loaded.{Loaded}
use Rattle.clv_engine.specs.declared.load.Loaded.TheVariants.{Held, TooLarge, Absent}
use Rattle.clv_engine.specs.declared.load.Buffers.{Buffers as LoadedBuffers}
use Rattle.clv_engine.specs.declared.load.Buffers.TheVariants as buffers
use Rattle.clv_engine.specs.declared.report.Report.{Report}
use Rattle.clv_engine.specs.Command.{IsCompiled, IsText, IsUnchanged, NotLoaded, file_text}
use Rattle.clv_engine.specs.RunCommand.{Reads, IsReady, HoldBuffers, ModuleRuns, TakesTooMuch, HoldsStores, HoldsStoresCut, is_marked, done_text, RunComesTo}

-- No file has changed since, and steady files tell what they hold.
pub record Since (old mid : FilesState) : Type 0 where
  pub same : IsUnchanged old mid
  pub tells : IsTrue old.is_steady → IsTrue old.tells

-- ---- loads

-- what a load has answered; no file has changed
abbrev pub LoadAnswers : FilesState → FilesState → List ℕ → ℕ → Loaded → Type 0
LoadAnswers old new name max (Held text) = IsText old name text × (length text ≤ max)
LoadAnswers old new name max TooLarge = (seen : ℕ) × IsTooLarge old name max seen
LoadAnswers old new name max Absent = NotLoaded old new name

pub record LoadsAs (old new : FilesState) (name : List ℕ) (max : ℕ) (l : Loaded) : Type 0 where
  pub same : IsUnchanged old new
  pub answers : LoadAnswers old new name max l

-- the buffers of some names: all of them, or the number of the first that isn't there, or is over 16 MiB
abbrev pub BuffersAnswer : FilesState → FilesState → List (List ℕ) → LoadedBuffers → Type 0
BuffersAnswer old new names (buffers.Held bs) = HoldBuffers old names bs
BuffersAnswer old new names (buffers.Absent at) = (name : List ℕ) × (slice_get names at ≡ Some name) × NotLoaded old new name × (bs : Buffers) × HoldBuffers old (take at names) bs
BuffersAnswer old new names (buffers.TooLarge at) = (name : List ℕ) × (seen : ℕ) × (slice_get names at ≡ Some name) × IsTooLarge old name 16777216 seen × (bs : Buffers) × HoldBuffers old (take at names) bs

pub record BuffersLoad (old new : FilesState) (names : List (List ℕ)) (b : LoadedBuffers) : Type 0 where
  pub same : IsUnchanged old new
  pub answers : BuffersAnswer old new names b

-- ---- the module's run

-- which buffers an argument may write, the first of these having this number
abbrev pub marks : List Inst → List Bound → ℕ → Buffers → List Bool
marks body bound file [] = []
marks body bound file (b ∷ bs) = is_marked body bound file ∷ marks body bound (file + 1) bs

-- The run of a module on a launch: complete, with what it leaves and what is stored of it.
pub record IsComplete (m : Module) (l : LoadedLaunch) (turn budget steps : ℕ) (buffers : Buffers) (stored : List Bool) : Type 0 where
  pub world : Invocations
  pub runs : ModuleRuns m l turn budget (IsDone steps) world
  pub leaves : buffers ≡ world.memory
  pub count : length buffers ≡ length l.buffers
  pub marked : stored ≡ marks m.body runs.start.bound 0 buffers

abbrev pub ComesOut : Module → LoadedLaunch → ℕ → ℕ → Outcome → Type 0
ComesOut m l turn budget (outcome.Done steps buffers stored) = IsComplete m l turn budget steps buffers stored
ComesOut m l turn budget (outcome.Trapped t) = (steps : ℕ) × (w : Invocations) × ModuleRuns m l turn budget (HasTrapped (trap_by t) steps) w
ComesOut m l turn budget outcome.Spent = (w : Invocations) × ModuleRuns m l turn budget IsSpent w
ComesOut m l turn budget (outcome.Misfit number arg) = IsLeastBroken l (takes_in m.body l.kernel) (record { number = number; argument = arg })
ComesOut m l turn budget outcome.TooMuch = TakesTooMuch m l

-- ---- stores

-- what is stored of some buffers
abbrev pub stores_of : List (List ℕ) → Buffers → List Bool → List (List ℕ × List ℕ)
stores_of (name ∷ names) (b ∷ bs) (true ∷ ms) = (name, b) ∷ stores_of names bs ms
stores_of (name ∷ names) (b ∷ bs) (false ∷ ms) = stores_of names bs ms
stores_of _ _ _ = []

-- where a store has failed: at the name of this number
pub record StoresCut (old new : FilesState) (names : List (List ℕ)) (stores : List (List ℕ × List ℕ)) (at : ℕ) : Type 0 where
  pub before : List (List ℕ × List ℕ)
  pub behind : List (List ℕ × List ℕ)
  pub name : List ℕ
  pub bytes : List ℕ
  pub named : slice_get names at ≡ Some name
  pub split : stores ≡ before ++ (name, bytes) ∷ behind
  pub holds : HoldsStoresCut old new before name bytes

abbrev pub StoresAs : FilesState → FilesState → List (List ℕ) → List (List ℕ × List ℕ) → Result Unit ℕ → Type 0
StoresAs old new names stores (Ok u) = HoldsStores old new stores
StoresAs old new names stores (Err at) = StoresCut old new names stores at

-- a report for each name, in case its store fails
pub record AreReports (names : List (List ℕ)) (reports : List Report) : Type 0 where
  pub count : length reports ≡ length names
  pub each : (at : ℕ) (name : List ℕ) (r : Report) → slice_get names at ≡ Some name → slice_get reports at ≡ Some r → (r.status ≡ 3) × (string_bytes r.text ≡ file_text name)

-- what storing all comes to
pub data StoresComeTo (old new : FilesState) (names : List (List ℕ)) (stores : List (List ℕ × List ℕ)) (steps status : ℕ) (text : List ℕ) : Type 0 where
  all_stored : status ≡ 0 → text ≡ done_text steps → HoldsStores old new stores → StoresComeTo old new names stores steps status text
  one_failed : (at : ℕ) (cut : StoresCut old new names stores at) → status ≡ 3 → text ≡ file_text cut.name → StoresComeTo old new names stores steps status text

-- buffers for these names, each of at most 16 MiB
pub record AreBuffers (names : List (List ℕ)) (bs : Buffers) : Type 0 where
  pub count : length bs ≡ length names
  pub small : (n : ℕ) (b : List ℕ) → slice_get bs n ≡ Some b → length b ≤ 16777216

-- ---- what `run` comes to, from a later step on

-- from the source and the launch text on
abbrev pub JudgesTo : Option (List ℕ) → Option (List ℕ) → FilesState → FilesState → ℕ → List ℕ → Type 0
JudgesTo s w mid new status text = (source launch : List ℕ) (old : FilesState) → Since old mid → Reads old source 1048576 s → Reads old launch 65536 w → RunComesTo source launch old new status text

-- from the compiled source on
abbrev pub PlansTo : List ℕ → Option (List ℕ) → FilesState → FilesState → ℕ → List ℕ → Type 0
PlansTo bytes w mid new status text = (source launch t : List ℕ) (old : FilesState) → Since old mid → IsText old source t → IsCompiled t bytes → Reads old launch 65536 w → RunComesTo source launch old new status text

-- from the launch on
pub record IsPlanned {old : FilesState} {source launch : List ℕ} (r : IsReady old source launch) (bytes : List ℕ) (plan : Launch) : Type 0 where
  pub bytes_are : r.bytes ≡ bytes
  pub plan_is : r.plan ≡ plan

abbrev pub GoesTo : List ℕ → Launch → FilesState → FilesState → ℕ → List ℕ → Type 0
GoesTo bytes plan mid new status text = (source launch : List ℕ) (old : FilesState) (r : IsReady old source launch) → IsPlanned r bytes plan → Since old mid → RunComesTo source launch old new status text

-- from the buffers on
abbrev pub BuffersGoTo : List ℕ → Launch → ℕ → Buffers → FilesState → FilesState → ℕ → List ℕ → Type 0
BuffersGoTo bytes plan turn bs mid new status text = (source launch : List ℕ) (old : FilesState) (r : IsReady old source launch) → IsPlanned r bytes plan → plan.schedule ≡ Robin turn → HoldBuffers old plan.files bs → Since old mid → RunComesTo source launch old new status text

-- What is known of the bytes of a module that is to be run.
pub record IsRunnable (bytes : List ℕ) : Type 0 where
  pub made : Module
  pub spells : SpellsLittle made bytes
  pub valid : IsValid made.body
  pub rows : Reflection
  pub rows_are : rows_of made.body ≡ Some rows

-- what comes of running the module that some bytes spell
pub record OutcomeOf (bytes : List ℕ) (launch : Launch) (turn : ℕ) (bs : Buffers) (o : Outcome) : Type 0 where
  pub each : (m : Module) → SpellsLittle m bytes → ComesOut m (loaded launch bs) turn launch.steps o

-- the same of a module that is known
abbrev pub HasRows : List Inst → Type 0
HasRows body = (r : Reflection) × (rows_of body ≡ Some r)

pub record ComesFrom (m : Module) (launch : Launch) (turn : ℕ) (bs : Buffers) (o : Outcome) : Type 0 where
  pub is : ComesOut m (loaded launch bs) turn launch.steps o

-- what comes of running the machine from a start
abbrev pub IsSmall : Begin → Type 0
IsSmall s = cells_needed s.checked.body (start_from s) ≤ MAX_CELLS

pub record DoneFrom (s : Begin) (turn budget steps : ℕ) (buffers : Buffers) (stored : List Bool) : Type 0 where
  pub world : Invocations
  pub cells : IsSmall s
  pub run : ScheduledRun s.checked.body (start_from s) turn budget (IsDone steps) world
  pub leaves : buffers ≡ world.memory
  pub marked : stored ≡ marks s.checked.body (bounds_from s.bound) 0 s.buffers

abbrev pub RunsFrom : Begin → ℕ → ℕ → Outcome → Type 0
RunsFrom s turn budget (outcome.Done steps buffers stored) = DoneFrom s turn budget steps buffers stored
RunsFrom s turn budget (outcome.Trapped t) = (steps : ℕ) × (w : Invocations) × IsSmall s × ScheduledRun s.checked.body (start_from s) turn budget (HasTrapped (trap_by t) steps) w
RunsFrom s turn budget outcome.Spent = (w : Invocations) × IsSmall s × ScheduledRun s.checked.body (start_from s) turn budget IsSpent w
RunsFrom s turn budget (outcome.Misfit number arg) = ⊥
RunsFrom s turn budget outcome.TooMuch = MAX_CELLS < cells_needed s.checked.body (start_from s)
