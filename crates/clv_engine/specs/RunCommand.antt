-- What `run` does with a source, a launch and the files that the launch names, and what it prints.
use Rattle.std.specs.Prelude.{◌≡◌, ◌≢◌, ℕ, ◌+◌, ◌*◌, ◌<◌, ◌≤◌, Bool, false, not, ◌&&◌, nat_eq, IsTrue, if◌then◌else◌, List, [], ◌∷◌, ◌++◌, length, codes, Option, Some, None, Ok, Err, Contains, slice_get, take}
use Rattle.std.specs.Fmt.{decimal}
use Rattle.std.specs.List.{list_any}
use Rattle.clv_place.specs.declared.stop.Offence.{Offence}
use Rattle.clv_io.specs.Faults.{Rose}
use Rattle.clv_io.specs.Files.{FilesState, IsSameKind, IsTooLarge, IsCutShort, Lacks}
use Rattle.launch_text.specs.declared.launch.ArgKind.TheVariants.{Buffer}
use Rattle.launch_text.specs.declared.launch.ArgLine.{ArgLine}
use Rattle.launch_text.specs.declared.launch.Launch.{Launch}
use Rattle.launch_text.specs.declared.launch.Schedule.TheVariants.{Robin, Mixed}
use Rattle.launch_text.specs.LaunchText.{launch_of}
use Rattle.launch_text.specs.Rules.{LoadedLaunch, loaded, BrokenRule, IsLeastBroken}
use Rattle.spv_module.specs.declared.module.Inst.{Inst}
use Rattle.spv_module.specs.declared.module.Module.{Module}
use Rattle.spv_module.specs.declared.enumerant.decoration.TheConstants as decoration
use Rattle.spv_module.specs.Options.{◌>>=◌, is_there}
use Rattle.spv_module.specs.Instructions.{definition_in, decoration_in, member_decoration_in}
use Rattle.spv_module.specs.Interface.{variables_in, pointee_by}
use Rattle.spv_meaning.specs.declared.trap.TrapKind.{TrapKind}
use Rattle.spv_meaning.specs.declared.trap.TrapKind.TheVariants.{Range, Divide, Shift, Barrier, Unreachable}
use Rattle.spv_meaning.specs.Start.{Bound, Start}
use Rattle.spv_meaning.specs.Cells.{cells_needed, MAX_CELLS}
use Rattle.spv_meaning.specs.Schedule.{Invocations, Trapped, Ending, IsDone, HasTrapped, IsSpent, ScheduledRun}
use Rattle.spv_meaning.specs.Worlds.{Buffers}
use Rattle.spv_meaning.specs.Events.{Asked}
use Rattle.clv_worlds.specs.Worlds.{World, Leads, opening, IsDefined, IsComplete, steps_of}
use Rattle.vk_bind.specs.Binding.{variable_among, BindsTo}
use Rattle.clv_engine.specs.declared.form.Kernel.{Kernel}
use Rattle.clv_engine.specs.FirstForm.{IsOut}
use Rattle.clv_engine.specs.Promises.{takes_of}
use Rattle.clv_engine.specs.LaunchWorlds.{shared_of, source_world}
use Rattle.clv_engine.specs.Command.{IsCompiled, IsText, IsUnchanged, NotLoaded, source_text, file_text, memory_text}

-- ---- what is printed

abbrev pub launch_line_text : ℕ → ℕ → List ℕ
launch_line_text number line = codes "launch L" ++ (decimal number ++ (codes " line " ++ (decimal line ++ codes "\n")))

abbrev pub argument_text : Option ℕ → List ℕ
argument_text (Some n) = codes " arg " ++ (decimal n ++ codes "\n")
argument_text None = codes "\n"

abbrev pub launch_rule_text : BrokenRule → List ℕ
launch_rule_text r = codes "launch L" ++ (decimal r.number ++ argument_text r.argument)

abbrev pub kind_text : TrapKind → List ℕ
kind_text Range = codes "range"
kind_text Divide = codes "divide"
kind_text Shift = codes "shift"
kind_text Barrier = codes "barrier"
kind_text Unreachable = codes "unreachable"

abbrev pub trap_text : Trapped → List ℕ
trap_text t = codes "trap " ++ (kind_text t.kind ++ (codes " function " ++ (decimal t.function ++ (codes " word " ++ (decimal t.word ++ (codes " item " ++ (decimal t.item ++ codes "\n")))))))

abbrev pub spent_text : ℕ → List ℕ
spent_text steps = codes "spent " ++ (decimal steps ++ codes "\n")

abbrev pub done_text : ℕ → List ℕ
done_text steps = codes "done " ++ (decimal steps ++ codes "\n")

-- ---- what is loaded

-- A file that is loaded: its text, or none where it is over a limit.
pub data Reads (old : FilesState) (name : List ℕ) (max : ℕ) : Option (List ℕ) → Type 0 where
  whole : (text : List ℕ) → IsText old name text → length text ≤ max → Reads old name max (Some text)
  over : (seen : ℕ) → IsTooLarge old name max seen → Reads old name max None

-- what refuses a source
pub data IsRefused (o : Offence) : Option (List ℕ) → Type 0 where
  is_out : (text : List ℕ) → IsOut text o → IsRefused o (Some text)
  is_over : o.code ≡ 105 → o.place.line ≡ 1 → o.place.col ≡ 1 → IsRefused o None

-- what is wrong with a launch text: a rule at a line
pub data IsFaulty (number line : ℕ) : Option (List ℕ) → Type 0 where
  is_broken : (text : List ℕ) → launch_of text ≡ Err (record { rule = number; line = line }) → IsFaulty number line (Some text)
  is_long : number ≡ 1 → line ≡ 1 → IsFaulty number line None

-- the files hold these buffers
abbrev pub HoldBuffers : FilesState → List (List ℕ) → List (List ℕ) → Type 0
HoldBuffers old [] [] = Unit {0}
HoldBuffers old (name ∷ names) (b ∷ bs) = IsText old name b × (length b ≤ 16777216) × HoldBuffers old names bs
HoldBuffers old _ _ = ⊥

-- The source is compiled in memory, and the launch is read and has turns of so many steps.
pub record IsReady (old : FilesState) (source launch : List ℕ) : Type 0 where
  pub text : List ℕ
  pub bytes : List ℕ
  pub words : List ℕ
  pub plan : Launch
  pub read_source : IsText old source text
  pub compiled : IsCompiled text bytes
  pub read_launch : IsText old launch words
  pub is_launch : launch_of words ≡ Ok plan

-- the least argument that is given a buffer
pub record IsLeastGiven (arguments : List ArgLine) (file n : ℕ) : Type 0 where
  pub given : Contains arguments (record { ordinal = n; kind = Buffer file })
  pub least : (m : ℕ) → Contains arguments (record { ordinal = m; kind = Buffer file }) → n ≤ m

-- ---- what is run

-- The module, bound to a launch that takes no more cells than it may, runs under turns of so many steps and a budget, and ends so, in this world.
pub record ModuleRuns (m : Module) (l : LoadedLaunch) (turn budget : ℕ) (e : Ending) (w : Invocations) : Type 0 where
  pub start : Start
  pub binds : BindsTo m.body l start
  pub cells : cells_needed m.body start ≤ MAX_CELLS
  pub run : ScheduledRun m.body start turn budget e w

-- It takes too many cells (L22).
pub record TakesTooMuch (m : Module) (l : LoadedLaunch) : Type 0 where
  pub start : Start
  pub binds : BindsTo m.body l start
  pub over : MAX_CELLS < cells_needed m.body start

-- Where no run of the source comes to what is undefined, a complete run of it leaves these buffers, in at least a 256th of the steps.
pub record IsServed (k : Kernel) (l : LoadedLaunch) (function steps : ℕ) (buffers : Buffers) : Type 0 where
  pub by_source : IsDefined (shared_of l) (source_world k l function) l.buffers → (u : World Asked Buffers) × Leads (shared_of l) (source_world k l function) (opening l.buffers) u × IsComplete (shared_of l) (source_world k l function) u × (u.memory ≡ buffers) × (steps ≤ 256 * steps_of (source_world k l function) (shared_of l).count u.items)

-- ---- what is stored

-- the block that a variable points to, and whether its member is NonWritable
abbrev pub block_in : List Inst → ℕ → Option ℕ
block_in body v = pointee_by (definition_in body v) >>= λ pointer. pointee_by (definition_in body pointer)

abbrev pub is_fixed_in : List Inst → Option ℕ → Bool
is_fixed_in body None = false
is_fixed_in body (Some block) = is_there (member_decoration_in body block 0 decoration.NON_WRITABLE)

-- neither the variable nor the member of its block is NonWritable
abbrev pub is_writable : List Inst → Option ℕ → Bool
is_writable body None = false
is_writable body (Some v) = not (is_there (decoration_in body v decoration.NON_WRITABLE)) && not (is_fixed_in body (block_in body v))

abbrev pub is_marked_by : List Inst → ℕ → Bound → Bool
is_marked_by body file b = nat_eq b.buffer file && is_writable body (variable_among body b.set b.binding (variables_in body))

-- a buffer that some argument may write
abbrev pub is_marked : List Inst → List Bound → ℕ → Bool
is_marked body bound file = list_any (is_marked_by body file) bound

-- what is stored: the names and bytes of the marked buffers, the first of these having this number
abbrev pub stores_from : List Inst → List Bound → ℕ → List (List ℕ) → Buffers → List (List ℕ × List ℕ)
stores_from body bound file (name ∷ names) (b ∷ bs) = if is_marked body bound file then (name, b) ∷ stores_from body bound (file + 1) names bs else stores_from body bound (file + 1) names bs
stores_from body bound file _ _ = []

-- The files hold what was stored, and all others are as they were.
pub record HoldsStores (old new : FilesState) (stores : List (List ℕ × List ℕ)) : Type 0 where
  pub kind : IsSameKind old new
  pub stored : IsTrue old.tells → (name bytes : List ℕ) → Contains stores (name, bytes) → new.held name ≡ Some bytes
  pub others : IsTrue old.tells → (name : List ℕ) → ((bytes : List ℕ) → Contains stores (name, bytes) → ⊥) → new.held name ≡ old.held name

-- The files hold what was stored before one store failed; that file is as before or was cut short, and all others are as they were.
pub record HoldsStoresCut (old new : FilesState) (before : List (List ℕ × List ℕ)) (name bytes : List ℕ) : Type 0 where
  pub kind : IsSameKind old new
  pub rose : Rose old.faults new.faults
  pub full : IsTrue old.is_steady → Lacks (old.room name) (length bytes)
  pub stored : IsTrue old.tells → (other content : List ℕ) → Contains before (other, content) → new.held other ≡ Some content
  pub cut : IsTrue old.tells → IsCutShort old new name bytes
  pub others : IsTrue old.tells → (other : List ℕ) → other ≢ name → ((content : List ℕ) → Contains before (other, content) → ⊥) → new.held other ≡ old.held other

-- ---- what it comes to

-- The run is complete: what it leaves, and what the source says of it.
pub record IsRun (r : Module) (k : Kernel) (l : LoadedLaunch) (turn budget steps : ℕ) (names : List (List ℕ)) (stores : List (List ℕ × List ℕ)) : Type 0 where
  pub world : Invocations
  pub runs : ModuleRuns r l turn budget (IsDone steps) world
  pub served : IsServed k l runs.start.function steps world.memory
  pub marked : stores ≡ stores_from r.body runs.start.bound 0 names world.memory

-- The buffers are loaded, and the launch has turns of so many steps.
pub record IsLoaded {old : FilesState} {source launch : List ℕ} (r : IsReady old source launch) (turn : ℕ) (l : LoadedLaunch) : Type 0 where
  pub robin : r.plan.schedule ≡ Robin turn
  pub buffers : List (List ℕ)
  pub held : HoldBuffers old r.plan.files buffers
  pub is : l ≡ loaded r.plan buffers

-- What `run` comes to: its status and the text that it prints.
pub data RunComesTo (source launch : List ℕ) (old new : FilesState) : ℕ → List ℕ → Type 0 where
  -- the source, or the launch
  absent : NotLoaded old new source → RunComesTo source launch old new 3 (file_text source)
  launch_absent : (s : Option (List ℕ)) → Reads old source 1048576 s → NotLoaded old new launch → RunComesTo source launch old new 3 (file_text launch)
  refused : (o : Offence) (s : Option (List ℕ)) → Reads old source 1048576 s → IsRefused o s → IsUnchanged old new → RunComesTo source launch old new 1 (source_text o)
  faulty : (text bytes : List ℕ) (number line : ℕ) (s : Option (List ℕ)) → IsText old source text → IsCompiled text bytes → Reads old launch 65536 s → IsFaulty number line s → IsUnchanged old new → RunComesTo source launch old new 6 (launch_line_text number line)
  -- L30: no seeded schedule yet
  seeded : (r : IsReady old source launch) (seed : ℕ) → r.plan.schedule ≡ Mixed seed → IsUnchanged old new → RunComesTo source launch old new 6 (launch_rule_text (record { number = 30; argument = None }))
  -- the first of the buffers that isn't there, or is too large
  buffer_absent : (r : IsReady old source launch) (file : ℕ) (name : List ℕ) (bs : List (List ℕ)) → slice_get r.plan.files file ≡ Some name → HoldBuffers old (take file r.plan.files) bs → NotLoaded old new name → RunComesTo source launch old new 3 (file_text name)
  buffer_over : (r : IsReady old source launch) (file seen n : ℕ) (name : List ℕ) (bs : List (List ℕ)) → slice_get r.plan.files file ≡ Some name → HoldBuffers old (take file r.plan.files) bs → IsTooLarge old name 16777216 seen → IsLeastGiven r.plan.args file n → IsUnchanged old new → RunComesTo source launch old new 6 (launch_rule_text (record { number = 14; argument = Some n }))
  -- the launch doesn't fit the kernel
  misfit : (r : IsReady old source launch) (turn : ℕ) (l : LoadedLaunch) (b : BrokenRule) → IsLoaded r turn l → IsLeastBroken l (takes_of r.compiled.good.kernel l.kernel) b → IsUnchanged old new → RunComesTo source launch old new 6 (launch_rule_text b)
  -- L22
  too_much : (r : IsReady old source launch) (turn : ℕ) (l : LoadedLaunch) → IsLoaded r turn l → TakesTooMuch r.compiled.made l → IsUnchanged old new → RunComesTo source launch old new 6 (launch_rule_text (record { number = 22; argument = None }))
  trapped : (r : IsReady old source launch) (turn : ℕ) (l : LoadedLaunch) (t : Trapped) (steps : ℕ) (w : Invocations) → IsLoaded r turn l → ModuleRuns r.compiled.made l turn r.plan.steps (HasTrapped t steps) w → IsUnchanged old new → RunComesTo source launch old new 7 (trap_text t)
  spent : (r : IsReady old source launch) (turn : ℕ) (l : LoadedLaunch) (w : Invocations) → IsLoaded r turn l → ModuleRuns r.compiled.made l turn r.plan.steps IsSpent w → IsUnchanged old new → RunComesTo source launch old new 8 (spent_text r.plan.steps)
  ran : (r : IsReady old source launch) (turn : ℕ) (l : LoadedLaunch) (steps : ℕ) (stores : List (List ℕ × List ℕ)) → IsLoaded r turn l → IsRun r.compiled.made r.compiled.good.kernel l turn r.plan.steps steps r.plan.files stores → HoldsStores old new stores → RunComesTo source launch old new 0 (done_text steps)
  unstored : (r : IsReady old source launch) (turn : ℕ) (l : LoadedLaunch) (steps : ℕ) (before behind : List (List ℕ × List ℕ)) (name bytes : List ℕ) → IsLoaded r turn l → IsRun r.compiled.made r.compiled.good.kernel l turn r.plan.steps steps r.plan.files (before ++ (name, bytes) ∷ behind) → HoldsStoresCut old new before name bytes → RunComesTo source launch old new 3 (file_text name)
  starved : IsUnchanged old new → RunComesTo source launch old new 4 memory_text
