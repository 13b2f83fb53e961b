-- What the compiler promises of the module that it makes for a text: that it is good.
use Rattle.std.specs.Prelude.{◌≡◌, ℕ, nat_eq, ◌<◌, List, [], length, All, unwrap_or, slice_get}
use Rattle.launch_text.specs.WorkItems.{volume}
use Rattle.launch_text.specs.Rules.{LoadedLaunch}
use Rattle.launch_text.specs.BrokenRule.{broken_rule}
use Rattle.clv_steps.specs.Runs.{Simulates}
use Rattle.cl_tree.specs.declared.tree.Tree.{Tree}
use Rattle.cl_common.specs.Events.{Asked}
use Rattle.cl_meaning.specs.Items.{source_item, weight}
use Rattle.cl_meaning.specs.Source.{Unit, kernel_of, surroundings_of, first_item, IsDefinedLaunch}
use Rattle.cl_meaning.specs.Fits.{Fits, takes_of}
use Rattle.spv_module.specs.declared.module.Inst.{Inst}
use Rattle.spv_module.specs.declared.module.Module.{Module}
use Rattle.spv_module.specs.Words.{IsSpelled}
use Rattle.spv_types_rules.specs.Lines.{Whole, whole, lines_of}
use Rattle.spv_types_rules.specs.Rules.{rules, IsKept, IsFunctionStructured}
use Rattle.spv_invocations.specs.Start.{Start}
use Rattle.spv_invocations.specs.Events as invocation
use Rattle.spv_invocations.specs.Invocation.{invocation, first_run, given_of}
use Rattle.spv_invocations.specs.Cells.{cells_of}
use Rattle.cl_provenance.specs.Routines.{Unit as Functions}
use Rattle.cl_specialise.specs.Copies.{kernels, index_of}
use Rattle.vk_layout.specs.declared.options.Options.{Options}
use Rattle.vk_layout.specs.Interface.{InterfaceStands}
use Rattle.clv_promises.specs.Verdicts.{IsIn, functions_of}
use Rattle.clv_promises.specs.Copied.{AreCopied, reflection}
use Rattle.clv_promises.specs.Rooms.{CellsAreFew, KernelsKeepApart}
use Rattle.clv_promises.specs.Rows.{rows_of}
use Rattle.clv_promises.specs.RowRules.{KeepsRowRules}
use Rattle.clv_promises.specs.Binding.{BindsTo, takes_in, at_rest}
use Rattle.clv_promises.specs.Questions.{Meeting, asked_of}
use Rattle.clv_promises.specs.Simulation.{LaunchServed}

-- the typed unit as work-items run it
abbrev pub unit_in : Tree → Unit
unit_in t = record { types = t.types; constants = t.constants; functions = t.functions }

abbrev pub whole_of : List Inst → Whole
whole_of body = whole (lines_of body)

-- ---- the module by itself

-- Sound: it breaks none of the rules 1 to 44, and some bytes stand for it, of which there are at most 256 MiB; the bound of its ids is 4,194,303 at most.
pub record IsSound (m : Module) : Type 0 where
  pub kept : All (IsKept m.body) rules
  pub structured : All IsFunctionStructured (whole_of m.body).functions
  pub spelled : IsSpelled m

-- ---- what it shows

-- Reflected: its rows are those of the unit, and no rule on rows is broken.
pub record IsReflected (body : List Inst) (options : Options) (u : Functions) : Type 0 where
  pub rows : rows_of (whole_of body) ≡ reflection (whole_of body) u options.pod
  pub rules : KeepsRowRules (whole_of body)

-- Binding agrees: on each launch, what the module's rows and variables say breaks the rule that the unit's kernel breaks, at the same argument, or neither breaks one; and each launch that fits the unit binds with one start.
pub record BindingAgrees (body : List Inst) (u : Unit) : Type 0 where
  pub rules : (l : LoadedLaunch) → broken_rule l (takes_in body l.kernel) ≡ broken_rule l (takes_of u l.kernel)
  pub binds : (l : LoadedLaunch) → Fits u l → (start : Start) × BindsTo body l start

-- ---- barriers

-- The words of a barrier in the module, by the nodes of the calls that are pending there and its own: two chains have the same words exactly where they are the same.
pub record BarrierWords : Type 0 where
  pub words : List ℕ → List ℕ
  pub chain : List ℕ → List ℕ
  pub back : (nodes : List ℕ) → chain (words nodes) ≡ nodes

-- ---- what it does

-- what the two sides have in common on a launch, where the kernels have these variables
abbrev pub variables_of : Functions → List (List ℕ) → ℕ → List ℕ
variables_of u variables kernel = unwrap_or (slice_get variables (index_of nat_eq kernel (kernels u))) []

abbrev pub meeting : List Inst → Functions → List (List ℕ) → BarrierWords → LoadedLaunch → ℕ → Meeting
meeting body u variables barriers l kernel = record { unit = u; whole = whole_of body; kernel = kernel; variables = variables_of u variables kernel; buffers = length l.buffers; words = barriers.words }

-- what is asked on a launch, in the invocations' words
abbrev pub asked_in : List Inst → Tree → List (List ℕ) → BarrierWords → LoadedLaunch → Asked → invocation.Asked
asked_in body t variables barriers l = asked_of (meeting body (functions_of t) variables barriers l (kernel_of l.kernel t.functions))

-- Each item by itself: on each run of its invocation, under any answers and unspecified values, there is one choice of unspecified values with which the item has asked the same at each moment, or has asked the first of it and is undefined. A step of the item is worth 256 instructions, and the invocation doesn't trap while the item is defined.
abbrev pub ItemServed : List Inst → Tree → List (List ℕ) → BarrierWords → LoadedLaunch → Start → ℕ → Type 0
ItemServed body t variables barriers l start item =
    let seen = surroundings_of (unit_in t) l item in
    let given = given_of body start item in
    Simulates (source_item seen) (invocation given) (asked_in body t variables barriers l) weight 256 (first_item seen (kernel_of l.kernel t.functions)) (first_run given)

pub record ItemsAreServed (body : List Inst) (t : Tree) (variables : List (List ℕ)) (barriers : BarrierWords) : Type 0 where
  pub serves : (l : LoadedLaunch) (start : Start) (item : ℕ) → Fits (unit_in t) l → BindsTo body l start → item < volume l.global → ItemServed body t variables barriers l start item

-- All items together: on each launch that fits and on which no run of the unit comes to what is undefined, no run of the module traps or is stuck, in whatever order its invocations take their steps. Each has a run of the unit beside it that asked the same in the same order, in at least a 256th of the steps; where it is complete so is that, with the same bytes in every buffer.
pub record LaunchesAreServed (body : List Inst) (t : Tree) (variables : List (List ℕ)) (barriers : BarrierWords) : Type 0 where
  pub serves : (l : LoadedLaunch) (start : Start) → Fits (unit_in t) l → BindsTo body l start → IsDefinedLaunch (unit_in t) l → LaunchServed body (unit_in t) l start (asked_in body t variables barriers l)

-- ---- what it takes to run it

-- The cells of an invocation are few, and what a kernel's function names in workgroup memory, or one that it reaches, is the kernel's own.
pub record IsSmall (body : List Inst) (u : Functions) (variables : List (List ℕ)) : Type 0 where
  pub cells : CellsAreFew (whole_of body) u (cells_of (at_rest body))
  pub apart : KernelsKeepApart (whole_of body) u variables

-- ---- all of it

-- A good module for a text under these options: the text is accepted as a unit, the module is sound, its rows, functions and variables are the unit's, launches bind to it as they fit the unit, it serves each work-item by itself, and all of them together in any order, and it takes few cells.
pub record IsGood (text : List ℕ) (options : Options) (m : Module) : Type 0 where
  pub tree : Tree
  pub accepted : IsIn text options tree
  pub sound : IsSound m
  pub reflected : IsReflected m.body options (functions_of tree)
  pub copied : AreCopied (whole_of m.body) (functions_of tree)
  pub interface : InterfaceStands (whole_of m.body) options.pod (functions_of tree)
  pub binding : BindingAgrees m.body (unit_in tree)
  pub barriers : BarrierWords
  pub items : ItemsAreServed m.body tree interface.kernels barriers
  pub launches : LaunchesAreServed m.body tree interface.kernels barriers
  pub small : IsSmall m.body (functions_of tree) interface.kernels
