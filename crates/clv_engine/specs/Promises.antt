-- What the compiler promises of a module that it makes for a text.
use Rattle.std.specs.Prelude.{◌≡◌, ℕ, ◌<◌, false, List, [], ◌∷◌, Option, Some, None, if◌then◌else◌}
use Rattle.std.specs.Str.{bytes_eq}
use Rattle.spv_module.specs.declared.module.Inst.{Inst}
use Rattle.clv_steps.specs.Runs.{Simulates}
use Rattle.clv_engine.specs.declared.form.Kernel.{Kernel}
use Rattle.launch_text.specs.WorkItems.{volume, global_id_in}
use Rattle.launch_text.specs.Rules.{LoadedLaunch, BufferPointer, Taken, IsLaunch, KeepsRules, BrokenRule, IsLeastBroken, buffer_given, size_of}
use Rattle.spv_module.specs.Options.{or_default}
use Rattle.spv_meaning.specs.Events.{Asked}
use Rattle.spv_meaning.specs.Start.{Start}
use Rattle.spv_meaning.specs.Invocation.{invocation, first_run, given_of}
use Rattle.vk_bind.specs.Binding.{BindsTo, takes_in}
use Rattle.clv_engine.specs.SourceItem.{Surroundings, source_item, weight, first_state}

-- The kernel takes a pointer to elements of four bytes, each of which is one scalar, and requires no size of a group.
abbrev pub kernel_takes : Taken
kernel_takes = record { parameters = BufferPointer (record { size = 4; scalars = (0, 32) ∷ [] }) false ∷ []; required = [] }

-- A launch fits the kernel: it names it (L10), and keeps the rules for what it takes.
pub record Fits (k : Kernel) (l : LoadedLaunch) : Type 0 where
  pub launch : IsLaunch l
  pub kernel : l.kernel ≡ k.name ∷ []
  pub rules : KeepsRules kernel_takes l

-- what the kernel of a name takes; none where it has another name
abbrev pub takes_of : Kernel → List ℕ → Option Taken
takes_of k name = if bytes_eq (k.name ∷ []) name then Some kernel_takes else None

-- what an item of the launch sees
abbrev pub surroundings_of : LoadedLaunch → ℕ → Surroundings
surroundings_of l item =
    let buffer = or_default (buffer_given 0 l.arguments) 0 in
    record { buffer = buffer; size = or_default (size_of l.buffers buffer) 0; global_id = global_id_in l.dims l.global item }

-- The kernel is the one copy of a function, and the module's entry function stands to it.
abbrev pub in_function : ℕ → Asked → Asked
in_function function asked = record { function = function; event = asked.event }

-- Each work-item by itself: on each run of its invocation, under any answers, the item has asked the same writes at each moment, or is undefined. A step of the item is worth 256 instructions.
abbrev pub ItemServes : List Inst → Kernel → LoadedLaunch → Start → ℕ → Type 0
ItemServes body k l start item =
    let given = given_of body start item in
    Simulates (source_item (surroundings_of l item)) (invocation given) (in_function start.function) weight 256 (first_state k) (first_run given)

-- Binding agrees: a launch binds to the module exactly where it fits the kernel, and else breaks there the rule that it breaks for the kernel, at the same argument.
pub record BindingAgrees (body : List Inst) (k : Kernel) : Type 0 where
  pub binds : (l : LoadedLaunch) → Fits k l → (start : Start) × BindsTo body l start
  pub fits : (l : LoadedLaunch) (start : Start) → IsLaunch l → BindsTo body l start → Fits k l
  pub breaks : (l : LoadedLaunch) (r : BrokenRule) → IsLeastBroken l (takes_of k l.kernel) r → IsLeastBroken l (takes_in body l.kernel) r
  pub is_broken : (l : LoadedLaunch) (r : BrokenRule) → IsLeastBroken l (takes_in body l.kernel) r → IsLeastBroken l (takes_of k l.kernel) r

-- Item simulation: the module serves each item of each launch that fits the kernel.
pub record ItemSimulation (body : List Inst) (k : Kernel) : Type 0 where
  pub serves : (l : LoadedLaunch) (start : Start) (item : ℕ) → Fits k l → BindsTo body l start → item < volume l.global → ItemServes body k l start item
