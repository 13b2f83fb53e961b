-- All work-items of a launch over its buffers, in any order: those of the source, and the invocations of the module.
use Rattle.std.specs.Prelude.{◌≡◌, ℕ, ◌*◌, ◌≤◌, false, List}
use Rattle.launch_text.specs.Rules.{LoadedLaunch}
use Rattle.spv_module.specs.declared.module.Inst.{Inst}
use Rattle.clv_worlds.specs.Worlds.{Shared, Program, IsDefined}
use Rattle.clv_worlds.specs.Simulation.{Simulated}
use Rattle.spv_meaning.specs.Events.{Asked}
use Rattle.spv_meaning.specs.Start.{Start}
use Rattle.spv_meaning.specs.Worlds.{Buffers, shared_over, no_gate, module_world}
use Rattle.vk_bind.specs.Binding.{BindsTo}
use Rattle.clv_engine.specs.declared.form.Kernel.{Kernel}
use Rattle.clv_engine.specs.SourceItem.{Item, source_item, weight, first_state}
use Rattle.clv_engine.specs.Promises.{Fits, surroundings_of, in_function}

-- The items share the buffers of the launch.
abbrev pub shared_of : LoadedLaunch → Shared Asked Buffers
shared_of l = shared_over l.global l.local

-- The source world. The id is that of the function under which the kernel's questions are seen; it changes nothing else.
abbrev pub source_world : Kernel → LoadedLaunch → ℕ → Program Item Asked Asked
source_world k l function = record { machine = λ item. source_item (surroundings_of l item); start = λ item. first_state k; weight = weight; word = in_function function; gate = no_gate; takes_any = false }

-- The first argument's buffer has an element of four bytes for each place along x. Each item sees the same buffer, so the first item's stands for all.
abbrev pub HasRoom : LoadedLaunch → Type 0
HasRoom l = 4 * l.global.x ≤ (surroundings_of l 0).size

-- World simulation: on each launch that fits the kernel and on which no run of the source comes to what is undefined, no run of the module traps or is stuck, in whatever order its invocations take their steps. Each run has one of the source beside it with the same writes in the same order, the same buffers, and at least a 256th of the steps; where it is complete, so is the source's.
pub record WorldSimulation (body : List Inst) (k : Kernel) : Type 0 where
  pub worlds : (l : LoadedLaunch) (start : Start) → Fits k l → BindsTo body l start → IsDefined (shared_of l) (source_world k l start.function) l.buffers → Simulated (shared_of l) (shared_of l) (source_world k l start.function) (module_world body start) (λ seen. seen) (λ old new. old ≡ new) 256 l.buffers l.buffers
  -- Each launch whose buffer has an element for each of its items along x is such a launch.
  pub defined : (l : LoadedLaunch) (function : ℕ) → Fits k l → HasRoom l → IsDefined (shared_of l) (source_world k l function) l.buffers
