-- All work-items of a launch, and all invocations of the module beside them, each over its own memory, in any order.
use Rattle.std.specs.Prelude.{◌≡◌, ℕ, List, take, length}
use Rattle.launch_text.specs.Rules.{LoadedLaunch}
use Rattle.cl_common.specs.Events.{Asked}
use Rattle.cl_common.specs.SharedMemory.{SharedMemory, shared_by, opening_memory}
use Rattle.cl_meaning.specs.Source.{Unit, source_world}
use Rattle.spv_module.specs.declared.module.Inst.{Inst}
use Rattle.clv_worlds.specs.Simulation.{Simulated}
use Rattle.spv_invocations.specs.Start.{Start}
use Rattle.spv_invocations.specs.Events as invocation
use Rattle.spv_invocations.specs.Worlds.{Memory, shared_over, first_memory, module_world}

-- every byte of every buffer of the launch, of which there are so many
abbrev pub SameBuffers : ℕ → SharedMemory → Memory → Type 0
SameBuffers count m n = take count n.buffers ≡ m.buffers

-- on a launch of a unit that starts so
abbrev pub LaunchServed : List Inst → Unit → LoadedLaunch → Start → (Asked → invocation.Asked) → Type 0
LaunchServed body u l start word =
    Simulated (shared_by u.constants l) (shared_over l.global l.local) (source_world u l) (module_world body start) word (SameBuffers (length l.buffers)) 256 (opening_memory l.buffers) (first_memory body start)
