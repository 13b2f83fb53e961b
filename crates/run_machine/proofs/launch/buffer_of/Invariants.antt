use Rattle.std.proofs.Common.{◌≡◌, map, length}
use Rattle.spv_meaning.specs.Invocation.{buffer_among}
use Rattle.run_machine.specs.Views.{bound_by}
use Rattle.run_machine.proofs.launch.buffer_of.Given as goal

abbrev pub invariant-loop-rest : goal.invariant-loop-rest
invariant-loop-rest l = buffer_among l.fn.body l.fn.variable (map bound_by l.rest) ≡ buffer_among l.fn.body l.fn.variable (map bound_by l.fn.bound)

abbrev pub decreases-loop-rest : goal.decreases-loop-rest
decreases-loop-rest l = length l.rest
