use Rattle.std.proofs.Common.{◌-◌, length}
use Rattle.cl_parse.proofs.Parameters.{SoFar}
use Rattle.cl_parse.proofs.params.some_params.Given as goal

abbrev pub invariant-loop-alloc : goal.invariant-loop-alloc
invariant-loop-alloc l = SoFar l.reader l.fn.at l.here l.list.items l.named

abbrev pub decreases-loop-alloc : goal.decreases-loop-alloc
decreases-loop-alloc l = length l.reader - l.here
