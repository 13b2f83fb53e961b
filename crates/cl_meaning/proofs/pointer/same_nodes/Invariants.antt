use Rattle.std.proofs.Common.{◌≡◌, length}
use Rattle.cl_common.specs.Events.{same_nodes}
use Rattle.cl_meaning.proofs.pointer.same_nodes.Given as goal

abbrev pub invariant-loop-left : goal.invariant-loop-left
invariant-loop-left l = same_nodes l.left l.right ≡ same_nodes l.initial.left l.initial.right

abbrev pub decreases-loop-left : goal.decreases-loop-left
decreases-loop-left l = length l.left
