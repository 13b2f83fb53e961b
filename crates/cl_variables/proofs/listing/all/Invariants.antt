use Rattle.std.proofs.Common.{◌-◌, length}
use Rattle.cl_variables.proofs.Lists.{AllSoFar}
use Rattle.cl_variables.proofs.listing.all.Given as goal

abbrev pub invariant-loop-filled : goal.invariant-loop-filled
invariant-loop-filled l = AllSoFar l.initial.types l.types l.constant l.initial.names l.items l.elem l.names l.count l.filled

abbrev pub decreases-loop-filled : goal.decreases-loop-filled
decreases-loop-filled l = length l.items - l.filled.next
