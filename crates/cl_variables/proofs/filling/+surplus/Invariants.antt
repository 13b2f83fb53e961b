use Rattle.cl_variables.proofs.Lists.{SurplusSoFar}
use Rattle.cl_variables.proofs.filling.+surplus.Given as goal

abbrev pub invariant-loop-item : goal.invariant-loop-item
invariant-loop-item l = SurplusSoFar l.initial.types l.types l.constant l.initial.names l.items l.item-index l.names
