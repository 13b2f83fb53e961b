use Rattle.cl_constants.proofs.Lists.{ComponentsGo}
use Rattle.cl_constants.proofs.list.components.Given as goal

abbrev pub invariant-loop-at : goal.invariant-loop-at
invariant-loop-at l = ComponentsGo l.op l.t l.left l.right l.at l.so_far.items
