use Rattle.cl_constants.proofs.Nodes.{OperandsGo}
use Rattle.cl_constants.proofs.folding.+constancy.Given as goal

abbrev pub invariant-operands-loop-arg : goal.invariant-operands-loop-arg
invariant-operands-loop-arg l = OperandsGo l.types l.args l.arg-index l.operands
