use Rattle.cl_typing.proofs.Numerals.{PositivesSoFar}
use Rattle.cl_typing.proofs.size.constants.Given as goal

abbrev pub invariant-loop-arg : goal.invariant-loop-arg
invariant-loop-arg l = PositivesSoFar l.initial.types l.types l.initial.names l.args l.arg-index l.names l.all
