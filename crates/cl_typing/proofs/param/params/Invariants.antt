use Rattle.cl_typing.proofs.UnitLoops.{ParamsSoFar}
use Rattle.cl_typing.proofs.param.params.Given as goal

abbrev pub invariant-loop-one : goal.invariant-loop-one
invariant-loop-one l = ParamsSoFar l.kernel l.initial.types l.types l.initial.names l.all l.one-index l.names l.params
