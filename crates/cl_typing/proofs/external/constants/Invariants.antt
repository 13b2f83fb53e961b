use Rattle.cl_typing.proofs.UnitLoops.{ConstantsSoFar}
use Rattle.cl_typing.proofs.external.constants.Given as goal

abbrev pub invariant-loop-one : goal.invariant-loop-one
invariant-loop-one l = ConstantsSoFar l.q l.initial.types l.types l.initial.unit l.all l.one-index l.unit
