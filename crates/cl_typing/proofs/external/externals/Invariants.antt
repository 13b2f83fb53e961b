use Rattle.cl_typing.specs.Units.{empty}
use Rattle.cl_typing.proofs.UnitLoops.{UnitSoFar}
use Rattle.cl_typing.proofs.external.externals.Given as goal

abbrev pub invariant-loop-one : goal.invariant-loop-one
invariant-loop-one l = UnitSoFar l.bodies l.initial.types l.types empty l.all l.one-index l.unit
