use Rattle.std.proofs.Common.{length}
use Rattle.spv_reflect.proofs.Steps.{IsCounting}
use Rattle.spv_reflect.proofs.rules.arguments_among.Given as goal

abbrev pub invariant-loop-rest : goal.invariant-loop-rest
invariant-loop-rest l = IsCounting l.fn.kernel l.fn.lines l.count l.rest

abbrev pub decreases-loop-rest : goal.decreases-loop-rest
decreases-loop-rest l = length l.rest
