use Rattle.std.proofs.Common.{length}
use Rattle.spv_reflect.proofs.Steps.{IsJudging}
use Rattle.spv_reflect.proofs.rules.first_broken.Given as goal

abbrev pub invariant-loop-rest : goal.invariant-loop-rest
invariant-loop-rest l = IsJudging l.fn.rule l.fn.lines l.at l.rest

abbrev pub decreases-loop-rest : goal.decreases-loop-rest
decreases-loop-rest l = length l.rest
