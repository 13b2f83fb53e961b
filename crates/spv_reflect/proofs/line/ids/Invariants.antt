use Rattle.std.proofs.Common.{◌≡◌, ◌++◌, length}
use Rattle.spv_module.specs.Instructions.{ids}
use Rattle.spv_reflect.proofs.line.ids.Given as goal

abbrev pub invariant-loop-rest : goal.invariant-loop-rest
invariant-loop-rest l = l.found ++ ids l.rest ≡ ids l.fn.operands

abbrev pub decreases-loop-rest : goal.decreases-loop-rest
decreases-loop-rest l = length l.rest
