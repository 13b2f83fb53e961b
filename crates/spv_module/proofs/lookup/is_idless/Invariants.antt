use Rattle.std.proofs.Common.{◌≡◌, length}
use Rattle.spv_module.specs.Instructions.{ids}
use Rattle.spv_module.proofs.lookup.is_idless.Given as goal

abbrev pub invariant-loop-rest : goal.invariant-loop-rest
invariant-loop-rest l = ids l.rest ≡ ids l.fn.operands

abbrev pub decreases-loop-rest : goal.decreases-loop-rest
decreases-loop-rest l = length l.rest
