use Rattle.std.proofs.Common.{◌≡◌, Some, length}
use Rattle.spv_module.specs.Instructions.{words}
use Rattle.spv_module.proofs.lookup.one_number.Given as goal

abbrev pub invariant-loop-rest : goal.invariant-loop-rest
invariant-loop-rest l = words l.rest ≡ words l.fn.operands

abbrev pub decreases-loop-rest : goal.decreases-loop-rest
decreases-loop-rest l = length l.rest
