use Rattle.std.proofs.Common.{◌≡◌, slice_get, length}
use Rattle.spv_module.specs.Instructions.{ids}
use Rattle.run_machine.proofs.chain.id_at.Given as goal

abbrev pub invariant-loop-rest : goal.invariant-loop-rest
invariant-loop-rest l = slice_get (ids l.rest) l.left ≡ slice_get (ids l.fn.operands) l.fn.at

abbrev pub decreases-loop-rest : goal.decreases-loop-rest
decreases-loop-rest l = length l.rest
