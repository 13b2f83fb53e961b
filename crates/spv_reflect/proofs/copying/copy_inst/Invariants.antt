use Rattle.std.proofs.Common.{◌≡◌, ◌++◌, length}
use Rattle.spv_reflect.proofs.copying.copy_inst.Given as goal

abbrev pub invariant-loop-rest : goal.invariant-loop-rest
invariant-loop-rest l = l.operands ++ l.rest ≡ l.fn.inst.operands

abbrev pub decreases-loop-rest : goal.decreases-loop-rest
decreases-loop-rest l = length l.rest
