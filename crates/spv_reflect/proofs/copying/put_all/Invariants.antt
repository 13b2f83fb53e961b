use Rattle.std.proofs.Common.{◌≡◌, ◌++◌, length}
use Rattle.spv_reflect.proofs.copying.put_all.Given as goal

abbrev pub invariant-loop-rest : goal.invariant-loop-rest
invariant-loop-rest l = l.out ++ l.rest ≡ l.fn.out ++ l.fn.insts

abbrev pub decreases-loop-rest : goal.decreases-loop-rest
decreases-loop-rest l = length l.rest
