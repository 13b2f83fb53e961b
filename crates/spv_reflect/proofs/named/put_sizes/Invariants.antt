use Rattle.std.proofs.Common.{◌≡◌, ◌++◌, length}
use Rattle.spv_reflect.proofs.named.put_sizes.Given as goal

abbrev pub invariant-loop-rest : goal.invariant-loop-rest
invariant-loop-rest l = l.numbers ++ l.rest ≡ l.fn.numbers ++ l.fn.sizes

abbrev pub decreases-loop-rest : goal.decreases-loop-rest
decreases-loop-rest l = length l.rest
