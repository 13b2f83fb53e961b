use Rattle.std.proofs.Common.{◌≡◌, ◌+◌, ◌^◌, ◌<◌, ◌++◌, length}
use Rattle.spv_reflect.specs.Writing.{strings_from}
use Rattle.spv_reflect.proofs.named.put_strings.Given as goal

abbrev pub invariant-loop-rest : goal.invariant-loop-rest
invariant-loop-rest l = (l.out ++ strings_from l.id l.rest ≡ l.fn.out ++ strings_from l.fn.first l.fn.texts) × (l.id + length l.rest < 2 ^ 32)

abbrev pub decreases-loop-rest : goal.decreases-loop-rest
decreases-loop-rest l = length l.rest
