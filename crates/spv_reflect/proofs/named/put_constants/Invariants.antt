use Rattle.std.proofs.Common.{◌≡◌, ◌+◌, ◌^◌, ◌<◌, ◌++◌, length}
use Rattle.std.specs.List.{AllByRecursion}
use Rattle.spv_module.specs.Words.{IsWord}
use Rattle.spv_reflect.specs.Writing.{constants_from}
use Rattle.spv_reflect.proofs.named.put_constants.Given as goal

abbrev pub invariant-loop-rest : goal.invariant-loop-rest
invariant-loop-rest l = (l.out ++ constants_from l.fn.ty l.id l.rest ≡ l.fn.out ++ constants_from l.fn.ty l.fn.first l.fn.numbers) × (l.id + length l.rest < 2 ^ 32) × (AllByRecursion IsWord l.rest → AllByRecursion IsWord l.fn.numbers)

abbrev pub decreases-loop-rest : goal.decreases-loop-rest
decreases-loop-rest l = length l.rest
