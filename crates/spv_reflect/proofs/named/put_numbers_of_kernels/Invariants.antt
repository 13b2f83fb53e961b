use Rattle.std.proofs.Common.{◌≡◌, ◌^◌, ◌<◌, ◌++◌, length}
use Rattle.spv_reflect.specs.Writing.{numbers_of_kernels, args_in}
use Rattle.spv_reflect.proofs.named.put_numbers_of_kernels.Given as goal

abbrev pub invariant-loop-rest : goal.invariant-loop-rest
invariant-loop-rest l = (l.numbers ++ numbers_of_kernels l.rest ≡ l.fn.numbers ++ numbers_of_kernels l.fn.kernels) × (args_in l.rest < 2 ^ 32)

abbrev pub decreases-loop-rest : goal.decreases-loop-rest
decreases-loop-rest l = length l.rest
