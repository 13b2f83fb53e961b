use Rattle.std.proofs.Common.{◌≡◌, ◌+◌, ◌*◌, ◌^◌, ◌<◌, ◌++◌, length}
use Rattle.spv_reflect.specs.Writing.{lines_of_kernels, args_in}
use Rattle.spv_reflect.proofs.written.put_kernels.Given as goal

abbrev pub invariant-loop-rest : goal.invariant-loop-rest
invariant-loop-rest l =
    (l.out ++ lines_of_kernels l.ids.void l.ids.set l.ids.text l.ids.number l.ids.line l.rest ≡ l.fn.out ++ lines_of_kernels l.fn.first.void l.fn.first.set l.fn.first.text l.fn.first.number l.fn.first.line l.fn.kernels)
    × (l.ids.void ≡ l.fn.first.void)
    × (l.ids.set ≡ l.fn.first.set)
    × (l.ids.text + length l.rest + args_in l.rest ≡ l.fn.first.text + length l.fn.kernels + args_in l.fn.kernels)
    × (l.ids.number + 3 * args_in l.rest ≡ l.fn.first.number + 3 * args_in l.fn.kernels)
    × (l.ids.line + length l.rest + 2 * args_in l.rest ≡ l.fn.first.line + length l.fn.kernels + 2 * args_in l.fn.kernels)

abbrev pub decreases-loop-rest : goal.decreases-loop-rest
decreases-loop-rest l = length l.rest
