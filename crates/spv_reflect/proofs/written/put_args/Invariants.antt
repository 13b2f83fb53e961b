use Rattle.std.proofs.Common.{◌≡◌, ◌+◌, ◌*◌, ◌^◌, ◌<◌, ◌++◌, length}
use Rattle.spv_reflect.specs.Writing.{lines_of_args}
use Rattle.spv_reflect.proofs.written.put_args.Given as goal

abbrev pub invariant-loop-rest : goal.invariant-loop-rest
invariant-loop-rest l =
    (l.out ++ lines_of_args l.ids.void l.ids.set l.fn.kernel l.ids.text l.ids.number l.ids.line l.rest ≡ l.fn.out ++ lines_of_args l.fn.first.void l.fn.first.set l.fn.kernel l.fn.first.text l.fn.first.number l.fn.first.line l.fn.args)
    × (l.ids.text + length l.rest < 2 ^ 32)
    × (l.ids.number + 3 * length l.rest < 2 ^ 32)
    × (l.ids.line + 2 * length l.rest < 2 ^ 32)

abbrev pub decreases-loop-rest : goal.decreases-loop-rest
decreases-loop-rest l = length l.rest
