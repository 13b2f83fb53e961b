use Rattle.std.proofs.Common.{◌≡◌, length}
use Rattle.spv_reflect.specs.Writing.{find_in}
use Rattle.spv_reflect.proofs.choice.find.Given as goal

abbrev pub invariant-loop-rest : goal.invariant-loop-rest
invariant-loop-rest l = find_in l.fn.body l.fn.wanted l.rest ≡ find_in l.fn.body l.fn.wanted l.fn.body

abbrev pub decreases-loop-rest : goal.decreases-loop-rest
decreases-loop-rest l = length l.rest
