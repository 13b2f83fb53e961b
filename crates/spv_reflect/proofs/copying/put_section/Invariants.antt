use Rattle.std.proofs.Common.{◌≡◌, ◌++◌, length}
use Rattle.spv_reflect.specs.Writing.{leading, behind}
use Rattle.spv_reflect.proofs.copying.put_section.Given as goal

abbrev pub invariant-loop-rest : goal.invariant-loop-rest
invariant-loop-rest l = (l.out ++ leading l.fn.section l.rest ≡ l.fn.out ++ leading l.fn.section l.fn.insts) × (behind l.fn.section l.rest ≡ behind l.fn.section l.fn.insts)

abbrev pub decreases-loop-rest : goal.decreases-loop-rest
decreases-loop-rest l = length l.rest
