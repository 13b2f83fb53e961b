use Rattle.std.proofs.Common.{◌≡◌, ◌++◌, [], ◌∷◌, length}
use Rattle.spv_reflect.specs.Writing.{all_ids}
use Rattle.spv_module.specs.declared.module.Operand.TheVariants.{Id, Word}
use Rattle.spv_reflect.proofs.written.extended_line.Given as goal

abbrev pub invariant-loop-rest : goal.invariant-loop-rest
invariant-loop-rest l = l.operands ++ all_ids l.rest ≡ Id l.fn.ids.void ∷ Id l.fn.id ∷ Id l.fn.ids.set ∷ Word l.fn.number ∷ all_ids l.fn.named

abbrev pub decreases-loop-rest : goal.decreases-loop-rest
decreases-loop-rest l = length l.rest
