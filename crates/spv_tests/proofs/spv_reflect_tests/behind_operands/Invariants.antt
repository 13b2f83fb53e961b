use Rattle.std.proofs.Common.{◌≡◌, ◌+◌, length}
use Rattle.std.specs.List.{flat_map}
use Rattle.spv_module.specs.Words.{operand_words}
use Rattle.spv_tests.proofs.spv_reflect_tests.behind_operands.Given as goal

abbrev pub invariant-loop-rest : goal.invariant-loop-rest
invariant-loop-rest l = length (flat_map operand_words l.fn.operands) + l.left ≡ l.fn.words + length (flat_map operand_words l.rest)

abbrev pub decreases-loop-rest : goal.decreases-loop-rest
decreases-loop-rest l = length l.rest
