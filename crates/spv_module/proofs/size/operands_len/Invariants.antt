use Rattle.std.proofs.Common.{◌≡◌, ◌+◌, drop, length}
use Rattle.std.specs.List.{flat_map}
use Rattle.spv_module.specs.Words.{operand_words}
use Rattle.spv_module.proofs.size.operands_len.Given as goal

abbrev pub invariant-loop-operand : goal.invariant-loop-operand
invariant-loop-operand l = l.count + length (flat_map operand_words (drop l.operand-index l.operands)) ≡ length (flat_map operand_words l.operands)
