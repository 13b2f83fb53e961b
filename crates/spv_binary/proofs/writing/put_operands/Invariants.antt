use Rattle.std.proofs.Common.{◌≡◌, ◌++◌, drop}
use Rattle.std.specs.List.{flat_map}
use Rattle.spv_module.specs.Words.{operand_words, little_endian}
use Rattle.spv_binary.proofs.writing.put_operands.Given as goal

abbrev pub invariant-loop-operand : goal.invariant-loop-operand
invariant-loop-operand l =
    l.bytes ++ little_endian (flat_map operand_words (drop l.operand-index l.operands)) ≡ l.fn.bytes ++ little_endian (flat_map operand_words l.operands)
