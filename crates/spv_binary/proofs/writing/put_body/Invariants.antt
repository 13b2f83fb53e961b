use Rattle.std.proofs.Common.{◌≡◌, ◌++◌, drop}
use Rattle.std.specs.List.{flat_map}
use Rattle.spv_module.specs.Words.{inst_words, little_endian}
use Rattle.spv_binary.proofs.writing.put_body.Given as goal

abbrev pub invariant-loop-inst : goal.invariant-loop-inst
invariant-loop-inst l =
    l.bytes ++ little_endian (flat_map inst_words (drop l.inst-index l.body)) ≡ l.fn.bytes ++ little_endian (flat_map inst_words l.body)
