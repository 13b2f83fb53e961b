use Rattle.std.proofs.Common.{◌≡◌, ◌++◌, take}
use Rattle.spv_module.specs.Words.{little_endian}
use Rattle.spv_binary.proofs.writing.put_words.Given as goal

abbrev pub invariant-loop-word : goal.invariant-loop-word
invariant-loop-word l =
    l.bytes ≡ l.fn.bytes ++ little_endian (take l.word-index l.words)
