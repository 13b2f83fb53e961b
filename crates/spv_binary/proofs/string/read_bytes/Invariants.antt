use Rattle.std.proofs.Common.{◌≡◌, drop}
use Rattle.spv_binary.specs.Reading.{before, bytes_at}
use Rattle.spv_binary.proofs.string.read_bytes.Given as goal

abbrev pub invariant-loop-word : goal.invariant-loop-word
invariant-loop-word l = before l.text (bytes_at (drop l.word-index l.words)) ≡ bytes_at l.words
