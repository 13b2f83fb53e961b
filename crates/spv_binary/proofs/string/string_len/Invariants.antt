use Rattle.std.proofs.Common.{◌≡◌, ◌+◌, drop}
use Rattle.spv_binary.specs.Faults.{string_len}
use Rattle.spv_binary.proofs.string.string_len.Given as goal

abbrev pub invariant-loop-at : goal.invariant-loop-at
invariant-loop-at l = l.at + string_len (drop l.at l.words) ≡ string_len l.words
