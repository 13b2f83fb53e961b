use Rattle.std.proofs.Common.{◌≡◌, ◌++◌, length}
use Rattle.spv_binary.specs.Faults.{words_in_order}
use Rattle.spv_binary.proofs.words.words_of.Given as goal

abbrev pub invariant-loop-rest : goal.invariant-loop-rest
invariant-loop-rest l = l.words.items ++ words_in_order l.high_first l.rest ≡ words_in_order l.high_first l.bytes

abbrev pub decreases-loop-rest : goal.decreases-loop-rest
decreases-loop-rest l = length l.rest
