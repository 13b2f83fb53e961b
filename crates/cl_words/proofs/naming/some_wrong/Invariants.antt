use Rattle.std.proofs.Common.{◌≡◌, drop}
use Rattle.cl_words.specs.Words.{some_wrong}
use Rattle.cl_words.proofs.naming.some_wrong.Given as goal

abbrev pub invariant-loop-length : goal.invariant-loop-length
invariant-loop-length l = some_wrong l.lengths ≡ some_wrong (drop l.length-index l.lengths)
