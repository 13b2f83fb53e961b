use Rattle.std.proofs.Common.{◌≡◌, drop}
use Rattle.cl_words.specs.Words.{has_restrict}
use Rattle.cl_words.proofs.word.has_restrict.Given as goal

abbrev pub invariant-loop-qual : goal.invariant-loop-qual
invariant-loop-qual l = has_restrict l.quals ≡ has_restrict (drop l.qual-index l.quals)
