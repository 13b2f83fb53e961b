use Rattle.std.proofs.Common.{◌≡◌, drop}
use Rattle.cl_words.specs.Words.{has_const}
use Rattle.cl_words.proofs.word.has_const.Given as goal

abbrev pub invariant-loop-qual : goal.invariant-loop-qual
invariant-loop-qual l = has_const l.quals ≡ has_const (drop l.qual-index l.quals)
