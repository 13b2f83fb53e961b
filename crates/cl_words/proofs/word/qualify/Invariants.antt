use Rattle.std.proofs.Common.{◌≡◌, drop}
use Rattle.cl_words.specs.Words.{qualify}
use Rattle.cl_words.proofs.word.qualify.Given as goal

abbrev pub invariant-loop-qual : goal.invariant-loop-qual
invariant-loop-qual l = qualify l.quals l.initial.all ≡ qualify (drop l.qual-index l.quals) l.all
