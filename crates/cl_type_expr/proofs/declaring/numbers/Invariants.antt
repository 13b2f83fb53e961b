use Rattle.std.proofs.Common.{◌≡◌, ◌++◌, drop}
use Rattle.cl_words.specs.Words.{numbers}
use Rattle.cl_type_expr.proofs.declaring.numbers.Given as goal

abbrev pub invariant-loop-length : goal.invariant-loop-length
invariant-loop-length l = numbers l.first l.lengths ≡ l.all ++ numbers l.missing (drop l.length-index l.lengths)
