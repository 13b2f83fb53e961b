use Rattle.std.proofs.Common.{◌≡◌, drop}
use Rattle.cl_lexer.specs.Marks.{marks, number_among, mark_number}
use Rattle.cl_lexer.proofs.mark.mark_number.Given as goal

abbrev pub invariant-loop-number : goal.invariant-loop-number
invariant-loop-number l = number_among l.number (drop l.number marks) l.word ≡ mark_number l.word
