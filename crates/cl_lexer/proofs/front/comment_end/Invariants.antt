use Rattle.std.proofs.Common.{◌≡◌, ◌+◌, drop}
use Rattle.std.specs.Prelude.{option_map}
use Rattle.cl_lexer.specs.Fronts.{comment_end}
use Rattle.cl_lexer.proofs.front.comment_end.Given as goal

abbrev pub invariant-loop-at : goal.invariant-loop-at
invariant-loop-at l = option_map (λ n. l.at + n) (comment_end (drop l.at l.text)) ≡ comment_end l.text
