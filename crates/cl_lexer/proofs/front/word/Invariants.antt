use Rattle.std.proofs.Common.{length, ◌-◌, ◌≡◌, ◌≤◌, ◌++◌, take, drop}
use Rattle.std.specs.Prelude.{take_while}
use Rattle.cl_lexer.specs.Bytes.{is_word}
use Rattle.cl_lexer.proofs.front.word.Given as goal

abbrev pub invariant-loop-n : goal.invariant-loop-n
invariant-loop-n l = record {
  within : l.n ≤ length l.text;
  rest : take l.n l.text ++ take_while is_word (drop l.n l.text) ≡ take_while is_word l.text;
}

abbrev pub decreases-loop-n : goal.decreases-loop-n
decreases-loop-n l = length l.text - l.n
