use Rattle.std.proofs.Common.{length, ◌-◌, ◌≡◌, ◌≤◌, ◌++◌, take, drop}
use Rattle.std.specs.Prelude.{take_while}
use Rattle.cl_lexer.specs.Numbers.{is_digit_of}
use Rattle.cl_lexer.proofs.number.digits.Given as goal

abbrev pub invariant-loop-n : goal.invariant-loop-n
invariant-loop-n l = record {
  within : l.n ≤ length l.text;
  rest : take l.n l.text ++ take_while (is_digit_of l.radix) (drop l.n l.text) ≡ take_while (is_digit_of l.radix) l.text;
}

abbrev pub decreases-loop-n : goal.decreases-loop-n
decreases-loop-n l = length l.text - l.n
