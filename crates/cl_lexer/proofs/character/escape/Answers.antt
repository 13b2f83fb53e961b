use Rattle.std.proofs.Common.{ap, arith, drop, ◌∙◌}
use Rattle.cl_lexer.specs.Numbers.{digits_of}
use Rattle.cl_lexer.proofs.Numbers.{octal_small, hexadecimal_small}
use Rattle.cl_lexer.proofs.character.escape.Goals as goal

pub few-requires-clause-few : goal.few-requires-clause-few
few-requires-clause-few c = octal_small _ (drop 1 c.args.text.now) (c.digits-digits.ensures.digits ∙ ap (digits_of 8) c.window.ensures.window)

pub few-requires-else-is_empty-clause-few : goal.few-requires-else-is_empty-clause-few
few-requires-else-is_empty-clause-few c = let small = hexadecimal_small _ (drop 2 c.args.text.now) (c.digits-digits-then-byte-eq120.ensures.digits ∙ ap (digits_of 16) c.window-then-byte-eq120.ensures.window) in omega (arith, small)

pub overflow_cast-result-else-is_empty : goal.overflow_cast-result-else-is_empty
overflow_cast-result-else-is_empty c = let small = hexadecimal_small _ (drop 2 c.args.text.now) (c.digits-digits-then-byte-eq120.ensures.digits ∙ ap (digits_of 16) c.window-then-byte-eq120.ensures.window) in omega (arith, small, c.few-else-is_empty.ensures)
