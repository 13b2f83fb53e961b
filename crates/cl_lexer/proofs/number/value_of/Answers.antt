use Rattle.std.proofs.Common.{◌+◌, ◌*◌, ap}
use Rattle.cl_lexer.proofs.Numbers.{value_too_large}
use Rattle.cl_lexer.proofs.number.value_of.Goals as goal

pub returns-then-more : goal.returns-then-more
returns-then-more c = value_too_large c.args.radix c.args.digits.now c.loop-digit.digit-index c.loop-digit.value _ c.requires.low c.loop-digit-test.true c.loop-digit.invariant (ap (λ d. c.loop-digit.value * c.args.radix + d) c.digit_value.ensures) c.if-more.true
