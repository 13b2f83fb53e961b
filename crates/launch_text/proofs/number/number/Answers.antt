use Rattle.std.proofs.Common.{refl, sym}
use Rattle.launch_text.proofs.Numbers.{writes_more, number_too_large}
use Rattle.launch_text.proofs.number.number.Goals as goal

pub returns-then-more-most : goal.returns-then-more-most
returns-then-more-most c = number_too_large _ c.loop-digit.digit-index _ _ _ c.loop-digit-test.true c.if-not-is_ascii_digit.ensures.cases c.loop-digit.invariant.writes refl c.if-more-most.true

pub loop-digit-preserved : goal.loop-digit-preserved
loop-digit-preserved c = record {
  writes = writes_more _ _ _ _ c.loop-digit-test.true (sym c.if-not-is_ascii_digit.ensures.value) c.if-not-is_ascii_digit.ensures.cases c.loop-digit.invariant.writes refl;
  limit = c.if-more-most.false;
}
