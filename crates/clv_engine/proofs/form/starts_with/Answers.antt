use Rattle.std.proofs.Common.{refl, sym, true≢false}
use Rattle.clv_engine.proofs.Prefixes.{prefix_more, prefix_differs}
use Rattle.clv_engine.proofs.form.starts_with.Goals as goal

pub returns-then-not-is : goal.returns-then-not-is
returns-then-not-is c = (λ h. absurd (true≢false (sym h)), λ h. absurd (prefix_differs c.args.tokens.now c.args.pieces.now c.loop-i.i c.index-tokens-i.result _ c.if-tokens-pieces.false c.loop-i-test.true c.index-tokens-i.is (λ e. true≢false (sym (c.if-not-is.ensures.1 e))) h))

pub loop-i-preserved : goal.loop-i-preserved
loop-i-preserved c = prefix_more c.args.tokens.now c.args.pieces.now c.loop-i.i c.index-tokens-i.result _ c.if-tokens-pieces.false c.loop-i-test.true c.index-tokens-i.is (c.if-not-is.ensures.0 refl) c.loop-i.invariant
