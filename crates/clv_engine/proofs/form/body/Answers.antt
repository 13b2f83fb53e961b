use Rattle.std.proofs.Common.{refl, ap, length, arith}
use Rattle.std.proofs.lemmas.Grind.{common_steps}
use Rattle.clv_engine.proofs.Sums.{terms_none, has_term, terms_more, sum_done, sum_without_term}
use Rattle.clv_engine.proofs.form.body.Goals as goal

pub loop-init : goal.loop-init
loop-init c = record { count = ap length c.new-terms.ensures; read = terms_none _ _ c.new-terms.ensures }

pub returns-in_default : goal.returns-in_default
returns-in_default c = sum_without_term _ _ _ c.loop.invariant.read c.in_default.ensures

pub returns-then-is_end : goal.returns-then-is_end
returns-then-is_end c =
    let term = has_term _ _ _ _ c.in-Some.ensures.0 c.in-Some.ensures.1 c.behind-rest.ensures c.width.ensures in
    sum_done _ _ _ _ _ _ c.loop.invariant.read term (c.if-is_end.ensures.0 refl) c.in_ok-push.ensures.ok (omega arith)

pub loop-preserved : goal.loop-preserved
loop-preserved c =
    let term = has_term _ _ _ _ c.in-Some.ensures.0 c.in-Some.ensures.1 c.behind-rest.ensures c.width.ensures in
    record {
      count = grind (arith, common_steps, c.loop.invariant.count, c.in_ok-push.ensures.ok);
      read = terms_more _ _ _ _ _ _ _ c.loop.invariant.read term (c.if-not-starts_with.ensures.0 refl) c.behind-rest-in-loop.ensures c.in_ok-push.ensures.ok;
    }
