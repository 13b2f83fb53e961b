-- Each way to a report, from what the compiler has answered.
use Rattle.std.proofs.Common.{refl}
use Rattle.clv_engine.proofs.TopSteps.{if_ok}
use Rattle.clv_engine.proofs.RunStages.{too_long, refuses, plans}
use Rattle.clv_engine.proofs.run_file.judge.Goals as goal

pub returns-in_default-clause-ok : goal.returns-in_default-clause-ok
returns-in_default-clause-ok g c = if_ok _ _ _ (λ r h. too_long _ _ _ _ _ _ c.in_default.is refl refl refl h.0 h.1) c.report_refused.ensures

pub returns-in-Ok-clause-ok : goal.returns-in-Ok-clause-ok
returns-in-Ok-clause-ok g c = if_ok _ _ _ (λ r h. plans _ _ _ _ _ _ _ _ _ _ c.in-Some.is c.as_slice.ensures c.in-Ok.ensures.compiled c.as_slice-in-Ok.ensures h) c.plan.ensures.ok

pub returns-in-Err-Out-clause-ok : goal.returns-in-Err-Out-clause-ok
returns-in-Err-Out-clause-ok g c =
    let out = rw c.in-Err-Out.field-0-is at c.in-Err-Out.ensures.refused in
    if_ok _ _ _ (λ r h. refuses _ _ _ _ _ _ _ c.in-Err-Out.offence c.in-Some.is c.as_slice.ensures out h.0 h.1) c.report_refused-in-Err-Out.ensures
