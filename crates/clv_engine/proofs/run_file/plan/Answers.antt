-- Each way to a report, from what the launch text is.
use Rattle.clv_engine.proofs.TopSteps.{if_ok}
use Rattle.clv_engine.proofs.RunStages.{launch_long, launch_faulty, plan_goes}
use Rattle.clv_engine.proofs.run_file.plan.Goals as goal

pub returns-in_default-clause-ok : goal.returns-in_default-clause-ok
returns-in_default-clause-ok g c = if_ok _ _ _ (λ r h. launch_long _ _ _ _ _ c.in_default.is h.0 h.1) c.report_launch_line.ensures

pub returns-in-Ok-clause-ok : goal.returns-in-Ok-clause-ok
returns-in-Ok-clause-ok g c = if_ok _ _ _ (λ r h. plan_goes _ _ _ _ _ _ _ _ _ c.in-Some.is c.as_slice.ensures c.in-Ok.ensures.ok h) c.schedule.ensures.ok

pub returns-in-Err-Fault-clause-ok : goal.returns-in-Err-Fault-clause-ok
returns-in-Err-Fault-clause-ok g c =
    let fault = rw c.in-Err-Fault.field-0-is at c.in-Err-Fault.ensures.fault in
    if_ok _ _ _ (λ r h. launch_faulty _ _ _ _ c.in-Err-Fault.number c.in-Err-Fault.line _ _ _ c.in-Some.is c.as_slice.ensures fault h.0 h.1) c.report_launch_line-in-Err-Fault.ensures
