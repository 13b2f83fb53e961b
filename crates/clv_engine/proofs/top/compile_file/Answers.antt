-- Each way to a report, from what the load and the compiler have answered.
use Rattle.std.proofs.Common.{refl, subst}
use Rattle.clv_engine.specs.FirstForm.{IsOut}
use Rattle.clv_engine.proofs.TopSteps.{if_ok, lent_stored, load_refused, load_failed, load_large}
use Rattle.clv_engine.proofs.top.compile_file.Goals as goal

pub returns-in-Ok-compile-clause-ok : goal.returns-in-Ok-compile-clause-ok
returns-in-Ok-compile-clause-ok g c = if_ok _ _ _ (λ r h. lent_stored _ _ _ _ _ _ _ _ _ _ _ _ c.in-Ok.ensures c.as_slice.ensures c.in-Ok-compile.ensures.compiled c.as_slice-in-Ok-compile.ensures h) c.store_module.ensures.ok

pub returns-in-Err-Out-clause-ok : goal.returns-in-Err-Out-clause-ok
returns-in-Err-Out-clause-ok g c =
    let out = rw c.in-Err-Out.field-0-is at c.in-Err-Out.ensures.refused in
    if_ok _ _ _ (λ r h. load_refused _ _ _ _ _ _ _ _ _ c.in-Ok.ensures (subst (λ t. IsOut t c.in-Err-Out.offence) c.as_slice.ensures out) h.0 h.1) c.report_refused.ensures

pub returns-in-Err-Failed-clause-ok : goal.returns-in-Err-Failed-clause-ok
returns-in-Err-Failed-clause-ok g c =
    let loads = rw c.in-Err-Failed.field-0-is at c.in-Err-Failed.ensures in
    if_ok _ _ _ (λ r h. load_failed _ _ _ _ _ _ _ loads h.0 h.1) c.report_file.ensures

pub returns-in-Err-TooLarge-clause-ok : goal.returns-in-Err-TooLarge-clause-ok
returns-in-Err-TooLarge-clause-ok g c =
    let loads = rw c.in-Err-TooLarge.field-0-is at c.in-Err-TooLarge.ensures in
    if_ok _ _ _ (λ r h. load_large _ _ _ _ _ _ _ _ loads refl refl refl h.0 h.1) c.report_refused-in-Err-TooLarge.ensures
