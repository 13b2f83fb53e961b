use Rattle.std.proofs.Common.{refl}
use Rattle.clv_engine.specs.TopCall.{comes, misused}
use Rattle.clv_engine.proofs.TopSteps.{answers, starved_comes, prints_text}
use Rattle.clv_engine.proofs.top.answer_words.Goals as goal

pub returns-in-None : goal.returns-in-None
returns-in-None g c = answers _ _ _ _ _ 2 _ _ (misused c.in-None.ensures.other refl) c.print.ensures

pub returns-in-Err : goal.returns-in-Err
returns-in-Err g c = answers _ _ _ _ _ 4 _ _ (comes _ 4 _ c.in-Some.ensures.command (starved_comes _ _ _ c.in-Err.ensures.err)) c.print-in-Err.ensures

pub returns-in-Ok : goal.returns-in-Ok
returns-in-Ok g c = answers _ _ _ _ _ _ _ _ (comes _ _ _ c.in-Some.ensures.command c.in-Ok.ensures.ok) (prints_text _ _ _ _ _ _ c.as_bytes.ensures.value c.print-in-Ok.ensures)
