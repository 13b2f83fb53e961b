use Rattle.std.proofs.Common.{◌∷◌, sym, ap, ◌∙◌}
use Rattle.cl_pre.proofs.Steps.{call_stopped, ask_stopped, step_asked}
use Rattle.cl_pre.proofs.expansion.step.Goals as goal

pub returns-in_err-input-in-Calls : goal.returns-in_err-input-in-Calls
returns-in_err-input-in-Calls c = call_stopped _ _ _ _ _ _ _ (sym c.in-Calls.is ∙ c.in_ok-progress.ensures) c.in_err-input-in-Calls.ensures c.from_residual-in_err-input-in-Calls.ensures.1

pub returns-in_err-holds-in-Asks : goal.returns-in_err-holds-in-Asks
returns-in_err-holds-in-Asks c = ask_stopped _ _ _ _ _ _ _ (sym c.in-Asks.is ∙ c.in_ok-progress.ensures) c.in_ok-of-in-Asks.ensures c.in_err-holds-in-Asks.ensures c.from_residual-in_err-holds-in-Asks.ensures.1

pub returns-in_ok-push-in-Asks : goal.returns-in_ok-push-in-Asks
returns-in_ok-push-in-Asks c = step_asked _ c.in-Asks.rest _ _ _ c.in_ok-holds-in-Asks.holds _ (sym c.in-Asks.is ∙ c.in_ok-progress.ensures) c.in_ok-of-in-Asks.ensures c.in_ok-holds-in-Asks.ensures (c.in_ok-push-in-Asks.ensures.ok ∙ ap (λ g. g ∷ c.in-Asks.rest.groups) c.opened.ensures)
