use Rattle.cl_pre.proofs.Leading.{leads_stopped}
use Rattle.cl_pre.proofs.expansion.preprocess.Goals as goal

pub returns-in_err-step : goal.returns-in_err-step
returns-in_err-step c = leads_stopped _ c.loop.state c.loop.out _ _ c.in_err-step.ensures c.loop.invariant c.from_residual.ensures.1
