use Rattle.std.proofs.Common.{map, ap, ◌∙◌}
use Rattle.cl_pre.specs.Conditions.{term_of}
use Rattle.cl_pre.proofs.Steps.{condition_decided, condition_stopped}
use Rattle.cl_pre.proofs.condition.holds.Goals as goal

pub returns-in_err-out : goal.returns-in_err-out
returns-in_err-out c = condition_stopped _ _ _ _ _ c.in_err-out.ensures c.from_residual.ensures.1

pub returns : goal.returns
returns c = condition_decided _ _ _ _ _ _ _ c.held.ensures c.in_ok-out.ensures (c.as_slice-2.ensures ∙ c.in_ok-terms.ensures ∙ ap (map term_of) c.as_slice.ensures) c.in_ok-judged.ensures
