use Rattle.cl_macro.proofs.Each.{each_answers}
use Rattle.cl_macro.proofs.expansion.expand_each.Goals as goal

pub returns-in_err-expand : goal.returns-in_err-expand
returns-in_err-expand c = each_answers _ _ _ _ _ _ _ _ _ c.in-Some.ensures c.in_ok-input.ensures c.in_err-expand.ensures c.loop-arg.invariant c.from_residual-in_err-expand.ensures.1
