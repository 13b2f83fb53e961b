use Rattle.cl_pre.proofs.Leading.{Leads}
use Rattle.cl_pre.proofs.expansion.preprocess.Given as goal

abbrev pub invariant-loop : goal.invariant-loop
invariant-loop l = Leads l.fn.whole l.state l.out
