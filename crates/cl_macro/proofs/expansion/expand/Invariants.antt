use Rattle.cl_macro.proofs.Leading.{Leads}
use Rattle.cl_macro.proofs.expansion.expand.Given as goal

abbrev pub invariant-loop : goal.invariant-loop
invariant-loop l = Leads l.room l.table l.fn.input l.state
