use Rattle.cl_meaning.proofs.Applications.{ComponentsTo}
use Rattle.cl_meaning.proofs.applied.components.Given as goal

abbrev pub invariant-loop-k : goal.invariant-loop-k
invariant-loop-k l = ComponentsTo l.function l.from l.nss l.k-end l.k l.made.items
