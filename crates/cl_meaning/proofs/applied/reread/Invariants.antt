use Rattle.cl_meaning.proofs.Applications.{RereadTo}
use Rattle.cl_meaning.proofs.applied.reread.Given as goal

abbrev pub invariant-loop-k : goal.invariant-loop-k
invariant-loop-k l = RereadTo l.fn.from.bits l.fn.to.bits l.k-end l.ns l.k l.made.items
