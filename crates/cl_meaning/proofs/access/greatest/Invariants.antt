use Rattle.cl_meaning.proofs.Accesses.{GreatestTo}
use Rattle.cl_meaning.proofs.access.greatest.Given as goal

abbrev pub invariant-loop-n : goal.invariant-loop-n
invariant-loop-n l = GreatestTo l.ns l.n-index l.best
