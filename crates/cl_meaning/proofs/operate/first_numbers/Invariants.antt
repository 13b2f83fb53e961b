use Rattle.cl_meaning.proofs.Operating.{NumbersTo}
use Rattle.cl_meaning.proofs.operate.first_numbers.Given as goal

abbrev pub invariant-loop-k : goal.invariant-loop-k
invariant-loop-k l = NumbersTo l.n l.k l.ks.items
