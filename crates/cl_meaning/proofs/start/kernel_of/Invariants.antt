use Rattle.cl_meaning.proofs.Kernels.{Seeks}
use Rattle.cl_meaning.proofs.start.kernel_of.Given as goal

abbrev pub invariant-loop-k : goal.invariant-loop-k
invariant-loop-k l = Seeks l.name l.functions l.k
