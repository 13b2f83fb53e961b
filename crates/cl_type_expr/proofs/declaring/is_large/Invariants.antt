use Rattle.cl_type_expr.proofs.Arrays.{BytesSoFar}
use Rattle.cl_type_expr.proofs.declaring.is_large.Given as goal

abbrev pub invariant-loop-number : goal.invariant-loop-number
invariant-loop-number l = BytesSoFar l.size l.numbers l.number-index l.bytes
