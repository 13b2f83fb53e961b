use Rattle.cl_type_expr.proofs.Arrays.{ArraysSoFar}
use Rattle.cl_type_expr.proofs.declaring.arrays.Given as goal

abbrev pub decreases-loop-at : goal.decreases-loop-at
decreases-loop-at l = l.at

abbrev pub invariant-loop-at : goal.invariant-loop-at
invariant-loop-at l = ArraysSoFar l.initial.types l.types l.fn.elem l.numbers l.at l.ty
