use Rattle.std.proofs.Common.{length}
use Rattle.cl_macro.proofs.Each.{LeadsEach}
use Rattle.cl_macro.proofs.expansion.expand_each.Given as goal

abbrev pub invariant-loop-arg : goal.invariant-loop-arg
invariant-loop-arg l = LeadsEach l.table l.fn.args l.left l.done

abbrev pub decreases-loop-arg : goal.decreases-loop-arg
decreases-loop-arg l = length l.left
