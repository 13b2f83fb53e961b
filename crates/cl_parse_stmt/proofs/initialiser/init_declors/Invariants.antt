use Rattle.std.proofs.Common.{length, ◌-◌}
use Rattle.cl_parse_stmt.proofs.Lists.{DeclorsAt}
use Rattle.cl_parse_stmt.proofs.initialiser.init_declors.Given as goal

abbrev pub decreases-loop-alloc : goal.decreases-loop-alloc
decreases-loop-alloc l = length l.reader - l.here

abbrev pub invariant-loop-alloc : goal.invariant-loop-alloc
invariant-loop-alloc l = DeclorsAt l.reader l.at l.here l.items.items
