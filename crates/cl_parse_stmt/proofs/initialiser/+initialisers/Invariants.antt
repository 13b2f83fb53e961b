use Rattle.std.proofs.Common.{length, ◌-◌, ◌*◌, ◌+◌}
use Rattle.cl_parse_stmt.proofs.Lists.{InitsAt}
use Rattle.cl_parse_stmt.proofs.initialiser.+initialisers.Given as goal

abbrev pub decreases-initialiser : goal.decreases-initialiser
decreases-initialiser l = 2 * (length l.reader.now - l.at) + 1

abbrev pub decreases-braced : goal.decreases-braced
decreases-braced l = 2 * (length l.reader.now - l.at)

abbrev pub decreases-braced-loop-alloc : goal.decreases-braced-loop-alloc
decreases-braced-loop-alloc l = length l.reader - l.here

abbrev pub invariant-braced-loop-alloc : goal.invariant-braced-loop-alloc
invariant-braced-loop-alloc l = InitsAt l.reader l.fn.at l.here l.items.items
