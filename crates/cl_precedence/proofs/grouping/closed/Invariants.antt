use Rattle.std.proofs.Common.{length}
use Rattle.cl_precedence.specs.Waiting.{Keeps}
use Rattle.cl_precedence.proofs.grouping.closed.Given as goal

abbrev pub invariant-loop-left : goal.invariant-loop-left
invariant-loop-left g l = Keeps g.N.Operand.level g.N.Operand.Joins l.initial.waiting.items l.fn.right l.waiting.items l.here l.level

abbrev pub decreases-loop-left : goal.decreases-loop-left
decreases-loop-left g l = length l.waiting.items
