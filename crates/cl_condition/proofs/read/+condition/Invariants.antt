use Rattle.std.proofs.Common.{length, ◌-◌, ◌*◌, ◌+◌}
use Rattle.cl_condition.specs.Readings.{PartAt}
use Rattle.cl_condition.proofs.read.+condition.Given as goal

abbrev pub decreases-condition : goal.decreases-condition
decreases-condition l = 4 * (length l.terms.now - l.at) + 3

abbrev pub decreases-row : goal.decreases-row
decreases-row l = 4 * (length l.terms.now - l.at) + 2

abbrev pub decreases-unary : goal.decreases-unary
decreases-unary l = 4 * (length l.terms.now - l.at) + 1

abbrev pub decreases-bracket : goal.decreases-bracket
decreases-bracket l = 4 * (length l.terms.now - l.at)

abbrev pub decreases-prefix : goal.decreases-prefix
decreases-prefix l = 4 * (length l.terms.now - l.at)

abbrev pub decreases-row-loop-operator : goal.decreases-row-loop-operator
decreases-row-loop-operator l = length l.terms - l.here

abbrev pub invariant-row-loop-operator : goal.invariant-row-loop-operator
invariant-row-loop-operator l = PartAt l.terms l.fn.at l.here l.first l.rest.items
