use Rattle.std.proofs.Common.{◌≡◌, [], length}
use Rattle.cl_pre.specs.Fronts.{line_from}
use Rattle.cl_pre.proofs.front.line_of.Given as goal

abbrev pub invariant-loop-beyond : goal.invariant-loop-beyond
invariant-loop-beyond l = line_from l.tokens l.beyond ≡ line_from [] l.fn.input

abbrev pub decreases-loop-beyond : goal.decreases-loop-beyond
decreases-loop-beyond l = length l.beyond
