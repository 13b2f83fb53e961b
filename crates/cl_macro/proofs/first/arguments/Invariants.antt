use Rattle.std.proofs.Common.{◌≡◌, [], length, ◌+◌, ◌≤◌}
use Rattle.cl_macro.specs.Firsts.{arguments}
use Rattle.cl_macro.proofs.first.arguments.Given as goal

abbrev pub invariant-loop-t : goal.invariant-loop-t
invariant-loop-t l = record { same : arguments l.whole l.now l.depth l.rest ≡ arguments [] [] 0 l.fn.inside; within : l.depth + length l.rest ≤ l.n }

abbrev pub decreases-loop-t : goal.decreases-loop-t
decreases-loop-t l = length l.rest
