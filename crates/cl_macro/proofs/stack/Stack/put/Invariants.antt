use Rattle.std.proofs.Common.{◌≡◌, ◌++◌, length}
use Rattle.cl_macro.proofs.stack.Stack.put.Given as goal

abbrev pub invariant-loop-item : goal.invariant-loop-item
invariant-loop-item g l = l.items ++ l.self ≡ l.fn.items ++ l.fn.self

abbrev pub decreases-loop-item : goal.decreases-loop-item
decreases-loop-item g l = length l.items
