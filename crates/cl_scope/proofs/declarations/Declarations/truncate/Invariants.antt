use Rattle.std.proofs.Common.{◌≡◌, length}
use Rattle.cl_scope.specs.Names.{outer_at}
use Rattle.cl_scope.proofs.declarations.Declarations.truncate.Given as goal

abbrev pub invariant-loop-self : goal.invariant-loop-self
invariant-loop-self l = outer_at l.len l.self ≡ outer_at l.len l.fn.self

abbrev pub decreases-loop-self : goal.decreases-loop-self
decreases-loop-self l = length l.self
