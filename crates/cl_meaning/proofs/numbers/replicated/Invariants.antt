use Rattle.std.proofs.Common.{◌≡◌, replicate}
use Rattle.cl_meaning.proofs.numbers.replicated.Given as goal

abbrev pub invariant-loop-copy : goal.invariant-loop-copy
invariant-loop-copy l = l.ns.items ≡ replicate l._copy l.n
