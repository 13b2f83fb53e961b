use Rattle.std.proofs.Common.{◌≡◌, replicate}
use Rattle.cl_meaning.specs.Values.{Pattern}
use Rattle.cl_meaning.proofs.ending.one_in_each.Given as goal

abbrev pub invariant-loop-component : goal.invariant-loop-component
invariant-loop-component l = l.v.items ≡ replicate l._component (Pattern 1)
