use Rattle.std.proofs.Common.{◌≡◌, take}
use Rattle.cl_meaning.specs.Values.{patterns_in}
use Rattle.cl_meaning.proofs.entry.patterns_in.Given as goal

abbrev pub invariant-loop-scalar : goal.invariant-loop-scalar
invariant-loop-scalar l = l.ns.items ≡ patterns_in (take l.scalar-index l.scalars)
