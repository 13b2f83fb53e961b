use Rattle.std.proofs.Common.{◌≡◌, take}
use Rattle.cl_meaning.specs.Values.{patterns}
use Rattle.cl_meaning.proofs.entry.value_of.Given as goal

abbrev pub invariant-loop-n : goal.invariant-loop-n
invariant-loop-n l = l.v.items ≡ patterns (take l.n-index l.ns)
