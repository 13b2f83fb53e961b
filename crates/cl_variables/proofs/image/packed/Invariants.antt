use Rattle.std.proofs.Common.{◌≡◌, ◌++◌, drop}
use Rattle.cl_variables.specs.Bytes.{packed}
use Rattle.cl_variables.proofs.image.packed.Given as goal

abbrev pub invariant-loop-n : goal.invariant-loop-n
invariant-loop-n l = l.out.items ++ packed l.width (drop l.n-index l.ns) ≡ l.initial.out.items ++ packed l.width l.ns
