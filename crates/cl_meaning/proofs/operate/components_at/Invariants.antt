use Rattle.std.proofs.Common.{◌≡◌, take}
use Rattle.cl_meaning.specs.Operations.{components}
use Rattle.cl_meaning.proofs.operate.components_at.Given as goal

abbrev pub invariant-loop-k : goal.invariant-loop-k
invariant-loop-k l = l.made.items ≡ components (take l.k-index l.at) l.v
