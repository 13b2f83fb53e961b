use Rattle.std.proofs.Common.{◌≡◌, ◌++◌, ◌-◌}
use Rattle.cl_variables.specs.Bytes.{little}
use Rattle.cl_variables.proofs.image.little.Given as goal

abbrev pub invariant-loop-byte : goal.invariant-loop-byte
invariant-loop-byte l = l.out.items ++ little (l.width - l._byte) l.rest ≡ l.initial.out.items ++ little l.width l.n
