use Rattle.std.proofs.Common.{◌≡◌, drop}
use Rattle.cl_pre.specs.Definitions.{same_kinds}
use Rattle.cl_pre.proofs.definition.same_kinds.Given as goal

abbrev pub invariant-loop-at : goal.invariant-loop-at
invariant-loop-at l = same_kinds (drop l.at l.a) (drop l.at l.b) ≡ same_kinds l.a l.b
