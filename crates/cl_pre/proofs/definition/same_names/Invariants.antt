use Rattle.std.proofs.Common.{◌≡◌, drop}
use Rattle.cl_pre.specs.Definitions.{same_names}
use Rattle.cl_pre.proofs.definition.same_names.Given as goal

abbrev pub invariant-loop-at : goal.invariant-loop-at
invariant-loop-at l = same_names (drop l.at l.a) (drop l.at l.b) ≡ same_names l.a l.b
