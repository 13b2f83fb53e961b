use Rattle.std.proofs.Common.{◌≡◌, drop}
use Rattle.cl_rules.specs.Parts.{is_among}
use Rattle.cl_rules.proofs.part.is_among.Given as goal

abbrev pub invariant-loop-other : goal.invariant-loop-other
invariant-loop-other l = is_among l.k l.at ≡ is_among l.k (drop l.other-index l.at)
