use Rattle.std.proofs.Common.{◌≡◌, drop}
use Rattle.cl_rules.specs.Parts.{repeats}
use Rattle.cl_rules.proofs.part.repeats.Given as goal

abbrev pub invariant-loop-i : goal.invariant-loop-i
invariant-loop-i l = repeats l.at ≡ repeats (drop l.i l.at)
