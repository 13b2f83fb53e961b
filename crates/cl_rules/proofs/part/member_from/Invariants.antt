use Rattle.std.proofs.Common.{◌≡◌, drop}
use Rattle.cl_rules.specs.Parts.{member_from}
use Rattle.cl_rules.proofs.part.member_from.Given as goal

abbrev pub invariant-loop-i : goal.invariant-loop-i
invariant-loop-i l = member_from 0 l.name l.members ≡ member_from l.i l.name (drop l.i l.members)
