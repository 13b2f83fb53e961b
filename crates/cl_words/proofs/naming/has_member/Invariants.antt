use Rattle.std.proofs.Common.{◌≡◌, drop}
use Rattle.cl_words.specs.Words.{has_member}
use Rattle.cl_words.proofs.naming.has_member.Given as goal

abbrev pub invariant-loop-i : goal.invariant-loop-i
invariant-loop-i l = has_member l.name l.members ≡ has_member l.name (drop l.i l.members)
