use Rattle.std.proofs.Common.{◌≡◌, take}
use Rattle.cl_type_expr.proofs.members.Members.list.Given as goal

abbrev pub invariant-loop-i : goal.invariant-loop-i
invariant-loop-i l = l.list ≡ take l.i l.self
