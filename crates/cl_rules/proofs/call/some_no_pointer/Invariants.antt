use Rattle.std.proofs.Common.{◌≡◌, drop}
use Rattle.cl_rules.specs.Calls.{some_no_pointer}
use Rattle.cl_rules.proofs.call.some_no_pointer.Given as goal

abbrev pub invariant-loop-i : goal.invariant-loop-i
invariant-loop-i l = some_no_pointer l.os l.targets ≡ some_no_pointer (drop l.i l.os) (drop l.i l.targets)
