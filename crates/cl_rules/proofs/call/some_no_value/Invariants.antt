use Rattle.std.proofs.Common.{◌≡◌, drop}
use Rattle.cl_rules.specs.Calls.{some_no_value}
use Rattle.cl_rules.proofs.call.some_no_value.Given as goal

abbrev pub invariant-loop-i : goal.invariant-loop-i
invariant-loop-i l = some_no_value l.os l.targets ≡ some_no_value (drop l.i l.os) (drop l.i l.targets)
