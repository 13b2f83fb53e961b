use Rattle.std.proofs.Common.{◌≡◌, drop}
use Rattle.cl_rules.specs.Calls.{some_no_part}
use Rattle.cl_rules.proofs.call.some_no_part.Given as goal

abbrev pub invariant-loop-o : goal.invariant-loop-o
invariant-loop-o l = some_no_part l.t l.os ≡ some_no_part l.t (drop l.o-index l.os)
