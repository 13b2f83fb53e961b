use Rattle.std.proofs.Common.{◌≡◌}
use Rattle.cl_pre.specs.Predefined.{first_of}
use Rattle.cl_pre.proofs.predefined.predefined.Given as goal

abbrev pub invariant-loop-i : goal.invariant-loop-i
invariant-loop-i l = l.table ≡ first_of l.i
