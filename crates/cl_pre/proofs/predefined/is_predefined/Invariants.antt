use Rattle.std.proofs.Common.{◌≡◌, drop}
use Rattle.cl_macro.specs.Names.{has}
use Rattle.cl_pre.specs.Predefined.{names}
use Rattle.cl_pre.proofs.predefined.is_predefined.Given as goal

abbrev pub invariant-loop-i : goal.invariant-loop-i
invariant-loop-i l = has l.name (drop l.i names) ≡ has l.name names
