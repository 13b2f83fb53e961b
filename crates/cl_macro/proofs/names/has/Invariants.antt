use Rattle.std.proofs.Common.{◌≡◌, drop}
use Rattle.cl_macro.specs.Names.{has}
use Rattle.cl_macro.proofs.names.has.Given as goal

abbrev pub invariant-loop-n : goal.invariant-loop-n
invariant-loop-n l = has l.name (drop l.n-index l.names) ≡ has l.name l.names
