use Rattle.std.proofs.Common.{◌≡◌, take}
use Rattle.cl_rules.specs.Calls.{part_wants}
use Rattle.cl_rules.proofs.call.part_wants.Given as goal

abbrev pub invariant-loop-o : goal.invariant-loop-o
invariant-loop-o l = l.wants ≡ part_wants l.t (take l.o-index l.os)
