use Rattle.std.proofs.Common.{◌≡◌, take}
use Rattle.cl_rules.specs.Calls.{wants_of}
use Rattle.cl_rules.proofs.call.wants_of.Given as goal

abbrev pub invariant-loop-param : goal.invariant-loop-param
invariant-loop-param l = l.wants ≡ wants_of (take l.param-index l.params)
