use Rattle.std.proofs.Common.{◌≡◌, take}
use Rattle.cl_scope.proofs.functions.Functions.of.Given as goal

abbrev pub invariant-loop-function : goal.invariant-loop-function
invariant-loop-function l = l.all ≡ take l.function-index l.functions
