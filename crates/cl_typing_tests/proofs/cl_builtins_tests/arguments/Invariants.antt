use Rattle.cl_builtins.specs.Found.{AreKnown}
use Rattle.cl_typing_tests.proofs.cl_builtins_tests.arguments.Given as goal

abbrev pub invariant-loop-letter : goal.invariant-loop-letter
invariant-loop-letter l = AreKnown l.table l.list
