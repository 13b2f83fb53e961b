use Rattle.std.proofs.Common.{◌≡◌, drop}
use Rattle.cl_rules.specs.Operands.{first_broken}
use Rattle.cl_rules.proofs.operand.first_broken.Given as goal

abbrev pub invariant-loop-test : goal.invariant-loop-test
invariant-loop-test l = first_broken l.tests ≡ first_broken (drop l.test-index l.tests)
