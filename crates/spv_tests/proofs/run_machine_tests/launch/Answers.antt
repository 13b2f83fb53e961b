use Rattle.spv_types_rules.proofs.Smallest.{is_spelled, is_valid}
use Rattle.spv_tests.proofs.run_machine_tests.launch.Goals as goal

pub of-requires-clause-spelled : goal.of-requires-clause-spelled
of-requires-clause-spelled c = is_spelled c.in_ok-smallest.field-0 c.in_ok-smallest.ensures

pub of-requires-clause-valid : goal.of-requires-clause-valid
of-requires-clause-valid c = is_valid c.in_ok-smallest.field-0 c.in_ok-smallest.ensures
