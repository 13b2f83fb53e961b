use Rattle.spv_types_rules.proofs.Smallest.{is_spelled, is_valid}
use Rattle.spv_tests.proofs.spv_types_rules_tests.finds_kernels_by_name.Goals as goal

pub of-checked-requires-clause-spelled : goal.of-checked-requires-clause-spelled
of-checked-requires-clause-spelled g c = is_spelled c.in_ok-smallest.field-0 c.in_ok-smallest.ensures

pub of-checked-requires-clause-valid : goal.of-checked-requires-clause-valid
of-checked-requires-clause-valid g c = is_valid c.in_ok-smallest.field-0 c.in_ok-smallest.ensures
