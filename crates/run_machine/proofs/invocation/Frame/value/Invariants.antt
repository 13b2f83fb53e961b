use Rattle.std.proofs.Common.{◌≡◌, ◌≤◌, take, length, []}
use Rattle.spv_meaning.specs.Invocation.{value_among}
use Rattle.run_machine.specs.Views.{values_by, newest_first}
use Rattle.run_machine.proofs.invocation.Frame.value.Given as goal

abbrev pub invariant-loop-left : goal.invariant-loop-left
invariant-loop-left l = (l.left ≤ length l.self.values.items) × (value_among (newest_first (take l.left l.self.values.items) []) l.id ≡ value_among (values_by l.self) l.id)

abbrev pub decreases-loop-left : goal.decreases-loop-left
decreases-loop-left l = l.left
