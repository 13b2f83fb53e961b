use Rattle.std.proofs.Common.{◌≡◌}
use Rattle.spv_meaning.specs.Schedule.{numbers_from}
use Rattle.run_machine.proofs.run.all_items.Given as goal

abbrev pub invariant-loop-item : goal.invariant-loop-item
invariant-loop-item l = l.queue.items ≡ numbers_from 0 l.item
