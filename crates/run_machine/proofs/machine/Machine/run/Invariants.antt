use Rattle.run_machine.proofs.Turning.{Held}
use Rattle.run_machine.proofs.machine.Machine.run.Given as goal

abbrev pub invariant-loop-made : goal.invariant-loop-made
invariant-loop-made l = Held l.fn.self l.self l.turn l.budget l.queue.items l.left l.made
