use Rattle.std.proofs.Common.{◌≡◌, ◌+◌, length}
use Rattle.spv_meaning.specs.Invocation.{place_after}
use Rattle.run_machine.proofs.begin.place_after.Given as goal

abbrev pub invariant-loop-rest : goal.invariant-loop-rest
invariant-loop-rest l = (l.place + place_after l.rest l.fn.function ≡ place_after l.fn.body l.fn.function) × (l.place + length l.rest ≡ length l.fn.body)

abbrev pub decreases-loop-rest : goal.decreases-loop-rest
decreases-loop-rest l = length l.rest
