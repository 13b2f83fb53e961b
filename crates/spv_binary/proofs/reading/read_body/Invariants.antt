use Rattle.std.proofs.Common.{length}
use Rattle.spv_binary.proofs.Bodies.{IsReadingBody}
use Rattle.spv_binary.proofs.reading.read_body.Given as goal

abbrev pub invariant-loop-rest : goal.invariant-loop-rest
invariant-loop-rest l = IsReadingBody l.bound l.words l.body l.at l.rest

abbrev pub decreases-loop-rest : goal.decreases-loop-rest
decreases-loop-rest l = length l.rest
