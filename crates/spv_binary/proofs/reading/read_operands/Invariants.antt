use Rattle.std.proofs.Common.{length}
use Rattle.spv_binary.proofs.Loops.{IsReading}
use Rattle.spv_binary.proofs.reading.read_operands.Given as goal

abbrev pub invariant-loop-rest : goal.invariant-loop-rest
invariant-loop-rest l = IsReading l.bound l.shape l.start l.words l.operands l.at l.rest

abbrev pub decreases-loop-rest : goal.decreases-loop-rest
decreases-loop-rest l = length l.rest
