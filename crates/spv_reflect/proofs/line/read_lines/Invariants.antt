use Rattle.std.proofs.Common.{length}
use Rattle.spv_reflect.proofs.Steps.{IsReading}
use Rattle.spv_reflect.proofs.line.read_lines.Given as goal

abbrev pub invariant-loop-rest : goal.invariant-loop-rest
invariant-loop-rest l = IsReading l.fn.body l.lines l.place l.rest

abbrev pub decreases-loop-rest : goal.decreases-loop-rest
decreases-loop-rest l = length l.rest
