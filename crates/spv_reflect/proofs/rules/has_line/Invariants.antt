use Rattle.std.proofs.Common.{◌≡◌, length}
use Rattle.spv_reflect.specs.Reflection.{has_line}
use Rattle.spv_reflect.specs.Readings.{lines_by}
use Rattle.spv_reflect.proofs.rules.has_line.Given as goal

abbrev pub invariant-loop-rest : goal.invariant-loop-rest
invariant-loop-rest l = has_line l.fn.number l.fn.id (lines_by l.rest) ≡ has_line l.fn.number l.fn.id (lines_by l.fn.lines)

abbrev pub decreases-loop-rest : goal.decreases-loop-rest
decreases-loop-rest l = length l.rest
