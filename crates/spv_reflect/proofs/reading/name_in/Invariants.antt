use Rattle.std.proofs.Common.{◌≡◌, length}
use Rattle.spv_reflect.specs.Reflection.{name_in}
use Rattle.spv_reflect.specs.Readings.{lines_by}
use Rattle.spv_reflect.proofs.reading.name_in.Given as goal

abbrev pub invariant-loop-rest : goal.invariant-loop-rest
invariant-loop-rest l = name_in (lines_by l.rest) l.fn.id ≡ name_in (lines_by l.fn.lines) l.fn.id

abbrev pub decreases-loop-rest : goal.decreases-loop-rest
decreases-loop-rest l = length l.rest
