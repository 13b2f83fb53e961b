use Rattle.std.proofs.Common.{◌≡◌, length}
use Rattle.spv_reflect.specs.Reflection.{sizes_in}
use Rattle.spv_reflect.specs.Readings.{lines_by}
use Rattle.spv_reflect.proofs.reading.sizes.Given as goal

abbrev pub invariant-loop-rest : goal.invariant-loop-rest
invariant-loop-rest l = sizes_in (lines_by l.rest) ≡ sizes_in (lines_by l.fn.lines)

abbrev pub decreases-loop-rest : goal.decreases-loop-rest
decreases-loop-rest l = length l.rest
