use Rattle.std.proofs.Common.{◌≡◌, ◌+◌, ◌++◌, length, take, drop}
use Rattle.spv_meaning.specs.Cells.{up_to_end}
use Rattle.run_machine.proofs.cells.up_to_end.Given as goal

abbrev pub invariant-loop-rest : goal.invariant-loop-rest
invariant-loop-rest l = (l.count + length l.rest ≡ length l.fn.lines) × (drop l.count l.fn.lines ≡ l.rest) × (take l.count l.fn.lines ++ up_to_end l.rest ≡ up_to_end l.fn.lines)

abbrev pub decreases-loop-rest : goal.decreases-loop-rest
decreases-loop-rest l = length l.rest
