use Rattle.std.proofs.Common.{◌≡◌, length}
use Rattle.spv_meaning.specs.Cells.{is_named_in}
use Rattle.run_machine.proofs.cells.is_named_in.Given as goal

abbrev pub invariant-loop-rest : goal.invariant-loop-rest
invariant-loop-rest l = is_named_in l.fn.id l.rest ≡ is_named_in l.fn.id l.fn.lines

abbrev pub decreases-loop-rest : goal.decreases-loop-rest
decreases-loop-rest l = length l.rest
