use Rattle.std.proofs.Common.{◌≡◌, ◌≤◌, max, length}
use Rattle.spv_meaning.specs.Cells.{greatest_block}
use Rattle.run_machine.specs.Capped.{capped}
use Rattle.run_machine.proofs.cells.greatest_block.Given as goal

abbrev pub invariant-loop-rest : goal.invariant-loop-rest
invariant-loop-rest l = (l.best ≤ 18446744073709551615) × (l.made ≤ 18446744073709551615) × (capped (max l.best (greatest_block l.fn.body l.made l.rest)) ≡ capped (greatest_block l.fn.body 0 l.fn.lines))

abbrev pub decreases-loop-rest : goal.decreases-loop-rest
decreases-loop-rest l = length l.rest
