use Rattle.std.proofs.Common.{◌≡◌, ◌+◌, ◌*◌, ◌≤◌, sum, map, length}
use Rattle.spv_module.specs.Instructions.{ids}
use Rattle.spv_meaning.specs.Cells.{scalars_within}
use Rattle.run_machine.specs.Capped.{capped}
use Rattle.run_machine.proofs.cells.+types.Given as goal

abbrev pub decreases-scalars_within : goal.decreases-scalars_within
decreases-scalars_within l = 2 * l.depth

abbrev pub decreases-scalars_of_all : goal.decreases-scalars_of_all
decreases-scalars_of_all l = 2 * l.depth + 1

abbrev pub invariant-scalars_of_all-loop-rest : goal.invariant-scalars_of_all-loop-rest
invariant-scalars_of_all-loop-rest l = (l.sum ≤ 18446744073709551615) × (capped (l.sum + sum (map (scalars_within l.fn.depth l.fn.body) (ids l.rest))) ≡ capped (sum (map (scalars_within l.fn.depth l.fn.body) (ids l.fn.types))))

abbrev pub decreases-scalars_of_all-loop-rest : goal.decreases-scalars_of_all-loop-rest
decreases-scalars_of_all-loop-rest l = length l.rest
