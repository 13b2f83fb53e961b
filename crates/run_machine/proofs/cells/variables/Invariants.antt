use Rattle.std.proofs.Common.{◌≡◌, ◌+◌, ◌≤◌, sum, map, length}
use Rattle.spv_meaning.specs.Cells.{line_variable_cells}
use Rattle.run_machine.specs.Capped.{capped}
use Rattle.run_machine.proofs.cells.variables.Given as goal

abbrev pub invariant-loop-rest : goal.invariant-loop-rest
invariant-loop-rest l = (l.sum ≤ 18446744073709551615) × (capped (l.sum + sum (map (line_variable_cells l.fn.body) l.rest)) ≡ capped (sum (map (line_variable_cells l.fn.body) l.fn.lines)))

abbrev pub decreases-loop-rest : goal.decreases-loop-rest
decreases-loop-rest l = length l.rest
