use Rattle.std.proofs.Common.{◌-◌, length}
use Rattle.cl_parse.proofs.UnitProgress.{Going}
use Rattle.cl_parse.proofs.unit.unit.Given as goal

abbrev pub invariant-loop-progress : goal.invariant-loop-progress
invariant-loop-progress l = Going l.lexemes l.progress

abbrev pub decreases-loop-progress : goal.decreases-loop-progress
decreases-loop-progress l = length l.lexemes - l.progress.at
