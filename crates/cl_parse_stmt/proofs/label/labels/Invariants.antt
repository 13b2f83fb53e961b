use Rattle.std.proofs.Common.{length, ◌-◌}
use Rattle.cl_parse_stmt.proofs.Sections.{LabelsAt}
use Rattle.cl_parse_stmt.proofs.label.labels.Given as goal

abbrev pub decreases-loop-alloc : goal.decreases-loop-alloc
decreases-loop-alloc l = length l.reader - l.here

abbrev pub invariant-loop-alloc : goal.invariant-loop-alloc
invariant-loop-alloc l = LabelsAt l.reader l.at l.here l.labels.items
