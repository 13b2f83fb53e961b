use Rattle.cl_types.proofs.Measuring.{Measured}
use Rattle.cl_types.proofs.table.TypeTable.structure.Given as goal

abbrev pub invariant-loop-member : goal.invariant-loop-member
invariant-loop-member l = Measured l.self l.members l.member-index l.end l.align l.depth l.offsets.items
