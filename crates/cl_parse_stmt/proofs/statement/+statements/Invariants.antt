use Rattle.std.proofs.Common.{length, ◌-◌, ◌*◌, ◌+◌}
use Rattle.cl_parse_stmt.proofs.Sections.{ItemsAt, SectionsAt}
use Rattle.cl_parse_stmt.proofs.statement.+statements.Given as goal

abbrev pub decreases-block : goal.decreases-block
decreases-block l = 4 * (length l.reader.now - l.at)

abbrev pub decreases-items : goal.decreases-items
decreases-items l = 4 * (length l.reader.now - l.at) + 3

abbrev pub decreases-item : goal.decreases-item
decreases-item l = 4 * (length l.reader.now - l.at) + 2

abbrev pub decreases-statement : goal.decreases-statement
decreases-statement l = 4 * (length l.reader.now - l.at) + 1

abbrev pub decreases-if_statement : goal.decreases-if_statement
decreases-if_statement l = 4 * (length l.reader.now - l.at)

abbrev pub decreases-while_statement : goal.decreases-while_statement
decreases-while_statement l = 4 * (length l.reader.now - l.at)

abbrev pub decreases-for_statement : goal.decreases-for_statement
decreases-for_statement l = 4 * (length l.reader.now - l.at)

abbrev pub decreases-do_statement : goal.decreases-do_statement
decreases-do_statement l = 4 * (length l.reader.now - l.at)

abbrev pub decreases-switch_statement : goal.decreases-switch_statement
decreases-switch_statement l = 4 * (length l.reader.now - l.at)

abbrev pub decreases-sections : goal.decreases-sections
decreases-sections l = 4 * (length l.reader.now - l.at)

abbrev pub decreases-items-loop-alloc : goal.decreases-items-loop-alloc
decreases-items-loop-alloc l = length l.reader - l.here

abbrev pub invariant-items-loop-alloc : goal.invariant-items-loop-alloc
invariant-items-loop-alloc l = ItemsAt l.reader l.fn.at l.here l.body.items

abbrev pub decreases-sections-loop-alloc : goal.decreases-sections-loop-alloc
decreases-sections-loop-alloc l = length l.reader - l.here

abbrev pub invariant-sections-loop-alloc : goal.invariant-sections-loop-alloc
invariant-sections-loop-alloc l = SectionsAt l.reader l.fn.at l.here l.groups.items
