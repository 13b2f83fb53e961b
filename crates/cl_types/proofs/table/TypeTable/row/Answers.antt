use Rattle.std.proofs.Common.{sym}
use Rattle.cl_types.proofs.Rows.{entry_row}
use Rattle.cl_types.proofs.table.TypeTable.row.Goals as goal

pub returns : goal.returns
returns c = entry_row _ _ _ c.in-Some.field-0-0.now c.in-Some.row.now c.self.view_is c.self.invariant (sym c.in-Some.ensures.entry)
