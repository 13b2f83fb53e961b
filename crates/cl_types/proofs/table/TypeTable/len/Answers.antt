use Rattle.std.proofs.Common.{◌∙◌}
use Rattle.cl_types.proofs.Rows.{entries_length}
use Rattle.cl_types.proofs.table.TypeTable.len.Goals as goal

pub returns : goal.returns
returns c = c.len.ensures.len ∙ entries_length _ c.args.self.now c.self.view_is
