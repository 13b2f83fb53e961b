use Rattle.std.proofs.Common.{sym, ◌∙◌}
use Rattle.cl_variables.proofs.Pieces.{no_align}
use Rattle.cl_variables.proofs.image.align_at.Goals as goal

pub returns-else-is_sized-clause-is : goal.returns-else-is_sized-clause-is
returns-else-is_sized-clause-is c = no_align c.args.types.now c.args.t c.is_table.ensures (sym c.is_sized.ensures ∙ c.if-is_sized.false)
