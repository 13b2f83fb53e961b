use Rattle.std.proofs.Common.{arith}
use Rattle.cl_types.proofs.Rows.{sized_low}
use Rattle.cl_types.proofs.table.TypeTable.scalars.Goals as goal

pub put_scalars-requires-clause-low : goal.put_scalars-requires-clause-low
put_scalars-requires-clause-low c = let l = (c.is_table.ensures.within c.args.t.0 (sized_low c.args.self.now c.args.t.0 c.requires)).size in omega (arith, l)
