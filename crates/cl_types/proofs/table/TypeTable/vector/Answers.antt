use Rattle.cl_types.proofs.Rows.{integer_scalar}
use Rattle.cl_types.proofs.Measuring.{vector_measured}
use Rattle.cl_types.proofs.table.TypeTable.vector.Goals as goal

pub returns : goal.returns
returns c = vector_measured _ _ _ _ _ _ _ (integer_scalar c.args.self.now c.args.elem.0 c.is_table.ensures.built c.requires.integer) c.requires.count c.row-row.ensures c.room.ensures c.room-2.ensures c.new.ensures.items c.limited.ensures
