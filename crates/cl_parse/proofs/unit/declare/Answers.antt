use Rattle.cl_parse.proofs.Declared.{typedef_new}
use Rattle.cl_parse.proofs.unit.declare.Goals as goal

pub add-requires : goal.add-requires
add-requires c = typedef_new c.args.names.now c.args.read.now.tree c.args.read.now.vector c.in-Typedef.spec c.in-Typedef.name c.as_slice.result.now c.requires c.in-Typedef.is c.as_slice.ensures
