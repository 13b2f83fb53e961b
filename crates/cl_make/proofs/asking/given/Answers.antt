use Rattle.cl_make.proofs.Answering.{givable_given}
use Rattle.cl_make.proofs.Growing.{grows_itself}
use Rattle.cl_make.proofs.asking.given.Goals as goal

pub returns-in-Type-clause-number : goal.returns-in-Type-clause-number
returns-in-Type-clause-number c = givable_given c.args.types.now c.args.want c.in-Type.t c.in-Type.is c.requires

pub returns-in-Type-clause-grows : goal.returns-in-Type-clause-grows
returns-in-Type-clause-grows c = grows_itself c.args.types.now c.is_table.ensures
