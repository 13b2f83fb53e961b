use Rattle.cl_make.proofs.Answering.{askable_own}
use Rattle.cl_make.proofs.Growing.{grows_itself}
use Rattle.cl_make.proofs.asking.wanted.Goals as goal

pub returns-in-Own-clause-grows : goal.returns-in-Own-clause-grows
returns-in-Own-clause-grows c = grows_itself c.args.types.now c.is_table.ensures

pub returns-in-Type-clause-number : goal.returns-in-Type-clause-number
returns-in-Type-clause-number c = askable_own c.args.types.now c.args.want c.args.own c.in-Type.t c.in-Type.is c.requires

pub returns-in-Type-clause-grows : goal.returns-in-Type-clause-grows
returns-in-Type-clause-grows c = grows_itself c.args.types.now c.is_table.ensures
