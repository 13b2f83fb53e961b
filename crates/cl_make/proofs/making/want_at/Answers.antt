use Rattle.cl_make.proofs.Answering.{not_there}
use Rattle.cl_make.proofs.making.want_at.Goals as goal

pub unreachable-requires : goal.unreachable-requires
unreachable-requires c = not_there c.args.wants.now c.args.at c.requires c.in-None.ensures
