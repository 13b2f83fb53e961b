use Rattle.cl_typing.proofs.Blocks.{entered_known}
use Rattle.cl_typing.proofs.entering.enter.Goals as goal

pub returns-clause-known : goal.returns-clause-known
returns-clause-known c = entered_known c.args.types.now c.args.names.now _ c.enter.ensures.block c.requires
