use Rattle.cl_typing.proofs.Conditions.{first_fine}
use Rattle.cl_typing.proofs.entering.first_tested.Goals as goal

pub returns-clause-kind : goal.returns-clause-kind
returns-clause-kind c = first_fine c.args.types.now c.args.typed.now _ c.is_table.ensures c.requires c.first.ensures
