use Rattle.std.proofs.Common.{ap, ◌∙◌}
use Rattle.cl_ast.specs.declared.statement.StmtNode.TheVariants as node
use Rattle.cl_make.proofs.Growing.{grows_itself}
use Rattle.cl_typing.proofs.condition.return_statement.Goals as goal

pub return_value-requires-clause-is : goal.return_value-requires-clause-is
return_value-requires-clause-is c = c.requires.is ∙ ap node.Return c.in-Some.is

pub return_nothing-requires-clause-is : goal.return_nothing-requires-clause-is
return_nothing-requires-clause-is c = c.requires.is ∙ ap node.Return c.in-None.is

pub returns-in-None-clause-grows : goal.returns-in-None-clause-grows
returns-in-None-clause-grows c = grows_itself c.args.types.now c.is_table.ensures
