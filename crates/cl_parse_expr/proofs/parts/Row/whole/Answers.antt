use Rattle.cl_parse_expr.proofs.parts.Row.whole.Goals as goal

pub returns-clause-tree : goal.returns-clause-tree
returns-clause-tree c = c.in_ok-whole.ensures
