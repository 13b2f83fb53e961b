use Rattle.cl_parse_expr.proofs.reader.Reader.element.Goals as goal

pub returns-clause-ok : goal.returns-clause-ok
returns-clause-ok c = record { index = c.in_ok-index.index.tree; inside = c.in_ok-index.ensures.tree; closes = c.in_ok-index.ensures.closes; is = c.in_ok-tree.ensures; behind = c.in_ok-index.ensures.next }
