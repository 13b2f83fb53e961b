use Rattle.cl_parse_expr.proofs.Steps.{comma_within, whole_of}
use Rattle.cl_parse_expr.proofs.reader.Reader.expr.Goals as goal

pub whole-requires : goal.whole-requires
whole-requires c = record { comma = comma_within _ _ _ c.in_ok-operands.ensures.ok }

pub returns-clause-read : goal.returns-clause-read
returns-clause-read c = (whole_of _ _ c.in_ok-operands.operands _ c.in_ok-operands.ensures.ok c.in_ok-whole.ensures.tree c.in_ok-whole.ensures.next).read

pub returns-clause-forth : goal.returns-clause-forth
returns-clause-forth c = (whole_of _ _ c.in_ok-operands.operands _ c.in_ok-operands.ensures.ok c.in_ok-whole.ensures.tree c.in_ok-whole.ensures.next).forth

pub returns-clause-tree : goal.returns-clause-tree
returns-clause-tree c = (whole_of _ _ c.in_ok-operands.operands _ c.in_ok-operands.ensures.ok c.in_ok-whole.ensures.tree c.in_ok-whole.ensures.next).tree
