use Rattle.cl_parse_expr.proofs.Steps.{listed_of}
use Rattle.cl_parse_expr.proofs.reader.Reader.args.Goals as goal

pub returns-clause-read : goal.returns-clause-read
returns-clause-read c = c.in_ok-operands.ensures.ok.read

pub returns-clause-forth : goal.returns-clause-forth
returns-clause-forth c = c.in_ok-operands.ensures.ok.forth

pub returns-clause-tree : goal.returns-clause-tree
returns-clause-tree c = listed_of _ _ c.in_ok-operands.operands _ c.in_ok-operands.ensures.ok c.in_ok-listed.ensures
