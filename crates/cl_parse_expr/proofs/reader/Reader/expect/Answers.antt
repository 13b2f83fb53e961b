use Rattle.cl_parse_expr.proofs.Words.{other_refused}
use Rattle.cl_parse_expr.proofs.reader.Reader.expect.Goals as goal

pub returns-else-is_at-clause-out : goal.returns-else-is_at-clause-out
returns-else-is_at-clause-out c = other_refused c.args.self.now c.args.at c.args.terminal c.requires.makes (c.if-is_at.ensures.stands)
