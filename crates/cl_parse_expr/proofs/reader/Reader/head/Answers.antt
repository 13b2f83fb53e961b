use Rattle.cl_parse_expr.proofs.Nodes.{head_read}
use Rattle.cl_parse_expr.proofs.reader.Reader.head.Goals as goal

pub returns-clause-read : goal.returns-clause-read
returns-clause-read c = rw c.in_ok-next.ensures.next (head_read c.args.self.now c.args.at c.in_ok-star.here c.requires.ends c.requires.within c.in_ok-star.ensures.read c.in_ok-next.ensures.ok)
