use Rattle.cl_parse_expr.proofs.Words.{no_star, no_star_of, star_read, star_of}
use Rattle.cl_parse_expr.proofs.reader.Reader.star.Goals as goal

pub returns-then-not-is_at-clause-read : goal.returns-then-not-is_at-clause-read
returns-then-not-is_at-clause-read c = no_star c.args.self.now c.args.at c.if-not-is_at.ensures.stands

pub returns-then-not-is_at-clause-tree : goal.returns-then-not-is_at-clause-tree
returns-then-not-is_at-clause-tree c = no_star_of c.args.self.now c.args.at

pub returns-clause-read : goal.returns-clause-read
returns-clause-read c = star_read c.args.self.now c.args.at c.in_ok-next.next c.requires.ends c.if-not-is_at.ensures.stands c.in_ok-next.ensures.read

pub returns-clause-tree : goal.returns-clause-tree
returns-clause-tree c = star_of c.args.self.now c.args.at c.in_ok-next.next _ _ c.if-not-is_at.ensures.stands c.in_ok-next.ensures.read.read.forth c.new-quals.ensures c.in_ok-next.ensures.quals
