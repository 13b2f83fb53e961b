use Rattle.std.proofs.Common.{sym, ◌∙◌}
use Rattle.cl_parse_expr.proofs.Words.{signed_read, signed_tree, width_read, width_tree, no_integer, same_width}
use Rattle.cl_parse_expr.proofs.reader.Reader.integer.Goals as goal

pub returns-in-Some-clause-read : goal.returns-in-Some-clause-read
returns-in-Some-clause-read c = signed_read c.args.self.now c.args.at c.behind_sign.result.1 c.peek.result c.in-Some.signed c.requires.ends c.peek.ensures.stands (sym c.sign.ensures ∙ c.in-Some.is) c.behind_sign.ensures.read

pub returns-in-Some-clause-tree : goal.returns-in-Some-clause-tree
returns-in-Some-clause-tree c = signed_tree c.args.self.now c.args.at c.behind_sign.result.1 c.peek.result c.in-Some.signed c.behind_sign.result.0 c.peek.ensures.stands (sym c.sign.ensures ∙ c.in-Some.is) c.behind_sign.ensures.read.read.forth c.behind_sign.ensures.tree

pub returns-in-Some-width-clause-read : goal.returns-in-Some-width-clause-read
returns-in-Some-width-clause-read c = width_read c.args.self.now c.args.at c.behind_width.result c.peek-in-None.result c.in-Some-width.bits c.peek-in-None.ensures.stands (sym c.width.ensures ∙ c.in-Some-width.is) c.behind_width.ensures.read

pub returns-in-Some-width-clause-tree : goal.returns-in-Some-width-clause-tree
returns-in-Some-width-clause-tree c = width_tree c.args.self.now c.args.at c.behind_width.result c.peek-in-None.result c.in-Some-width.bits c.peek-in-None.ensures.stands (sym c.width.ensures ∙ c.in-Some-width.is) c.behind_width.ensures.tree

pub returns-in-None-width-clause-out : goal.returns-in-None-width-clause-out
returns-in-None-width-clause-out c = no_integer c.args.self.now c.args.at c.peek.result c.peek.ensures.stands (sym c.sign.ensures ∙ c.in-None.is) (same_width c.args.self.now c.args.at c.peek.result c.peek-in-None.result c.peek.ensures.stands c.peek-in-None.ensures.stands (sym c.width.ensures ∙ c.in-None-width.is))
