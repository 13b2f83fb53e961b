use Rattle.std.proofs.Common.{sym, ◌∙◌}
use Rattle.cl_parse_expr.proofs.Words.{has_width, some_width_read, no_width_read, signed_width, signed_alone}
use Rattle.cl_parse_expr.proofs.reader.Reader.behind_sign.Goals as goal

pub behind_width-requires-clause-width : goal.behind_width-requires-clause-width
behind_width-requires-clause-width c = has_width c.args.self.now c.args.at c.peek.result c.in-Some.bits c.peek.ensures.stands (sym c.width.ensures ∙ c.in-Some.is)

pub returns-in-Some-clause-read : goal.returns-in-Some-clause-read
returns-in-Some-clause-read c = some_width_read c.args.self.now c.args.at c.behind_width.result c.peek.result c.in-Some.bits c.peek.ensures.stands (sym c.width.ensures ∙ c.in-Some.is) c.behind_width.ensures.read

pub returns-in-Some-clause-tree : goal.returns-in-Some-clause-tree
returns-in-Some-clause-tree c = signed_width c.args.self.now c.args.at c.behind_width.result c.peek.result c.in-Some.bits c.args.signed c.peek.ensures.stands (sym c.width.ensures ∙ c.in-Some.is) c.behind_width.ensures.tree

pub returns-in-None-clause-read : goal.returns-in-None-clause-read
returns-in-None-clause-read c = no_width_read c.args.self.now c.args.at c.peek.result c.peek.ensures.stands (sym c.width.ensures ∙ c.in-None.is)

pub returns-in-None-clause-tree : goal.returns-in-None-clause-tree
returns-in-None-clause-tree c = signed_alone c.args.self.now c.args.at c.args.signed
