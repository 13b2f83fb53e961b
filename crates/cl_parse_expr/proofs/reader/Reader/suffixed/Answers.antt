use Rattle.std.proofs.Common.{sym, ◌∙◌}
use Rattle.cl_parse_expr.proofs.Nodes.{member_read, member_tree, increment_read, increment_tree, built}
use Rattle.cl_parse_expr.proofs.reader.Reader.suffixed.Goals as goal

pub returns-in-Some-clause-read : goal.returns-in-Some-clause-read
returns-in-Some-clause-read c = member_read c.args.self.now c.args.at _ c.peek-terminal.result c.in-Some.arrow c.requires.ends c.peek-terminal.ensures.stands (sym c.arrow.ensures ∙ c.in-Some.is) c.in_ok-next.ensures.ok c.in_ok-next.ensures.next

pub returns-in-Some-clause-tree : goal.returns-in-Some-clause-tree
returns-in-Some-clause-tree c = member_tree c.args.self.now c.args.at _ c.peek-terminal.result c.in-Some.arrow c.place-place.result c.in_ok-name.name c.args.tree _ c.peek-terminal.ensures.stands (sym c.arrow.ensures ∙ c.in-Some.is) c.in_ok-next.ensures.ok c.in_ok-next.ensures.next c.place-place.ensures c.in_ok-name.ensures (built _ _ _ _ c.in_ok-args.ensures)

pub returns-clause-read : goal.returns-clause-read
returns-clause-read c = increment_read c.args.self.now c.args.at c.peek-terminal.result c.in-Some-increment_behind.op c.requires.ends c.peek-terminal.ensures.stands (sym c.increment_behind.ensures ∙ c.in-Some-increment_behind.is)

pub returns-clause-tree : goal.returns-clause-tree
returns-clause-tree c = increment_tree c.args.self.now c.args.at c.peek-terminal.result c.in-Some-increment_behind.op c.place-place.result c.args.tree _ c.peek-terminal.ensures.stands (sym c.increment_behind.ensures ∙ c.in-Some-increment_behind.is) c.place-place.ensures (built _ _ _ _ c.in_ok-args-2.ensures)
