use Rattle.std.proofs.Common.{sym, ◌∙◌}
use Rattle.cl_parse_expr.proofs.Words.{width_with_int, width_without_int, width_alone, width_of_word, width_of_two}
use Rattle.cl_parse_expr.proofs.reader.Reader.behind_width.Goals as goal
use Rattle.cl_parse_expr.proofs.reader.Reader.behind_width.Goals.{else-takes_int-via-then-takes_int+else-is_at, else-takes_int-via-else-takes_int}

pub returns-then-is_at-clause-read : goal.returns-then-is_at-clause-read
returns-then-is_at-clause-read c = width_with_int c.args.self.now c.args.at c.peek.result c.requires.ends c.peek.ensures.stands (sym c.takes_int.ensures ∙ c.if-takes_int.true) c.if-is_at.ensures.stands

pub returns-then-is_at-clause-tree : goal.returns-then-is_at-clause-tree
returns-then-is_at-clause-tree c = width_of_two c.args.self.now c.args.at c.peek.result c.peek.ensures.stands (sym c.takes_int.ensures ∙ c.if-takes_int.true) c.if-is_at.ensures.stands

pub returns-else-takes_int-clause-read : goal.returns-else-takes_int-clause-read
returns-else-takes_int-clause-read c = elim c.else-takes_int.branch [
  | else-takes_int-via-then-takes_int+else-is_at w ↦ width_without_int c.args.self.now c.args.at c.peek.result c.requires.ends c.peek.ensures.stands (sym c.takes_int.ensures ∙ w.if-takes_int.true) w.if-is_at.ensures.stands
  | else-takes_int-via-else-takes_int w ↦ width_alone c.args.self.now c.args.at c.peek.result c.requires.ends c.peek.ensures.stands c.requires.width (sym c.takes_int.ensures ∙ w.if-takes_int.false)
]

pub returns-else-takes_int-clause-tree : goal.returns-else-takes_int-clause-tree
returns-else-takes_int-clause-tree c = width_of_word c.args.self.now c.args.at
