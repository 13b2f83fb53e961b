use Rattle.std.proofs.Common.{arith}
use Rattle.cl_parse_expr.specs.Reading.{no_name, name_alone}
use Rattle.cl_parse_expr.proofs.Nodes.{name_more, open_more, call_or_not}
use Rattle.cl_parse_expr.proofs.reader.Reader.begins_arguments.Goals as goal

pub returns-then-not-is_at : goal.returns-then-not-is_at
returns-then-not-is_at c = no_name c.if-not-is_at.ensures.stands

pub overflow_add-at : goal.overflow_add-at
overflow_add-at c = omega (arith, c.is_at.ensures.room, c.requires.within)

pub is_at-requires-2 : goal.is_at-requires-2
is_at-requires-2 c = name_more _ _ c.requires.ends c.if-not-is_at.ensures.stands

pub returns-then-not-is_at-2 : goal.returns-then-not-is_at-2
returns-then-not-is_at-2 c = name_alone c.if-not-is_at.ensures.stands c.if-not-is_at-2.ensures.stands

pub overflow_add-at-2 : goal.overflow_add-at-2
overflow_add-at-2 c = omega (arith, c.is_at.ensures.room, c.requires.within)

pub is_at-requires-3 : goal.is_at-requires-3
is_at-requires-3 c = open_more _ _ c.requires.ends c.if-not-is_at-2.ensures.stands

pub returns : goal.returns
returns c = call_or_not _ _ c.is_at-3.result c.if-not-is_at.ensures.stands c.if-not-is_at-2.ensures.stands c.is_at-3.ensures.stands
