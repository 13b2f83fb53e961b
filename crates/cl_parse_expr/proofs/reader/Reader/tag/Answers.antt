use Rattle.std.proofs.Common.{arith}
use Rattle.cl_parse_expr.proofs.Tokens.{resolved_length}
use Rattle.cl_parse_expr.proofs.Nodes.{struct_more, bare_tag, named_tag}
use Rattle.cl_parse_expr.proofs.reader.Reader.tag.Goals as goal

pub overflow_add-at : goal.overflow_add-at
overflow_add-at c = let n = resolved_length c.self.inside.names.now c.self.inside.lexemes.now c.args.self.now c.self.view_is in omega (arith, n, c.self.told, c.requires.within)

pub is_at-requires : goal.is_at-requires
is_at-requires c = struct_more _ _ c.requires.ends c.requires.begins

pub overflow_add-result : goal.overflow_add-result
overflow_add-result c = omega (arith, c.is_at.ensures.room, c.requires.within)

pub returns-then-is_at : goal.returns-then-is_at
returns-then-is_at c = bare_tag _ _ _ c.requires.begins c.if-is_at.ensures.stands c.place.ensures

pub overflow_add-at-2 : goal.overflow_add-at-2
overflow_add-at-2 c = omega (arith, c.is_at.ensures.room, c.requires.within)

pub text-requires : goal.text-requires
text-requires c = struct_more _ _ c.requires.ends c.requires.begins

pub overflow_add-at-3 : goal.overflow_add-at-3
overflow_add-at-3 c = omega (arith, c.is_at.ensures.room, c.requires.within)

pub place-place-requires : goal.place-place-requires
place-place-requires c = struct_more _ _ c.requires.ends c.requires.begins

pub overflow_add-brace : goal.overflow_add-brace
overflow_add-brace c = omega (arith, c.is_at.ensures.room, c.requires.within)

pub returns : goal.returns
returns c = named_tag _ _ _ _ c.requires.begins c.if-is_at.ensures.stands c.in_ok-text.ensures c.place-place.ensures
