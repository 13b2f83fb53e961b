use Rattle.std.proofs.Common.{arith}
use Rattle.cl_parse_expr.proofs.Tokens.{resolved_length}
use Rattle.cl_parse_expr.proofs.Nodes.{name_more, name_read, name_tree, call_read, call_tree, built}
use Rattle.cl_parse_expr.proofs.reader.Reader.name_or_empty_call.Goals as goal

pub place-place-requires : goal.place-place-requires
place-place-requires c = c.requires.name.stands.within

pub text-requires : goal.text-requires
text-requires c = c.requires.name.stands.within

pub overflow_add-at : goal.overflow_add-at
overflow_add-at c = let n = resolved_length c.self.inside.names.now c.self.inside.lexemes.now c.args.self.now c.self.view_is in omega (arith, n, c.self.told, c.requires.name.stands.within)

pub is_at-requires : goal.is_at-requires
is_at-requires c = name_more _ _ c.requires.ends c.requires.name

pub overflow_add-result : goal.overflow_add-result
overflow_add-result c = omega (arith, c.is_at.ensures.room, c.requires.name.stands.within)

pub returns-then-is_at-clause-read : goal.returns-then-is_at-clause-read
returns-then-is_at-clause-read c = call_read _ _ c.requires.ends c.requires.name c.if-is_at.ensures.stands c.requires.call

pub returns-then-is_at-clause-tree : goal.returns-then-is_at-clause-tree
returns-then-is_at-clause-tree c = call_tree _ _ c.place-place.result c.in_ok-name.name _ c.requires.name c.if-is_at.ensures.stands c.requires.call c.place-place.ensures c.in_ok-name.ensures (built _ _ _ _ c.new-args.ensures.items)

pub overflow_add-result-2 : goal.overflow_add-result-2
overflow_add-result-2 c = omega (arith, c.is_at.ensures.room, c.requires.name.stands.within)

pub returns-clause-read : goal.returns-clause-read
returns-clause-read c = name_read _ _ c.requires.ends c.requires.name c.if-is_at.ensures.stands

pub returns-clause-tree : goal.returns-clause-tree
returns-clause-tree c = name_tree _ _ c.place-place.result c.in_ok-name.name _ c.requires.name c.place-place.ensures c.in_ok-name.ensures (built _ _ _ _ c.new-args.ensures.items)
