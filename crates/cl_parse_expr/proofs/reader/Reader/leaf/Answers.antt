use Rattle.std.proofs.Common.{arith}
use Rattle.cl_parse_expr.proofs.Nodes.{number_read, number_tree, primary_refused, built}
use Rattle.cl_parse_expr.proofs.reader.Reader.leaf.Goals as goal

pub overflow_add-result : goal.overflow_add-result
overflow_add-result c = omega (arith, c.peek.ensures.room, c.requires.within)

pub returns-in-Number-clause-read : goal.returns-in-Number-clause-read
returns-in-Number-clause-read c = number_read _ _ c.peek.result c.in-Number.value c.in-Number.ty c.requires.ends c.peek.ensures.stands c.in-Number.is

pub returns-in-Number-clause-tree : goal.returns-in-Number-clause-tree
returns-in-Number-clause-tree c = number_tree _ _ c.peek.result c.in-Number.value c.in-Number.ty c.place-place.result _ c.peek.ensures.stands c.in-Number.is c.place-place.ensures (built _ _ _ _ c.new-args.ensures.items)

pub returns-in_default : goal.returns-in_default
returns-in_default c = record { read = tt; forth = tt; tree = tt; out = primary_refused _ _ _ c.peek.ensures.stands c.requires.other c.in_default.not-Name c.in_default.not-Number }
