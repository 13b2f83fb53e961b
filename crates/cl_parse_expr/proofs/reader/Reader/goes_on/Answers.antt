use Rattle.std.proofs.Common.{arith}
use Rattle.cl_parse_expr.proofs.Nodes.{member_or_not}
use Rattle.cl_parse_expr.proofs.reader.Reader.goes_on.Goals as goal

pub returns : goal.returns
returns c = member_or_not _ _ _ _ c.begins_type.result c.peek.ensures.stands (omega (arith, c.if-room-eq0.false)) c.begins_type.ensures
