use Rattle.std.proofs.Common.{refl}
use Rattle.cl_parse_expr.proofs.Nodes.{built}
use Rattle.cl_parse_expr.proofs.Steps.{cast_taken}
use Rattle.cl_parse_expr.proofs.reader.Reader.casted.Goals as goal

pub returns : goal.returns
returns c = cast_taken _ _ c.args.name c.args.operand _ c.place-place.result c.requires.ends c.requires.typed c.requires.other c.requires.operand c.place-place.ensures (built _ _ _ _ c.in_ok-args.ensures) refl
