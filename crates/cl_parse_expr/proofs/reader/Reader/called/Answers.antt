use Rattle.std.proofs.Common.{◌∷◌, refl}
use Rattle.cl_parse_expr.proofs.Members.{stopped}
use Rattle.cl_parse_expr.proofs.Nodes.{built}
use Rattle.cl_parse_expr.proofs.Readings.{primary_refused_call}
use Rattle.cl_parse_expr.proofs.Steps.{call_taken}
use Rattle.cl_parse_expr.proofs.reader.Reader.called.Goals as goal

pub returns-in_err-next-clause-out : goal.returns-in_err-next-clause-out
returns-in_err-next-clause-out c = stopped _ _ _ c.from_residual.ensures.1 (primary_refused_call _ _ _ _ c.requires.ends c.requires.call c.requires.operands.read c.in_err-next.ensures.out)

pub returns-clause-ok : goal.returns-clause-ok
returns-clause-ok c = call_taken _ _ c.args.operands c.place-place.result c.in_ok-name.name (c.args.operands.first ∷ c.args.operands.others.items) _ c.requires.ends c.requires.call c.requires.operands c.in_ok-next.ensures.ok c.place-place.ensures c.in_ok-name.ensures refl (built _ _ _ _ c.in_ok-args.ensures) c.in_ok-next.ensures.next
