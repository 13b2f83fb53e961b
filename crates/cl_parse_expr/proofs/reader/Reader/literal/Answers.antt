use Rattle.std.proofs.Common.{◌∷◌, refl}
use Rattle.cl_parse_expr.proofs.Members.{stopped}
use Rattle.cl_parse_expr.proofs.Nodes.{built}
use Rattle.cl_parse_expr.proofs.Steps.{literal_out_close, literal_taken}
use Rattle.cl_parse_expr.proofs.reader.Reader.literal.Goals as goal

pub returns-in_err-next-clause-out : goal.returns-in_err-next-clause-out
returns-in_err-next-clause-out c = stopped _ _ _ c.from_residual.ensures.1 (literal_out_close _ _ c.args.name c.args.operands _ c.requires.ends c.requires.typed c.requires.begins c.requires.operands c.in_err-next.ensures.out)

pub returns-clause-ok : goal.returns-clause-ok
returns-clause-ok c = literal_taken _ _ c.args.name c.args.operands c.place-place.result (c.args.operands.first ∷ c.args.operands.others.items) _ c.requires.ends c.requires.typed c.requires.begins c.requires.operands c.in_ok-next.ensures.ok c.place-place.ensures refl (built _ _ _ _ c.in_ok-args.ensures) c.in_ok-next.ensures.next
