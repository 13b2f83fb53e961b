use Rattle.std.proofs.Common.{refl}
use Rattle.cl_parse_expr.proofs.Members.{stopped}
use Rattle.cl_parse_expr.proofs.Nodes.{built}
use Rattle.cl_parse_expr.proofs.Steps.{sized_out_type, sized_type_taken}
use Rattle.cl_parse_expr.proofs.reader.Reader.sized.Goals as goal

pub returns-in_err-name-clause-out : goal.returns-in_err-name-clause-out
returns-in_err-name-clause-out c = stopped _ _ _ c.from_residual.ensures.1 (sized_out_type _ _ c.args.words _ c.requires.ends c.requires.stands c.requires.typed c.requires.words c.in_err-name.ensures.out)

pub returns-clause-ok : goal.returns-clause-ok
returns-clause-ok c = sized_type_taken _ _ c.args.words c.in_ok-name.name c.place-place.result _ c.requires.ends c.requires.stands c.requires.typed c.requires.words c.in_ok-name.ensures.ok c.place-place.ensures (built _ _ _ _ c.new-args.ensures.items) refl
