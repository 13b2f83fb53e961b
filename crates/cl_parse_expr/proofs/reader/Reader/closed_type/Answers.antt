use Rattle.std.proofs.Common.{refl}
use Rattle.cl_parse_expr.proofs.Members.{stopped}
use Rattle.cl_parse_expr.specs.Reading.{no_memory, unclosed}
use Rattle.cl_parse_expr.proofs.reader.Reader.closed_type.Goals as goal

pub returns-in_err-name-clause-out : goal.returns-in_err-name-clause-out
returns-in_err-name-clause-out c = stopped _ _ _ c.from_residual.ensures.1 (no_memory refl)

pub returns-in_err-next-clause-out : goal.returns-in_err-next-clause-out
returns-in_err-next-clause-out c = stopped _ _ _ c.from_residual-in_err-next.ensures.1 (unclosed c.in_ok-name.name c.in_ok-name.ensures.term c.in_err-next.ensures.out)

pub returns-clause-ok : goal.returns-clause-ok
returns-clause-ok c = record { close = c.in_ok-name.name.next; from = c.in_ok-name.ensures.term; closes = c.in_ok-next.ensures.ok; behind = c.in_ok-next.ensures.next }
