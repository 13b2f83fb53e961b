use Rattle.std.proofs.Common.{refl}
use Rattle.cl_parse_stmt.proofs.Moves.{out_by}
use Rattle.cl_parse_stmt.proofs.Chains.{return_stop_0, return_stop_1, return_ok}
use Rattle.cl_parse_stmt.proofs.simple.return_statement.Goals as goal

pub returns-in_err-here-clause-out : goal.returns-in_err-here-clause-out
returns-in_err-here-clause-out c = out_by _ _ _ _ _ c.from_residual.ensures.1 (return_stop_0 _ _ c.requires.ends _ c.requires.begins refl _ c.in_err-here.ensures.out)

pub returns-in_err-value-clause-out : goal.returns-in_err-value-clause-out
returns-in_err-value-clause-out c = out_by _ _ _ _ _ c.from_residual-in_err-value.ensures.1 (return_stop_1 _ _ c.requires.ends _ c.requires.begins refl _ c.in_ok-here.ensures.ok c.in_ok-here.ensures.next _ c.in_err-value.ensures.out)

pub returns-clause-ok : goal.returns-clause-ok
returns-clause-ok c = return_ok _ _ c.requires.ends _ c.requires.begins refl _ c.in_ok-here.ensures.ok c.in_ok-here.ensures.next _ _ c.in_ok-value.ensures.ok _ _ c.place-place.ensures (record { at = refl; is = refl })
