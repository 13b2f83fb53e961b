use Rattle.std.proofs.Common.{refl}
use Rattle.cl_parse_stmt.proofs.Moves.{out_by}
use Rattle.cl_parse_stmt.proofs.Chains.{continue_stop_0, continue_stop_1, continue_ok}
use Rattle.cl_parse_stmt.proofs.simple.continue_statement.Goals as goal

pub returns-in_err-here-clause-out : goal.returns-in_err-here-clause-out
returns-in_err-here-clause-out c = out_by _ _ _ _ _ c.from_residual.ensures.1 (continue_stop_0 _ _ c.requires.ends _ c.requires.begins refl _ c.in_err-here.ensures.out)

pub returns-in_err-next-clause-out : goal.returns-in_err-next-clause-out
returns-in_err-next-clause-out c = out_by _ _ _ _ _ c.from_residual-in_err-next.ensures.1 (continue_stop_1 _ _ c.requires.ends _ c.requires.begins refl _ c.in_ok-here.ensures.ok c.in_ok-here.ensures.next _ c.in_err-next.ensures.out)

pub returns-clause-ok : goal.returns-clause-ok
returns-clause-ok c = continue_ok _ _ c.requires.ends _ c.requires.begins refl _ c.in_ok-here.ensures.ok c.in_ok-here.ensures.next _ c.in_ok-next.ensures.ok c.in_ok-next.ensures.next _ _ c.place-place.ensures (record { at = refl; is = refl })
