use Rattle.std.proofs.Common.{refl}
use Rattle.cl_parse_stmt.proofs.Moves.{out_by}
use Rattle.cl_parse_stmt.proofs.Statements.{expression_picks}
use Rattle.cl_parse_stmt.proofs.Chains.{expression_stop_0, expression_ok, empty_ok}
use Rattle.cl_parse_stmt.proofs.simple.expression_statement.Goals as goal

pub returns-in_err-value-clause-out : goal.returns-in_err-value-clause-out
returns-in_err-value-clause-out c = out_by _ _ _ _ _ c.from_residual.ensures.1 (expression_stop_0 _ _ c.requires.ends c.requires.begins.terminal c.requires.begins.stands (expression_picks _ c.requires.begins.is) _ c.in_err-value.ensures.out)

pub returns-in-Some-clause-ok : goal.returns-in-Some-clause-ok
returns-in-Some-clause-ok c = expression_ok _ _ c.requires.ends c.requires.begins.terminal c.requires.begins.stands (expression_picks _ c.requires.begins.is) _ _ c.in_ok-value.ensures.ok _ c.in-Some.is _ _ c.place-place.ensures (record { at = refl; is = refl })

pub returns-in-None-clause-ok : goal.returns-in-None-clause-ok
returns-in-None-clause-ok c = empty_ok _ _ c.requires.ends c.requires.begins.terminal c.requires.begins.stands (expression_picks _ c.requires.begins.is) _ _ c.in_ok-value.ensures.ok c.in-None.is _ _ c.place-place.ensures (record { at = refl; is = refl })
