use Rattle.cl_parse_stmt.proofs.Moves.{out_by}
use Rattle.cl_parse_stmt.proofs.Clauses.{clause_stop_here, clause_none, clause_stop_0, clause_stop_1, clause_some}
use Rattle.cl_parse_stmt.proofs.clause.clause.Goals as goal

pub returns-in_err-next-clause-out : goal.returns-in_err-next-clause-out
returns-in_err-next-clause-out c = out_by _ _ _ _ _ c.from_residual.ensures.1 (clause_stop_here _ _ _ c.requires.mark c.if-is_at.ensures.stands _ c.in_err-next.ensures.out)

pub returns-then-is_at-clause-ok : goal.returns-then-is_at-clause-ok
returns-then-is_at-clause-ok c = clause_none _ _ _ c.requires.ends c.requires.mark _ c.in_ok-next.ensures.ok c.in_ok-next.ensures.next

pub returns-in_err-taken-clause-out : goal.returns-in_err-taken-clause-out
returns-in_err-taken-clause-out c = out_by _ _ _ _ _ c.from_residual-in_err-taken.ensures.1 (clause_stop_0 _ _ _ c.requires.mark c.if-is_at.ensures.stands _ c.in_err-taken.ensures.out)

pub returns-in_err-behind-clause-out : goal.returns-in_err-behind-clause-out
returns-in_err-behind-clause-out c = out_by _ _ _ _ _ c.from_residual-in_err-behind.ensures.1 (clause_stop_1 _ _ _ c.requires.mark c.if-is_at.ensures.stands _ c.in_ok-taken.ensures.read _ c.in_err-behind.ensures.out)

pub returns-clause-ok : goal.returns-clause-ok
returns-clause-ok c = clause_some _ _ _ c.requires.ends c.requires.mark c.if-is_at.ensures.stands _ _ _ c.in_ok-taken.ensures.read c.in_ok-taken.ensures.tree c.in_ok-behind.ensures.ok c.in_ok-behind.ensures.next
