use Rattle.cl_parse_stmt.proofs.Moves.{token_at, out_by}
use Rattle.cl_parse_stmt.proofs.Chains.{brackets_stop_0, brackets_stop_1, brackets_stop_2, brackets_ok}
use Rattle.cl_parse_stmt.proofs.clause.bracketed.Goals as goal

pub returns-in_err-inside-clause-out : goal.returns-in_err-inside-clause-out
returns-in_err-inside-clause-out c = let w = token_at _ _ c.requires.within in out_by _ _ _ _ _ c.from_residual.ensures.1 (brackets_stop_0 _ _ c.requires.ends w.terminal w.stands _ c.in_err-inside.ensures.out)

pub returns-in_err-taken-clause-out : goal.returns-in_err-taken-clause-out
returns-in_err-taken-clause-out c = let w = token_at _ _ c.requires.within in out_by _ _ _ _ _ c.from_residual-in_err-taken.ensures.1 (brackets_stop_1 _ _ c.requires.ends w.terminal w.stands _ c.in_ok-inside.ensures.ok c.in_ok-inside.ensures.next _ c.in_err-taken.ensures.out)

pub returns-in_err-next-clause-out : goal.returns-in_err-next-clause-out
returns-in_err-next-clause-out c = let w = token_at _ _ c.requires.within in out_by _ _ _ _ _ c.from_residual-in_err-next.ensures.1 (brackets_stop_2 _ _ c.requires.ends w.terminal w.stands _ c.in_ok-inside.ensures.ok c.in_ok-inside.ensures.next _ _ c.in_ok-taken.ensures.read c.in_ok-taken.ensures.tree _ c.in_err-next.ensures.out)

pub returns-clause-ok : goal.returns-clause-ok
returns-clause-ok c = let w = token_at _ _ c.requires.within in brackets_ok _ _ c.requires.ends w.terminal w.stands _ c.in_ok-inside.ensures.ok c.in_ok-inside.ensures.next _ _ c.in_ok-taken.ensures.read c.in_ok-taken.ensures.tree _ c.in_ok-next.ensures.ok c.in_ok-next.ensures.next
