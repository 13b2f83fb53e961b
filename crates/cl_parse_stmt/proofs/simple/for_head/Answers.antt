use Rattle.std.proofs.Common.{refl}
use Rattle.cl_parse_stmt.proofs.Moves.{out_by}
use Rattle.cl_parse_stmt.proofs.Chains.{for_head_stop_0, for_head_stop_1, for_head_stop_2, for_head_stop_3, for_head_stop_4, for_head_ok}
use Rattle.cl_parse_stmt.proofs.simple.for_head.Goals as goal

pub returns-in_err-here-clause-out : goal.returns-in_err-here-clause-out
returns-in_err-here-clause-out c = out_by _ _ _ _ _ c.from_residual.ensures.1 (for_head_stop_0 _ _ c.requires.ends _ c.requires.begins refl _ c.in_err-here.ensures.out)

pub returns-in_err-inside-clause-out : goal.returns-in_err-inside-clause-out
returns-in_err-inside-clause-out c = out_by _ _ _ _ _ c.from_residual-in_err-inside.ensures.1 (for_head_stop_1 _ _ c.requires.ends _ c.requires.begins refl _ c.in_ok-here.ensures.ok c.in_ok-here.ensures.next _ c.in_err-inside.ensures.out)

pub returns-in_err-start-clause-out : goal.returns-in_err-start-clause-out
returns-in_err-start-clause-out c = out_by _ _ _ _ _ c.from_residual-in_err-start.ensures.1 (for_head_stop_2 _ _ c.requires.ends _ c.requires.begins refl _ c.in_ok-here.ensures.ok c.in_ok-here.ensures.next _ c.in_ok-inside.ensures.ok c.in_ok-inside.ensures.next _ c.in_err-start.ensures.out)

pub returns-in_err-cond-clause-out : goal.returns-in_err-cond-clause-out
returns-in_err-cond-clause-out c = out_by _ _ _ _ _ c.from_residual-in_err-cond.ensures.1 (for_head_stop_3 _ _ c.requires.ends _ c.requires.begins refl _ c.in_ok-here.ensures.ok c.in_ok-here.ensures.next _ c.in_ok-inside.ensures.ok c.in_ok-inside.ensures.next _ _ c.in_ok-start.ensures.ok _ c.in_err-cond.ensures.out)

pub returns-in_err-next-clause-out : goal.returns-in_err-next-clause-out
returns-in_err-next-clause-out c = out_by _ _ _ _ _ c.from_residual-in_err-next.ensures.1 (for_head_stop_4 _ _ c.requires.ends _ c.requires.begins refl _ c.in_ok-here.ensures.ok c.in_ok-here.ensures.next _ c.in_ok-inside.ensures.ok c.in_ok-inside.ensures.next _ _ c.in_ok-start.ensures.ok _ _ c.in_ok-cond.ensures.ok _ c.in_err-next.ensures.out)

pub returns-clause-ok : goal.returns-clause-ok
returns-clause-ok c = for_head_ok _ _ c.requires.ends _ c.requires.begins refl _ c.in_ok-here.ensures.ok c.in_ok-here.ensures.next _ c.in_ok-inside.ensures.ok c.in_ok-inside.ensures.next _ _ c.in_ok-start.ensures.ok _ _ c.in_ok-cond.ensures.ok _ _ c.in_ok-next.ensures.ok
