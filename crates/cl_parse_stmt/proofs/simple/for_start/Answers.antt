use Rattle.cl_parse_stmt.proofs.Moves.{out_by}
use Rattle.cl_parse_stmt.proofs.Statements.{start_stop, start_ok, start_declares}
use Rattle.cl_parse_stmt.proofs.simple.for_start.Goals as goal

pub returns-in_err-first-clause-out : goal.returns-in_err-first-clause-out
returns-in_err-first-clause-out c = out_by _ _ _ _ _ c.from_residual-in_err-first.ensures.1 (start_stop _ _ c.if-begins_type.ensures _ c.in_err-first.ensures.out)

pub returns-in_ok-decl-clause-ok : goal.returns-in_ok-decl-clause-ok
returns-in_ok-decl-clause-ok c = start_declares _ _ _ _ _ c.in_ok-decl.ensures c.in_ok-declared.ensures.ok

pub returns-in_ok-first-clause-ok : goal.returns-in_ok-first-clause-ok
returns-in_ok-first-clause-ok c = start_ok _ _ _ _ _ c.if-begins_type.ensures c.new.ensures.items c.in_ok-first.ensures.ok

pub returns-in_err-declared-clause-out : goal.returns-in_err-declared-clause-out
returns-in_err-declared-clause-out c = out_by _ _ _ _ _ c.from_residual.ensures.1 c.in_err-declared.ensures.out
