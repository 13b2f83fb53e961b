use Rattle.std.proofs.Common.{refl}
use Rattle.cl_parse_stmt.proofs.Moves.{out_by}
use Rattle.cl_parse_stmt.proofs.Statements.{not_case}
use Rattle.cl_parse_stmt.proofs.Chains.{case_label_stop_0, case_label_stop_1, case_label_stop_2, case_label_ok, default_label_stop_0, default_label_stop_1, default_label_ok}
use Rattle.cl_parse_stmt.proofs.label.label.Goals as goal

pub returns-in_err-here-clause-out : goal.returns-in_err-here-clause-out
returns-in_err-here-clause-out c = out_by _ _ _ _ _ c.from_residual.ensures.1 (case_label_stop_0 _ _ c.requires.ends _ c.if-is_at.ensures.stands refl _ c.in_err-here.ensures.out)

pub returns-in_err-taken-clause-out : goal.returns-in_err-taken-clause-out
returns-in_err-taken-clause-out c = out_by _ _ _ _ _ c.from_residual-in_err-taken.ensures.1 (case_label_stop_1 _ _ c.requires.ends _ c.if-is_at.ensures.stands refl _ c.in_ok-here.ensures.ok c.in_ok-here.ensures.next _ c.in_err-taken.ensures.out)

pub returns-in_err-next-clause-out : goal.returns-in_err-next-clause-out
returns-in_err-next-clause-out c = out_by _ _ _ _ _ c.from_residual-in_err-next.ensures.1 (case_label_stop_2 _ _ c.requires.ends _ c.if-is_at.ensures.stands refl _ c.in_ok-here.ensures.ok c.in_ok-here.ensures.next _ _ c.in_ok-taken.ensures.ok.read c.in_ok-taken.ensures.ok.tree _ c.in_err-next.ensures.out)

pub returns-in_ok-next-clause-ok : goal.returns-in_ok-next-clause-ok
returns-in_ok-next-clause-ok c = case_label_ok _ _ c.requires.ends _ c.if-is_at.ensures.stands refl _ c.in_ok-here.ensures.ok c.in_ok-here.ensures.next _ _ c.in_ok-taken.ensures.ok.read c.in_ok-taken.ensures.ok.tree _ c.in_ok-next.ensures.ok c.in_ok-next.ensures.next _ c.place-place.ensures

pub returns-in_err-then-clause-out : goal.returns-in_err-then-clause-out
returns-in_err-then-clause-out c = out_by _ _ _ _ _ c.from_residual-in_err-then.ensures.1 (default_label_stop_0 _ _ c.requires.ends _ (not_case _ _ c.requires.begins c.if-is_at.ensures.stands) refl _ c.in_err-then.ensures.out)

pub returns-in_err-behind-clause-out : goal.returns-in_err-behind-clause-out
returns-in_err-behind-clause-out c = out_by _ _ _ _ _ c.from_residual-in_err-behind.ensures.1 (default_label_stop_1 _ _ c.requires.ends _ (not_case _ _ c.requires.begins c.if-is_at.ensures.stands) refl _ c.in_ok-then.ensures.ok c.in_ok-then.ensures.next _ c.in_err-behind.ensures.out)

pub returns-in_ok-behind-clause-ok : goal.returns-in_ok-behind-clause-ok
returns-in_ok-behind-clause-ok c = default_label_ok _ _ c.requires.ends _ (not_case _ _ c.requires.begins c.if-is_at.ensures.stands) refl _ c.in_ok-then.ensures.ok c.in_ok-then.ensures.next _ c.in_ok-behind.ensures.ok c.in_ok-behind.ensures.next _ c.place-place.ensures
