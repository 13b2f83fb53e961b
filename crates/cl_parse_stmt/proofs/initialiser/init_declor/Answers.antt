use Rattle.std.proofs.Common.{refl}
use Rattle.std.proofs.lemmas.Result.{IfOk-from_err}
use Rattle.cl_parse_stmt.proofs.Moves.{out_by}
use Rattle.cl_parse_stmt.proofs.Lists.{equals_within, declor_stop, declor_stop_equals, declor_stop_init, declor_alone, declor_with}
use Rattle.cl_parse_stmt.proofs.initialiser.init_declor.Goals as goal

pub declor-requires-clause-ends : goal.declor-requires-clause-ends
declor-requires-clause-ends c = c.requires.ends

pub declor-requires-clause-within : goal.declor-requires-clause-within
declor-requires-clause-within c = c.requires.within

pub returns-in_err-name-clause-ok : goal.returns-in_err-name-clause-ok
returns-in_err-name-clause-ok c = IfOk-from_err _ _ c.from_residual.ensures.0

pub returns-in_err-name-clause-out : goal.returns-in_err-name-clause-out
returns-in_err-name-clause-out c = out_by _ _ _ _ _ c.from_residual.ensures.1 (declor_stop _ _ c.requires.within _ c.in_err-name.ensures.out)

pub is_at-requires : goal.is_at-requires
is_at-requires c = c.in_ok-name.ensures.ok.read.read.within

pub expect-requires-clause-within : goal.expect-requires-clause-within
expect-requires-clause-within c = c.in_ok-name.ensures.ok.read.read.within

pub expect-requires-clause-makes : goal.expect-requires-clause-makes
expect-requires-clause-makes c = refl

pub returns-in_err-then-clause-ok : goal.returns-in_err-then-clause-ok
returns-in_err-then-clause-ok c = IfOk-from_err _ _ c.from_residual-in_err-then.ensures.0

pub returns-in_err-then-clause-out : goal.returns-in_err-then-clause-out
returns-in_err-then-clause-out c = out_by _ _ _ _ _ c.from_residual-in_err-then.ensures.1 (declor_stop_equals _ _ _ c.requires.within c.in_ok-name.ensures.ok.read c.if-is_at.ensures.stands _ c.in_err-then.ensures.out)

pub initialiser-requires-clause-ends : goal.initialiser-requires-clause-ends
initialiser-requires-clause-ends c = c.requires.ends

pub initialiser-requires-clause-within : goal.initialiser-requires-clause-within
initialiser-requires-clause-within c = equals_within _ _ _ c.requires.ends c.if-is_at.ensures.stands c.in_ok-then.ensures.next

pub returns-in_err-init-clause-ok : goal.returns-in_err-init-clause-ok
returns-in_err-init-clause-ok c = IfOk-from_err _ _ c.from_residual-in_err-init.ensures.0

pub returns-in_err-init-clause-out : goal.returns-in_err-init-clause-out
returns-in_err-init-clause-out c = out_by _ _ _ _ _ c.from_residual-in_err-init.ensures.1 (declor_stop_init _ _ _ _ c.requires.ends c.requires.within c.in_ok-name.ensures.ok.read c.if-is_at.ensures.stands c.in_ok-then.ensures.next _ c.in_err-init.ensures.out)

pub returns-in_ok-init-clause-ok : goal.returns-in_ok-init-clause-ok
returns-in_ok-init-clause-ok c = declor_with _ _ _ _ _ _ _ c.requires.ends c.requires.within c.in_ok-name.ensures.ok.read c.in_ok-name.ensures.ok.tree c.if-is_at.ensures.stands c.in_ok-then.ensures.next c.in_ok-init.ensures.ok

pub returns-else-is_at-clause-ok : goal.returns-else-is_at-clause-ok
returns-else-is_at-clause-ok c = declor_alone _ _ _ _ c.requires.within c.in_ok-name.ensures.ok.read c.in_ok-name.ensures.ok.tree c.if-is_at.ensures.stands
