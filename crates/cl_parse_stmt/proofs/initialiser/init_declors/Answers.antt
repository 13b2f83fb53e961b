use Rattle.std.proofs.Common.{refl}
use Rattle.std.proofs.lemmas.Result.{IfOk-from_err}
use Rattle.cl_parse_stmt.proofs.Moves.{out_by, no_memory, pushed, pushed_first, shorter_behind}
use Rattle.cl_parse_stmt.proofs.Lists.{DeclorsAt, comma_within, declors_stop_first, declors_at_first, declors_stop_comma, declors_stop_item, declors_at_more, declors_done}
use Rattle.cl_parse_stmt.proofs.initialiser.init_declors.Goals as goal

pub init_declor-requires-clause-ends : goal.init_declor-requires-clause-ends
init_declor-requires-clause-ends c = c.requires.ends

pub init_declor-requires-clause-within : goal.init_declor-requires-clause-within
init_declor-requires-clause-within c = c.requires.within

pub returns-in_err-first-clause-ok : goal.returns-in_err-first-clause-ok
returns-in_err-first-clause-ok c = IfOk-from_err _ _ c.from_residual.ensures.0

pub returns-in_err-first-clause-out : goal.returns-in_err-first-clause-out
returns-in_err-first-clause-out c = out_by _ _ _ _ _ c.from_residual.ensures.1 (declors_stop_first _ _ c.requires.within _ c.in_err-first.ensures.out)

pub returns-in_err-push-clause-ok : goal.returns-in_err-push-clause-ok
returns-in_err-push-clause-ok c = IfOk-from_err _ _ c.from_residual-in_err-push.ensures.0

pub returns-in_err-push-clause-out : goal.returns-in_err-push-clause-out
returns-in_err-push-clause-out c = no_memory _ _ _ _ c.from_residual-in_err-push.ensures.1

pub loop-alloc-init : goal.loop-alloc-init
loop-alloc-init c = pushed_first (λ z. DeclorsAt c.args.reader.now c.args.at c.in_ok-first.here z) _ _ _ c.in_ok-push.ensures.items c.new-items.ensures.items (declors_at_first _ _ _ _ c.requires.within c.in_ok-first.ensures.ok)

pub is_at-requires : goal.is_at-requires
is_at-requires c = c.loop-alloc.invariant.begun.within

pub expect-requires-clause-within : goal.expect-requires-clause-within
expect-requires-clause-within c = c.loop-alloc.invariant.begun.within

pub expect-requires-clause-makes : goal.expect-requires-clause-makes
expect-requires-clause-makes c = refl

pub returns-in_err-next-clause-ok : goal.returns-in_err-next-clause-ok
returns-in_err-next-clause-ok c = IfOk-from_err _ _ c.from_residual-in_err-next.ensures.0

pub returns-in_err-next-clause-out : goal.returns-in_err-next-clause-out
returns-in_err-next-clause-out c = out_by _ _ _ _ _ c.from_residual-in_err-next.ensures.1 (declors_stop_comma _ _ _ _ c.loop-alloc.invariant c.loop-alloc-test.ensures.stands _ c.in_err-next.ensures.out)

pub init_declor-requires-in-loop-alloc-clause-ends : goal.init_declor-requires-in-loop-alloc-clause-ends
init_declor-requires-in-loop-alloc-clause-ends c = c.requires.ends

pub init_declor-requires-in-loop-alloc-clause-within : goal.init_declor-requires-in-loop-alloc-clause-within
init_declor-requires-in-loop-alloc-clause-within c = comma_within _ _ _ c.requires.ends c.loop-alloc-test.ensures.stands c.in_ok-next.ensures.next

pub returns-in_err-item-clause-ok : goal.returns-in_err-item-clause-ok
returns-in_err-item-clause-ok c = IfOk-from_err _ _ c.from_residual-in_err-item.ensures.0

pub returns-in_err-item-clause-out : goal.returns-in_err-item-clause-out
returns-in_err-item-clause-out c = out_by _ _ _ _ _ c.from_residual-in_err-item.ensures.1 (declors_stop_item _ _ _ _ _ c.requires.ends c.loop-alloc.invariant c.loop-alloc-test.ensures.stands c.in_ok-next.ensures.next _ c.in_err-item.ensures.out)

pub returns-in_err-push-2-clause-ok : goal.returns-in_err-push-2-clause-ok
returns-in_err-push-2-clause-ok c = IfOk-from_err _ _ c.from_residual-in_err-push-2.ensures.0

pub returns-in_err-push-2-clause-out : goal.returns-in_err-push-2-clause-out
returns-in_err-push-2-clause-out c = no_memory _ _ _ _ c.from_residual-in_err-push-2.ensures.1

pub loop-alloc-smaller : goal.loop-alloc-smaller
loop-alloc-smaller c = shorter_behind _ _ _ _ c.in_ok-next.ensures.next c.in_ok-item.ensures.ok.forth c.in_ok-item.ensures.ok.read.read.within

pub loop-alloc-preserved : goal.loop-alloc-preserved
loop-alloc-preserved c = pushed (λ z. DeclorsAt c.args.reader.now c.args.at c.in_ok-item.behind z) _ _ _ c.in_ok-push-2.ensures.items (declors_at_more _ _ _ _ _ _ _ c.requires.ends c.loop-alloc.invariant c.loop-alloc-test.ensures.stands c.in_ok-next.ensures.next c.in_ok-item.ensures.ok)

pub returns-clause-ok : goal.returns-clause-ok
returns-clause-ok c = declors_done _ _ _ _ c.loop-alloc.invariant c.loop-alloc-test.ensures.stands
