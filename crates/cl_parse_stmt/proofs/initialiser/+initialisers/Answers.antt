use Rattle.std.proofs.Common.{◌≡◌, ◌+◌, ◌-◌, ◌*◌, length, refl, arith}
use Rattle.std.proofs.lemmas.Result.{IfOk-from_err}
use Rattle.cl_parse_stmt.proofs.Moves.{out_by, no_memory, pushed, pushed_first, shorter_behind}
use Rattle.cl_parse_stmt.proofs.Chains.{value_stop_0, value_ok}
use Rattle.cl_parse_stmt.proofs.Statements.{brace_value}
use Rattle.cl_parse_stmt.proofs.Lists.{InitsAt, comma_within, brace_within, braces_stop_open, braces_stop_first, inits_at_first, braces_stop_comma, braces_stop_trailing, braces_stop_item, braces_stop_close, inits_at_more, braces_trailing, braces_closed}
use Rattle.cl_parse_stmt.proofs.initialiser.+initialisers.Goals as goal

pub initialiser-is_at-requires : goal.initialiser-is_at-requires
initialiser-is_at-requires t c = c.requires.within

pub initialiser-braced-requires : goal.initialiser-braced-requires
initialiser-braced-requires t c = (let d : 2 * (length c.args.reader.now - c.args.at) + 1 ≡ t = c.decreases in omega (arith, d), (c.requires.ends, (c.requires.within, c.if-is_at.ensures.stands)))

pub initialiser-assign-requires-clause-ends : goal.initialiser-assign-requires-clause-ends
initialiser-assign-requires-clause-ends t c = c.requires.ends

pub initialiser-assign-requires-clause-within : goal.initialiser-assign-requires-clause-within
initialiser-assign-requires-clause-within t c = c.requires.within

pub initialiser-returns-in_err-taken-clause-ok : goal.initialiser-returns-in_err-taken-clause-ok
initialiser-returns-in_err-taken-clause-ok t c = IfOk-from_err _ _ c.from_residual.ensures.0

pub initialiser-returns-in_err-taken-clause-out : goal.initialiser-returns-in_err-taken-clause-out
initialiser-returns-in_err-taken-clause-out t c = out_by _ _ _ _ _ c.from_residual.ensures.1 (value_stop_0 _ _ c.requires.ends c.if-is_at.ensures.stands.other c.if-is_at.ensures.stands.stands (brace_value _ c.if-is_at.ensures.stands.differs) _ c.in_err-taken.ensures.out)

pub initialiser-returns-in_ok-taken-clause-ok : goal.initialiser-returns-in_ok-taken-clause-ok
initialiser-returns-in_ok-taken-clause-ok t c = value_ok _ _ c.requires.ends c.if-is_at.ensures.stands.other c.if-is_at.ensures.stands.stands (brace_value _ c.if-is_at.ensures.stands.differs) _ _ c.in_ok-taken.ensures.ok.read c.in_ok-taken.ensures.ok.tree

pub initialiser-returns-then-is_at-clause-ok : goal.initialiser-returns-then-is_at-clause-ok
initialiser-returns-then-is_at-clause-ok t c = c.braced.ensures.ok

pub initialiser-returns-then-is_at-clause-out : goal.initialiser-returns-then-is_at-clause-out
initialiser-returns-then-is_at-clause-out t c = c.braced.ensures.out

pub braced-place-place-requires : goal.braced-place-place-requires
braced-place-place-requires t c = c.requires.within

pub braced-expect-requires-clause-within : goal.braced-expect-requires-clause-within
braced-expect-requires-clause-within t c = c.requires.within

pub braced-expect-requires-clause-makes : goal.braced-expect-requires-clause-makes
braced-expect-requires-clause-makes t c = refl

pub braced-returns-in_err-inside-clause-ok : goal.braced-returns-in_err-inside-clause-ok
braced-returns-in_err-inside-clause-ok t c = IfOk-from_err _ _ c.from_residual.ensures.0

pub braced-returns-in_err-inside-clause-out : goal.braced-returns-in_err-inside-clause-out
braced-returns-in_err-inside-clause-out t c = out_by _ _ _ _ _ c.from_residual.ensures.1 (braces_stop_open _ _ c.requires.opens _ c.in_err-inside.ensures.out)

pub braced-initialiser-requires : goal.braced-initialiser-requires
braced-initialiser-requires t c = (let d : 2 * (length c.args.reader.now - c.args.at) ≡ t = c.decreases in let w = c.requires.within in let e = c.in_ok-inside.ensures.next in omega (arith, d, w, e), (c.requires.ends, brace_within _ _ _ c.requires.ends c.requires.opens c.in_ok-inside.ensures.next))

pub braced-returns-in_err-first-clause-ok : goal.braced-returns-in_err-first-clause-ok
braced-returns-in_err-first-clause-ok t c = IfOk-from_err _ _ c.from_residual-in_err-first.ensures.0

pub braced-returns-in_err-first-clause-out : goal.braced-returns-in_err-first-clause-out
braced-returns-in_err-first-clause-out t c = out_by _ _ _ _ _ c.from_residual-in_err-first.ensures.1 (braces_stop_first _ _ _ c.requires.ends c.requires.opens c.in_ok-inside.ensures.next _ c.in_err-first.ensures.out)

pub braced-returns-in_err-push-clause-ok : goal.braced-returns-in_err-push-clause-ok
braced-returns-in_err-push-clause-ok t c = IfOk-from_err _ _ c.from_residual-in_err-push.ensures.0

pub braced-returns-in_err-push-clause-out : goal.braced-returns-in_err-push-clause-out
braced-returns-in_err-push-clause-out t c = no_memory _ _ _ _ c.from_residual-in_err-push.ensures.1

pub braced-loop-alloc-init : goal.braced-loop-alloc-init
braced-loop-alloc-init t c = pushed_first (λ z. InitsAt c.args.reader.now c.args.at c.in_ok-first.here z) _ _ _ c.in_ok-push.ensures.items c.new-items.ensures.items (inits_at_first _ _ _ _ _ c.requires.ends c.requires.opens c.in_ok-inside.ensures.next c.in_ok-first.ensures.ok)

pub braced-is_at-requires : goal.braced-is_at-requires
braced-is_at-requires t c = c.loop-alloc.invariant.begun.within

pub braced-expect-requires-in-loop-alloc-clause-within : goal.braced-expect-requires-in-loop-alloc-clause-within
braced-expect-requires-in-loop-alloc-clause-within t c = c.loop-alloc.invariant.begun.within

pub braced-expect-requires-in-loop-alloc-clause-makes : goal.braced-expect-requires-in-loop-alloc-clause-makes
braced-expect-requires-in-loop-alloc-clause-makes t c = refl

pub braced-returns-in_err-next-clause-ok : goal.braced-returns-in_err-next-clause-ok
braced-returns-in_err-next-clause-ok t c = IfOk-from_err _ _ c.from_residual-in_err-next.ensures.0

pub braced-returns-in_err-next-clause-out : goal.braced-returns-in_err-next-clause-out
braced-returns-in_err-next-clause-out t c = out_by _ _ _ _ _ c.from_residual-in_err-next.ensures.1 (braces_stop_comma _ _ _ _ c.loop-alloc.invariant c.loop-alloc-test.ensures.stands _ c.in_err-next.ensures.out)

pub braced-is_at-requires-in-loop-alloc : goal.braced-is_at-requires-in-loop-alloc
braced-is_at-requires-in-loop-alloc t c = comma_within _ _ _ c.requires.ends c.loop-alloc-test.ensures.stands c.in_ok-next.ensures.next

pub braced-expect-requires-then-is_at-clause-within : goal.braced-expect-requires-then-is_at-clause-within
braced-expect-requires-then-is_at-clause-within t c = comma_within _ _ _ c.requires.ends c.loop-alloc-test.ensures.stands c.in_ok-next.ensures.next

pub braced-expect-requires-then-is_at-clause-makes : goal.braced-expect-requires-then-is_at-clause-makes
braced-expect-requires-then-is_at-clause-makes t c = refl

pub braced-returns-in_err-end-clause-ok : goal.braced-returns-in_err-end-clause-ok
braced-returns-in_err-end-clause-ok t c = IfOk-from_err _ _ c.from_residual-in_err-end.ensures.0

pub braced-returns-in_err-end-clause-out : goal.braced-returns-in_err-end-clause-out
braced-returns-in_err-end-clause-out t c = out_by _ _ _ _ _ c.from_residual-in_err-end.ensures.1 (braces_stop_trailing _ _ _ _ _ c.requires.ends c.loop-alloc.invariant c.loop-alloc-test.ensures.stands c.in_ok-next.ensures.next c.if-is_at.ensures.stands _ c.in_err-end.ensures.out)

pub braced-returns-then-is_at-clause-ok : goal.braced-returns-then-is_at-clause-ok
braced-returns-then-is_at-clause-ok t c = braces_trailing _ _ _ _ _ _ _ c.requires.ends c.loop-alloc.invariant c.loop-alloc-test.ensures.stands c.in_ok-next.ensures.next c.if-is_at.ensures.stands c.in_ok-end.ensures.next c.place-place.ensures

pub braced-initialiser-requires-in-loop-alloc : goal.braced-initialiser-requires-in-loop-alloc
braced-initialiser-requires-in-loop-alloc t c = (let d : 2 * (length c.args.reader.now - c.args.at) ≡ t = c.decreases in let w = c.requires.within in let f = c.loop-alloc.invariant.forth in let e = c.in_ok-next.ensures.next in omega (arith, d, w, f, e), (c.requires.ends, comma_within _ _ _ c.requires.ends c.loop-alloc-test.ensures.stands c.in_ok-next.ensures.next))

pub braced-returns-in_err-item-clause-ok : goal.braced-returns-in_err-item-clause-ok
braced-returns-in_err-item-clause-ok t c = IfOk-from_err _ _ c.from_residual-in_err-item.ensures.0

pub braced-returns-in_err-item-clause-out : goal.braced-returns-in_err-item-clause-out
braced-returns-in_err-item-clause-out t c = out_by _ _ _ _ _ c.from_residual-in_err-item.ensures.1 (braces_stop_item _ _ _ _ _ c.requires.ends c.loop-alloc.invariant c.loop-alloc-test.ensures.stands c.in_ok-next.ensures.next c.if-is_at.ensures.stands _ c.in_err-item.ensures.out)

pub braced-returns-in_err-push-2-clause-ok : goal.braced-returns-in_err-push-2-clause-ok
braced-returns-in_err-push-2-clause-ok t c = IfOk-from_err _ _ c.from_residual-in_err-push-2.ensures.0

pub braced-returns-in_err-push-2-clause-out : goal.braced-returns-in_err-push-2-clause-out
braced-returns-in_err-push-2-clause-out t c = no_memory _ _ _ _ c.from_residual-in_err-push-2.ensures.1

pub braced-loop-alloc-smaller : goal.braced-loop-alloc-smaller
braced-loop-alloc-smaller t c = shorter_behind _ _ _ _ c.in_ok-next.ensures.next c.in_ok-item.ensures.ok.forth c.in_ok-item.ensures.ok.read.read.within

pub braced-loop-alloc-preserved : goal.braced-loop-alloc-preserved
braced-loop-alloc-preserved t c = pushed (λ z. InitsAt c.args.reader.now c.args.at c.in_ok-item.behind z) _ _ _ c.in_ok-push-2.ensures.items (inits_at_more _ _ _ _ _ _ _ c.requires.ends c.loop-alloc.invariant c.loop-alloc-test.ensures.stands c.in_ok-next.ensures.next c.if-is_at.ensures.stands c.in_ok-item.ensures.ok)

pub braced-expect-requires-2-clause-within : goal.braced-expect-requires-2-clause-within
braced-expect-requires-2-clause-within t c = c.loop-alloc.invariant.begun.within

pub braced-expect-requires-2-clause-makes : goal.braced-expect-requires-2-clause-makes
braced-expect-requires-2-clause-makes t c = refl

pub braced-returns-in_err-close-clause-ok : goal.braced-returns-in_err-close-clause-ok
braced-returns-in_err-close-clause-ok t c = IfOk-from_err _ _ c.from_residual-in_err-close.ensures.0

pub braced-returns-in_err-close-clause-out : goal.braced-returns-in_err-close-clause-out
braced-returns-in_err-close-clause-out t c = out_by _ _ _ _ _ c.from_residual-in_err-close.ensures.1 (braces_stop_close _ _ _ _ c.loop-alloc.invariant c.loop-alloc-test.ensures.stands _ c.in_err-close.ensures.out)

pub braced-returns-clause-ok : goal.braced-returns-clause-ok
braced-returns-clause-ok t c = braces_closed _ _ _ _ _ _ c.requires.ends c.loop-alloc.invariant c.loop-alloc-test.ensures.stands c.in_ok-close.ensures.ok c.in_ok-close.ensures.next c.place-place.ensures
