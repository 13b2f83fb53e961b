use Rattle.std.proofs.Common.{◌≡◌, ◌+◌, ◌-◌, ◌*◌, length, refl, sym, subst, arith}
use Rattle.std.proofs.lemmas.Result.{IfOk-from_err}
use Rattle.cl_grammar.specs.declared.terminal.Terminal.TheVariants as words
use Rattle.cl_parse_stmt.proofs.Moves.{token_at, out_by, no_memory, more_behind, shorter, shorter_from, pushed, two_of}
use Rattle.cl_parse_stmt.proofs.Chains.{block_stop_0, block_stop_1, block_stop_2, block_ok as a_block_ok, while_loop_stop_0, while_loop_stop_1, while_loop_stop_2, while_loop_ok, for_loop_stop_0, for_loop_stop_1, for_loop_ok, do_loop_stop_0, do_loop_stop_1, do_loop_stop_2, do_loop_stop_3, do_loop_stop_4, do_loop_ok, switch_stop_0, switch_stop_1, switch_stop_2, switch_stop_3, switch_stop_4, switch_ok}
use Rattle.cl_parse_stmt.proofs.Statements.{is_OpenBrace, is_If, is_While, is_For, is_Do, is_Switch, is_Break, is_Continue, is_Return, block_stop, block_ok, item_stop, item_ok, if_stop_0, if_stop_1, if_stop_2, if_at, if_alone, else_stop_0, else_stop_1, if_else_ok}
use Rattle.cl_parse_stmt.proofs.Sections.{ItemsAt, SectionsAt, items_at_first, items_stop, items_at_more, items_done, sections_at_first, sections_stop_labels, sections_stop_items, sections_pushed, built_group, sections_done}
use Rattle.cl_parse_stmt.proofs.Lists.{brace_within}
use Rattle.cl_parse_stmt.proofs.statement.+statements.Goals as goal

pub block-place-place-requires : goal.block-place-place-requires
block-place-place-requires t c = c.requires.within

pub block-expect-requires-clause-within : goal.block-expect-requires-clause-within
block-expect-requires-clause-within t c = c.requires.within

pub block-expect-requires-clause-makes : goal.block-expect-requires-clause-makes
block-expect-requires-clause-makes t c = refl

pub block-returns-in_err-inside-clause-ok : goal.block-returns-in_err-inside-clause-ok
block-returns-in_err-inside-clause-ok t c = IfOk-from_err _ _ c.from_residual.ensures.0

pub block-returns-in_err-inside-clause-out : goal.block-returns-in_err-inside-clause-out
block-returns-in_err-inside-clause-out t c = out_by _ _ _ _ _ c.from_residual.ensures.1 (block_stop_0 _ _ c.requires.ends (token_at _ _ c.requires.within).terminal (token_at _ _ c.requires.within).stands _ c.in_err-inside.ensures.out)

pub block-items-requires : goal.block-items-requires
block-items-requires t c = (let d : 4 * (length c.args.reader.now - c.args.at) ≡ t = c.decreases in let w = c.requires.within in let e0 = c.in_ok-inside.ensures.next in omega (arith, d, w, e0), (c.requires.ends, brace_within _ _ _ c.requires.ends c.in_ok-inside.ensures.ok c.in_ok-inside.ensures.next))

pub block-returns-in_err-body-clause-ok : goal.block-returns-in_err-body-clause-ok
block-returns-in_err-body-clause-ok t c = IfOk-from_err _ _ c.from_residual-in_err-body.ensures.0

pub block-returns-in_err-body-clause-out : goal.block-returns-in_err-body-clause-out
block-returns-in_err-body-clause-out t c = out_by _ _ _ _ _ c.from_residual-in_err-body.ensures.1 (block_stop_1 _ _ c.requires.ends (token_at _ _ c.requires.within).terminal (token_at _ _ c.requires.within).stands _ c.in_ok-inside.ensures.ok c.in_ok-inside.ensures.next _ c.in_err-body.ensures.out)

pub block-expect-requires-2-clause-within : goal.block-expect-requires-2-clause-within
block-expect-requires-2-clause-within t c = c.in_ok-body.ensures.ok.read.read.within

pub block-expect-requires-2-clause-makes : goal.block-expect-requires-2-clause-makes
block-expect-requires-2-clause-makes t c = refl

pub block-returns-in_err-next-clause-ok : goal.block-returns-in_err-next-clause-ok
block-returns-in_err-next-clause-ok t c = IfOk-from_err _ _ c.from_residual-in_err-next.ensures.0

pub block-returns-in_err-next-clause-out : goal.block-returns-in_err-next-clause-out
block-returns-in_err-next-clause-out t c = out_by _ _ _ _ _ c.from_residual-in_err-next.ensures.1 (block_stop_2 _ _ c.requires.ends (token_at _ _ c.requires.within).terminal (token_at _ _ c.requires.within).stands _ c.in_ok-inside.ensures.ok c.in_ok-inside.ensures.next _ c.in_ok-body.body c.in_ok-body.ensures.ok _ c.in_err-next.ensures.out)

pub block-returns-clause-ok : goal.block-returns-clause-ok
block-returns-clause-ok t c = a_block_ok _ _ c.requires.ends (token_at _ _ c.requires.within).terminal (token_at _ _ c.requires.within).stands _ c.in_ok-inside.ensures.ok c.in_ok-inside.ensures.next _ c.in_ok-body.body c.in_ok-body.ensures.ok _ c.in_ok-next.ensures.ok c.in_ok-next.ensures.next _ _ c.place-place.ensures (record { at = refl; is = refl })

pub items-loop-alloc-init : goal.items-loop-alloc-init
items-loop-alloc-init t c = subst (λ z. ItemsAt c.args.reader.now c.args.at c.args.at z) (sym c.new-body.ensures.items) (items_at_first _ _ c.requires.within)

pub items-ends_items-requires : goal.items-ends_items-requires
items-ends_items-requires t c = c.loop-alloc.invariant.begun.within

pub items-item-requires : goal.items-item-requires
items-item-requires t c = (let d : 4 * (length c.args.reader.now - c.args.at) + 3 ≡ t = c.decreases in let w = c.requires.within in let e0 = c.loop-alloc.invariant.begun.forth in omega (arith, d, w, e0), (c.requires.ends, c.loop-alloc.invariant.begun.within))

pub items-returns-in_err-next-clause-ok : goal.items-returns-in_err-next-clause-ok
items-returns-in_err-next-clause-ok t c = IfOk-from_err _ _ c.from_residual.ensures.0

pub items-returns-in_err-next-clause-out : goal.items-returns-in_err-next-clause-out
items-returns-in_err-next-clause-out t c = out_by _ _ _ _ _ c.from_residual.ensures.1 (items_stop _ _ _ _ c.loop-alloc.invariant c.loop-alloc-test.ensures _ c.in_err-next.ensures.out)

pub items-returns-in_err-push-clause-ok : goal.items-returns-in_err-push-clause-ok
items-returns-in_err-push-clause-ok t c = IfOk-from_err _ _ c.from_residual-in_err-push.ensures.0

pub items-returns-in_err-push-clause-out : goal.items-returns-in_err-push-clause-out
items-returns-in_err-push-clause-out t c = no_memory _ _ _ _ c.from_residual-in_err-push.ensures.1

pub items-loop-alloc-smaller : goal.items-loop-alloc-smaller
items-loop-alloc-smaller t c = shorter _ _ _ c.in_ok-next.ensures.ok.forth c.in_ok-next.ensures.ok.read.read.within

pub items-loop-alloc-preserved : goal.items-loop-alloc-preserved
items-loop-alloc-preserved t c = pushed (λ z. ItemsAt c.args.reader.now c.args.at c.in_ok-next.behind z) _ _ _ c.in_ok-push.ensures.items (items_at_more _ _ _ _ _ _ c.loop-alloc.invariant c.loop-alloc-test.ensures c.in_ok-next.ensures.ok)

pub items-returns-clause-ok : goal.items-returns-clause-ok
items-returns-clause-ok t c = items_done _ _ _ _ c.loop-alloc.invariant c.loop-alloc-test.ensures

pub item-begins_type-requires : goal.item-begins_type-requires
item-begins_type-requires t c = c.requires.within

pub item-declaration-requires-clause-ends : goal.item-declaration-requires-clause-ends
item-declaration-requires-clause-ends t c = c.requires.ends

pub item-declaration-requires-clause-within : goal.item-declaration-requires-clause-within
item-declaration-requires-clause-within t c = c.requires.within

pub item-declaration-requires-clause-begins : goal.item-declaration-requires-clause-begins
item-declaration-requires-clause-begins t c = c.if-begins_type.ensures

pub item-returns-then-begins_type-clause-ok : goal.item-returns-then-begins_type-clause-ok
item-returns-then-begins_type-clause-ok t c = c.declaration.ensures.ok

pub item-returns-then-begins_type-clause-out : goal.item-returns-then-begins_type-clause-out
item-returns-then-begins_type-clause-out t c = c.declaration.ensures.out

pub item-statement-requires : goal.item-statement-requires
item-statement-requires t c = (let d : 4 * (length c.args.reader.now - c.args.at) + 2 ≡ t = c.decreases in let w = c.requires.within in omega (arith, d, w), (c.requires.ends, c.requires.within))

pub item-returns-in_err-tree-clause-ok : goal.item-returns-in_err-tree-clause-ok
item-returns-in_err-tree-clause-ok t c = IfOk-from_err _ _ c.from_residual.ensures.0

pub item-returns-in_err-tree-clause-out : goal.item-returns-in_err-tree-clause-out
item-returns-in_err-tree-clause-out t c = out_by _ _ _ _ _ c.from_residual.ensures.1 (item_stop _ _ c.if-begins_type.ensures _ c.in_err-tree.ensures.out)

pub item-returns-in_ok-tree-clause-ok : goal.item-returns-in_ok-tree-clause-ok
item-returns-in_ok-tree-clause-ok t c = item_ok _ _ _ _ c.if-begins_type.ensures c.in_ok-tree.ensures.ok

pub statement-kind_at-requires : goal.statement-kind_at-requires
statement-kind_at-requires t c = c.requires.within

pub statement-block-requires : goal.statement-block-requires
statement-block-requires t c = (let d : 4 * (length c.args.reader.now - c.args.at) + 1 ≡ t = c.decreases in let w = c.requires.within in omega (arith, d, w), (c.requires.ends, c.requires.within))

pub statement-returns-in_err-tree-in-Block-clause-ok : goal.statement-returns-in_err-tree-in-Block-clause-ok
statement-returns-in_err-tree-in-Block-clause-ok t c = IfOk-from_err _ _ c.from_residual.ensures.0

pub statement-returns-in_err-tree-in-Block-clause-out : goal.statement-returns-in_err-tree-in-Block-clause-out
statement-returns-in_err-tree-in-Block-clause-out t c = out_by _ _ _ _ _ c.from_residual.ensures.1 (block_stop _ _ (is_OpenBrace _ _ c.in-Block.ensures) _ c.in_err-tree-in-Block.ensures.out)

pub statement-returns-in_ok-tree-in-Block-clause-ok : goal.statement-returns-in_ok-tree-in-Block-clause-ok
statement-returns-in_ok-tree-in-Block-clause-ok t c = block_ok _ _ _ _ (is_OpenBrace _ _ c.in-Block.ensures) c.in_ok-tree-in-Block.ensures.ok

pub statement-if_statement-requires : goal.statement-if_statement-requires
statement-if_statement-requires t c = (let d : 4 * (length c.args.reader.now - c.args.at) + 1 ≡ t = c.decreases in let w = c.requires.within in omega (arith, d, w), (c.requires.ends, (c.requires.within, is_If _ _ c.in-If.ensures)))

pub statement-returns-in-If-clause-ok : goal.statement-returns-in-If-clause-ok
statement-returns-in-If-clause-ok t c = c.if_statement.ensures.ok

pub statement-returns-in-If-clause-out : goal.statement-returns-in-If-clause-out
statement-returns-in-If-clause-out t c = c.if_statement.ensures.out

pub statement-while_statement-requires : goal.statement-while_statement-requires
statement-while_statement-requires t c = (let d : 4 * (length c.args.reader.now - c.args.at) + 1 ≡ t = c.decreases in let w = c.requires.within in omega (arith, d, w), (c.requires.ends, (c.requires.within, is_While _ _ c.in-While.ensures)))

pub statement-returns-in-While-clause-ok : goal.statement-returns-in-While-clause-ok
statement-returns-in-While-clause-ok t c = c.while_statement.ensures.ok

pub statement-returns-in-While-clause-out : goal.statement-returns-in-While-clause-out
statement-returns-in-While-clause-out t c = c.while_statement.ensures.out

pub statement-for_statement-requires : goal.statement-for_statement-requires
statement-for_statement-requires t c = (let d : 4 * (length c.args.reader.now - c.args.at) + 1 ≡ t = c.decreases in let w = c.requires.within in omega (arith, d, w), (c.requires.ends, (c.requires.within, is_For _ _ c.in-For.ensures)))

pub statement-returns-in-For-clause-ok : goal.statement-returns-in-For-clause-ok
statement-returns-in-For-clause-ok t c = c.for_statement.ensures.ok

pub statement-returns-in-For-clause-out : goal.statement-returns-in-For-clause-out
statement-returns-in-For-clause-out t c = c.for_statement.ensures.out

pub statement-do_statement-requires : goal.statement-do_statement-requires
statement-do_statement-requires t c = (let d : 4 * (length c.args.reader.now - c.args.at) + 1 ≡ t = c.decreases in let w = c.requires.within in omega (arith, d, w), (c.requires.ends, (c.requires.within, is_Do _ _ c.in-Do.ensures)))

pub statement-returns-in-Do-clause-ok : goal.statement-returns-in-Do-clause-ok
statement-returns-in-Do-clause-ok t c = c.do_statement.ensures.ok

pub statement-returns-in-Do-clause-out : goal.statement-returns-in-Do-clause-out
statement-returns-in-Do-clause-out t c = c.do_statement.ensures.out

pub statement-switch_statement-requires : goal.statement-switch_statement-requires
statement-switch_statement-requires t c = (let d : 4 * (length c.args.reader.now - c.args.at) + 1 ≡ t = c.decreases in let w = c.requires.within in omega (arith, d, w), (c.requires.ends, (c.requires.within, is_Switch _ _ c.in-Switch.ensures)))

pub statement-returns-in-Switch-clause-ok : goal.statement-returns-in-Switch-clause-ok
statement-returns-in-Switch-clause-ok t c = c.switch_statement.ensures.ok

pub statement-returns-in-Switch-clause-out : goal.statement-returns-in-Switch-clause-out
statement-returns-in-Switch-clause-out t c = c.switch_statement.ensures.out

pub statement-break_statement-requires-clause-ends : goal.statement-break_statement-requires-clause-ends
statement-break_statement-requires-clause-ends t c = c.requires.ends

pub statement-break_statement-requires-clause-within : goal.statement-break_statement-requires-clause-within
statement-break_statement-requires-clause-within t c = c.requires.within

pub statement-break_statement-requires-clause-begins : goal.statement-break_statement-requires-clause-begins
statement-break_statement-requires-clause-begins t c = is_Break _ _ c.in-Break.ensures

pub statement-returns-in-Break-clause-ok : goal.statement-returns-in-Break-clause-ok
statement-returns-in-Break-clause-ok t c = c.break_statement.ensures.ok

pub statement-returns-in-Break-clause-out : goal.statement-returns-in-Break-clause-out
statement-returns-in-Break-clause-out t c = c.break_statement.ensures.out

pub statement-continue_statement-requires-clause-ends : goal.statement-continue_statement-requires-clause-ends
statement-continue_statement-requires-clause-ends t c = c.requires.ends

pub statement-continue_statement-requires-clause-within : goal.statement-continue_statement-requires-clause-within
statement-continue_statement-requires-clause-within t c = c.requires.within

pub statement-continue_statement-requires-clause-begins : goal.statement-continue_statement-requires-clause-begins
statement-continue_statement-requires-clause-begins t c = is_Continue _ _ c.in-Continue.ensures

pub statement-returns-in-Continue-clause-ok : goal.statement-returns-in-Continue-clause-ok
statement-returns-in-Continue-clause-ok t c = c.continue_statement.ensures.ok

pub statement-returns-in-Continue-clause-out : goal.statement-returns-in-Continue-clause-out
statement-returns-in-Continue-clause-out t c = c.continue_statement.ensures.out

pub statement-return_statement-requires-clause-ends : goal.statement-return_statement-requires-clause-ends
statement-return_statement-requires-clause-ends t c = c.requires.ends

pub statement-return_statement-requires-clause-within : goal.statement-return_statement-requires-clause-within
statement-return_statement-requires-clause-within t c = c.requires.within

pub statement-return_statement-requires-clause-begins : goal.statement-return_statement-requires-clause-begins
statement-return_statement-requires-clause-begins t c = is_Return _ _ c.in-Return.ensures

pub statement-returns-in-Return-clause-ok : goal.statement-returns-in-Return-clause-ok
statement-returns-in-Return-clause-ok t c = c.return_statement.ensures.ok

pub statement-returns-in-Return-clause-out : goal.statement-returns-in-Return-clause-out
statement-returns-in-Return-clause-out t c = c.return_statement.ensures.out

pub statement-expression_statement-requires-clause-ends : goal.statement-expression_statement-requires-clause-ends
statement-expression_statement-requires-clause-ends t c = c.requires.ends

pub statement-expression_statement-requires-clause-within : goal.statement-expression_statement-requires-clause-within
statement-expression_statement-requires-clause-within t c = c.requires.within

pub statement-expression_statement-requires-clause-begins : goal.statement-expression_statement-requires-clause-begins
statement-expression_statement-requires-clause-begins t c = c.in-Expression.ensures

pub statement-returns-in-Expression-clause-ok : goal.statement-returns-in-Expression-clause-ok
statement-returns-in-Expression-clause-ok t c = c.expression_statement.ensures.ok

pub statement-returns-in-Expression-clause-out : goal.statement-returns-in-Expression-clause-out
statement-returns-in-Expression-clause-out t c = c.expression_statement.ensures.out

pub if_statement-place-place-requires : goal.if_statement-place-place-requires
if_statement-place-place-requires t c = c.requires.within

pub if_statement-expect-requires-clause-within : goal.if_statement-expect-requires-clause-within
if_statement-expect-requires-clause-within t c = c.requires.within

pub if_statement-expect-requires-clause-makes : goal.if_statement-expect-requires-clause-makes
if_statement-expect-requires-clause-makes t c = refl

pub if_statement-returns-in_err-here-clause-ok : goal.if_statement-returns-in_err-here-clause-ok
if_statement-returns-in_err-here-clause-ok t c = IfOk-from_err _ _ c.from_residual.ensures.0

pub if_statement-returns-in_err-here-clause-out : goal.if_statement-returns-in_err-here-clause-out
if_statement-returns-in_err-here-clause-out t c = out_by _ _ _ _ _ c.from_residual.ensures.1 (if_stop_0 _ _ c.requires.begins _ c.in_err-here.ensures.out)

pub if_statement-bracketed-requires-clause-ends : goal.if_statement-bracketed-requires-clause-ends
if_statement-bracketed-requires-clause-ends t c = c.requires.ends

pub if_statement-bracketed-requires-clause-within : goal.if_statement-bracketed-requires-clause-within
if_statement-bracketed-requires-clause-within t c = more_behind words.If _ _ _ c.requires.ends c.requires.begins refl c.in_ok-here.ensures.next

pub if_statement-returns-in_err-cond-clause-ok : goal.if_statement-returns-in_err-cond-clause-ok
if_statement-returns-in_err-cond-clause-ok t c = IfOk-from_err _ _ c.from_residual-in_err-cond.ensures.0

pub if_statement-returns-in_err-cond-clause-out : goal.if_statement-returns-in_err-cond-clause-out
if_statement-returns-in_err-cond-clause-out t c = out_by _ _ _ _ _ c.from_residual-in_err-cond.ensures.1 (if_stop_1 _ _ _ c.requires.ends c.requires.begins c.in_ok-here.ensures.next _ c.in_err-cond.ensures.out)

pub if_statement-statement-requires : goal.if_statement-statement-requires
if_statement-statement-requires t c = (let d : 4 * (length c.args.reader.now - c.args.at) ≡ t = c.decreases in let w = c.requires.within in let e0 = c.in_ok-here.ensures.next in let e1 = c.in_ok-cond.ensures.ok.forth in omega (arith, d, w, e0, e1), (c.requires.ends, c.in_ok-cond.ensures.ok.read.read.within))

pub if_statement-returns-in_err-first-clause-ok : goal.if_statement-returns-in_err-first-clause-ok
if_statement-returns-in_err-first-clause-ok t c = IfOk-from_err _ _ c.from_residual-in_err-first.ensures.0

pub if_statement-returns-in_err-first-clause-out : goal.if_statement-returns-in_err-first-clause-out
if_statement-returns-in_err-first-clause-out t c = out_by _ _ _ _ _ c.from_residual-in_err-first.ensures.1 (if_stop_2 _ _ _ _ _ c.requires.ends c.requires.begins c.in_ok-here.ensures.next c.in_ok-cond.ensures.ok _ c.in_err-first.ensures.out)

pub if_statement-returns-in_err-arm-clause-ok : goal.if_statement-returns-in_err-arm-clause-ok
if_statement-returns-in_err-arm-clause-ok t c = IfOk-from_err _ _ c.from_residual-in_err-arm.ensures.0

pub if_statement-returns-in_err-arm-clause-out : goal.if_statement-returns-in_err-arm-clause-out
if_statement-returns-in_err-arm-clause-out t c = no_memory _ _ _ _ c.from_residual-in_err-arm.ensures.1

pub if_statement-begins_else-requires : goal.if_statement-begins_else-requires
if_statement-begins_else-requires t c = c.in_ok-first.ensures.ok.read.read.within

pub if_statement-expect-requires-then-begins_else-clause-within : goal.if_statement-expect-requires-then-begins_else-clause-within
if_statement-expect-requires-then-begins_else-clause-within t c = c.in_ok-first.ensures.ok.read.read.within

pub if_statement-expect-requires-then-begins_else-clause-makes : goal.if_statement-expect-requires-then-begins_else-clause-makes
if_statement-expect-requires-then-begins_else-clause-makes t c = refl

pub if_statement-returns-in_err-then-clause-ok : goal.if_statement-returns-in_err-then-clause-ok
if_statement-returns-in_err-then-clause-ok t c = IfOk-from_err _ _ c.from_residual-in_err-then.ensures.0

pub if_statement-returns-in_err-then-clause-out : goal.if_statement-returns-in_err-then-clause-out
if_statement-returns-in_err-then-clause-out t c = out_by _ _ _ _ _ c.from_residual-in_err-then.ensures.1 (else_stop_0 _ _ _ _ _ (if_at _ _ _ _ _ _ _ c.requires.ends c.requires.begins c.in_ok-here.ensures.next c.in_ok-cond.ensures.ok c.in_ok-first.ensures.ok) c.if-begins_else.ensures _ c.in_err-then.ensures.out)

pub if_statement-statement-requires-then-begins_else : goal.if_statement-statement-requires-then-begins_else
if_statement-statement-requires-then-begins_else t c = (let d : 4 * (length c.args.reader.now - c.args.at) ≡ t = c.decreases in let w = c.requires.within in let e0 = c.in_ok-here.ensures.next in let e1 = c.in_ok-cond.ensures.ok.forth in let e2 = c.in_ok-first.ensures.ok.forth in let e3 = c.in_ok-then.ensures.next in omega (arith, d, w, e0, e1, e2, e3), (c.requires.ends, more_behind words.Else _ _ _ c.requires.ends c.if-begins_else.ensures refl c.in_ok-then.ensures.next))

pub if_statement-returns-in_err-second-clause-ok : goal.if_statement-returns-in_err-second-clause-ok
if_statement-returns-in_err-second-clause-ok t c = IfOk-from_err _ _ c.from_residual-in_err-second.ensures.0

pub if_statement-returns-in_err-second-clause-out : goal.if_statement-returns-in_err-second-clause-out
if_statement-returns-in_err-second-clause-out t c = out_by _ _ _ _ _ c.from_residual-in_err-second.ensures.1 (else_stop_1 _ _ _ _ _ _ c.requires.ends (if_at _ _ _ _ _ _ _ c.requires.ends c.requires.begins c.in_ok-here.ensures.next c.in_ok-cond.ensures.ok c.in_ok-first.ensures.ok) c.if-begins_else.ensures c.in_ok-then.ensures.next _ c.in_err-second.ensures.out)

pub if_statement-returns-in_err-arms-clause-ok : goal.if_statement-returns-in_err-arms-clause-ok
if_statement-returns-in_err-arms-clause-ok t c = IfOk-from_err _ _ c.from_residual-in_err-arms.ensures.0

pub if_statement-returns-in_err-arms-clause-out : goal.if_statement-returns-in_err-arms-clause-out
if_statement-returns-in_err-arms-clause-out t c = no_memory _ _ _ _ c.from_residual-in_err-arms.ensures.1

pub if_statement-returns-in_ok-arms-clause-ok : goal.if_statement-returns-in_ok-arms-clause-ok
if_statement-returns-in_ok-arms-clause-ok t c = if_else_ok _ _ _ _ _ _ _ _ _ _ _ c.requires.ends (if_at _ _ _ _ _ _ _ c.requires.ends c.requires.begins c.in_ok-here.ensures.next c.in_ok-cond.ensures.ok c.in_ok-first.ensures.ok) c.if-begins_else.ensures c.in_ok-then.ensures.next c.in_ok-second.ensures.ok (two_of _ _ _ _ c.in_ok-arm.ensures c.in_ok-arms.ensures) c.place-place.ensures (record { at = refl; is = refl })

pub if_statement-returns-else-begins_else-clause-ok : goal.if_statement-returns-else-begins_else-clause-ok
if_statement-returns-else-begins_else-clause-ok t c = if_alone _ _ _ _ _ _ _ _ (if_at _ _ _ _ _ _ _ c.requires.ends c.requires.begins c.in_ok-here.ensures.next c.in_ok-cond.ensures.ok c.in_ok-first.ensures.ok) c.if-begins_else.ensures c.in_ok-arm.ensures c.place-place.ensures (record { at = refl; is = refl })

pub while_statement-place-place-requires : goal.while_statement-place-place-requires
while_statement-place-place-requires t c = c.requires.within

pub while_statement-expect-requires-clause-within : goal.while_statement-expect-requires-clause-within
while_statement-expect-requires-clause-within t c = c.requires.within

pub while_statement-expect-requires-clause-makes : goal.while_statement-expect-requires-clause-makes
while_statement-expect-requires-clause-makes t c = refl

pub while_statement-returns-in_err-here-clause-ok : goal.while_statement-returns-in_err-here-clause-ok
while_statement-returns-in_err-here-clause-ok t c = IfOk-from_err _ _ c.from_residual.ensures.0

pub while_statement-returns-in_err-here-clause-out : goal.while_statement-returns-in_err-here-clause-out
while_statement-returns-in_err-here-clause-out t c = out_by _ _ _ _ _ c.from_residual.ensures.1 (while_loop_stop_0 _ _ c.requires.ends _ c.requires.begins refl refl _ c.in_err-here.ensures.out)

pub while_statement-bracketed-requires-clause-ends : goal.while_statement-bracketed-requires-clause-ends
while_statement-bracketed-requires-clause-ends t c = c.requires.ends

pub while_statement-bracketed-requires-clause-within : goal.while_statement-bracketed-requires-clause-within
while_statement-bracketed-requires-clause-within t c = more_behind words.While _ _ _ c.requires.ends c.requires.begins refl c.in_ok-here.ensures.next

pub while_statement-returns-in_err-cond-clause-ok : goal.while_statement-returns-in_err-cond-clause-ok
while_statement-returns-in_err-cond-clause-ok t c = IfOk-from_err _ _ c.from_residual-in_err-cond.ensures.0

pub while_statement-returns-in_err-cond-clause-out : goal.while_statement-returns-in_err-cond-clause-out
while_statement-returns-in_err-cond-clause-out t c = out_by _ _ _ _ _ c.from_residual-in_err-cond.ensures.1 (while_loop_stop_1 _ _ c.requires.ends _ c.requires.begins refl refl _ c.in_ok-here.ensures.ok c.in_ok-here.ensures.next _ c.in_err-cond.ensures.out)

pub while_statement-statement-requires : goal.while_statement-statement-requires
while_statement-statement-requires t c = (let d : 4 * (length c.args.reader.now - c.args.at) ≡ t = c.decreases in let w = c.requires.within in let e0 = c.in_ok-here.ensures.next in let e1 = c.in_ok-cond.ensures.ok.forth in omega (arith, d, w, e0, e1), (c.requires.ends, c.in_ok-cond.ensures.ok.read.read.within))

pub while_statement-returns-in_err-inner-clause-ok : goal.while_statement-returns-in_err-inner-clause-ok
while_statement-returns-in_err-inner-clause-ok t c = IfOk-from_err _ _ c.from_residual-in_err-inner.ensures.0

pub while_statement-returns-in_err-inner-clause-out : goal.while_statement-returns-in_err-inner-clause-out
while_statement-returns-in_err-inner-clause-out t c = out_by _ _ _ _ _ c.from_residual-in_err-inner.ensures.1 (while_loop_stop_2 _ _ c.requires.ends _ c.requires.begins refl refl _ c.in_ok-here.ensures.ok c.in_ok-here.ensures.next _ _ c.in_ok-cond.ensures.ok _ c.in_err-inner.ensures.out)

pub while_statement-returns-in_err-body-clause-ok : goal.while_statement-returns-in_err-body-clause-ok
while_statement-returns-in_err-body-clause-ok t c = IfOk-from_err _ _ c.from_residual-in_err-body.ensures.0

pub while_statement-returns-in_err-body-clause-out : goal.while_statement-returns-in_err-body-clause-out
while_statement-returns-in_err-body-clause-out t c = no_memory _ _ _ _ c.from_residual-in_err-body.ensures.1

pub while_statement-returns-clause-ok : goal.while_statement-returns-clause-ok
while_statement-returns-clause-ok t c = while_loop_ok _ _ c.requires.ends _ c.requires.begins refl refl _ c.in_ok-here.ensures.ok c.in_ok-here.ensures.next _ _ c.in_ok-cond.ensures.ok _ _ c.in_ok-inner.ensures.ok _ c.in_ok-body.ensures _ _ c.place-place.ensures (record { at = refl; is = refl })

pub for_statement-place-place-requires : goal.for_statement-place-place-requires
for_statement-place-place-requires t c = c.requires.within

pub for_statement-for_head-requires-clause-ends : goal.for_statement-for_head-requires-clause-ends
for_statement-for_head-requires-clause-ends t c = c.requires.ends

pub for_statement-for_head-requires-clause-within : goal.for_statement-for_head-requires-clause-within
for_statement-for_head-requires-clause-within t c = c.requires.within

pub for_statement-for_head-requires-clause-begins : goal.for_statement-for_head-requires-clause-begins
for_statement-for_head-requires-clause-begins t c = c.requires.begins

pub for_statement-returns-in_err-head-clause-ok : goal.for_statement-returns-in_err-head-clause-ok
for_statement-returns-in_err-head-clause-ok t c = IfOk-from_err _ _ c.from_residual.ensures.0

pub for_statement-returns-in_err-head-clause-out : goal.for_statement-returns-in_err-head-clause-out
for_statement-returns-in_err-head-clause-out t c = out_by _ _ _ _ _ c.from_residual.ensures.1 (for_loop_stop_0 _ _ c.requires.ends _ c.requires.begins refl _ c.in_err-head.ensures.out)

pub for_statement-statement-requires : goal.for_statement-statement-requires
for_statement-statement-requires t c = (let d : 4 * (length c.args.reader.now - c.args.at) ≡ t = c.decreases in let w = c.requires.within in let e0 = c.in_ok-head.ensures.ok.forth in omega (arith, d, w, e0), (c.requires.ends, c.in_ok-head.ensures.ok.read.read.within))

pub for_statement-returns-in_err-inner-clause-ok : goal.for_statement-returns-in_err-inner-clause-ok
for_statement-returns-in_err-inner-clause-ok t c = IfOk-from_err _ _ c.from_residual-in_err-inner.ensures.0

pub for_statement-returns-in_err-inner-clause-out : goal.for_statement-returns-in_err-inner-clause-out
for_statement-returns-in_err-inner-clause-out t c = out_by _ _ _ _ _ c.from_residual-in_err-inner.ensures.1 (for_loop_stop_1 _ _ c.requires.ends _ c.requires.begins refl _ _ c.in_ok-head.ensures.ok _ c.in_err-inner.ensures.out)

pub for_statement-returns-in_err-body-clause-ok : goal.for_statement-returns-in_err-body-clause-ok
for_statement-returns-in_err-body-clause-ok t c = IfOk-from_err _ _ c.from_residual-in_err-body.ensures.0

pub for_statement-returns-in_err-body-clause-out : goal.for_statement-returns-in_err-body-clause-out
for_statement-returns-in_err-body-clause-out t c = no_memory _ _ _ _ c.from_residual-in_err-body.ensures.1

pub for_statement-returns-clause-ok : goal.for_statement-returns-clause-ok
for_statement-returns-clause-ok t c = for_loop_ok _ _ c.requires.ends _ c.requires.begins refl _ _ c.in_ok-head.ensures.ok _ _ c.in_ok-inner.ensures.ok _ c.in_ok-body.ensures _ _ c.place-place.ensures (record { at = refl; is = refl })

pub do_statement-place-place-requires : goal.do_statement-place-place-requires
do_statement-place-place-requires t c = c.requires.within

pub do_statement-expect-requires-clause-within : goal.do_statement-expect-requires-clause-within
do_statement-expect-requires-clause-within t c = c.requires.within

pub do_statement-expect-requires-clause-makes : goal.do_statement-expect-requires-clause-makes
do_statement-expect-requires-clause-makes t c = refl

pub do_statement-returns-in_err-here-clause-ok : goal.do_statement-returns-in_err-here-clause-ok
do_statement-returns-in_err-here-clause-ok t c = IfOk-from_err _ _ c.from_residual.ensures.0

pub do_statement-returns-in_err-here-clause-out : goal.do_statement-returns-in_err-here-clause-out
do_statement-returns-in_err-here-clause-out t c = out_by _ _ _ _ _ c.from_residual.ensures.1 (do_loop_stop_0 _ _ c.requires.ends _ c.requires.begins refl _ c.in_err-here.ensures.out)

pub do_statement-statement-requires : goal.do_statement-statement-requires
do_statement-statement-requires t c = (let d : 4 * (length c.args.reader.now - c.args.at) ≡ t = c.decreases in let w = c.requires.within in let e0 = c.in_ok-here.ensures.next in omega (arith, d, w, e0), (c.requires.ends, more_behind words.Do _ _ _ c.requires.ends c.requires.begins refl c.in_ok-here.ensures.next))

pub do_statement-returns-in_err-inner-clause-ok : goal.do_statement-returns-in_err-inner-clause-ok
do_statement-returns-in_err-inner-clause-ok t c = IfOk-from_err _ _ c.from_residual-in_err-inner.ensures.0

pub do_statement-returns-in_err-inner-clause-out : goal.do_statement-returns-in_err-inner-clause-out
do_statement-returns-in_err-inner-clause-out t c = out_by _ _ _ _ _ c.from_residual-in_err-inner.ensures.1 (do_loop_stop_1 _ _ c.requires.ends _ c.requires.begins refl _ c.in_ok-here.ensures.ok c.in_ok-here.ensures.next _ c.in_err-inner.ensures.out)

pub do_statement-returns-in_err-body-clause-ok : goal.do_statement-returns-in_err-body-clause-ok
do_statement-returns-in_err-body-clause-ok t c = IfOk-from_err _ _ c.from_residual-in_err-body.ensures.0

pub do_statement-returns-in_err-body-clause-out : goal.do_statement-returns-in_err-body-clause-out
do_statement-returns-in_err-body-clause-out t c = no_memory _ _ _ _ c.from_residual-in_err-body.ensures.1

pub do_statement-expect-requires-2-clause-within : goal.do_statement-expect-requires-2-clause-within
do_statement-expect-requires-2-clause-within t c = c.in_ok-inner.ensures.ok.read.read.within

pub do_statement-expect-requires-2-clause-makes : goal.do_statement-expect-requires-2-clause-makes
do_statement-expect-requires-2-clause-makes t c = refl

pub do_statement-returns-in_err-behind-clause-ok : goal.do_statement-returns-in_err-behind-clause-ok
do_statement-returns-in_err-behind-clause-ok t c = IfOk-from_err _ _ c.from_residual-in_err-behind.ensures.0

pub do_statement-returns-in_err-behind-clause-out : goal.do_statement-returns-in_err-behind-clause-out
do_statement-returns-in_err-behind-clause-out t c = out_by _ _ _ _ _ c.from_residual-in_err-behind.ensures.1 (do_loop_stop_2 _ _ c.requires.ends _ c.requires.begins refl _ c.in_ok-here.ensures.ok c.in_ok-here.ensures.next _ _ c.in_ok-inner.ensures.ok _ c.in_err-behind.ensures.out)

pub do_statement-bracketed-requires-clause-ends : goal.do_statement-bracketed-requires-clause-ends
do_statement-bracketed-requires-clause-ends t c = c.requires.ends

pub do_statement-bracketed-requires-clause-within : goal.do_statement-bracketed-requires-clause-within
do_statement-bracketed-requires-clause-within t c = more_behind words.While _ _ _ c.requires.ends c.in_ok-behind.ensures.ok refl c.in_ok-behind.ensures.next

pub do_statement-returns-in_err-cond-clause-ok : goal.do_statement-returns-in_err-cond-clause-ok
do_statement-returns-in_err-cond-clause-ok t c = IfOk-from_err _ _ c.from_residual-in_err-cond.ensures.0

pub do_statement-returns-in_err-cond-clause-out : goal.do_statement-returns-in_err-cond-clause-out
do_statement-returns-in_err-cond-clause-out t c = out_by _ _ _ _ _ c.from_residual-in_err-cond.ensures.1 (do_loop_stop_3 _ _ c.requires.ends _ c.requires.begins refl _ c.in_ok-here.ensures.ok c.in_ok-here.ensures.next _ _ c.in_ok-inner.ensures.ok _ c.in_ok-behind.ensures.ok c.in_ok-behind.ensures.next _ c.in_err-cond.ensures.out)

pub do_statement-expect-requires-3-clause-within : goal.do_statement-expect-requires-3-clause-within
do_statement-expect-requires-3-clause-within t c = c.in_ok-cond.ensures.ok.read.read.within

pub do_statement-expect-requires-3-clause-makes : goal.do_statement-expect-requires-3-clause-makes
do_statement-expect-requires-3-clause-makes t c = refl

pub do_statement-returns-in_err-next-clause-ok : goal.do_statement-returns-in_err-next-clause-ok
do_statement-returns-in_err-next-clause-ok t c = IfOk-from_err _ _ c.from_residual-in_err-next.ensures.0

pub do_statement-returns-in_err-next-clause-out : goal.do_statement-returns-in_err-next-clause-out
do_statement-returns-in_err-next-clause-out t c = out_by _ _ _ _ _ c.from_residual-in_err-next.ensures.1 (do_loop_stop_4 _ _ c.requires.ends _ c.requires.begins refl _ c.in_ok-here.ensures.ok c.in_ok-here.ensures.next _ _ c.in_ok-inner.ensures.ok _ c.in_ok-behind.ensures.ok c.in_ok-behind.ensures.next _ _ c.in_ok-cond.ensures.ok _ c.in_err-next.ensures.out)

pub do_statement-returns-clause-ok : goal.do_statement-returns-clause-ok
do_statement-returns-clause-ok t c = do_loop_ok _ _ c.requires.ends _ c.requires.begins refl _ c.in_ok-here.ensures.ok c.in_ok-here.ensures.next _ _ c.in_ok-inner.ensures.ok _ c.in_ok-behind.ensures.ok c.in_ok-behind.ensures.next _ _ c.in_ok-cond.ensures.ok _ c.in_ok-next.ensures.ok c.in_ok-next.ensures.next _ c.in_ok-body.ensures _ _ c.place-place.ensures (record { at = refl; is = refl })

pub switch_statement-place-place-requires : goal.switch_statement-place-place-requires
switch_statement-place-place-requires t c = c.requires.within

pub switch_statement-expect-requires-clause-within : goal.switch_statement-expect-requires-clause-within
switch_statement-expect-requires-clause-within t c = c.requires.within

pub switch_statement-expect-requires-clause-makes : goal.switch_statement-expect-requires-clause-makes
switch_statement-expect-requires-clause-makes t c = refl

pub switch_statement-returns-in_err-here-clause-ok : goal.switch_statement-returns-in_err-here-clause-ok
switch_statement-returns-in_err-here-clause-ok t c = IfOk-from_err _ _ c.from_residual.ensures.0

pub switch_statement-returns-in_err-here-clause-out : goal.switch_statement-returns-in_err-here-clause-out
switch_statement-returns-in_err-here-clause-out t c = out_by _ _ _ _ _ c.from_residual.ensures.1 (switch_stop_0 _ _ c.requires.ends _ c.requires.begins refl _ c.in_err-here.ensures.out)

pub switch_statement-bracketed-requires-clause-ends : goal.switch_statement-bracketed-requires-clause-ends
switch_statement-bracketed-requires-clause-ends t c = c.requires.ends

pub switch_statement-bracketed-requires-clause-within : goal.switch_statement-bracketed-requires-clause-within
switch_statement-bracketed-requires-clause-within t c = more_behind words.Switch _ _ _ c.requires.ends c.requires.begins refl c.in_ok-here.ensures.next

pub switch_statement-returns-in_err-value-clause-ok : goal.switch_statement-returns-in_err-value-clause-ok
switch_statement-returns-in_err-value-clause-ok t c = IfOk-from_err _ _ c.from_residual-in_err-value.ensures.0

pub switch_statement-returns-in_err-value-clause-out : goal.switch_statement-returns-in_err-value-clause-out
switch_statement-returns-in_err-value-clause-out t c = out_by _ _ _ _ _ c.from_residual-in_err-value.ensures.1 (switch_stop_1 _ _ c.requires.ends _ c.requires.begins refl _ c.in_ok-here.ensures.ok c.in_ok-here.ensures.next _ c.in_err-value.ensures.out)

pub switch_statement-expect-requires-2-clause-within : goal.switch_statement-expect-requires-2-clause-within
switch_statement-expect-requires-2-clause-within t c = c.in_ok-value.ensures.ok.read.read.within

pub switch_statement-expect-requires-2-clause-makes : goal.switch_statement-expect-requires-2-clause-makes
switch_statement-expect-requires-2-clause-makes t c = refl

pub switch_statement-returns-in_err-inside-clause-ok : goal.switch_statement-returns-in_err-inside-clause-ok
switch_statement-returns-in_err-inside-clause-ok t c = IfOk-from_err _ _ c.from_residual-in_err-inside.ensures.0

pub switch_statement-returns-in_err-inside-clause-out : goal.switch_statement-returns-in_err-inside-clause-out
switch_statement-returns-in_err-inside-clause-out t c = out_by _ _ _ _ _ c.from_residual-in_err-inside.ensures.1 (switch_stop_2 _ _ c.requires.ends _ c.requires.begins refl _ c.in_ok-here.ensures.ok c.in_ok-here.ensures.next _ _ c.in_ok-value.ensures.ok _ c.in_err-inside.ensures.out)

pub switch_statement-sections-requires : goal.switch_statement-sections-requires
switch_statement-sections-requires t c = (let d : 4 * (length c.args.reader.now - c.args.at) ≡ t = c.decreases in let w = c.requires.within in let e0 = c.in_ok-here.ensures.next in let e1 = c.in_ok-value.ensures.ok.forth in let e2 = c.in_ok-inside.ensures.next in omega (arith, d, w, e0, e1, e2), (c.requires.ends, brace_within _ _ _ c.requires.ends c.in_ok-inside.ensures.ok c.in_ok-inside.ensures.next))

pub switch_statement-returns-in_err-groups-clause-ok : goal.switch_statement-returns-in_err-groups-clause-ok
switch_statement-returns-in_err-groups-clause-ok t c = IfOk-from_err _ _ c.from_residual-in_err-groups.ensures.0

pub switch_statement-returns-in_err-groups-clause-out : goal.switch_statement-returns-in_err-groups-clause-out
switch_statement-returns-in_err-groups-clause-out t c = out_by _ _ _ _ _ c.from_residual-in_err-groups.ensures.1 (switch_stop_3 _ _ c.requires.ends _ c.requires.begins refl _ c.in_ok-here.ensures.ok c.in_ok-here.ensures.next _ _ c.in_ok-value.ensures.ok _ c.in_ok-inside.ensures.ok c.in_ok-inside.ensures.next _ c.in_err-groups.ensures.out)

pub switch_statement-expect-requires-3-clause-within : goal.switch_statement-expect-requires-3-clause-within
switch_statement-expect-requires-3-clause-within t c = c.in_ok-groups.ensures.ok.read.read.within

pub switch_statement-expect-requires-3-clause-makes : goal.switch_statement-expect-requires-3-clause-makes
switch_statement-expect-requires-3-clause-makes t c = refl

pub switch_statement-returns-in_err-next-clause-ok : goal.switch_statement-returns-in_err-next-clause-ok
switch_statement-returns-in_err-next-clause-ok t c = IfOk-from_err _ _ c.from_residual-in_err-next.ensures.0

pub switch_statement-returns-in_err-next-clause-out : goal.switch_statement-returns-in_err-next-clause-out
switch_statement-returns-in_err-next-clause-out t c = out_by _ _ _ _ _ c.from_residual-in_err-next.ensures.1 (switch_stop_4 _ _ c.requires.ends _ c.requires.begins refl _ c.in_ok-here.ensures.ok c.in_ok-here.ensures.next _ _ c.in_ok-value.ensures.ok _ c.in_ok-inside.ensures.ok c.in_ok-inside.ensures.next _ c.in_ok-groups.groups c.in_ok-groups.ensures.ok _ c.in_err-next.ensures.out)

pub switch_statement-returns-clause-ok : goal.switch_statement-returns-clause-ok
switch_statement-returns-clause-ok t c = switch_ok _ _ c.requires.ends _ c.requires.begins refl _ c.in_ok-here.ensures.ok c.in_ok-here.ensures.next _ _ c.in_ok-value.ensures.ok _ c.in_ok-inside.ensures.ok c.in_ok-inside.ensures.next _ c.in_ok-groups.groups c.in_ok-groups.ensures.ok _ c.in_ok-next.ensures.ok c.in_ok-next.ensures.next _ _ c.place-place.ensures (record { at = refl; is = refl })

pub sections-loop-alloc-init : goal.sections-loop-alloc-init
sections-loop-alloc-init t c = subst (λ z. SectionsAt c.args.reader.now c.args.at c.args.at z) (sym c.new-groups.ensures.items) (sections_at_first _ _ c.requires.within)

pub sections-begins_label-requires : goal.sections-begins_label-requires
sections-begins_label-requires t c = c.loop-alloc.invariant.begun.within

pub sections-labels-requires-clause-ends : goal.sections-labels-requires-clause-ends
sections-labels-requires-clause-ends t c = c.requires.ends

pub sections-labels-requires-clause-within : goal.sections-labels-requires-clause-within
sections-labels-requires-clause-within t c = c.loop-alloc.invariant.begun.within

pub sections-labels-requires-clause-begins : goal.sections-labels-requires-clause-begins
sections-labels-requires-clause-begins t c = c.loop-alloc-test.ensures

pub sections-returns-in_err-first-clause-ok : goal.sections-returns-in_err-first-clause-ok
sections-returns-in_err-first-clause-ok t c = IfOk-from_err _ _ c.from_residual.ensures.0

pub sections-returns-in_err-first-clause-out : goal.sections-returns-in_err-first-clause-out
sections-returns-in_err-first-clause-out t c = out_by _ _ _ _ _ c.from_residual.ensures.1 (sections_stop_labels _ _ _ _ c.loop-alloc.invariant _ c.in_err-first.ensures.out)

pub sections-items-requires : goal.sections-items-requires
sections-items-requires t c = (let d : 4 * (length c.args.reader.now - c.args.at) ≡ t = c.decreases in let w = c.requires.within in let e0 = c.loop-alloc.invariant.begun.forth in let e1 = c.in_ok-first.ensures.ok.forth in omega (arith, d, w, e0, e1), (c.requires.ends, c.in_ok-first.ensures.ok.begun.within))

pub sections-returns-in_err-rest-clause-ok : goal.sections-returns-in_err-rest-clause-ok
sections-returns-in_err-rest-clause-ok t c = IfOk-from_err _ _ c.from_residual-in_err-rest.ensures.0

pub sections-returns-in_err-rest-clause-out : goal.sections-returns-in_err-rest-clause-out
sections-returns-in_err-rest-clause-out t c = out_by _ _ _ _ _ c.from_residual-in_err-rest.ensures.1 (sections_stop_items _ _ _ _ _ _ c.loop-alloc.invariant c.in_ok-first.ensures.ok _ c.in_err-rest.ensures.out)

pub sections-returns-in_err-push-clause-ok : goal.sections-returns-in_err-push-clause-ok
sections-returns-in_err-push-clause-ok t c = IfOk-from_err _ _ c.from_residual-in_err-push.ensures.0

pub sections-returns-in_err-push-clause-out : goal.sections-returns-in_err-push-clause-out
sections-returns-in_err-push-clause-out t c = no_memory _ _ _ _ c.from_residual-in_err-push.ensures.1

pub sections-loop-alloc-smaller : goal.sections-loop-alloc-smaller
sections-loop-alloc-smaller t c = shorter_from _ _ _ _ c.in_ok-first.ensures.ok.forth c.in_ok-rest.ensures.ok.read.read.forth c.in_ok-rest.ensures.ok.read.read.within

pub sections-loop-alloc-preserved : goal.sections-loop-alloc-preserved
sections-loop-alloc-preserved t c = sections_pushed _ _ _ _ _ _ _ _ _ _ c.in_ok-push.ensures.items c.loop-alloc.invariant c.loop-alloc-test.ensures c.in_ok-first.ensures.ok c.in_ok-rest.ensures.ok (built_group c.in_ok-first.first c.in_ok-rest.rest)

pub sections-returns-clause-ok : goal.sections-returns-clause-ok
sections-returns-clause-ok t c = sections_done _ _ _ _ c.loop-alloc.invariant c.loop-alloc-test.ensures
