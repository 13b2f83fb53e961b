use Rattle.std.proofs.Common.{◌-◌, ◌<◌, refl, ap, ◌∙◌, rules, arith}
use Rattle.cl_builtins.proofs.Growth.{grown_twice, grown_known}
use Rattle.cl_make.proofs.Growing.{grows_itself, grows_twice}
use Rattle.cl_make.proofs.Stays.{ready_stays}
use Rattle.cl_typing.specs.Answers.{VariablesAre, VariablesStop}
use Rattle.cl_typing.specs.Settings.{state}
use Rattle.cl_typing.specs.Statements.{list_ends}
use Rattle.cl_typing.proofs.Blocks.{scoped, entered_known, block_typed, block_out, choice_test_out, choice_arms_out, choice_broken, choice_typed, while_test_out, while_body_out, while_broken, while_typed, do_body_out, do_test_out, do_broken, do_typed}
use Rattle.cl_typing.proofs.Fors.{for_declaration_out, for_first_out, for_condition_out, for_next_out, for_body_out, for_broken, for_typed}
use Rattle.cl_typing.proofs.Results.{stop_exit, on_ok, if_err}
use Rattle.cl_typing.proofs.Sequences.{alone, alone_stops, break_typed, break_out, continue_typed, continue_out, empty_typed, empty_out, item_words_out, item_variables_out, item_declared, item_stated, item_statement_out, items_start, items_next, items_stop, items_end, part_declared, part_declaration_out, part_stated, part_statement_out, arm_out, arm_typed, arms_start, arms_next, arms_stop, arms_end}
use Rattle.cl_typing.proofs.Switches.{built_section, section_labels_out, section_items_out, section_typed, sections_start, sections_next, sections_stop, sections_some, sections_end, switch_value_out, switch_sections_out, switch_broken, switch_typed}
use Rattle.cl_typing.proofs.statement.+statement.Goals as goal

-- ---- items

pub items-loop-one-init : goal.items-loop-one-init
items-loop-one-init t c = items_start c.args.p c.args.types.now (state c.args.names.now c.args.vars.now) c.args.all.now _ c.new-typed.ensures.items c.is_table.ensures c.requires.known c.requires.result

pub items-returns-in_err-item-clause-out : goal.items-returns-in_err-item-clause-out
items-returns-in_err-item-clause-out t c =
    stop_exit c.from_residual.result _ _ c.from_residual.ensures.1
    (items_stop c.args.p c.args.types.now c.loop-one.types c.item.new.types (state c.args.names.now c.args.vars.now) c.args.all.now c.loop-one.one-index (state c.loop-one.names c.loop-one.vars) c.loop-one.typed.items c.one-item.result c.loop-one.invariant c.loop-one-test.true c.one-item.is c.in_err-item.ensures.grows _ c.in_err-item.ensures.out)

pub items-returns-in_err-item-clause-grows : goal.items-returns-in_err-item-clause-grows
items-returns-in_err-item-clause-grows t c = grows_twice _ _ _ c.loop-one.invariant.goes.grown c.in_err-item.ensures.grows

pub items-loop-one-preserved : goal.items-loop-one-preserved
items-loop-one-preserved t c =
    items_next c.args.p c.args.types.now c.loop-one.types c.item.new.types (state c.args.names.now c.args.vars.now) c.args.all.now c.loop-one.one-index (state c.loop-one.names c.loop-one.vars) c.loop-one.typed.items c.one-item.result c.loop-one.invariant c.loop-one-test.true c.one-item.is c.in_ok-item.ensures.grows (state c.item.new.names c.item.new.vars) _ c.in_ok-item.ensures.ok

pub items-returns-clause-ok : goal.items-returns-clause-ok
items-returns-clause-ok t c = items_end c.args.p c.args.types.now c.loop-one.types (state c.args.names.now c.args.vars.now) c.args.all.now c.loop-one.one-index (state c.loop-one.names c.loop-one.vars) c.loop-one.typed.items c.loop-one.invariant c.loop-one-test.false

pub items-returns-clause-grows : goal.items-returns-clause-grows
items-returns-clause-grows t c = c.loop-one.invariant.goes.grown

-- ---- an item

pub item-returns-in_err-q-in-Decl-clause-out : goal.item-returns-in_err-q-in-Decl-clause-out
item-returns-in_err-q-in-Decl-clause-out t c =
    stop_exit c.from_residual.result _ _ c.from_residual.ensures.1
    (item_words_out c.words.new.types c.words.new.types c.args.p c.args.names.now c.words.new.names c.words.new.names c.args.vars.now c.args.vars.now c.args.s.now c.in-Decl.spec c.in-Decl.items c.in-Decl.is _ c.in_err-q-in-Decl.ensures.out)

pub item-variables-requires-clause-type_ready : goal.item-variables-requires-clause-type_ready
item-variables-requires-clause-type_ready t c = c.in_ok-q-in-Decl.ensures.ok.ready

pub item-returns-in_ok-q-in-Decl-clause-ok : goal.item-returns-in_ok-q-in-Decl-clause-ok
item-returns-in_ok-q-in-Decl-clause-ok t c =
    on_ok c.variables.result (VariablesAre c.variables.new.types c.args.p (state c.words.new.names c.args.vars.now) c.in_ok-q-in-Decl.q c.in-Decl.items.items (state c.variables.new.names c.variables.new.vars) c.args.typed.now.items c.variables.new.typed.items) _
    (item_declared c.words.new.types c.variables.new.types c.args.p c.args.names.now c.words.new.names c.variables.new.names c.args.vars.now c.variables.new.vars c.args.s.now c.in-Decl.spec c.in-Decl.items c.in-Decl.is c.in_ok-q-in-Decl.q c.in_ok-q-in-Decl.ensures.ok c.variables.ensures.grows.grown c.args.typed.now.items c.variables.new.typed.items)
    (rw c.deref.ensures.value at c.variables.ensures.ok)

pub item-returns-in_ok-q-in-Decl-clause-out : goal.item-returns-in_ok-q-in-Decl-clause-out
item-returns-in_ok-q-in-Decl-clause-out t c =
    if_err c.variables.result (VariablesStop c.variables.new.types c.args.p (state c.words.new.names c.args.vars.now) c.in_ok-q-in-Decl.q c.in-Decl.items.items) _
    (item_variables_out c.words.new.types c.variables.new.types c.args.p c.args.names.now c.words.new.names c.variables.new.names c.args.vars.now c.variables.new.vars c.args.s.now c.in-Decl.spec c.in-Decl.items c.in-Decl.is c.in_ok-q-in-Decl.q c.in_ok-q-in-Decl.ensures.ok c.variables.ensures.grows.grown)
    (rw c.deref.ensures.value at c.variables.ensures.out)

pub item-returns-in_ok-q-in-Decl-clause-grows : goal.item-returns-in_ok-q-in-Decl-clause-grows
item-returns-in_ok-q-in-Decl-clause-grows t c = grows_twice _ _ _ c.in_ok-q-in-Decl.ensures.grows c.variables.ensures.grows

pub item-returns-in_err-statement-in_default-clause-out : goal.item-returns-in_err-statement-in_default-clause-out
item-returns-in_err-statement-in_default-clause-out t c =
    stop_exit c.from_residual-in_err-statement-in_default.result _ _ c.from_residual-in_err-statement-in_default.ensures.1
    (item_statement_out c.statement.new.types c.args.p (state c.args.names.now c.args.vars.now) c.args.s.now _ c.in_err-statement-in_default.ensures.out)

pub item-returns-in_ok-push-in_default-clause-ok : goal.item-returns-in_ok-push-in_default-clause-ok
item-returns-in_ok-push-in_default-clause-ok t c =
    item_stated c.statement.new.types c.args.p (state c.args.names.now c.args.vars.now) (state c.statement.new.names c.statement.new.vars) c.args.s.now c.in_ok-statement-in_default.field-0 c.args.typed.now.items _ c.in_ok-push-in_default.ensures.items c.in_ok-statement-in_default.ensures.ok

-- ---- a statement

pub statement-returns-in-Expr-clause-ok : goal.statement-returns-in-Expr-clause-ok
statement-returns-in-Expr-clause-ok t c = alone c.expression.new.types c.args.p c.args.names.now c.expression.new.names c.args.vars.now c.args.s.now c.expression.result c.expression.ensures.ok

pub statement-returns-in-Expr-clause-out : goal.statement-returns-in-Expr-clause-out
statement-returns-in-Expr-clause-out t c = alone_stops c.expression.new.types c.args.p c.args.names.now c.args.vars.now c.args.s.now c.expression.result c.expression.ensures.out

pub statement-returns-in-Return-clause-ok : goal.statement-returns-in-Return-clause-ok
statement-returns-in-Return-clause-ok t c = alone c.return_statement.new.types c.args.p c.args.names.now c.return_statement.new.names c.args.vars.now c.args.s.now c.return_statement.result c.return_statement.ensures.ok

pub statement-returns-in-Return-clause-out : goal.statement-returns-in-Return-clause-out
statement-returns-in-Return-clause-out t c = alone_stops c.return_statement.new.types c.args.p c.args.names.now c.args.vars.now c.args.s.now c.return_statement.result c.return_statement.ensures.out

pub statement-returns-in-Break : goal.statement-returns-in-Break
statement-returns-in-Break t c = record {
  ok = break_typed c.args.types.now c.args.p (state c.args.names.now c.args.vars.now) c.args.s.now c.requires.known c.leaving.result c.in-Break.is c.leaving.ensures.ok;
  out = break_out c.args.types.now c.args.p (state c.args.names.now c.args.vars.now) c.args.s.now c.requires.known c.leaving.result c.in-Break.is c.leaving.ensures.out;
  grows = grows_itself c.args.types.now c.is_table.ensures;
}

pub statement-returns-in-Continue : goal.statement-returns-in-Continue
statement-returns-in-Continue t c = record {
  ok = continue_typed c.args.types.now c.args.p (state c.args.names.now c.args.vars.now) c.args.s.now c.requires.known c.leaving-in-Continue.result c.in-Continue.is c.leaving-in-Continue.ensures.ok;
  out = continue_out c.args.types.now c.args.p (state c.args.names.now c.args.vars.now) c.args.s.now c.requires.known c.leaving-in-Continue.result c.in-Continue.is c.leaving-in-Continue.ensures.out;
  grows = grows_itself c.args.types.now c.is_table.ensures;
}

pub statement-returns-in-Empty : goal.statement-returns-in-Empty
statement-returns-in-Empty t c = record {
  ok = empty_typed c.args.types.now c.args.p (state c.args.names.now c.args.vars.now) c.args.s.now c.requires.known c.leaving-in-Empty.result c.in-Empty.is c.leaving-in-Empty.ensures.ok;
  out = empty_out c.args.types.now c.args.p (state c.args.names.now c.args.vars.now) c.args.s.now c.requires.known c.leaving-in-Empty.result c.leaving-in-Empty.ensures.out;
  grows = grows_itself c.args.types.now c.is_table.ensures;
}

pub statement-unreachable-requires : goal.statement-unreachable-requires
statement-unreachable-requires t c = c.requires.plain.no_declaration c.in-Decl.spec c.in-Decl.items c.in-Decl.is

-- ---- a block

pub block-returns-in_err-typed-clause-out : goal.block-returns-in_err-typed-clause-out
block-returns-in_err-typed-clause-out t c =
    stop_exit c.from_residual.result _ _ c.from_residual.ensures.1
    (block_out c.args.types.now c.items.new.types c.args.p c.args.names.now c.enter-mark.new.names c.items.new.names c.items.new.names c.args.vars.now c.items.new.vars c.args.s.now c.args.all.now c.requires.is _ c.enter-mark.ensures.block
    (rw (c.inside.ensures, c.deref.ensures.value) at c.in_err-typed.ensures.out))

pub block-returns-clause-ok : goal.block-returns-clause-ok
block-returns-clause-ok t c =
    block_typed c.args.types.now c.items.new.types c.args.p c.args.names.now c.enter-mark.new.names c.items.new.names c.leave.new.self c.args.vars.now c.items.new.vars c.args.s.now c.args.all.now c.requires.is c.in_ok-typed.typed _ c.in_ok-typed.ensures.grows.grown
    (scoped _ _ _ _ c.enter-mark.result c.enter-mark.ensures.block c.enter-mark.ensures.mark c.leave.ensures.behind) c.requires.known
    (rw (c.inside.ensures, c.deref.ensures.value) at c.in_ok-typed.ensures.ok) (record { at = search rules; is = search rules })

-- ---- `if`

pub choice-expr-requires : goal.choice-expr-requires
choice-expr-requires t c = record { known = entered_known c.args.types.now c.args.names.now c.enter-mark.new.self c.enter-mark.ensures.block c.requires.known }

pub choice-returns-in_err-test-clause-out : goal.choice-returns-in_err-test-clause-out
choice-returns-in_err-test-clause-out t c =
    stop_exit c.from_residual.result _ _ c.from_residual.ensures.1
    (choice_test_out c.args.types.now c.expr.new.types c.expr.new.types c.args.p c.args.names.now c.enter-mark.new.self c.expr.new.names c.args.vars.now c.args.s.now c.args.cond.now c.args.all.now c.requires.is c.enter-mark.ensures.block _ c.in_err-test.ensures.out)

pub choice-returns-in_err-arms-clause-out : goal.choice-returns-in_err-arms-clause-out
choice-returns-in_err-arms-clause-out t c =
    stop_exit c.from_residual-in_err-arms.result _ _ c.from_residual-in_err-arms.ensures.1
    (choice_arms_out c.args.types.now c.expr.new.types c.arms.new.types c.args.p c.args.names.now c.enter-mark.new.self c.expr.new.names c.args.vars.now c.args.s.now c.args.cond.now c.args.all.now c.requires.is c.enter-mark.ensures.block c.in_ok-test.test c.in_ok-test.ensures.ok c.in_err-arms.ensures.grows.grown _
    (rw (c.inside.ensures, c.deref.ensures.value) at c.in_err-arms.ensures.out))

pub choice-returns-in_err-arms-clause-grows : goal.choice-returns-in_err-arms-clause-grows
choice-returns-in_err-arms-clause-grows t c = grows_twice _ _ _ c.in_ok-test.ensures.grows c.in_err-arms.ensures.grows

pub choice-returns-in_err-cond-clause-out : goal.choice-returns-in_err-cond-clause-out
choice-returns-in_err-cond-clause-out t c =
    stop_exit c.from_residual-in_err-cond.result _ _ c.from_residual-in_err-cond.ensures.1
    (choice_broken c.args.types.now c.expr.new.types c.arms.new.types c.args.p c.args.names.now c.enter-mark.new.self c.expr.new.names c.args.vars.now c.args.s.now c.args.cond.now c.args.all.now c.requires.is c.enter-mark.ensures.block c.in_ok-test.test c.in_ok-test.ensures.ok c.in_ok-arms.ensures.grows.grown c.arms.new.names c.leave.new.self c.arms.new.vars c.in_ok-arms.arms
    (rw (c.inside.ensures, c.deref.ensures.value) at c.in_ok-arms.ensures.ok) _ c.in_err-cond.ensures.out)

pub choice-returns-in_err-cond-clause-grows : goal.choice-returns-in_err-cond-clause-grows
choice-returns-in_err-cond-clause-grows t c = grows_twice _ _ _ c.in_ok-test.ensures.grows c.in_ok-arms.ensures.grows

pub choice-returns-clause-ok : goal.choice-returns-clause-ok
choice-returns-clause-ok t c =
    choice_typed c.args.types.now c.expr.new.types c.arms.new.types c.args.p c.args.names.now c.enter-mark.new.self c.expr.new.names c.args.vars.now c.args.s.now c.args.cond.now c.args.all.now c.requires.is c.enter-mark.ensures.block c.in_ok-test.test c.in_ok-test.ensures.ok c.in_ok-arms.ensures.grows.grown c.arms.new.names c.leave.new.self c.arms.new.vars c.in_ok-arms.arms
    (rw (c.inside.ensures, c.deref.ensures.value) at c.in_ok-arms.ensures.ok) c.in_ok-cond.cond _ (grown_twice _ _ _ c.in_ok-test.ensures.grows.grown c.in_ok-arms.ensures.grows.grown)
    (scoped _ _ _ _ c.enter-mark.result c.enter-mark.ensures.block c.enter-mark.ensures.mark c.leave.ensures.behind) c.requires.known c.in_ok-cond.ensures.ok (record { at = search rules; is = search rules })

pub choice-returns-clause-grows : goal.choice-returns-clause-grows
choice-returns-clause-grows t c = grows_twice _ _ _ c.in_ok-test.ensures.grows c.in_ok-arms.ensures.grows

-- ---- `while`

pub while_loop-expr-requires : goal.while_loop-expr-requires
while_loop-expr-requires t c = record { known = entered_known c.args.types.now c.args.names.now c.enter-mark.new.self c.enter-mark.ensures.block c.requires.known }

pub while_loop-returns-in_err-test-clause-out : goal.while_loop-returns-in_err-test-clause-out
while_loop-returns-in_err-test-clause-out t c =
    stop_exit c.from_residual.result _ _ c.from_residual.ensures.1
    (while_test_out c.args.types.now c.expr.new.types c.expr.new.types c.args.p c.args.names.now c.enter-mark.new.self c.expr.new.names c.args.vars.now c.args.s.now c.args.cond.now c.args.all.now c.requires.is c.enter-mark.ensures.block _ c.in_err-test.ensures.out)

pub while_loop-returns-in_err-body-clause-out : goal.while_loop-returns-in_err-body-clause-out
while_loop-returns-in_err-body-clause-out t c =
    stop_exit c.from_residual-in_err-body.result _ _ c.from_residual-in_err-body.ensures.1
    (while_body_out c.args.types.now c.expr.new.types c.arms.new.types c.args.p c.args.names.now c.enter-mark.new.self c.expr.new.names c.args.vars.now c.args.s.now c.args.cond.now c.args.all.now c.requires.is c.enter-mark.ensures.block c.in_ok-test.test c.in_ok-test.ensures.ok c.in_err-body.ensures.grows.grown _
    (rw (c.in_loop.ensures, c.deref.ensures.value) at c.in_err-body.ensures.out))

pub while_loop-returns-in_err-body-clause-grows : goal.while_loop-returns-in_err-body-clause-grows
while_loop-returns-in_err-body-clause-grows t c = grows_twice _ _ _ c.in_ok-test.ensures.grows c.in_err-body.ensures.grows

pub while_loop-returns-in_err-cond-clause-out : goal.while_loop-returns-in_err-cond-clause-out
while_loop-returns-in_err-cond-clause-out t c =
    stop_exit c.from_residual-in_err-cond.result _ _ c.from_residual-in_err-cond.ensures.1
    (while_broken c.args.types.now c.expr.new.types c.arms.new.types c.args.p c.args.names.now c.enter-mark.new.self c.expr.new.names c.args.vars.now c.args.s.now c.args.cond.now c.args.all.now c.requires.is c.enter-mark.ensures.block c.in_ok-test.test c.in_ok-test.ensures.ok c.in_ok-body.ensures.grows.grown c.arms.new.names c.leave.new.self c.arms.new.vars c.in_ok-body.body
    (rw (c.in_loop.ensures, c.deref.ensures.value) at c.in_ok-body.ensures.ok) _ c.in_err-cond.ensures.out)

pub while_loop-returns-in_err-cond-clause-grows : goal.while_loop-returns-in_err-cond-clause-grows
while_loop-returns-in_err-cond-clause-grows t c = grows_twice _ _ _ c.in_ok-test.ensures.grows c.in_ok-body.ensures.grows

pub while_loop-returns-clause-ok : goal.while_loop-returns-clause-ok
while_loop-returns-clause-ok t c =
    while_typed c.args.types.now c.expr.new.types c.arms.new.types c.args.p c.args.names.now c.enter-mark.new.self c.expr.new.names c.args.vars.now c.args.s.now c.args.cond.now c.args.all.now c.requires.is c.enter-mark.ensures.block c.in_ok-test.test c.in_ok-test.ensures.ok c.in_ok-body.ensures.grows.grown c.arms.new.names c.leave.new.self c.arms.new.vars c.in_ok-body.body
    (rw (c.in_loop.ensures, c.deref.ensures.value) at c.in_ok-body.ensures.ok) c.in_ok-cond.cond _ (grown_twice _ _ _ c.in_ok-test.ensures.grows.grown c.in_ok-body.ensures.grows.grown)
    (scoped _ _ _ _ c.enter-mark.result c.enter-mark.ensures.block c.enter-mark.ensures.mark c.leave.ensures.behind) c.requires.known c.in_ok-cond.ensures.ok (record { at = search rules; is = search rules })

pub while_loop-returns-clause-grows : goal.while_loop-returns-clause-grows
while_loop-returns-clause-grows t c = grows_twice _ _ _ c.in_ok-test.ensures.grows c.in_ok-body.ensures.grows

-- ---- `do`

pub do_loop-returns-in_err-body-clause-out : goal.do_loop-returns-in_err-body-clause-out
do_loop-returns-in_err-body-clause-out t c =
    stop_exit c.from_residual.result _ _ c.from_residual.ensures.1
    (do_body_out c.args.types.now c.arms.new.types c.arms.new.types c.args.p c.args.names.now c.enter-mark.new.names c.args.vars.now c.args.s.now c.args.cond.now c.args.all.now c.requires.is c.enter-mark.ensures.block _
    (rw (c.in_loop.ensures, c.deref.ensures.value) at c.in_err-body.ensures.out))

pub do_loop-expr-requires : goal.do_loop-expr-requires
do_loop-expr-requires t c = record { known = c.in_ok-body.ensures.ok.known }

pub do_loop-returns-in_err-test-clause-out : goal.do_loop-returns-in_err-test-clause-out
do_loop-returns-in_err-test-clause-out t c =
    stop_exit c.from_residual-in_err-test.result _ _ c.from_residual-in_err-test.ensures.1
    (do_test_out c.args.types.now c.arms.new.types c.expr.new.types c.args.p c.args.names.now c.enter-mark.new.names c.args.vars.now c.args.s.now c.args.cond.now c.args.all.now c.requires.is c.enter-mark.ensures.block c.arms.new.names c.arms.new.vars c.in_ok-body.body
    (rw (c.in_loop.ensures, c.deref.ensures.value) at c.in_ok-body.ensures.ok) c.in_err-test.ensures.grows.grown _ c.in_err-test.ensures.out)

pub do_loop-returns-in_err-test-clause-grows : goal.do_loop-returns-in_err-test-clause-grows
do_loop-returns-in_err-test-clause-grows t c = grows_twice _ _ _ c.in_ok-body.ensures.grows c.in_err-test.ensures.grows

pub do_loop-returns-in_err-cond-clause-out : goal.do_loop-returns-in_err-cond-clause-out
do_loop-returns-in_err-cond-clause-out t c =
    stop_exit c.from_residual-in_err-cond.result _ _ c.from_residual-in_err-cond.ensures.1
    (do_broken c.args.types.now c.arms.new.types c.expr.new.types c.args.p c.args.names.now c.enter-mark.new.names c.args.vars.now c.args.s.now c.args.cond.now c.args.all.now c.requires.is c.enter-mark.ensures.block c.arms.new.names c.arms.new.vars c.in_ok-body.body
    (rw (c.in_loop.ensures, c.deref.ensures.value) at c.in_ok-body.ensures.ok) c.in_ok-test.ensures.grows.grown c.expr.new.names c.leave.new.self c.in_ok-test.test c.in_ok-test.ensures.ok _ c.in_err-cond.ensures.out)

pub do_loop-returns-in_err-cond-clause-grows : goal.do_loop-returns-in_err-cond-clause-grows
do_loop-returns-in_err-cond-clause-grows t c = grows_twice _ _ _ c.in_ok-body.ensures.grows c.in_ok-test.ensures.grows

pub do_loop-returns-clause-ok : goal.do_loop-returns-clause-ok
do_loop-returns-clause-ok t c =
    do_typed c.args.types.now c.arms.new.types c.expr.new.types c.args.p c.args.names.now c.enter-mark.new.names c.args.vars.now c.args.s.now c.args.cond.now c.args.all.now c.requires.is c.enter-mark.ensures.block c.arms.new.names c.arms.new.vars c.in_ok-body.body
    (rw (c.in_loop.ensures, c.deref.ensures.value) at c.in_ok-body.ensures.ok) c.in_ok-test.ensures.grows.grown c.expr.new.names c.leave.new.self c.in_ok-test.test c.in_ok-test.ensures.ok c.in_ok-cond.cond _ (grown_twice _ _ _ c.in_ok-body.ensures.grows.grown c.in_ok-test.ensures.grows.grown)
    (scoped _ _ _ _ c.enter-mark.result c.enter-mark.ensures.block c.enter-mark.ensures.mark c.leave.ensures.behind) c.requires.known c.in_ok-cond.ensures.ok (record { at = search rules; is = search rules })

pub do_loop-returns-clause-grows : goal.do_loop-returns-clause-grows
do_loop-returns-clause-grows t c = grows_twice _ _ _ c.in_ok-body.ensures.grows c.in_ok-test.ensures.grows

-- ---- `for`

pub for_loop-returns-in_err-decls-clause-out : goal.for_loop-returns-in_err-decls-clause-out
for_loop-returns-in_err-decls-clause-out t c =
    stop_exit c.from_residual.result _ _ c.from_residual.ensures.1
    (for_declaration_out c.args.p c.args.names.now c.enter-mark.new.names c.args.vars.now c.args.s.now c.args.decl.now c.args.all.now c.args.first.now c.args.cond.now c.args.next.now c.requires.is c.enter-mark.ensures.block c.items.new.types _
    (rw (c.inside.ensures, c.deref.ensures.value) at c.in_err-decls.ensures.out))

pub for_loop-returns-in_err-first-clause-out : goal.for_loop-returns-in_err-first-clause-out
for_loop-returns-in_err-first-clause-out t c =
    stop_exit c.from_residual-in_err-first.result _ _ c.from_residual-in_err-first.ensures.1
    (for_first_out c.args.p c.args.names.now c.enter-mark.new.names c.args.vars.now c.args.s.now c.args.decl.now c.args.all.now c.args.first.now c.args.cond.now c.args.next.now c.requires.is c.enter-mark.ensures.block c.items.new.types c.items.new.names c.items.new.vars c.in_ok-decls.decls (rw (c.inside.ensures, c.deref.ensures.value) at c.in_ok-decls.ensures.ok) c.may_be.new.types c.in_err-first.ensures.grows.grown _ c.in_err-first.ensures.out)

pub for_loop-returns-in_err-first-clause-grows : goal.for_loop-returns-in_err-first-clause-grows
for_loop-returns-in_err-first-clause-grows t c = grows_twice _ _ _ c.in_ok-decls.ensures.grows c.in_err-first.ensures.grows

pub for_loop-returns-in_err-test-clause-out : goal.for_loop-returns-in_err-test-clause-out
for_loop-returns-in_err-test-clause-out t c =
    stop_exit c.from_residual-in_err-test.result _ _ c.from_residual-in_err-test.ensures.1
    (for_condition_out c.args.p c.args.names.now c.enter-mark.new.names c.args.vars.now c.args.s.now c.args.decl.now c.args.all.now c.args.first.now c.args.cond.now c.args.next.now c.requires.is c.enter-mark.ensures.block c.items.new.types c.items.new.names c.items.new.vars c.in_ok-decls.decls (rw (c.inside.ensures, c.deref.ensures.value) at c.in_ok-decls.ensures.ok) c.may_be.new.types c.in_ok-first.ensures.grows.grown c.may_be.new.names c.in_ok-first.first c.in_ok-first.ensures.ok c.for_condition.new.types c.in_err-test.ensures.grows.grown _ c.in_err-test.ensures.out)

pub for_loop-returns-in_err-test-clause-grows : goal.for_loop-returns-in_err-test-clause-grows
for_loop-returns-in_err-test-clause-grows t c = grows_twice _ _ _ (grows_twice _ _ _ c.in_ok-decls.ensures.grows c.in_ok-first.ensures.grows) c.in_err-test.ensures.grows

pub for_loop-returns-in_err-next-clause-out : goal.for_loop-returns-in_err-next-clause-out
for_loop-returns-in_err-next-clause-out t c =
    stop_exit c.from_residual-in_err-next.result _ _ c.from_residual-in_err-next.ensures.1
    (for_next_out c.args.p c.args.names.now c.enter-mark.new.names c.args.vars.now c.args.s.now c.args.decl.now c.args.all.now c.args.first.now c.args.cond.now c.args.next.now c.requires.is c.enter-mark.ensures.block c.items.new.types c.items.new.names c.items.new.vars c.in_ok-decls.decls (rw (c.inside.ensures, c.deref.ensures.value) at c.in_ok-decls.ensures.ok) c.may_be.new.types c.in_ok-first.ensures.grows.grown c.may_be.new.names c.in_ok-first.first c.in_ok-first.ensures.ok c.for_condition.new.types c.in_ok-test.ensures.grows.grown c.for_condition.new.names c.in_ok-test.test c.in_ok-test.ensures.ok c.may_be-2.new.types c.in_err-next.ensures.grows.grown _ c.in_err-next.ensures.out)

pub for_loop-returns-in_err-next-clause-grows : goal.for_loop-returns-in_err-next-clause-grows
for_loop-returns-in_err-next-clause-grows t c = grows_twice _ _ _ (grows_twice _ _ _ (grows_twice _ _ _ c.in_ok-decls.ensures.grows c.in_ok-first.ensures.grows) c.in_ok-test.ensures.grows) c.in_err-next.ensures.grows

pub for_loop-looped-inner-requires : goal.for_loop-looped-inner-requires
for_loop-looped-inner-requires t c = grown_known c.args.types.now c.may_be-2.new.types c.args.p.result (grows_twice _ _ _ (grows_twice _ _ _ (grows_twice _ _ _ c.in_ok-decls.ensures.grows c.in_ok-first.ensures.grows) c.in_ok-test.ensures.grows) c.in_ok-next.ensures.grows).grown c.requires.result

pub for_loop-returns-in_err-body-clause-out : goal.for_loop-returns-in_err-body-clause-out
for_loop-returns-in_err-body-clause-out t c =
    stop_exit c.from_residual-in_err-body.result _ _ c.from_residual-in_err-body.ensures.1
    (for_body_out c.args.p c.args.names.now c.enter-mark.new.names c.args.vars.now c.args.s.now c.args.decl.now c.args.all.now c.args.first.now c.args.cond.now c.args.next.now c.requires.is c.enter-mark.ensures.block c.items.new.types c.items.new.names c.items.new.vars c.in_ok-decls.decls (rw (c.inside.ensures, c.deref.ensures.value) at c.in_ok-decls.ensures.ok) c.may_be.new.types c.in_ok-first.ensures.grows.grown c.may_be.new.names c.in_ok-first.first c.in_ok-first.ensures.ok c.for_condition.new.types c.in_ok-test.ensures.grows.grown c.for_condition.new.names c.in_ok-test.test c.in_ok-test.ensures.ok c.may_be-2.new.types c.in_ok-next.ensures.grows.grown c.may_be-2.new.names c.in_ok-next.next c.in_ok-next.ensures.ok c.arms.new.types c.in_err-body.ensures.grows.grown _
    (rw (c.looped-inner.ensures.is, c.deref-2.ensures.value) at c.in_err-body.ensures.out))

pub for_loop-returns-in_err-body-clause-grows : goal.for_loop-returns-in_err-body-clause-grows
for_loop-returns-in_err-body-clause-grows t c = grows_twice _ _ _ (grows_twice _ _ _ (grows_twice _ _ _ (grows_twice _ _ _ c.in_ok-decls.ensures.grows c.in_ok-first.ensures.grows) c.in_ok-test.ensures.grows) c.in_ok-next.ensures.grows) c.in_err-body.ensures.grows

pub for_loop-returns-in_err-cond-clause-out : goal.for_loop-returns-in_err-cond-clause-out
for_loop-returns-in_err-cond-clause-out t c =
    stop_exit c.from_residual-in_err-cond.result _ _ c.from_residual-in_err-cond.ensures.1
    (for_broken c.args.p c.args.names.now c.enter-mark.new.names c.args.vars.now c.args.s.now c.args.decl.now c.args.all.now c.args.first.now c.args.cond.now c.args.next.now c.requires.is c.enter-mark.ensures.block c.items.new.types c.items.new.names c.items.new.vars c.in_ok-decls.decls (rw (c.inside.ensures, c.deref.ensures.value) at c.in_ok-decls.ensures.ok) c.may_be.new.types c.in_ok-first.ensures.grows.grown c.may_be.new.names c.in_ok-first.first c.in_ok-first.ensures.ok c.for_condition.new.types c.in_ok-test.ensures.grows.grown c.for_condition.new.names c.in_ok-test.test c.in_ok-test.ensures.ok c.may_be-2.new.types c.in_ok-next.ensures.grows.grown c.may_be-2.new.names c.in_ok-next.next c.in_ok-next.ensures.ok c.arms.new.types c.in_ok-body.ensures.grows.grown c.arms.new.names c.arms.new.vars c.in_ok-body.body (rw (c.looped-inner.ensures.is, c.deref-2.ensures.value) at c.in_ok-body.ensures.ok) _ c.in_err-cond.ensures.out)

pub for_loop-returns-in_err-cond-clause-grows : goal.for_loop-returns-in_err-cond-clause-grows
for_loop-returns-in_err-cond-clause-grows t c = (grows_twice _ _ _ (grows_twice _ _ _ (grows_twice _ _ _ (grows_twice _ _ _ c.in_ok-decls.ensures.grows c.in_ok-first.ensures.grows) c.in_ok-test.ensures.grows) c.in_ok-next.ensures.grows) c.in_ok-body.ensures.grows)

pub for_loop-returns-clause-ok : goal.for_loop-returns-clause-ok
for_loop-returns-clause-ok t c =
    for_typed c.args.p c.args.names.now c.enter-mark.new.names c.args.vars.now c.args.s.now c.args.decl.now c.args.all.now c.args.first.now c.args.cond.now c.args.next.now c.requires.is c.enter-mark.ensures.block c.items.new.types c.items.new.names c.items.new.vars c.in_ok-decls.decls (rw (c.inside.ensures, c.deref.ensures.value) at c.in_ok-decls.ensures.ok) c.may_be.new.types c.in_ok-first.ensures.grows.grown c.may_be.new.names c.in_ok-first.first c.in_ok-first.ensures.ok c.for_condition.new.types c.in_ok-test.ensures.grows.grown c.for_condition.new.names c.in_ok-test.test c.in_ok-test.ensures.ok c.may_be-2.new.types c.in_ok-next.ensures.grows.grown c.may_be-2.new.names c.in_ok-next.next c.in_ok-next.ensures.ok c.arms.new.types c.in_ok-body.ensures.grows.grown c.arms.new.names c.arms.new.vars c.in_ok-body.body (rw (c.looped-inner.ensures.is, c.deref-2.ensures.value) at c.in_ok-body.ensures.ok) c.args.types.now c.leave.new.self c.in_ok-cond.cond _ (grows_twice _ _ _ (grows_twice _ _ _ (grows_twice _ _ _ (grows_twice _ _ _ c.in_ok-decls.ensures.grows c.in_ok-first.ensures.grows) c.in_ok-test.ensures.grows) c.in_ok-next.ensures.grows) c.in_ok-body.ensures.grows).grown
    (scoped _ _ _ _ c.enter-mark.result c.enter-mark.ensures.block c.enter-mark.ensures.mark c.leave.ensures.behind) c.requires.known c.in_ok-cond.ensures.ok (record { at = search rules; is = search rules })

pub for_loop-returns-clause-grows : goal.for_loop-returns-clause-grows
for_loop-returns-clause-grows t c = (grows_twice _ _ _ (grows_twice _ _ _ (grows_twice _ _ _ (grows_twice _ _ _ c.in_ok-decls.ensures.grows c.in_ok-first.ensures.grows) c.in_ok-test.ensures.grows) c.in_ok-next.ensures.grows) c.in_ok-body.ensures.grows)

-- ---- `switch`

pub switch-expr-requires : goal.switch-expr-requires
switch-expr-requires t c = record { known = entered_known c.args.types.now c.args.names.now c.enter-mark.new.self c.enter-mark.ensures.block c.requires.known }

pub switch-returns-in_err-typed-clause-out : goal.switch-returns-in_err-typed-clause-out
switch-returns-in_err-typed-clause-out t c =
    stop_exit c.from_residual.result _ _ c.from_residual.ensures.1
    (switch_value_out c.expr.new.types c.expr.new.types c.args.p c.args.names.now c.enter-mark.new.self c.expr.new.names c.args.vars.now c.args.s.now c.args.value.now c.args.all.now c.requires.is c.enter-mark.ensures.block _ c.in_err-typed.ensures.out)

pub switch-returns-in_err-sections-clause-out : goal.switch-returns-in_err-sections-clause-out
switch-returns-in_err-sections-clause-out t c =
    stop_exit c.from_residual-in_err-sections.result _ _ c.from_residual-in_err-sections.ensures.1
    (switch_sections_out c.expr.new.types c.sections.new.types c.args.p c.args.names.now c.enter-mark.new.self c.expr.new.names c.args.vars.now c.args.s.now c.args.value.now c.args.all.now c.requires.is c.enter-mark.ensures.block c.in_ok-typed.typed c.first_tested-tested.result c.in_ok-typed.ensures.ok c.first_tested-tested.ensures.is c.in_err-sections.ensures.grows.grown _
    (rw (c.in_switch.ensures, c.deref.ensures.value) at c.in_err-sections.ensures.out))

pub switch-returns-in_err-sections-clause-grows : goal.switch-returns-in_err-sections-clause-grows
switch-returns-in_err-sections-clause-grows t c = grows_twice _ _ _ c.in_ok-typed.ensures.grows c.in_err-sections.ensures.grows

pub switch-switched-requires : goal.switch-switched-requires
switch-switched-requires t c = record { ready = ready_stays c.expr.new.types c.sections.new.types c.in_ok-typed.typed c.is_table.ensures c.in_ok-sections.ensures.grows.grown c.in_ok-typed.ensures.ok.ready }

pub switch-returns-in_err-value-clause-out : goal.switch-returns-in_err-value-clause-out
switch-returns-in_err-value-clause-out t c =
    stop_exit c.from_residual-in_err-value.result _ _ c.from_residual-in_err-value.ensures.1
    (switch_broken c.expr.new.types c.sections.new.types c.args.p c.args.names.now c.enter-mark.new.self c.expr.new.names c.args.vars.now c.args.s.now c.args.value.now c.args.all.now c.requires.is c.enter-mark.ensures.block c.in_ok-typed.typed c.first_tested-tested.result c.in_ok-typed.ensures.ok c.first_tested-tested.ensures.is c.in_ok-sections.ensures.grows.grown c.sections.new.names c.leave.new.self c.sections.new.vars c.in_ok-sections.sections (rw (c.in_switch.ensures, c.deref.ensures.value) at c.in_ok-sections.ensures.ok) c.switched.new.types c.in_err-value.ensures.grows.grown _ c.in_err-value.ensures.out)

pub switch-returns-in_err-value-clause-grows : goal.switch-returns-in_err-value-clause-grows
switch-returns-in_err-value-clause-grows t c = grows_twice _ _ _ (grows_twice _ _ _ c.in_ok-typed.ensures.grows c.in_ok-sections.ensures.grows) c.in_err-value.ensures.grows

pub switch-returns-clause-ok : goal.switch-returns-clause-ok
switch-returns-clause-ok t c =
    switch_typed c.expr.new.types c.sections.new.types c.args.p c.args.names.now c.enter-mark.new.self c.expr.new.names c.args.vars.now c.args.s.now c.args.value.now c.args.all.now c.requires.is c.enter-mark.ensures.block c.in_ok-typed.typed c.first_tested-tested.result c.in_ok-typed.ensures.ok c.first_tested-tested.ensures.is c.in_ok-sections.ensures.grows.grown c.sections.new.names c.leave.new.self c.sections.new.vars c.in_ok-sections.sections (rw (c.in_switch.ensures, c.deref.ensures.value) at c.in_ok-sections.ensures.ok) c.args.types.now c.switched.new.types c.in_ok-value.value _
    (grows_twice _ _ _ (grows_twice _ _ _ c.in_ok-typed.ensures.grows c.in_ok-sections.ensures.grows) c.in_ok-value.ensures.grows).grown c.in_ok-value.ensures.grows.grown
    (scoped _ _ _ _ c.enter-mark.result c.enter-mark.ensures.block c.enter-mark.ensures.mark c.leave.ensures.behind) c.requires.known c.in_ok-value.ensures.ok (record { at = search rules; is = search rules })

pub switch-returns-clause-grows : goal.switch-returns-clause-grows
switch-returns-clause-grows t c = grows_twice _ _ _ (grows_twice _ _ _ c.in_ok-typed.ensures.grows c.in_ok-sections.ensures.grows) c.in_ok-value.ensures.grows

-- ---- arms

pub arms-loop-one-init : goal.arms-loop-one-init
arms-loop-one-init t c = arms_start c.args.p c.args.types.now (state c.args.names.now c.args.vars.now) c.args.all.now _ c.new-typed.ensures.items c.is_table.ensures c.requires.known c.requires.result

pub arms-returns-in_err-arm-clause-out : goal.arms-returns-in_err-arm-clause-out
arms-returns-in_err-arm-clause-out t c =
    stop_exit c.from_residual.result _ _ c.from_residual.ensures.1
    (arms_stop c.args.p c.args.types.now c.loop-one.types c.arm.new.types (state c.args.names.now c.args.vars.now) c.args.all.now c.loop-one.one-index (state c.loop-one.names c.loop-one.vars) c.loop-one.typed.items c.one-item.result c.loop-one.invariant c.loop-one-test.true c.one-item.is c.in_err-arm.ensures.grows _ c.in_err-arm.ensures.out)

pub arms-returns-in_err-arm-clause-grows : goal.arms-returns-in_err-arm-clause-grows
arms-returns-in_err-arm-clause-grows t c = grows_twice _ _ _ c.loop-one.invariant.goes.grown c.in_err-arm.ensures.grows

pub arms-loop-one-preserved : goal.arms-loop-one-preserved
arms-loop-one-preserved t c =
    arms_next c.args.p c.args.types.now c.loop-one.types c.arm.new.types (state c.args.names.now c.args.vars.now) c.args.all.now c.loop-one.one-index (state c.loop-one.names c.loop-one.vars) c.loop-one.typed.items c.one-item.result c.loop-one.invariant c.loop-one-test.true c.one-item.is c.in_ok-arm.ensures.grows (state c.arm.new.names c.arm.new.vars) c.in_ok-arm.field-0 _ c.in_ok-push.ensures.items c.in_ok-arm.ensures.ok

pub arms-returns-clause-ok : goal.arms-returns-clause-ok
arms-returns-clause-ok t c = arms_end c.args.p c.args.types.now c.loop-one.types (state c.args.names.now c.args.vars.now) c.args.all.now c.loop-one.one-index (state c.loop-one.names c.loop-one.vars) c.loop-one.typed.items c.loop-one.invariant c.loop-one-test.false

pub arms-returns-clause-grows : goal.arms-returns-clause-grows
arms-returns-clause-grows t c = c.loop-one.invariant.goes.grown

-- ---- an arm

pub arm-part-requires : goal.arm-part-requires
arm-part-requires t c = (search rules, (entered_known c.args.types.now c.args.names.now c.enter-mark.new.self c.enter-mark.ensures.block c.requires.known, c.requires.result))

pub arm-returns-in_err-typed-clause-out : goal.arm-returns-in_err-typed-clause-out
arm-returns-in_err-typed-clause-out t c =
    stop_exit c.from_residual.result _ _ c.from_residual.ensures.1
    (arm_out c.args.types.now c.part.new.types c.args.p c.args.names.now c.enter-mark.new.self c.args.vars.now c.args.s.now c.enter-mark.ensures.block _ c.in_err-typed.ensures.out)

pub arm-returns-clause-ok : goal.arm-returns-clause-ok
arm-returns-clause-ok t c =
    arm_typed c.args.types.now c.part.new.types c.args.p c.args.names.now c.enter-mark.new.self c.args.vars.now c.args.s.now c.enter-mark.ensures.block c.part.new.names c.leave.new.self c.part.new.vars c.in_ok-typed.typed c.in_ok-typed.ensures.grows.grown
    (scoped _ _ _ _ c.enter-mark.result c.enter-mark.ensures.block c.enter-mark.ensures.mark c.leave.ensures.behind) c.requires.known c.in_ok-typed.ensures.ok

pub part-returns-in_err-item-in-Decl-clause-out : goal.part-returns-in_err-item-in-Decl-clause-out
part-returns-in_err-item-in-Decl-clause-out t c =
    stop_exit c.from_residual.result _ _ c.from_residual.ensures.1
    (part_declaration_out c.item.new.types c.args.p (state c.args.names.now c.args.vars.now) c.args.s.now _ _ _ c.in-Decl.is c.in_err-item-in-Decl.ensures.out)

pub part-returns-in_ok-item-in-Decl-clause-ok : goal.part-returns-in_ok-item-in-Decl-clause-ok
part-returns-in_ok-item-in-Decl-clause-ok t c =
    part_declared c.item.new.types c.args.p (state c.args.names.now c.args.vars.now) (state c.item.new.names c.item.new.vars) c.args.s.now _ _ _ c.item.new.typed _ c.in-Decl.is c.new-typed.ensures.items c.in_ok-item-in-Decl.ensures.ok (record { at = search rules; is = search rules })

pub part-returns-in_default-clause-ok : goal.part-returns-in_default-clause-ok
part-returns-in_default-clause-ok t c = part_stated c.statement.new.types c.args.p (state c.args.names.now c.args.vars.now) (state c.statement.new.names c.statement.new.vars) c.args.s.now c.statement.result c.statement.ensures.ok

pub part-returns-in_default-clause-out : goal.part-returns-in_default-clause-out
part-returns-in_default-clause-out t c = part_statement_out c.statement.new.types c.args.p (state c.args.names.now c.args.vars.now) c.args.s.now c.statement.result c.statement.ensures.out

-- ---- sections

pub sections-loop-one-init : goal.sections-loop-one-init
sections-loop-one-init t c = sections_start c.args.p c.args.types.now c.args.tested (state c.args.names.now c.args.vars.now) c.args.all.now _ _ c.new-typed.ensures.items refl c.is_table.ensures c.requires.known c.requires.result

pub sections-returns-in_err-section-clause-grows : goal.sections-returns-in_err-section-clause-grows
sections-returns-in_err-section-clause-grows t c = grows_twice _ _ _ c.loop-one.invariant.goes.grown c.in_err-section.ensures.grows

pub sections-returns-clause-ok : goal.sections-returns-clause-ok
sections-returns-clause-ok t c = sections_end c.args.p c.args.types.now c.loop-one.types c.args.tested (state c.args.names.now c.args.vars.now) c.args.all.now c.loop-one.one-index c.loop-one.behind c.loop-one.known (state c.loop-one.names c.loop-one.vars) c.loop-one.typed.items c.loop-one.invariant c.loop-one-test.false

pub sections-returns-in_err-push-clause-grows : goal.sections-returns-in_err-push-clause-grows
sections-returns-in_err-push-clause-grows t c = grows_twice _ _ _ c.loop-one.invariant.goes.grown c.in_ok-section.ensures.grows

pub sections-returns-clause-grows : goal.sections-returns-clause-grows
sections-returns-clause-grows t c = c.loop-one.invariant.goes.grown

-- ---- a section

pub section-labels-requires-clause-known : goal.section-labels-requires-clause-known
section-labels-requires-clause-known t c = c.requires.known

pub section-returns-in_err-labels-clause-out : goal.section-returns-in_err-labels-clause-out
section-returns-in_err-labels-clause-out t c =
    stop_exit c.from_residual.result _ _ c.from_residual.ensures.1
    (section_labels_out c.labels.new.types c.labels.new.types c.args.p c.args.last c.list_ends-ends.result c.falls-falls.result c.args.tested.now c.labels.new.tested c.args.names.now c.labels.new.names c.args.vars.now c.args.group.now (c.list_ends-ends.ensures ∙ ap list_ends c.deref.ensures.value) c.falls-falls.ensures _
    (rw c.deref-2.ensures.value at c.in_err-labels.ensures.out))

pub section-returns-in_err-body-clause-out : goal.section-returns-in_err-body-clause-out
section-returns-in_err-body-clause-out t c =
    stop_exit c.from_residual-in_err-body.result _ _ c.from_residual-in_err-body.ensures.1
    (section_items_out c.labels.new.types c.items.new.types c.args.p c.args.last c.list_ends-ends.result c.falls-falls.result c.args.tested.now c.labels.new.tested c.args.names.now c.labels.new.names c.args.vars.now c.args.group.now (c.list_ends-ends.ensures ∙ ap list_ends c.deref.ensures.value) c.falls-falls.ensures c.in_ok-labels.labels
    (rw c.deref-2.ensures.value at c.in_ok-labels.ensures.ok) c.in_err-body.ensures.grows.grown _
    (rw c.deref-3.ensures.value at c.in_err-body.ensures.out))

pub section-returns-in_err-body-clause-grows : goal.section-returns-in_err-body-clause-grows
section-returns-in_err-body-clause-grows t c = grows_twice _ _ _ c.in_ok-labels.ensures.grows c.in_err-body.ensures.grows

pub section-returns-clause-ok : goal.section-returns-clause-ok
section-returns-clause-ok t c =
    section_typed c.labels.new.types c.items.new.types c.args.p c.args.last c.list_ends-ends.result c.falls-falls.result c.args.tested.now c.labels.new.tested c.args.names.now c.labels.new.names c.args.vars.now c.args.group.now (c.list_ends-ends.ensures ∙ ap list_ends c.deref.ensures.value) c.falls-falls.ensures c.in_ok-labels.labels
    (rw c.deref-2.ensures.value at c.in_ok-labels.ensures.ok) c.in_ok-body.ensures.grows.grown c.items.new.names c.items.new.vars c.in_ok-body.body _ _
    (rw c.deref-3.ensures.value at c.in_ok-body.ensures.ok) refl (built_section c.in_ok-labels.labels c.in_ok-body.body)

pub section-returns-clause-grows : goal.section-returns-clause-grows
section-returns-clause-grows t c = grows_twice _ _ _ c.in_ok-labels.ensures.grows c.in_ok-body.ensures.grows

pub sections-overflow_sub-behind : goal.sections-overflow_sub-behind
sections-overflow_sub-behind t c =
    sections_some c.args.p c.args.types.now c.loop-one.types c.args.tested (state c.args.names.now c.args.vars.now) c.args.all.now c.loop-one.one-index c.loop-one.behind c.loop-one.known (state c.loop-one.names c.loop-one.vars) c.loop-one.typed.items c.one-item.result c.loop-one.invariant c.loop-one-test.true c.one-item.is

pub sections-returns-in_err-section-clause-out : goal.sections-returns-in_err-section-clause-out
sections-returns-in_err-section-clause-out t c =
    let some : 0 < c.loop-one.behind = sections_some c.args.p c.args.types.now c.loop-one.types c.args.tested (state c.args.names.now c.args.vars.now) c.args.all.now c.loop-one.one-index c.loop-one.behind c.loop-one.known (state c.loop-one.names c.loop-one.vars) c.loop-one.typed.items c.one-item.result c.loop-one.invariant c.loop-one-test.true c.one-item.is in
    stop_exit c.from_residual.result _ _ c.from_residual.ensures.1
    (sections_stop c.args.p c.args.types.now c.loop-one.types c.section.new.types c.args.tested (state c.args.names.now c.args.vars.now) c.args.all.now c.loop-one.one-index c.loop-one.behind (c.loop-one.behind - 1) c.loop-one.known (state c.loop-one.names c.loop-one.vars) c.loop-one.typed.items c.one-item.result _ c.loop-one.invariant c.loop-one-test.true c.one-item.is c.in_err-section.ensures.grows (omega arith) refl _ c.in_err-section.ensures.out)

pub sections-loop-one-preserved : goal.sections-loop-one-preserved
sections-loop-one-preserved t c =
    let some : 0 < c.loop-one.behind = sections_some c.args.p c.args.types.now c.loop-one.types c.args.tested (state c.args.names.now c.args.vars.now) c.args.all.now c.loop-one.one-index c.loop-one.behind c.loop-one.known (state c.loop-one.names c.loop-one.vars) c.loop-one.typed.items c.one-item.result c.loop-one.invariant c.loop-one-test.true c.one-item.is in
    sections_next c.args.p c.args.types.now c.loop-one.types c.section.new.types c.args.tested (state c.args.names.now c.args.vars.now) c.args.all.now c.loop-one.one-index c.loop-one.behind (c.loop-one.behind - 1) c.loop-one.known (state c.loop-one.names c.loop-one.vars) c.loop-one.typed.items c.one-item.result _ c.loop-one.invariant c.loop-one-test.true c.one-item.is c.in_ok-section.ensures.grows (omega arith) refl c.section.new.tested (state c.section.new.names c.section.new.vars) c.in_ok-section.field-0 _ c.in_ok-push.ensures.items c.in_ok-section.ensures.ok
