use Rattle.cl_make.proofs.Growing.{grows_twice}
use Rattle.cl_typing.proofs.Numerals.{positives_start, positives_expr_out, positives_divided, positives_next, positives_end}
use Rattle.cl_typing.proofs.Results.{stop_exit}
use Rattle.cl_typing.proofs.size.constants.Goals as goal

pub loop-arg-init : goal.loop-arg-init
loop-arg-init c = positives_start c.args.types.now c.args.names.now c.args.args.now c.new-all.result c.new-all.ensures c.is_table.ensures c.requires.known

pub expr-requires : goal.expr-requires
expr-requires c = record { known = c.loop-arg.invariant.known }

pub returns-in_err-typed-clause-out : goal.returns-in_err-typed-clause-out
returns-in_err-typed-clause-out c =
    stop_exit c.from_residual.result _ _ c.from_residual.ensures.1
    (positives_expr_out c.args.types.now c.loop-arg.types c.expr.new.types c.args.names.now c.args.args.now c.loop-arg.arg-index c.loop-arg.names c.loop-arg.all c.arg-item.result c.loop-arg.invariant c.loop-arg-test.true c.arg-item.is c.in_err-typed.ensures.grows _ c.in_err-typed.ensures.out)

pub returns-in_err-typed-clause-grows : goal.returns-in_err-typed-clause-grows
returns-in_err-typed-clause-grows c = grows_twice _ _ _ c.loop-arg.invariant.goes.grown c.in_err-typed.ensures.grows

pub positive-requires : goal.positive-requires
positive-requires c = c.in_ok-typed.ensures.ok.ready

pub returns-in_err-positive-clause-out : goal.returns-in_err-positive-clause-out
returns-in_err-positive-clause-out c =
    stop_exit c.from_residual-in_err-positive.result _ _ c.from_residual-in_err-positive.ensures.1
    (positives_divided c.args.types.now c.loop-arg.types c.expr.new.types c.args.names.now c.args.args.now c.loop-arg.arg-index c.loop-arg.names c.loop-arg.all c.arg-item.result c.loop-arg.invariant c.loop-arg-test.true c.arg-item.is c.in_ok-typed.ensures.grows c.expr.new.names c.in_ok-typed.typed c.in_ok-typed.ensures.ok _ c.in_err-positive.ensures.out)

pub returns-in_err-positive-clause-grows : goal.returns-in_err-positive-clause-grows
returns-in_err-positive-clause-grows c = grows_twice _ _ _ c.loop-arg.invariant.goes.grown c.in_ok-typed.ensures.grows

pub returns-in_err-push-clause-grows : goal.returns-in_err-push-clause-grows
returns-in_err-push-clause-grows c = grows_twice _ _ _ c.loop-arg.invariant.goes.grown c.in_ok-typed.ensures.grows

pub loop-arg-preserved : goal.loop-arg-preserved
loop-arg-preserved c =
    positives_next c.args.types.now c.loop-arg.types c.expr.new.types c.args.names.now c.args.args.now c.loop-arg.arg-index c.loop-arg.names c.loop-arg.all c.arg-item.result c.loop-arg.invariant c.loop-arg-test.true c.arg-item.is c.in_ok-typed.ensures.grows c.expr.new.names c.in_ok-typed.typed c.in_ok-typed.ensures.ok c.in_ok-positive.field-0 _ c.in_ok-push.ensures.ok c.in_ok-positive.ensures.ok

pub returns-clause-ok : goal.returns-clause-ok
returns-clause-ok c = positives_end c.args.types.now c.loop-arg.types c.args.names.now c.args.args.now c.loop-arg.arg-index c.loop-arg.names c.loop-arg.all c.loop-arg.invariant c.loop-arg-test.false

pub returns-clause-grows : goal.returns-clause-grows
returns-clause-grows c = c.loop-arg.invariant.goes.grown
