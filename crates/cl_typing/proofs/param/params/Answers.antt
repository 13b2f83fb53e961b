use Rattle.cl_make.proofs.Growing.{grows_twice}
use Rattle.cl_typing.proofs.Results.{stop_exit}
use Rattle.cl_typing.proofs.UnitLoops.{params_start, params_next, params_stop, params_end}
use Rattle.cl_typing.proofs.param.params.Goals as goal

pub loop-one-init : goal.loop-one-init
loop-one-init c = params_start c.args.kernel c.args.types.now c.args.names.now c.args.all.now c.new-params.result c.new-params.ensures c.is_table.ensures c.requires.known

pub param-requires : goal.param-requires
param-requires c = record { known = c.loop-one.invariant.known }

pub returns-in_err-param-clause-out : goal.returns-in_err-param-clause-out
returns-in_err-param-clause-out c =
    stop_exit c.from_residual.result _ _ c.from_residual.ensures.1
    (params_stop c.args.kernel c.args.types.now c.loop-one.types c.param.new.types c.args.names.now c.args.all.now c.loop-one.one-index c.loop-one.names c.loop-one.params c.one-item.result c.loop-one.invariant c.loop-one-test.true c.one-item.is c.in_err-param.ensures.grows _ c.in_err-param.ensures.out)

pub returns-in_err-param-clause-grows : goal.returns-in_err-param-clause-grows
returns-in_err-param-clause-grows c = grows_twice _ _ _ c.loop-one.invariant.goes.grown c.in_err-param.ensures.grows

pub loop-one-preserved : goal.loop-one-preserved
loop-one-preserved c =
    params_next c.args.kernel c.args.types.now c.loop-one.types c.param.new.types c.args.names.now c.args.all.now c.loop-one.one-index c.loop-one.names c.loop-one.params c.one-item.result c.loop-one.invariant c.loop-one-test.true c.one-item.is c.in_ok-param.ensures.grows c.param.new.names c.param.new.before c.in_ok-param.ensures.ok

pub returns-clause-ok : goal.returns-clause-ok
returns-clause-ok c = params_end c.args.kernel c.args.types.now c.loop-one.types c.args.names.now c.args.all.now c.loop-one.one-index c.loop-one.names c.loop-one.params c.loop-one.invariant c.loop-one-test.false

pub returns-clause-grows : goal.returns-clause-grows
returns-clause-grows c = c.loop-one.invariant.goes.grown
