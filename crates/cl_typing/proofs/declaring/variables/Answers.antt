use Rattle.cl_make.proofs.Growing.{grows_twice}
use Rattle.cl_make.proofs.Stays.{ready_type_stays}
use Rattle.cl_typing.specs.Settings.{state}
use Rattle.cl_typing.proofs.Results.{stop_exit}
use Rattle.cl_typing.proofs.Sequences.{variables_start, variables_next, variables_stop, variables_end}
use Rattle.cl_typing.proofs.declaring.variables.Goals as goal

pub loop-one-init : goal.loop-one-init
loop-one-init c = variables_start c.args.p c.args.q c.args.types.now (state c.args.names.now c.args.vars.now) c.args.all.now c.args.typed.now.items c.is_table.ensures c.requires.known

pub declaration-requires-clause-known : goal.declaration-requires-clause-known
declaration-requires-clause-known c = c.loop-one.invariant.known

pub declaration-requires-clause-type_ready : goal.declaration-requires-clause-type_ready
declaration-requires-clause-type_ready c = ready_type_stays c.args.types.now c.loop-one.types c.args.q c.is_table.ensures c.loop-one.invariant.goes.grown.grown c.requires.type_ready

pub returns-in_err-declaration-clause-out : goal.returns-in_err-declaration-clause-out
returns-in_err-declaration-clause-out c =
    stop_exit c.from_residual.result _ _ c.from_residual.ensures.1
    (variables_stop c.args.p c.args.q c.args.types.now c.loop-one.types c.declaration.new.types (state c.args.names.now c.args.vars.now) c.args.all.now c.loop-one.one-index (state c.loop-one.names c.loop-one.vars) c.args.typed.now.items c.loop-one.typed.items c.one-item.result c.loop-one.invariant c.loop-one-test.true c.one-item.is c.in_err-declaration.ensures.grows _ c.in_err-declaration.ensures.out)

pub returns-in_err-declaration-clause-grows : goal.returns-in_err-declaration-clause-grows
returns-in_err-declaration-clause-grows c = grows_twice _ _ _ c.loop-one.invariant.goes.grown c.in_err-declaration.ensures.grows

pub returns-in_err-push-clause-grows : goal.returns-in_err-push-clause-grows
returns-in_err-push-clause-grows c = grows_twice _ _ _ c.loop-one.invariant.goes.grown c.in_ok-declaration.ensures.grows

pub loop-one-preserved : goal.loop-one-preserved
loop-one-preserved c =
    variables_next c.args.p c.args.q c.args.types.now c.loop-one.types c.declaration.new.types (state c.args.names.now c.args.vars.now) c.args.all.now c.loop-one.one-index (state c.loop-one.names c.loop-one.vars) c.args.typed.now.items c.loop-one.typed.items c.one-item.result c.loop-one.invariant c.loop-one-test.true c.one-item.is c.in_ok-declaration.ensures.grows (state c.declaration.new.names c.declaration.new.vars) c.in_ok-declaration.field-0 _ c.in_ok-push.ensures.items c.in_ok-declaration.ensures.ok

pub returns-clause-ok : goal.returns-clause-ok
returns-clause-ok c = variables_end c.args.p c.args.q c.args.types.now c.loop-one.types (state c.args.names.now c.args.vars.now) c.args.all.now c.loop-one.one-index (state c.loop-one.names c.loop-one.vars) c.args.typed.now.items c.loop-one.typed.items c.loop-one.invariant c.loop-one-test.false

pub returns-clause-grows : goal.returns-clause-grows
returns-clause-grows c = c.loop-one.invariant.goes.grown
