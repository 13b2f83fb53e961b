use Rattle.cl_make.proofs.Growing.{grows_twice}
use Rattle.cl_make.proofs.Stays.{ready_type_stays}
use Rattle.cl_typing.proofs.Results.{stop_exit}
use Rattle.cl_typing.proofs.UnitLoops.{constants_start, constants_next, constants_stop, constants_end}
use Rattle.cl_typing.proofs.external.constants.Goals as goal

pub loop-one-init : goal.loop-one-init
loop-one-init c = constants_start c.args.q c.args.types.now c.args.unit.now c.args.all.now c.is_table.ensures c.requires.known

pub constant-requires-clause-known : goal.constant-requires-clause-known
constant-requires-clause-known c = c.loop-one.invariant.known

pub constant-requires-clause-type_ready : goal.constant-requires-clause-type_ready
constant-requires-clause-type_ready c = ready_type_stays c.args.types.now c.loop-one.types c.args.q c.is_table.ensures c.loop-one.invariant.goes.grown.grown c.requires.type_ready

pub returns-in_err-constant-clause-out : goal.returns-in_err-constant-clause-out
returns-in_err-constant-clause-out c =
    stop_exit c.from_residual.result _ _ c.from_residual.ensures.1
    (constants_stop c.args.q c.args.types.now c.loop-one.types c.constant.new.types c.args.unit.now c.args.all.now c.loop-one.one-index c.loop-one.unit c.one-item.result c.loop-one.invariant c.loop-one-test.true c.one-item.is c.in_err-constant.ensures.grows _ c.in_err-constant.ensures.out)

pub returns-in_err-constant-clause-grows : goal.returns-in_err-constant-clause-grows
returns-in_err-constant-clause-grows c = grows_twice _ _ _ c.loop-one.invariant.goes.grown c.in_err-constant.ensures.grows

pub loop-one-preserved : goal.loop-one-preserved
loop-one-preserved c =
    constants_next c.args.q c.args.types.now c.loop-one.types c.constant.new.types c.args.unit.now c.args.all.now c.loop-one.one-index c.loop-one.unit c.one-item.result c.loop-one.invariant c.loop-one-test.true c.one-item.is c.in_ok-constant.ensures.grows c.constant.new.unit c.in_ok-constant.ensures.ok

pub returns-clause-ok : goal.returns-clause-ok
returns-clause-ok c = constants_end c.args.q c.args.types.now c.loop-one.types c.args.unit.now c.args.all.now c.loop-one.one-index c.loop-one.unit c.loop-one.invariant c.loop-one-test.false

pub returns-clause-grows : goal.returns-clause-grows
returns-clause-grows c = c.loop-one.invariant.goes.grown
