use Rattle.cl_make.proofs.Growing.{grows_twice}
use Rattle.cl_typing.specs.Units.{empty}
use Rattle.cl_typing.proofs.Results.{stop_exit}
use Rattle.cl_typing.proofs.UnitLoops.{unit_start, unit_next, unit_stop, unit_end}
use Rattle.cl_typing.proofs.external.externals.Goals as goal

pub loop-one-init : goal.loop-one-init
loop-one-init c = unit_start c.args.bodies.now c.args.types.now empty c.new-unit.result c.args.all.now c.new-unit.ensures c.is_table.ensures (record { outer = tt; inner = tt; functions = tt })

pub external-requires : goal.external-requires
external-requires c = record { known = c.loop-one.invariant.known }

pub returns-in_err-external-clause-out : goal.returns-in_err-external-clause-out
returns-in_err-external-clause-out c =
    stop_exit c.from_residual.result _ _ c.from_residual.ensures.1
    (unit_stop c.args.bodies.now c.args.types.now c.loop-one.types c.external.new.types empty c.args.all.now c.loop-one.one-index c.loop-one.unit c.one-item.result c.loop-one.invariant c.loop-one-test.true c.one-item.is c.in_err-external.ensures.grows _ c.in_err-external.ensures.out)

pub returns-in_err-external-clause-grows : goal.returns-in_err-external-clause-grows
returns-in_err-external-clause-grows c = grows_twice _ _ _ c.loop-one.invariant.goes.grown c.in_err-external.ensures.grows

pub loop-one-preserved : goal.loop-one-preserved
loop-one-preserved c =
    unit_next c.args.bodies.now c.args.types.now c.loop-one.types c.external.new.types empty c.args.all.now c.loop-one.one-index c.loop-one.unit c.one-item.result c.loop-one.invariant c.loop-one-test.true c.one-item.is c.in_ok-external.ensures.grows c.external.new.unit c.in_ok-external.ensures.ok

pub returns-clause-ok : goal.returns-clause-ok
returns-clause-ok c = unit_end c.args.bodies.now c.args.types.now c.loop-one.types empty c.args.all.now c.loop-one.one-index c.loop-one.unit c.loop-one.invariant c.loop-one-test.false

pub returns-clause-grows : goal.returns-clause-grows
returns-clause-grows c = c.loop-one.invariant.goes.grown
