use Rattle.cl_type_expr.proofs.Loops.{dropped_all}
use Rattle.cl_type_expr.proofs.BuiltIns.{argument_asked, arguments_step, arguments_end}
use Rattle.cl_type_expr.proofs.built_in.arguments.Goals as goal

pub given-requires : goal.given-requires
given-requires c = argument_asked c.args.types.now c.loop-o.types c.args.os.now c.loop-o.o-index _ c.argument_want.result c.is_table.ensures c.loop-o.invariant.grown c.requires c.loop-o-test.true c.argument_want.ensures

pub loop-o-preserved : goal.loop-o-preserved
loop-o-preserved c = arguments_step c.args.types.now c.loop-o.types c.given.new.types c.args.os.now c.loop-o.o-index _ c.argument_want.result c.loop-o.tys c.push.new.self c.in_ok-given.field-0 c.loop-o.invariant c.loop-o-test.true c.argument_want.ensures c.in_ok-given.ensures.grows c.in_ok-given.ensures.number c.in_ok-push.ensures.ok

pub returns-clause-ok : goal.returns-clause-ok
returns-clause-ok c = arguments_end c.args.types.now c.loop-o.types c.args.os.now c.loop-o.o-index c.loop-o.tys c.loop-o.invariant (dropped_all c.args.os.now c.loop-o.o-index c.loop-o-test.false)
