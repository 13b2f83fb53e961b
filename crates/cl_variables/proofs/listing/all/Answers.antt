use Rattle.std.proofs.Common.{arith}
use Rattle.cl_type_expr.proofs.Nodes.{stop_exit}
use Rattle.cl_variables.proofs.Lists.{all_stop, all_next, all_end}
use Rattle.cl_variables.proofs.listing.all.Goals as goal

pub loop-filled-preserved : goal.loop-filled-preserved
loop-filled-preserved c =
    all_next c.args.types.now c.loop-filled.types c.part.new.types c.args.constant c.args.names.now c.args.items.now c.args.elem c.loop-filled.names c.loop-filled.count c.loop-filled.filled c.loop-filled.invariant c.loop-filled-test.true c.part.ensures.grows
    c.part.new.names c.in_ok-part.part c.join.new.self c.in_ok-part.ensures.ok c.in_ok-join.ensures.trees c.in_ok-join.ensures.next c.in_ok-join.ensures.tally

pub returns-in_err-part-clause-out : goal.returns-in_err-part-clause-out
returns-in_err-part-clause-out c =
    stop_exit c.from_residual.result _ _ c.from_residual.ensures.1
    (all_stop c.args.types.now c.loop-filled.types c.part.new.types c.args.constant c.args.names.now c.args.items.now c.args.elem c.loop-filled.names c.loop-filled.count c.loop-filled.filled c.loop-filled.invariant c.loop-filled-test.true c.part.ensures.grows
    c.in_err-part.field-0.0 c.in_err-part.ensures.out)

pub returns-clause-ok : goal.returns-clause-ok
returns-clause-ok c = all_end c.args.types.now c.loop-filled.types c.args.constant c.args.names.now c.args.items.now c.args.elem c.loop-filled.names c.loop-filled.count c.loop-filled.filled c.loop-filled.invariant (omega arith)
