use Rattle.cl_typing.proofs.Conditions.{for_given, for_given_out, for_missing}
use Rattle.cl_typing.proofs.condition.for_condition.Goals as goal

pub returns-in-Some-clause-ok : goal.returns-in-Some-clause-ok
returns-in-Some-clause-ok c = for_given c.expr.new.types c.args.place c.args.names.now c.expr.new.names c.args.e.now c.in-Some.e c.expr.result c.in-Some.is c.expr.ensures.ok

pub returns-in-Some-clause-out : goal.returns-in-Some-clause-out
returns-in-Some-clause-out c = for_given_out c.expr.new.types c.args.names.now c.args.e.now c.in-Some.e c.expr.result c.in-Some.is c.expr.ensures.out

pub returns-in_ok-number-in-None-clause-ok : goal.returns-in_ok-number-in-None-clause-ok
returns-in_ok-number-in-None-clause-ok c =
    for_missing c.args.types.now c.number.new.types c.args.place c.args.names.now c.args.e.now c.in_ok-number-in-None.field-0 c.in-None.is c.number.ensures.grows.grown c.requires.known
    (rw c.int.ensures at c.in_ok-number-in-None.ensures.number)
