use Rattle.cl_make.proofs.Growing.{grows_itself}
use Rattle.cl_typing.proofs.Conditions.{may_be_some, may_be_none, may_be_out}
use Rattle.cl_typing.proofs.Results.{stop_exit}
use Rattle.cl_typing.proofs.condition.may_be.Goals as goal

pub returns-in_err-expr-in-Some-clause-out : goal.returns-in_err-expr-in-Some-clause-out
returns-in_err-expr-in-Some-clause-out c =
    stop_exit c.from_residual.result _ _ c.from_residual.ensures.1 (may_be_out c.expr.new.types c.args.names.now c.args.e.now c.in-Some.e _ c.in-Some.is c.in_err-expr-in-Some.ensures.out)

pub returns-in_ok-expr-in-Some-clause-ok : goal.returns-in_ok-expr-in-Some-clause-ok
returns-in_ok-expr-in-Some-clause-ok c = may_be_some c.expr.new.types c.args.names.now c.expr.new.names c.args.e.now c.in-Some.e c.in_ok-expr-in-Some.field-0 c.in-Some.is c.in_ok-expr-in-Some.ensures.ok

pub returns-in-None-clause-ok : goal.returns-in-None-clause-ok
returns-in-None-clause-ok c = may_be_none c.args.types.now c.args.names.now c.args.e.now c.in-None.is c.requires.known

pub returns-in-None-clause-grows : goal.returns-in-None-clause-grows
returns-in-None-clause-grows c = grows_itself c.args.types.now c.is_table.ensures
