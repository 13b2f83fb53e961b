use Rattle.std.proofs.Common.{rules}
use Rattle.cl_typing.proofs.Conditions.{expression_typed, expression_out}
use Rattle.cl_typing.proofs.Results.{stop_exit}
use Rattle.cl_typing.proofs.condition.expression.Goals as goal

pub returns-in_err-typed-clause-out : goal.returns-in_err-typed-clause-out
returns-in_err-typed-clause-out c =
    stop_exit c.from_residual.result _ _ c.from_residual.ensures.1 (expression_out c.expr.new.types c.args.p c.args.names.now c.args.s.now c.args.e.now _ c.requires.is c.in_err-typed.ensures.out)

pub returns-clause-ok : goal.returns-clause-ok
returns-clause-ok c = expression_typed c.expr.new.types c.args.p c.args.names.now c.expr.new.names c.args.s.now c.args.e.now c.in_ok-typed.typed _ c.requires.is c.in_ok-typed.ensures.ok (record { at = search rules; is = search rules })
