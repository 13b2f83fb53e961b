use Rattle.cl_type_expr.proofs.Nodes.{stop_exit}
use Rattle.cl_variables.proofs.Values.{value_expr_out, value_varies_out}
use Rattle.cl_variables.proofs.valued.value.Goals as goal

pub returns-in_err-typed-clause-out : goal.returns-in_err-typed-clause-out
returns-in_err-typed-clause-out c =
    stop_exit c.from_residual.result _ _ c.from_residual.ensures.1
    (value_expr_out c.expr.new.types c.args.constant c.args.names.now c.args.e.now c.args.names.now c.in_err-typed.field-0.0 c.in_err-typed.ensures.out)

pub returns-in_err-varies-clause-out : goal.returns-in_err-varies-clause-out
returns-in_err-varies-clause-out c =
    stop_exit c.from_residual-in_err-varies.result _ _ c.from_residual-in_err-varies.ensures.1
    (value_varies_out c.expr.new.types c.args.constant c.args.names.now c.args.e.now c.expr.new.names c.in_ok-typed.typed c.in_err-varies.field-0.0 c.if-not-constant.false c.in_ok-typed.ensures.ok c.in_err-varies.ensures.out)
