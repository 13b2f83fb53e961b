use Rattle.std.proofs.Common.{sym, ◌∙◌, subst}
use Rattle.cl_ast.specs.declared.expression.Base.TheViews.{out-Expr}
use Rattle.cl_make.specs.Answered.{IsNumberOf}
use Rattle.cl_type_expr.specs.Typing.{NodeStops}
use Rattle.cl_type_expr.proofs.Nodes.{alone, one_ready, sized, size_void, size_value_out, size_value_ok}
use Rattle.cl_type_expr.proofs.special.size_of_value.Goals as goal

pub returns-then-no_size-clause-out : goal.returns-then-no_size-clause-out
returns-then-no_size-clause-out c =
    subst (NodeStops c.args.types.now c.args.names.now c.args.left c.args.e.now c.args.operands.items) (sym c.out.ensures)
    (size_value_out c.args.types.now c.args.names.now c.args.left c.args.e.now c.args.operands.items c.index.result.now c.requires.is (alone c.args.operands.items c.index.result.now c.requires.one c.index.ensures) (sym c.no_size.ensures ∙ c.if-no_size.true))

pub size-size-requires : goal.size-size-requires
size-size-requires c =
    let ready = one_ready c.args.types.now c.args.operands.items c.index.result.now c.requires.one c.index.ensures c.requires.ready in
    sized c.args.types.now c.index.result.now.operand.shape c.index.result.now.operand.facts.ty ready.operand.shape (size_void c.index.result.now.operand (sym c.no_size.ensures ∙ c.if-no_size.false))

pub returns-clause-ok : goal.returns-clause-ok
returns-clause-ok c =
    let ready = one_ready c.args.types.now c.args.operands.items c.index.result.now c.requires.one c.index.ensures c.requires.ready in
    size_value_ok c.args.types.now c.number.new.types c.args.names.now c.args.left c.args.e.now c.args.operands.items c.index.result.now c.in_ok-number.field-0 c.from.result c.in_ok-number.ensures.grows.grown ready.operand.known c.requires.is (alone c.args.operands.items c.index.result.now c.requires.one c.index.ensures) (sym c.no_size.ensures ∙ c.if-no_size.false)
    (c.from.ensures ∙ c.size-size.ensures.is)
    (subst (λ t. IsNumberOf c.number.new.types t c.from.result (out-Expr c.args.e.now).place c.in_ok-number.field-0) c.uint.ensures c.in_ok-number.ensures.number)
