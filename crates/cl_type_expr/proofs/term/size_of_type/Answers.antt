use Rattle.std.proofs.Common.{sym, ap, ◌∙◌, subst, []}
use Rattle.cl_ast.specs.declared.expression.Base.TheViews.{out-Expr}
use Rattle.cl_rules.specs.Operands.{first_broken}
use Rattle.cl_rules.specs.Calls.{size_tests}
use Rattle.cl_make.specs.Answered.{IsNumberOf}
use Rattle.cl_type_expr.specs.Expressions.{term_size}
use Rattle.cl_type_expr.specs.Typing.{SizeStops}
use Rattle.cl_type_expr.proofs.Nodes.{size_type_out, size_type_ok}
use Rattle.cl_type_expr.proofs.term.size_of_type.Goals as goal

pub returns-in-Some-clause-out : goal.returns-in-Some-clause-out
returns-in-Some-clause-out c =
    subst (SizeStops c.args.types.now c.args.names.now c.args.left c.args.e.now c.args.term.now c.args.q) (sym c.out.ensures)
    (size_type_out c.args.types.now c.args.names.now c.args.left c.args.e.now c.args.term.now c.args.q [] c.in-Some.code c.requires.is (ap (λ s. first_broken (size_tests c.args.q s)) (sym c.restrict_behind-star.ensures) ∙ sym c.in-Some.ensures))

pub returns-clause-ok : goal.returns-clause-ok
returns-clause-ok c =
    size_type_ok c.number.new.types c.args.names.now c.args.left c.args.e.now c.args.term.now c.args.q [] c.args.types.now c.from.result c.in_ok-number.field-0 c.in_ok-number.ensures.grows.grown c.requires.type_ready c.requires.is
    (ap (λ s. first_broken (size_tests c.args.q s)) (sym c.restrict_behind-star.ensures) ∙ sym c.in_default.ensures)
    (c.from.ensures ∙ c.term_size-size.ensures ∙ ap (term_size c.args.types.now c.args.q) c.restrict_behind-star.ensures)
    (subst (λ t. IsNumberOf c.number.new.types t c.from.result (out-Expr c.args.e.now).place c.in_ok-number.field-0) c.uint.ensures c.in_ok-number.ensures.number)
