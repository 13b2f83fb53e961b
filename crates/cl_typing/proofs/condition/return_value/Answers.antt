use Rattle.std.proofs.Common.{rules, Some, sym, ap, ◌∙◌, subst}
use Rattle.cl_builtins.specs.Found.{IsKnown}
use Rattle.cl_builtins.proofs.Growth.{grown_known}
use Rattle.cl_make.proofs.Growing.{grows_twice}
use Rattle.cl_rules.specs.Operands.{first_broken}
use Rattle.cl_typing.specs.Answers.{AloneStops}
use Rattle.cl_typing.specs.Statements.{return_tests_of}
use Rattle.cl_typing.proofs.Conditions.{value_returned, value_refused, return_expr_out}
use Rattle.cl_typing.proofs.Results.{stop_exit, none_of_not}
use Rattle.cl_typing.proofs.condition.return_value.Goals as goal

pub returns-in_err-typed-clause-out : goal.returns-in_err-typed-clause-out
returns-in_err-typed-clause-out c =
    stop_exit c.from_residual.result _ _ c.from_residual.ensures.1 (return_expr_out c.expr.new.types c.args.p c.args.names.now c.args.s.now c.args.e.now _ c.requires.is c.in_err-typed.ensures.out)

pub shaped-gives-requires : goal.shaped-gives-requires
shaped-gives-requires c = grown_known c.args.types.now c.expr.new.types c.args.p.result c.in_ok-typed.ensures.grows.grown c.requires.result

pub returns-in-Some-clause-out : goal.returns-in-Some-clause-out
returns-in-Some-clause-out c =
    let k : IsKnown c.expr.new.types c.args.p.result = grown_known c.args.types.now c.expr.new.types c.args.p.result c.in_ok-typed.ensures.grows.grown c.requires.result in
    subst (AloneStops c.expr.new.types c.args.p c.args.names.now c.args.s.now) (sym c.out.ensures)
    (value_refused c.expr.new.types c.args.p c.args.s.now c.is_table-2.ensures k c.args.names.now c.expr.new.names c.args.e.now c.in_ok-typed.typed c.requires.is c.in_ok-typed.ensures.ok c.in-Some.code
    (ap (λ t. first_broken (return_tests_of t (Some c.in_ok-typed.typed.operand))) (sym c.shaped-gives.ensures) ∙ sym c.return_broken.ensures ∙ c.in-Some.is))

pub converted-requires-clause-asked : goal.converted-requires-clause-asked
converted-requires-clause-asked c = grown_known c.args.types.now c.expr.new.types c.args.p.result c.in_ok-typed.ensures.grows.grown c.requires.result

pub returns-clause-ok : goal.returns-clause-ok
returns-clause-ok c =
    let k : IsKnown c.expr.new.types c.args.p.result = grown_known c.args.types.now c.expr.new.types c.args.p.result c.in_ok-typed.ensures.grows.grown c.requires.result in
    value_returned c.expr.new.types c.args.p c.args.s.now c.is_table-2.ensures k c.args.names.now c.expr.new.names c.args.e.now c.in_ok-typed.typed c.requires.is c.in_ok-typed.ensures.ok c.converted.new.types c.in_ok-value.value _ c.in_ok-value.ensures.grows.grown
    (ap (λ t. first_broken (return_tests_of t (Some c.in_ok-typed.typed.operand))) (sym c.shaped-gives.ensures) ∙ sym c.return_broken.ensures ∙ none_of_not _ c.in_default.not-Some)
    c.in_ok-value.ensures.converted (record { at = search rules; is = search rules })

pub returns-clause-grows : goal.returns-clause-grows
returns-clause-grows c = grows_twice _ _ _ c.in_ok-typed.ensures.grows c.in_ok-value.ensures.grows
