use Rattle.std.proofs.Common.{rules, None, sym, ap, ◌∙◌, subst}
use Rattle.cl_rules.specs.Operands.{first_broken}
use Rattle.cl_typing.specs.Answers.{AloneStops}
use Rattle.cl_typing.specs.Statements.{return_tests_of}
use Rattle.cl_typing.proofs.Conditions.{return_typed, return_out}
use Rattle.cl_typing.proofs.Results.{none_of_not}
use Rattle.cl_typing.proofs.condition.return_nothing.Goals as goal

pub returns-in-Some-clause-out : goal.returns-in-Some-clause-out
returns-in-Some-clause-out c =
    subst (AloneStops c.args.types.now c.args.p c.args.names.now c.args.s.now) (sym c.out.ensures)
    (return_out c.args.types.now c.args.p c.args.s.now c.is_table.ensures c.requires.result c.args.names.now c.in-Some.code c.requires.is
    (ap (λ t. first_broken (return_tests_of t None)) (sym c.shaped-gives.ensures) ∙ sym c.return_broken.ensures ∙ c.in-Some.is))

pub returns-clause-ok : goal.returns-clause-ok
returns-clause-ok c =
    return_typed c.args.types.now c.args.p c.args.s.now c.is_table.ensures c.requires.result c.args.names.now _ c.requires.is c.requires.known
    (ap (λ t. first_broken (return_tests_of t None)) (sym c.shaped-gives.ensures) ∙ sym c.return_broken.ensures ∙ none_of_not _ c.in_default.not-Some) (record { at = search rules; is = search rules })
