use Rattle.std.proofs.Common.{refl, sym, ◌∙◌, subst}
use Rattle.cl_typing.specs.Answers.{LabelStops}
use Rattle.cl_typing.proofs.Results.{stop_exit, none_of_not}
use Rattle.cl_typing.proofs.Switches.{label_case, label_case_out, label_default, label_default_out}
use Rattle.cl_typing.proofs.label.label.Goals as goal

pub returns-in_err-value-in-Some-clause-out : goal.returns-in_err-value-in-Some-clause-out
returns-in_err-value-in-Some-clause-out c =
    stop_exit c.from_residual.result _ _ c.from_residual.ensures.1 (label_case_out c.case.new.types c.args.falls c.args.tested.now c.args.names.now c.args.label.now c.in-Some.e _ c.in-Some.is c.in_err-value-in-Some.ensures.out)

pub returns-in_ok-value-in-Some-clause-ok : goal.returns-in_ok-value-in-Some-clause-ok
returns-in_ok-value-in-Some-clause-ok c = label_case c.case.new.types c.args.falls c.args.tested.now c.case.new.tested c.args.names.now c.case.new.names c.args.label.now c.in-Some.e c.in_ok-value-in-Some.value c.in-Some.is c.in_ok-value-in-Some.ensures.ok

pub returns-in-Some-default_broken-clause-out : goal.returns-in-Some-default_broken-clause-out
returns-in-Some-default_broken-clause-out c =
    subst (LabelStops c.args.types.now c.args.falls c.args.tested.now c.args.names.now c.args.label.now) (sym c.out.ensures)
    (label_default_out c.args.types.now c.args.falls c.args.tested.now c.args.names.now c.args.label.now c.in-Some-default_broken.code c.in-None.is (sym c.default_broken.ensures ∙ c.in-Some-default_broken.is))

pub returns-in_default-clause-ok : goal.returns-in_default-clause-ok
returns-in_default-clause-ok c =
    label_default c.args.types.now c.args.falls c.args.tested.now _ c.args.names.now c.args.label.now c.in-None.is
    (sym c.default_broken.ensures ∙ none_of_not _ c.in_default.not-Some) refl c.requires.known
