use Rattle.std.proofs.Common.{Some, None, sym, ap, ◌∙◌, subst}
use Rattle.cl_tree.specs.Constants.{divides, number_in}
use Rattle.cl_typing.specs.Answers.{CaseValueStops}
use Rattle.cl_typing.specs.Statements.{case_in}
use Rattle.cl_typing.proofs.Numerals.{case_value_was, case_value_out, gentype_width}
use Rattle.cl_typing.proofs.Results.{none_of_not}
use Rattle.cl_typing.proofs.label.case_value.Goals as goal

pub returns-in-Some-clause-out : goal.returns-in-Some-clause-out
returns-in-Some-clause-out c =
    subst (CaseValueStops c.args.types.now c.args.typed.now.tree) (sym c.out.ensures)
    (case_value_out c.args.types.now c.args.typed.now c.is_table.ensures c.requires.ready c.in-Some.place (ap divides (sym c.in_ok-value.ensures) ∙ sym c.divides.ensures ∙ c.in-Some.is))

pub number_to-requires-clause-to : goal.number_to-requires-clause-to
number_to-requires-clause-to c = gentype_width c.args.of c.requires.kind

pub returns-in-None-clause-ok : goal.returns-in-None-clause-ok
returns-in-None-clause-ok c =
    case_value_was c.args.types.now c.args.typed.now c.is_table.ensures c.requires.ready c.args.of None c.shape-from.result c.in_ok-value.value c.in_ok-value.ensures c.shape-from.ensures.is
    (sym c.divides.ensures ∙ none_of_not _ c.in_default.not-Some) (ap (case_in c.shape-from.result c.args.of) (sym c.in-None.is ∙ c.number_in.ensures))

pub returns-clause-ok : goal.returns-clause-ok
returns-clause-ok c =
    case_value_was c.args.types.now c.args.typed.now c.is_table.ensures c.requires.ready c.args.of _ c.shape-from.result c.in_ok-value.value c.in_ok-value.ensures c.shape-from.ensures.is
    (sym c.divides.ensures ∙ none_of_not _ c.in_default.not-Some) (ap Some c.number_to.ensures ∙ ap (case_in c.shape-from.result c.args.of) (sym c.in-Some-number_in.is ∙ c.number_in.ensures))
