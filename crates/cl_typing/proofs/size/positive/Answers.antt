use Rattle.std.proofs.Common.{sym, ap, ◌∙◌, subst}
use Rattle.cl_tree.specs.Constants.{divides, positive_in}
use Rattle.cl_typing.specs.UnitAnswers.{PositiveStops}
use Rattle.cl_typing.proofs.Numerals.{positive_was, positive_out}
use Rattle.cl_typing.proofs.Results.{none_of_not}
use Rattle.cl_typing.proofs.size.positive.Goals as goal

pub returns-in-Some-clause-out : goal.returns-in-Some-clause-out
returns-in-Some-clause-out c =
    subst (PositiveStops c.args.types.now c.args.typed.now.tree) (sym c.out.ensures)
    (positive_out c.args.types.now c.args.typed.now c.is_table.ensures c.requires c.in-Some.place (ap divides (sym c.in_ok-value.ensures) ∙ sym c.divides.ensures ∙ c.in-Some.is))

pub returns-clause-ok : goal.returns-clause-ok
returns-clause-ok c =
    positive_was c.args.types.now c.args.typed.now c.is_table.ensures c.requires _ c.shape-shape.result c.in_ok-value.value c.in_ok-value.ensures c.shape-shape.ensures.is
    (sym c.divides.ensures ∙ none_of_not _ c.in_default.not-Some) (c.positive_in.ensures ∙ ap (positive_in c.shape-shape.result) c.number_in.ensures)
