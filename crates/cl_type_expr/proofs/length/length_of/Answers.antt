use Rattle.std.proofs.Common.{sym, ap, ◌∙◌}
use Rattle.cl_words.specs.Words.{length_from}
use Rattle.cl_tree.specs.Constants.{divides, positive_in, number_in}
use Rattle.cl_type_expr.proofs.Measured.{length_of_ok}
use Rattle.cl_type_expr.proofs.length.length_of.Goals as goal

pub returns-clause-ok : goal.returns-clause-ok
returns-clause-ok c =
    length_of_ok c.args.types.now c.args.typed.now c.shape-shape.result c.length_from.result c.is_table.ensures c.requires c.shape-shape.ensures.is (ap divides (sym c.in_ok-value.ensures) ∙ sym c.in_default.ensures)
    (c.length_from.ensures ∙ ap length_from (c.positive_in.ensures ∙ ap (positive_in c.shape-shape.result) (c.number_in.ensures ∙ ap (number_in c.shape-shape.result) c.in_ok-value.ensures)))
