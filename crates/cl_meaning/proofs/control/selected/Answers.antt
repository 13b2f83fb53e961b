use Rattle.std.proofs.Common.{sym, ap, ◌∙◌}
use Rattle.std.proofs.lemmas.Bool.{eqb-false}
use Rattle.cl_meaning.specs.Effects.{from_label, is_default, or_else}
use Rattle.cl_meaning.specs.Views.{sections_by}
use Rattle.cl_meaning.proofs.Controls.{this_rather}
use Rattle.cl_meaning.proofs.control.selected.Goals as goal

pub returns-then-not-is_empty : goal.returns-then-not-is_empty
returns-then-not-is_empty c =
    let other = from_label is_default (sections_by c.args.sections.now) in
    sym (this_rather c.from_case-case.result.now other (eqb-false _ 0 (sym c.is_empty.ensures ∙ c.if-not-is_empty.true)))
    ∙ ap (λ z. or_else z other) c.from_case-case.ensures
