use Rattle.std.proofs.Common.{sym, ap, ◌∙◌}
use Rattle.std.proofs.lemmas.Bool.{eqb-false}
use Rattle.cl_meaning.specs.Effects.{Goes}
use Rattle.cl_meaning.specs.Views.{sections_by}
use Rattle.cl_meaning.proofs.Controls.{selects_some}
use Rattle.cl_meaning.proofs.item.Item.select_section.Goals as goal

pub returns : goal.returns
returns c =
    ap Goes (selects_some c.args.s.types.now (sections_by c.args.sections.now) c.selected-sections.result.now c.args.self.now c.switch_to.new.self c.number.result c.drop_newest.new.self c.in_ok-switch_tasks.field-0.items c.in_ok-todo.todo
    c.number.ensures c.selected-sections.ensures (eqb-false _ 0 (sym c.is_empty.ensures ∙ c.if-is_empty.false)) c.drop_newest.ensures c.in_ok-switch_tasks.ensures c.in_ok-todo.ensures c.in_ok-switch_to.ensures)
