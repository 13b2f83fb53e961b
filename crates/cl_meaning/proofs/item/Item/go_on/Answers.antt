use Rattle.std.proofs.Common.{option_copied, slice_get, sym, ap, ◌∙◌}
use Rattle.cl_meaning.specs.Effects.{Goes}
use Rattle.cl_meaning.specs.Views.{item_by}
use Rattle.cl_meaning.proofs.Controls.{goes_nowhere, is_beneath, loop_goes_on}
use Rattle.cl_meaning.proofs.item.Item.go_on.Goals as goal

pub returns-in_default : goal.returns-in_default
returns-in_default c =
    let cs = c.args.s.types.now in
    ap Goes (goes_nowhere cs c.args.self.now.around 0 (item_by cs c.args.self.now) (sym c.switches_inside.ensures ∙ c.in_default.is))

pub returns-in_default-top : goal.returns-in_default-top
returns-in_default-top c =
    absurd (is_beneath c.args.self.now.around c.in-Some.switches (sym c.switches_inside.ensures ∙ c.in-Some.is)
    (ap (λ z. slice_get z 0) (sym c.drop_newest.ensures) ∙ sym c.top.ensures ∙ ap option_copied c.in_default-top.is))

pub returns : goal.returns
returns c =
    ap Goes (loop_goes_on c.args.s.types.now c.args.self.now c.turn_to.new.self c.in-Some.switches c.drop_newest.new.self c.in-Some-top.around.now c.in_ok-again.field-0.items c.in_ok-todo.todo
    (sym c.switches_inside.ensures ∙ c.in-Some.is) c.drop_newest.ensures (sym c.top.ensures ∙ ap option_copied c.in-Some-top.is) c.in_ok-again.ensures c.in_ok-todo.ensures c.turn_to.ensures)
