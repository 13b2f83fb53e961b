use Rattle.std.proofs.Common.{option_copied, position, sym, ◌∙◌, ap}
use Rattle.clv_io.specs.Holdings.{is_named, held_by}
use Rattle.clv_io.proofs.Shelves.{read_at, read_none}
use Rattle.clv_io.proofs.shelf.Shelf.contents.Goals as goal

pub returns-in_err-at : goal.returns-in_err-at
returns-in_err-at c =
    ap option_copied c.from_residual.ensures
    ∙ sym (ap held_by (read_none c.args.self.now c.deref.result.now c.args.name.now (c.deref.ensures.value ∙ c.self.view_is) c.in_err-at.ensures))

pub returns : goal.returns
returns c =
    let place = c.in_ok-at.ensures ∙ ap (position (is_named c.args.name.now)) c.deref.ensures.value in
    c.contents.ensures
    ∙ sym (ap held_by (read_at c.args.self.now c.self.inside.slots.items c.args.name.now c.in_ok-at.at c.index.result.now c.self.view_is place c.index.ensures))
