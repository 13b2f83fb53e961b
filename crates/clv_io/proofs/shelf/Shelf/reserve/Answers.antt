use Rattle.std.proofs.Common.{position, ◌∙◌, ap}
use Rattle.std.proofs.lemmas.Result.{on_ok_weaker}
use Rattle.clv_io.specs.Holdings.{is_named}
use Rattle.clv_io.proofs.Shelves.{reserved_at, reserved_new}
use Rattle.clv_io.proofs.shelf.Shelf.reserve.Goals as goal

pub returns-in-Some-clause-ok : goal.returns-in-Some-clause-ok
returns-in-Some-clause-ok c =
    let place = c.in-Some.ensures ∙ ap (position (is_named c.args.name.now)) c.deref.ensures.value in
    on_ok_weaker c.reserve.result
    (reserved_at c.args.self.now c.self.inside.slots.items c.args.name.now c.in-Some.at c.args.room c.index_mut.result.now c.reserve.new.self c.self.view_is place c.index_mut.ensures.value)
    c.reserve.ensures.ok

pub returns-in_ok-push-in-None-clause-ok : goal.returns-in_ok-push-in-None-clause-ok
returns-in_ok-push-in-None-clause-ok c =
    let place = c.in-None.ensures ∙ ap (position (is_named c.args.name.now)) c.deref.ensures.value in
    reserved_new c.args.self.now c.self.inside.slots.items c.push.new.self.items c.args.name.now c.args.room c.in_ok-new-in-None.field-0 c.self.view_is place c.in_ok-new-in-None.ensures c.in_ok-push-in-None.ensures.items
