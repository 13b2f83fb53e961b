use Rattle.std.proofs.Common.{position, length, ◌∙◌, ap}
use Rattle.std.proofs.lemmas.Result.{on_ok_weaker, on_err_weaker}
use Rattle.clv_io.specs.Holdings.{is_named}
use Rattle.clv_io.proofs.Shelves.{written_at, lacks_at, fits_at, lacks_none}
use Rattle.clv_io.proofs.shelf.Shelf.write.Goals as goal

pub returns-in-Some-clause-ok : goal.returns-in-Some-clause-ok
returns-in-Some-clause-ok c =
    let place = c.in-Some.ensures ∙ ap (position (is_named c.args.name.now)) c.deref.ensures.value in
    on_ok_weaker c.write.result
    (written_at c.args.self.now c.self.inside.slots.items c.args.name.now c.args.bytes.now c.in-Some.at c.index_mut.result.now c.write.new.self c.self.view_is place c.index_mut.ensures.value)
    c.write.ensures.ok

pub returns-in-Some-clause-fits : goal.returns-in-Some-clause-fits
returns-in-Some-clause-fits c =
    let place = c.in-Some.ensures ∙ ap (position (is_named c.args.name.now)) c.deref.ensures.value in
    on_ok_weaker c.write.result
    (fits_at c.args.self.now c.self.inside.slots.items c.args.name.now c.in-Some.at (length c.args.bytes.now) c.index_mut.result.now c.self.view_is place c.index_mut.ensures.value)
    c.write.ensures.fits

pub returns-in-Some-clause-full : goal.returns-in-Some-clause-full
returns-in-Some-clause-full c =
    let place = c.in-Some.ensures ∙ ap (position (is_named c.args.name.now)) c.deref.ensures.value in
    on_err_weaker c.write.result
    (lacks_at c.args.self.now c.self.inside.slots.items c.args.name.now c.in-Some.at (length c.args.bytes.now) c.index_mut.result.now c.self.view_is place c.index_mut.ensures.value)
    c.write.ensures.full

pub returns-in-None-clause-full : goal.returns-in-None-clause-full
returns-in-None-clause-full c =
    let place = c.in-None.ensures ∙ ap (position (is_named c.args.name.now)) c.deref.ensures.value in
    lacks_none c.args.self.now c.self.inside.slots.items c.args.name.now (length c.args.bytes.now) c.self.view_is place
