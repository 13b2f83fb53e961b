use Rattle.std.proofs.Common.{refl, sym, ap, ◌∙◌}
use Rattle.std.proofs.lemmas.Result.{on_ok_weaker}
use Rattle.cl_meaning.specs.States.{with_bytes, with_scalars}
use Rattle.cl_meaning.specs.Values.{patterns_in}
use Rattle.cl_meaning.specs.Views.{memory_by}
use Rattle.cl_meaning.proofs.Replacing.{written}
use Rattle.cl_meaning.proofs.Setting.{set_scalars}
use Rattle.cl_meaning.proofs.memory.Memory.set.Goals as goal

pub returns-in_ok-place-in-None : goal.returns-in_ok-place-in-None
returns-in_ok-place-in-None c =
    let object = c.index_mut.result.now in
    let before = memory_by c.args.self.now in
    let name = c.args.name.now in
    let patterns = patterns_in c.args.value.now in
    on_ok_weaker c.put_scalars.result (λ e. written
    c.place.new.self.objects.items c.in_ok-place-in-None.place object
    (record { name = object.name; bytes = c.put_scalars.new.bytes; pointer = object.pointer })
    name (with_scalars c.slots.result.now patterns) before
    c.in_ok-place-in-None.ensures.kept c.in_ok-place-in-None.ensures.first c.in_ok-place-in-None.ensures.within c.index_mut.ensures.value refl refl e
    ∙ ap (λ z. with_bytes name (with_scalars z patterns (before.bytes name)) before) c.slots.ensures
    ∙ sym (set_scalars c.args.types.now name c.args.ty c.args.value.now before (sym c.in-None.ensures))) c.put_scalars.ensures
