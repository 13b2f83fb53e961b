use Rattle.std.proofs.Common.{slice_get, refl, arith}
use Rattle.cl_meaning.specs.Views.{memory_by}
use Rattle.cl_meaning.proofs.Replacing.{written}
use Rattle.cl_meaning.proofs.Setting.{text_bytes}
use Rattle.cl_meaning.proofs.memory.Memory.put_bytes.Goals as goal

pub returns : goal.returns
returns c =
    let object = c.index_mut.result.now in
    written
    c.place.new.self.objects.items c.in_ok-place.place object
    (record { name = object.name; bytes = c.loop-byte.bytes; pointer = object.pointer })
    c.args.name.now (λ _. slice_get c.args.text.now) (memory_by c.args.self.now)
    c.in_ok-place.ensures.kept c.in_ok-place.ensures.first c.in_ok-place.ensures.within c.index_mut.ensures.value refl refl
    (text_bytes c.loop-byte.bytes.items c.args.text.now c.loop-byte.byte-index c.loop-byte.invariant (omega arith))
