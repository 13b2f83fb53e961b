use Rattle.std.proofs.Common.{refl}
use Rattle.std.proofs.lemmas.Result.{on_ok_weaker}
use Rattle.cl_common.specs.Bytes.{with_number}
use Rattle.cl_meaning.specs.Views.{memory_by}
use Rattle.cl_meaning.proofs.Replacing.{written}
use Rattle.cl_meaning.proofs.memory.Memory.put.Goals as goal

pub returns : goal.returns
returns c =
    let object = c.index_mut.result.now in
    on_ok_weaker c.put_number.result (λ e. written
    c.place.new.self.objects.items c.in_ok-place.place object
    (record { name = object.name; bytes = c.put_number.new.bytes; pointer = object.pointer })
    c.args.name.now (with_number c.args.at c.args.count c.args.n) (memory_by c.args.self.now)
    c.in_ok-place.ensures.kept c.in_ok-place.ensures.first c.in_ok-place.ensures.within c.index_mut.ensures.value refl refl e) c.put_number.ensures
