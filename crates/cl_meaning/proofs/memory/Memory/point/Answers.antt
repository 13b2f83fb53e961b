use Rattle.std.proofs.Common.{Some, refl}
use Rattle.cl_meaning.specs.Views.{memory_by}
use Rattle.cl_meaning.proofs.Replacing.{pointed}
use Rattle.cl_meaning.proofs.memory.Memory.point.Goals as goal

pub returns : goal.returns
returns c =
    let object = c.index_mut.result.now in
    pointed
    c.place.new.self.objects.items c.in_ok-place.place object
    (record { name = object.name; bytes = object.bytes; pointer = Some c.args.p })
    c.args.name.now (Some c.args.p) (memory_by c.args.self.now)
    c.in_ok-place.ensures.kept c.in_ok-place.ensures.first c.in_ok-place.ensures.within c.index_mut.ensures.value refl refl refl
