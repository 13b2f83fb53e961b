use Rattle.std.proofs.Common.{arith}
use Rattle.cl_meaning.proofs.Replacing.{cleared, absent}
use Rattle.cl_meaning.proofs.memory.Memory.unset.Goals as goal

pub returns-then-place-len : goal.returns-then-place-len
returns-then-place-len c =
    let objects = c.args.self.now.objects in
    cleared objects.items c.place_of-place.result c.index_mut.result.now c.clear.new.self c.args.name.now
    c.place_of-place.ensures.first (omega (arith, objects.ok.0)) c.index_mut.ensures.value
    c.clear.ensures.name c.clear.ensures.bytes c.clear.ensures.pointer

pub returns-else-place-len : goal.returns-else-place-len
returns-else-place-len c =
    let objects = c.args.self.now.objects in
    absent objects.items c.place_of-place.result c.args.name.now c.place_of-place.ensures.first (omega (arith, objects.ok.0))
