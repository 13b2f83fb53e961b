use Rattle.std.proofs.Common.{◌≡◌, drop}
use Rattle.cl_meaning.specs.Views.{object_in}
use Rattle.cl_meaning.proofs.memory.Memory.find.Given as goal

abbrev pub invariant-loop-object : goal.invariant-loop-object
invariant-loop-object l = object_in (drop l.object-index l.self.objects.items) l.name ≡ object_in l.self.objects.items l.name
