use Rattle.std.proofs.Common.{◌≡◌, ◌+◌, drop}
use Rattle.cl_meaning.specs.Views.{object_in}
use Rattle.cl_meaning.specs.Places.{place_in}
use Rattle.cl_meaning.proofs.memory.Memory.place_of.Given as goal

abbrev pub invariant-loop-object : goal.invariant-loop-object
invariant-loop-object l = (l.place ≡ l.object-index) × (object_in (drop l.object-index l.self.objects.items) l.name ≡ object_in l.self.objects.items l.name) × (l.place + place_in (drop l.object-index l.self.objects.items) l.name ≡ place_in l.self.objects.items l.name)
