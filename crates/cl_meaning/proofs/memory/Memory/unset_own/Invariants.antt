use Rattle.std.proofs.Common.{◌≡◌}
use Rattle.cl_meaning.specs.States.{without_own}
use Rattle.cl_meaning.proofs.Privates.{memory_of}
use Rattle.cl_meaning.proofs.Emptying.{AreEmptied}
use Rattle.cl_meaning.proofs.memory.Memory.unset_own.Given as goal

abbrev pub invariant-loop-object : goal.invariant-loop-object
invariant-loop-object l = record { emptied : AreEmptied l.calls l.object-index l.object-items; kept : without_own l.calls (memory_of l.object-items) ≡ without_own l.calls (memory_of l.fn.self.objects.items) }
