use Rattle.std.proofs.Common.{◌≡◌, length}
use Rattle.cl_meaning.specs.States.{with_scalars}
use Rattle.cl_meaning.specs.Values.{patterns_in}
use Rattle.cl_meaning.specs.Views.{bytes_by}
use Rattle.cl_meaning.proofs.memory.put_scalars.Given as goal

abbrev pub invariant-loop-slots_left : goal.invariant-loop-slots_left
invariant-loop-slots_left l = with_scalars l.slots_left (patterns_in l.scalars_left) (bytes_by l.bytes.items) ≡ with_scalars l.initial.slots_left (patterns_in l.initial.scalars_left) (bytes_by l.initial.bytes.items)

abbrev pub decreases-loop-slots_left : goal.decreases-loop-slots_left
decreases-loop-slots_left l = length l.slots_left
