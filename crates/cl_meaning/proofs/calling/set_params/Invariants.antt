use Rattle.std.proofs.Common.{◌≡◌, length, map}
use Rattle.cl_meaning.specs.Operations.{scalars_in}
use Rattle.cl_meaning.specs.States.{with_params}
use Rattle.cl_meaning.specs.Views.{memory_by}
use Rattle.cl_meaning.proofs.calling.set_params.Given as goal

abbrev pub invariant-loop-types_left : goal.invariant-loop-types_left
invariant-loop-types_left l = with_params l.layouts l.calls l.number l.types_left (map scalars_in l.values_left) (memory_by l.memory) ≡ with_params l.layouts l.calls 0 l.types (map scalars_in l.values) (memory_by l.initial.memory)

abbrev pub decreases-loop-types_left : goal.decreases-loop-types_left
decreases-loop-types_left l = length l.types_left
