use Rattle.std.proofs.Common.{◌≡◌, Some, [], ◌∷◌, map, length}
use Rattle.spv_meaning.specs.Invocation.{specialised_to}
use Rattle.run_machine.specs.Views.{specialised_by}
use Rattle.run_machine.proofs.launch.specialised.Given as goal

abbrev pub invariant-loop-rest : goal.invariant-loop-rest
invariant-loop-rest l = specialised_to (map specialised_by l.rest) (Some (l.fn.id ∷ [])) ≡ specialised_to (map specialised_by l.fn.specs) (Some (l.fn.id ∷ []))

abbrev pub decreases-loop-rest : goal.decreases-loop-rest
decreases-loop-rest l = length l.rest
