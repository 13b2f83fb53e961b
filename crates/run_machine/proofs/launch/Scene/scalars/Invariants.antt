use Rattle.std.proofs.Common.{◌≡◌, length}
use Rattle.spv_module.specs.Instructions.{ids}
use Rattle.spv_meaning.specs.Invocation.{scalars_at}
use Rattle.run_machine.specs.Views.{given_by, values_by}
use Rattle.run_machine.proofs.Values.{in_front}
use Rattle.run_machine.proofs.launch.Scene.scalars.Given as goal

abbrev pub invariant-loop-rest : goal.invariant-loop-rest
invariant-loop-rest l = in_front l.scalars.items (scalars_at (given_by l.fn.self) (values_by l.fn.frame) (ids l.rest)) ≡ scalars_at (given_by l.fn.self) (values_by l.fn.frame) (ids l.fn.operands)

abbrev pub decreases-loop-rest : goal.decreases-loop-rest
decreases-loop-rest l = length l.rest
