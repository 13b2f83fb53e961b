use Rattle.std.proofs.Common.{◌≡◌, Some, length}
use Rattle.spv_module.specs.Instructions.{definition_in}
use Rattle.spv_module.proofs.lookup.definition.Given as goal

abbrev pub invariant-loop-rest : goal.invariant-loop-rest
invariant-loop-rest l = definition_in l.rest l.fn.id ≡ definition_in l.fn.body l.fn.id

abbrev pub decreases-loop-rest : goal.decreases-loop-rest
decreases-loop-rest l = length l.rest
