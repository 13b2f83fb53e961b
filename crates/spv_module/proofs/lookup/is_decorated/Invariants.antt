use Rattle.std.proofs.Common.{◌≡◌, length}
use Rattle.spv_module.specs.Instructions.{decoration_in}
use Rattle.spv_module.proofs.lookup.is_decorated.Given as goal

abbrev pub invariant-loop-rest : goal.invariant-loop-rest
invariant-loop-rest l = decoration_in l.rest l.fn.id l.fn.wanted ≡ decoration_in l.fn.body l.fn.id l.fn.wanted

abbrev pub decreases-loop-rest : goal.decreases-loop-rest
decreases-loop-rest l = length l.rest
