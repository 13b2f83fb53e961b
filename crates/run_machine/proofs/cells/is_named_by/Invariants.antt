use Rattle.std.proofs.Common.{◌≡◌, nat_eq, length}
use Rattle.std.specs.List.{list_any}
use Rattle.spv_module.specs.Instructions.{ids}
use Rattle.run_machine.proofs.cells.is_named_by.Given as goal

abbrev pub invariant-loop-rest : goal.invariant-loop-rest
invariant-loop-rest l = list_any (nat_eq l.fn.id) (ids l.rest) ≡ list_any (nat_eq l.fn.id) (ids l.fn.inst.operands)

abbrev pub decreases-loop-rest : goal.decreases-loop-rest
decreases-loop-rest l = length l.rest
