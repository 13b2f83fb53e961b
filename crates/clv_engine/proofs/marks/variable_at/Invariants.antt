use Rattle.std.proofs.Common.{◌≡◌, length}
use Rattle.spv_module.specs.Interface.{variables_in}
use Rattle.vk_bind.specs.Binding.{variable_among}
use Rattle.clv_engine.proofs.marks.variable_at.Given as goal

abbrev pub invariant-loop-rest : goal.invariant-loop-rest
invariant-loop-rest l = variable_among l.fn.body l.fn.set l.fn.binding (variables_in l.rest) ≡ variable_among l.fn.body l.fn.set l.fn.binding (variables_in l.fn.body)

abbrev pub decreases-loop-rest : goal.decreases-loop-rest
decreases-loop-rest l = length l.rest
