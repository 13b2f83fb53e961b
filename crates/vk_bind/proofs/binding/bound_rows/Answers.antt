use Rattle.std.proofs.Common.{arith, refl}
use Rattle.vk_bind.proofs.Starting.{bound_step, bound_all}
use Rattle.vk_bind.proofs.binding.bound_rows.Goals as goal

pub loop-ordinal-preserved : goal.loop-ordinal-preserved
loop-ordinal-preserved c = bound_step _ _ c.index-rows-ordinal.result _ _ _ _ _ c.loop-ordinal-test.true c.index-rows-ordinal.is c.loop-ordinal.invariant c.bound_at-found.ensures c.in_ok-add.ensures refl

pub returns : goal.returns
returns c = bound_all _ _ _ _ c.loop-ordinal.invariant (omega arith)
