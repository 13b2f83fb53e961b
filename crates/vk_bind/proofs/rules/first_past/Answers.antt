use Rattle.vk_bind.proofs.Breaking.{past_step}
use Rattle.vk_bind.proofs.rules.first_past.Goals as goal

pub loop-arg-preserved : goal.loop-arg-preserved
loop-arg-preserved c = past_step _ _ _ _ _ _ c.loop-arg-test.true c.arg-item.is c.loop-arg.invariant c.sooner-least.ensures
