use Rattle.vk_bind.proofs.Breaking.{given_more}
use Rattle.vk_bind.proofs.rules.first_missing.Goals as goal

pub loop-ordinal-preserved : goal.loop-ordinal-preserved
loop-ordinal-preserved c = given_more _ _ c.loop-ordinal.invariant c.if-not-has_line.ensures
