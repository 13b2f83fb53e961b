use Rattle.spv_value.proofs.Steps.{members_over}
use Rattle.spv_value.proofs.reading.+structs.Goals as goal

pub parts-returns : goal.parts-returns
parts-returns t c = members_over _ _ _ _ _ _ _ c.in_default.len_below c.loop-rest.invariant.left
