use Rattle.std.proofs.Common.{◌≡◌, length}
use Rattle.launch_text.specs.Rules.{same_scalars}
use Rattle.vk_bind.specs.Answers.{scalars_of}
use Rattle.vk_bind.proofs.rules.same_scalars.Given as goal

abbrev pub invariant-loop-rest : goal.invariant-loop-rest
invariant-loop-rest l = same_scalars (scalars_of l.rest) (scalars_of l.other_rest) ≡ same_scalars (scalars_of l.fn.scalars) (scalars_of l.fn.others)

abbrev pub decreases-loop-rest : goal.decreases-loop-rest
decreases-loop-rest l = length l.rest
