use Rattle.vk_bind.specs.Answers.{AreGiven}
use Rattle.vk_bind.proofs.rules.first_missing.Given as goal

abbrev pub invariant-loop-ordinal : goal.invariant-loop-ordinal
invariant-loop-ordinal l = AreGiven l.ordinal l.args
