use Rattle.std.proofs.Common.{ℕ, List, Option}
use Rattle.launch_text.specs.Rules.{loaded}
use Rattle.vk_bind.specs.Answers.{taken_from}
use Rattle.vk_bind.proofs.Breaking.{Summed}
use Rattle.vk_bind.proofs.rules.first_of_other_size.Given as goal

abbrev pub invariant-loop-ordinal : goal.invariant-loop-ordinal
invariant-loop-ordinal l = (required : Option (List ℕ)) → Summed (loaded l.launch l.buffers) (taken_from l.parameters required) l.ordinal l.sum
