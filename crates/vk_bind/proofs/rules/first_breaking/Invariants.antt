use Rattle.std.proofs.Common.{ℕ, List, Option}
use Rattle.launch_text.specs.Rules.{loaded}
use Rattle.vk_bind.specs.Answers.{number_by, taken_from}
use Rattle.vk_bind.proofs.Breaking.{NoneBefore}
use Rattle.vk_bind.proofs.rules.first_breaking.Given as goal

abbrev pub invariant-loop-ordinal : goal.invariant-loop-ordinal
invariant-loop-ordinal l = (buffers : List (List ℕ)) (required : Option (List ℕ)) → NoneBefore (loaded l.launch buffers) (taken_from l.parameters required) (number_by l.rule) l.ordinal
