use Rattle.std.proofs.Common.{take}
use Rattle.vk_bind.specs.Answers.{FindsPast}
use Rattle.vk_bind.proofs.rules.first_past.Given as goal

abbrev pub invariant-loop-arg : goal.invariant-loop-arg
invariant-loop-arg l = FindsPast l.count (take l.arg-index l.args) l.least
