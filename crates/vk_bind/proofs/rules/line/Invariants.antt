use Rattle.std.proofs.Common.{◌≡◌, length}
use Rattle.launch_text.specs.Rules.{given_to}
use Rattle.vk_bind.proofs.rules.line.Given as goal

abbrev pub invariant-loop-rest : goal.invariant-loop-rest
invariant-loop-rest l = given_to l.fn.ordinal l.rest ≡ given_to l.fn.ordinal l.fn.args

abbrev pub decreases-loop-rest : goal.decreases-loop-rest
decreases-loop-rest l = length l.rest
