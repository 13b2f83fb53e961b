use Rattle.std.proofs.Common.{◌≡◌, ltb, length}
use Rattle.launch_text.specs.Rules.{local_sum}
use Rattle.vk_bind.proofs.rules.is_too_much_local.Given as goal

abbrev pub invariant-loop-rest : goal.invariant-loop-rest
invariant-loop-rest l = ltb l.left (local_sum l.rest) ≡ ltb 32768 (local_sum l.fn.args)

abbrev pub decreases-loop-rest : goal.decreases-loop-rest
decreases-loop-rest l = length l.rest
