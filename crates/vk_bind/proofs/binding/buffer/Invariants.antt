use Rattle.std.proofs.Common.{◌≡◌, length}
use Rattle.launch_text.specs.Rules.{buffer_given}
use Rattle.vk_bind.proofs.binding.buffer.Given as goal

abbrev pub invariant-loop-rest : goal.invariant-loop-rest
invariant-loop-rest l = buffer_given l.fn.ordinal l.rest ≡ buffer_given l.fn.ordinal l.fn.args

abbrev pub decreases-loop-rest : goal.decreases-loop-rest
decreases-loop-rest l = length l.rest
