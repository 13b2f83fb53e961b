use Rattle.std.proofs.Common.{◌≡◌, ◌+◌, length}
use Rattle.spv_module.specs.Words.{body_words}
use Rattle.spv_tests.proofs.spv_reflect_tests.behind_insts.Given as goal

abbrev pub invariant-loop-rest : goal.invariant-loop-rest
invariant-loop-rest l = length (body_words l.fn.insts) + l.left ≡ l.fn.words + length (body_words l.rest)

abbrev pub decreases-loop-rest : goal.decreases-loop-rest
decreases-loop-rest l = length l.rest
