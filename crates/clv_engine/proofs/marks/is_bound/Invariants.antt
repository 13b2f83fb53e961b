use Rattle.std.proofs.Common.{◌≡◌, length}
use Rattle.vk_bind.specs.Answers.{bounds_from}
use Rattle.clv_engine.specs.RunCommand.{is_marked}
use Rattle.clv_engine.proofs.marks.is_bound.Given as goal

abbrev pub invariant-loop-rest : goal.invariant-loop-rest
invariant-loop-rest l = is_marked l.fn.body (bounds_from l.rest) l.fn.file ≡ is_marked l.fn.body (bounds_from l.fn.bound) l.fn.file

abbrev pub decreases-loop-rest : goal.decreases-loop-rest
decreases-loop-rest l = length l.rest
