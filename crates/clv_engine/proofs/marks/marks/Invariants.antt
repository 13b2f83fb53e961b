use Rattle.std.proofs.Common.{◌≡◌, ◌++◌, drop}
use Rattle.vk_bind.specs.Answers.{bounds_from}
use Rattle.clv_engine.specs.RunSteps.{marks}
use Rattle.clv_engine.proofs.marks.marks.Given as goal

abbrev pub invariant-loop-buffer : goal.invariant-loop-buffer
invariant-loop-buffer l = (l.marked ++ marks l.fn.body (bounds_from l.fn.bound) l.file (drop l.buffer-index l.buffers) ≡ marks l.fn.body (bounds_from l.fn.bound) 0 l.buffers) × (l.file ≡ l.buffer-index)
