use Rattle.std.proofs.Common.{◌≡◌, ◌+◌, drop, length}
use Rattle.spv_module.specs.Words.{body_words}
use Rattle.spv_module.proofs.size.insts_len.Given as goal

abbrev pub invariant-loop-inst : goal.invariant-loop-inst
invariant-loop-inst l = l.count + length (body_words (drop l.inst-index l.insts)) ≡ l.fn.start + length (body_words l.insts)
