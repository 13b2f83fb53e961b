use Rattle.std.proofs.Common.{◌≡◌, drop}
use Rattle.cl_typing.specs.Units.{is_kernel}
use Rattle.cl_typing.proofs.size.is_kernel.Given as goal

abbrev pub invariant-loop-word : goal.invariant-loop-word
invariant-loop-word l = is_kernel l.all ≡ is_kernel (drop l.word-index l.all)
