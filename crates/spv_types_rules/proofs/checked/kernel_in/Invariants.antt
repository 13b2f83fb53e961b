use Rattle.std.proofs.Common.{◌≡◌, length}
use Rattle.spv_types_rules.specs.Kernels.{kernel_in}
use Rattle.spv_types_rules.proofs.checked.kernel_in.Given as goal

abbrev pub invariant-loop-rest : goal.invariant-loop-rest
invariant-loop-rest l = kernel_in l.fn.name l.rest ≡ kernel_in l.fn.name l.fn.body

abbrev pub decreases-loop-rest : goal.decreases-loop-rest
decreases-loop-rest l = length l.rest
