use Rattle.std.proofs.Common.{◌≡◌, length}
use Rattle.vk_bind.specs.Binding.{kernel_among}
use Rattle.vk_bind.proofs.parameters.kernel_row.Given as goal

abbrev pub invariant-loop-rest : goal.invariant-loop-rest
invariant-loop-rest l = kernel_among l.name l.rest ≡ kernel_among l.name l.fn.rows

abbrev pub decreases-loop-rest : goal.decreases-loop-rest
decreases-loop-rest l = length l.rest
