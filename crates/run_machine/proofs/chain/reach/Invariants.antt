use Rattle.std.proofs.Common.{◌≡◌, ◌+◌, ◌*◌, ◌-◌, ◌≤◌, length}
use Rattle.spv_meaning.specs.Invocation.{reached, Inside}
use Rattle.run_machine.specs.Views.{reached_by, IsBelow}
use Rattle.run_machine.proofs.chain.reach.Given as goal

abbrev pub invariant-loop-rest : goal.invariant-loop-rest
invariant-loop-rest l = (reached l.fn.body l.fn.size (reached_by l.at) l.rest ≡ reached l.fn.body l.fn.size (Inside l.fn.block 0) l.fn.indices) × IsBelow l.at (18446744073709551616 + 4294967296 * (length l.fn.indices - length l.rest)) × (length l.rest ≤ length l.fn.indices)

abbrev pub decreases-loop-rest : goal.decreases-loop-rest
decreases-loop-rest l = length l.rest
