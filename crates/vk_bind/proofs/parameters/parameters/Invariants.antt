use Rattle.std.proofs.Common.{length}
use Rattle.vk_bind.proofs.Rows.{Leads}
use Rattle.vk_bind.proofs.parameters.parameters.Given as goal

abbrev pub invariant-loop-rest : goal.invariant-loop-rest
invariant-loop-rest l = Leads l.fn.body l.fn.rows l.rest l.found

abbrev pub decreases-loop-rest : goal.decreases-loop-rest
decreases-loop-rest l = length l.rest
