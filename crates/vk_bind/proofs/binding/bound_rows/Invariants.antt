use Rattle.std.proofs.Common.{drop}
use Rattle.vk_bind.proofs.Starting.{BoundTo}
use Rattle.vk_bind.proofs.binding.bound_rows.Given as goal

abbrev pub invariant-loop-ordinal : goal.invariant-loop-ordinal
invariant-loop-ordinal l = BoundTo l.args l.rows (drop l.ordinal l.rows) l.ordinal l.bound
