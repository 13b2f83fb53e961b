use Rattle.std.proofs.Common.{◌≡◌, drop}
use Rattle.cl_meaning.specs.Controls.{switches_from}
use Rattle.cl_meaning.proofs.item.Item.switches_inside.Given as goal

abbrev pub invariant-loop-count : goal.invariant-loop-count
invariant-loop-count l = switches_from l.count (drop l.count l.self.around) ≡ switches_from 0 l.self.around
