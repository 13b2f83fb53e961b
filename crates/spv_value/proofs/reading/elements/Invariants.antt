use Rattle.std.proofs.Common.{◌≤◌, ◌+◌, ◌*◌, ◌/◌, length, map}
use Rattle.spv_value.specs.Views.{stands}
use Rattle.spv_value.proofs.Steps.{ElementsLeft}
use Rattle.spv_value.proofs.reading.elements.Given as goal

abbrev pub invariant-loop-left : goal.invariant-loop-left
invariant-loop-left l = record {
  inside : l.place + l.left * (l.fn.width / 8) ≤ length l.fn.bytes;
  left : ElementsLeft l.fn.element (l.fn.width / 8) l.fn.count l.fn.at l.left l.place (map (stands l.fn.body l.fn.bytes) l.values.items);
}

abbrev pub decreases-loop-left : goal.decreases-loop-left
decreases-loop-left l = l.left
