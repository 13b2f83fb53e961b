use Rattle.std.proofs.Common.{◌≤◌, ◌+◌, ◌*◌, ◌++◌}
use Rattle.vk_bind.specs.Answers.{scalars_of}
use Rattle.vk_bind.specs.Elements.{scalars_from}
use Rattle.vk_bind.proofs.Laying.{Completes}
use Rattle.vk_bind.proofs.elements.add_scalars.Given as goal

abbrev pub invariant-loop-left : goal.invariant-loop-left
invariant-loop-left l = record {
  room : l.place + l.left * 536870912 ≤ l.fn.at + l.fn.count * 536870912;
  completes : Completes l.found (scalars_from l.fn.width l.left l.place) (scalars_of l.fn.found ++ scalars_from l.fn.width l.fn.count l.fn.at);
}

abbrev pub decreases-loop-left : goal.decreases-loop-left
decreases-loop-left l = l.left
