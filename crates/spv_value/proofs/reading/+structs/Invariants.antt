use Rattle.std.proofs.Common.{◌≡◌, ◌+◌, ◌*◌, true, length, map}
use Rattle.spv_module.specs.Instructions.{ids}
use Rattle.spv_value.specs.Views.{stands, members_fit, fits_within}
use Rattle.spv_value.proofs.Steps.{MembersLeft}
use Rattle.spv_value.proofs.reading.+structs.Given as goal

abbrev pub decreases-view_at : goal.decreases-view_at
decreases-view_at l = 2 * l.depth

abbrev pub decreases-parts : goal.decreases-parts
decreases-parts l = 2 * l.depth + 1

abbrev pub invariant-parts-loop-rest : goal.invariant-parts-loop-rest
invariant-parts-loop-rest l = record {
  fit : members_fit l.fn.body (fits_within l.fn.depth l.fn.body) l.fn.ty l.fn.at (length l.fn.bytes) l.member (ids l.rest) ≡ true;
  left : MembersLeft l.fn.body l.fn.ty l.fn.at l.member (ids l.fn.members) (ids l.rest) (map (stands l.fn.body l.fn.bytes) l.values.items);
}

abbrev pub decreases-parts-loop-rest : goal.decreases-parts-loop-rest
decreases-parts-loop-rest l = length l.rest
