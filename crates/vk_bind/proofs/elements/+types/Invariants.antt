use Rattle.std.proofs.Common.{◌≤◌, ◌+◌, ◌*◌, ◌++◌, length}
use Rattle.spv_module.specs.Instructions.{ids}
use Rattle.vk_bind.specs.Answers.{scalars_of}
use Rattle.vk_bind.specs.Elements.{members_laid, laid_within}
use Rattle.vk_bind.proofs.Laying.{Completes}
use Rattle.vk_bind.proofs.elements.+types.Given as goal

abbrev pub decreases-add_type : goal.decreases-add_type
decreases-add_type l = 2 * l.depth

abbrev pub decreases-add_members : goal.decreases-add_members
decreases-add_members l = 2 * l.depth + 1

abbrev pub invariant-add_members-loop-rest : goal.invariant-add_members-loop-rest
invariant-add_members-loop-rest l = record {
  counted : l.member + length l.rest ≤ length l.fn.members;
  completes : Completes l.found (members_laid l.fn.body (laid_within l.fn.depth l.fn.body) l.fn.ty l.fn.at l.member (ids l.rest)) (scalars_of l.fn.found ++ members_laid l.fn.body (laid_within l.fn.depth l.fn.body) l.fn.ty l.fn.at 0 (ids l.fn.members));
}

abbrev pub decreases-add_members-loop-rest : goal.decreases-add_members-loop-rest
decreases-add_members-loop-rest l = length l.rest
