use Rattle.std.proofs.Common.{drop}
use Rattle.cl_common.specs.Types.{member_types}
use Rattle.cl_meaning.proofs.OneByOne.{Counted}
use Rattle.cl_meaning.proofs.ending.scalars_of.Given as goal

abbrev pub invariant-loop-member : goal.invariant-loop-member
invariant-loop-member l = Counted l.types (member_types l.members) (member_types (drop l.member-index l.members)) l.sum
