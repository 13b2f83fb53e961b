use Rattle.std.proofs.Common.{◌+◌, ap}
use Rattle.cl_types.proofs.Measuring.{member_low, too_large}
use Rattle.cl_types.proofs.table.TypeTable.structure.Goals as goal

pub row-row-requires : goal.row-row-requires
row-row-requires c = member_low c.args.self.now c.args.members.now _ _ _ _ _ c.member-item.result c.loop-member.invariant c.loop-member-test.true c.member-item.is

pub returns-then-end-gt-MAX_SIZE : goal.returns-then-end-gt-MAX_SIZE
returns-then-end-gt-MAX_SIZE c = too_large c.args.self.now c.args.members.now _ _ _ _ _ c.member-item.result c.row-row.result.now c.loop-member.invariant c.loop-member-test.true c.member-item.is c.row-row.ensures _ c.is_table.ensures.built (ap (λ z. z + c.row-row.result.now.size) c.round_up-at.ensures) c.if-end-gt-MAX_SIZE.true
