use Rattle.std.proofs.Common.{◌+◌, ◌-◌, ◌*◌, length}
use Rattle.cl_parse_expr.proofs.Members.{MembersTo, NamesTo, LengthsTo}
use Rattle.cl_parse_expr.proofs.SoFar.{OperandsSoFar, RowSoFar, SuffixesSoFar}
use Rattle.cl_parse_expr.proofs.reader.Reader.+expression.Given as goal

abbrev pub decreases-assign : goal.decreases-assign
decreases-assign l = 32 * (length l.self.now - l.at) + 18

abbrev pub decreases-behind_cast : goal.decreases-behind_cast
decreases-behind_cast l = 32 * (length l.self.now - l.first.next) + 16

abbrev pub decreases-cast : goal.decreases-cast
decreases-cast l = 32 * (length l.self.now - l.at) + 14

abbrev pub decreases-cond : goal.decreases-cond
decreases-cond l = 32 * (length l.self.now - l.at) + 17

abbrev pub decreases-operands : goal.decreases-operands
decreases-operands l = 32 * (length l.self.now - l.at) + 20

abbrev pub decreases-postfix : goal.decreases-postfix
decreases-postfix l = 32 * (length l.self.now - l.at) + 10

abbrev pub decreases-primary : goal.decreases-primary
decreases-primary l = 32 * (length l.self.now - l.at) + 8

abbrev pub decreases-row : goal.decreases-row
decreases-row l = 32 * (length l.self.now - l.first.next) + 0

abbrev pub decreases-unary : goal.decreases-unary
decreases-unary l = 32 * (length l.self.now - l.at) + 12

abbrev pub invariant-operands-loop-alloc : goal.invariant-operands-loop-alloc
invariant-operands-loop-alloc l = OperandsSoFar l.self l.at l.operands

abbrev pub decreases-operands-loop-alloc : goal.decreases-operands-loop-alloc
decreases-operands-loop-alloc l = length l.self - l.operands.next

abbrev pub invariant-postfix-loop-alloc : goal.invariant-postfix-loop-alloc
invariant-postfix-loop-alloc l = SuffixesSoFar l.self l.at l.operand

abbrev pub decreases-postfix-loop-alloc : goal.decreases-postfix-loop-alloc
decreases-postfix-loop-alloc l = length l.self - l.operand.next

abbrev pub invariant-row-loop-op : goal.invariant-row-loop-op
invariant-row-loop-op l = RowSoFar l.self l.fn.first l.row

abbrev pub decreases-row-loop-op : goal.decreases-row-loop-op
decreases-row-loop-op l = length l.self - l.row.next

abbrev pub decreases-any_base : goal.decreases-any_base
decreases-any_base l = 32 * (length l.self.now - l.at) + 10

abbrev pub decreases-declor : goal.decreases-declor
decreases-declor l = 32 * (length l.self.now - l.at) + 8

abbrev pub decreases-names : goal.decreases-names
decreases-names l = 32 * (length l.self.now - l.at) + 10

abbrev pub decreases-spec : goal.decreases-spec
decreases-spec l = 32 * (length l.self.now - l.at) + 12

abbrev pub invariant-any_base-loop-members : goal.invariant-any_base-loop-members
invariant-any_base-loop-members l = MembersTo l.self l.at (l.tag.brace + 1) l.members

abbrev pub decreases-any_base-loop-members : goal.decreases-any_base-loop-members
decreases-any_base-loop-members l = length l.self - l.members.next

abbrev pub invariant-declor-loop-alloc : goal.invariant-declor-loop-alloc
invariant-declor-loop-alloc l = LengthsTo l.self l.at l.head.next l.here l.lengths.items

abbrev pub decreases-declor-loop-alloc : goal.decreases-declor-loop-alloc
decreases-declor-loop-alloc l = length l.self - l.here

abbrev pub invariant-names-loop-alloc : goal.invariant-names-loop-alloc
invariant-names-loop-alloc l = NamesTo l.self l.at l.room l.names

abbrev pub decreases-names-loop-alloc : goal.decreases-names-loop-alloc
decreases-names-loop-alloc l = length l.self - l.names.next
