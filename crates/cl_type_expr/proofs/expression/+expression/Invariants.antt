use Rattle.cl_type_expr.proofs.Loops.{OperandsSoFar, MembersSoFar, NamedSoFar, LengthsSoFar}
use Rattle.cl_type_expr.proofs.expression.+expression.Given as goal

abbrev pub invariant-operands-loop-arg : goal.invariant-operands-loop-arg
invariant-operands-loop-arg l = OperandsSoFar l.initial.types l.types l.initial.names l.left l.args l.arg-index l.names l.first l.typed.items

abbrev pub invariant-members-loop-field : goal.invariant-members-loop-field
invariant-members-loop-field l = MembersSoFar l.initial.types l.types l.initial.names l.fields l.field-index l.names l.members

abbrev pub invariant-named-loop-one : goal.invariant-named-loop-one
invariant-named-loop-one l = NamedSoFar l.initial.types l.types l.initial.names l.q l.initial.members l.one-items l.one-index l.names l.members

abbrev pub invariant-lengths-loop-at : goal.invariant-lengths-loop-at
invariant-lengths-loop-at l = LengthsSoFar l.initial.types l.types l.initial.names l.may_miss l.written l.at l.names l.may l.lengths
