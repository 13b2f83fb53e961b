use Rattle.std.proofs.Common.{◌+◌, ◌-◌, ◌*◌, ◌^◌}
use Rattle.cl_variables.proofs.Fills.{ElementsSoFar, MembersSoFar}
use Rattle.cl_variables.proofs.filling.+filling.Given as goal

-- Items in braces nest less deep than those round them, and a type has a greater number than its parts.
abbrev pub decreases-part : goal.decreases-part
decreases-part l = goal.size-part l * 2 ^ 36 + l.ty.0 * 8 + 2

abbrev pub decreases-parts : goal.decreases-parts
decreases-parts l = goal.size-parts l * 2 ^ 36 + l.ty.0 * 8 + 1

abbrev pub decreases-elements : goal.decreases-elements
decreases-elements l = goal.size-elements l * 2 ^ 36 + l.elem.0 * 8 + 3

abbrev pub decreases-members : goal.decreases-members
decreases-members l = goal.size-members l * 2 ^ 36 + l.ty.0 * 8

abbrev pub decreases-in_braces : goal.decreases-in_braces
decreases-in_braces l = goal.size-in_braces l * 2 ^ 36 + 2 ^ 35 + 1

abbrev pub decreases-list : goal.decreases-list
decreases-list l = goal.size-list l * 2 ^ 36 + 2 ^ 35 + 2

abbrev pub invariant-elements-loop-left : goal.invariant-elements-loop-left
invariant-elements-loop-left l = ElementsSoFar l.initial.types l.types l.constant l.initial.names l.fn.first l.items l.at l.elem l.len l.names l.begun l.left l.filled

abbrev pub decreases-elements-loop-left : goal.decreases-elements-loop-left
decreases-elements-loop-left l = l.left

abbrev pub invariant-members-loop-done : goal.invariant-members-loop-done
invariant-members-loop-done l = MembersSoFar l.initial.types l.types l.constant l.initial.names l.fn.first l.items l.at l.ty l.names l.begun l.done l.filled

abbrev pub decreases-members-loop-done : goal.decreases-members-loop-done
decreases-members-loop-done l = l.count - l.done
