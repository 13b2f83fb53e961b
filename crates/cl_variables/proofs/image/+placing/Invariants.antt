use Rattle.std.proofs.Common.{◌+◌, ◌*◌}
use Rattle.cl_variables.proofs.Pieces.{ElementsPut, MembersPut}
use Rattle.cl_variables.proofs.image.+placing.Given as goal

abbrev pub decreases-put_part : goal.decreases-put_part
decreases-put_part l = 3 * l.deep

abbrev pub decreases-put_inside : goal.decreases-put_inside
decreases-put_inside l = 3 * l.deep + 2

abbrev pub decreases-put_elements : goal.decreases-put_elements
decreases-put_elements l = 3 * l.deep + 1

abbrev pub decreases-put_members : goal.decreases-put_members
decreases-put_members l = 3 * l.deep + 1

abbrev pub invariant-put_elements-loop-element : goal.invariant-put_elements-loop-element
invariant-put_elements-loop-element l = ElementsPut l.deep l.types l.elem l.len l.pieces l.at l.initial.out.items l._element l.next l.out.items

abbrev pub invariant-put_members-loop-i : goal.invariant-put_members-loop-i
invariant-put_members-loop-i l = MembersPut l.deep l.types l.members l.pieces l.at l.initial.out.items l.start l.i l.next l.out.items
