use Rattle.std.proofs.Common.{◌+◌, ◌-◌, ◌*◌, drop}
use Rattle.cl_common.specs.Operators.{fill_elements, fill_members, fill_part, given}
use Rattle.cl_meaning.proofs.Fillings.{Going}
use Rattle.cl_meaning.proofs.filling.Filling.+filling.Given as goal

abbrev pub decreases-elements : goal.decreases-elements
decreases-elements l = 3 * l.deep + 1

abbrev pub decreases-inside : goal.decreases-inside
decreases-inside l = 3 * l.deep + 2

abbrev pub decreases-members : goal.decreases-members
decreases-members l = 3 * l.deep + 1

abbrev pub decreases-part : goal.decreases-part
decreases-part l = 3 * l.deep

abbrev pub invariant-elements-loop-element : goal.invariant-elements-loop-element
invariant-elements-loop-element l =
    Going l.initial.self.filled.items (fill_elements (fill_part l.deep l.types l.elem) l.len (given l.initial.self.types.now l.initial.self.values.now)) l.self.filled.items (fill_elements (fill_part l.deep l.types l.elem) (l.len - l._element) (given l.self.types.now l.self.values.now))

abbrev pub invariant-members-loop-member : goal.invariant-members-loop-member
invariant-members-loop-member l =
    Going l.initial.self.filled.items (fill_members (fill_part l.deep l.types) l.members (given l.initial.self.types.now l.initial.self.values.now)) l.self.filled.items (fill_members (fill_part l.deep l.types) (drop l.member-index l.members) (given l.self.types.now l.self.values.now))
