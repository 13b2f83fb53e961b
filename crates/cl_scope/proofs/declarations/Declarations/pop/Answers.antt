use Rattle.cl_scope.proofs.Indexed.{row_popped, row_has_room}
use Rattle.cl_scope.proofs.declarations.Declarations.pop.Goals as goal

pub set-requires : goal.set-requires
set-requires c = row_has_room c.self.inside.rows.items c.pop.new.self.items c.in-Some.row c.self.inside.spaces c.is_tag-tag.result c.as_slice.result.now c.in-Some.ensures.items c.self.invariant c.is_tag-tag.ensures c.as_slice.ensures

pub invariant_of-self : goal.invariant_of-self
invariant_of-self c = row_popped c.self.inside.rows.items c.pop.new.self.items c.in-Some.row c.self.inside.spaces c.set.new.self c.is_tag-tag.result c.as_slice.result.now c.in-Some.ensures.items c.self.invariant c.is_tag-tag.ensures c.as_slice.ensures c.set.ensures
