use Rattle.std.proofs.Common.{ap, ◌∙◌, subst, refl, position}
use Rattle.cl_types.specs.Same.{type_eq}
use Rattle.cl_types.specs.Table.{IsTable, known}
use Rattle.cl_types.proofs.Rows.{not_there, known as is_known}
use Rattle.cl_types.proofs.Interning.{known_within, interned_new}
use Rattle.cl_types.proofs.table.TypeTable.intern.Goals as goal

pub add-requires-clause-new : goal.add-requires-clause-new
add-requires-clause-new c = not_there c.self.inside.rows.entries c.args.self.now c.args.ty c.self.view_is c.in-None.ensures.found

pub returns-in-Some-clause-number : goal.returns-in-Some-clause-number
returns-in-Some-clause-number c = known refl (is_known c.args.self.now c.args.ty c.in-Some.at (c.in-Some.ensures.index ∙ ap (position (type_eq c.args.ty)) c.self.view_is))

pub returns-in-Some-clause-within : goal.returns-in-Some-clause-within
returns-in-Some-clause-within c = known_within c.args.self.now c.args.ty c.in-Some.at (subst IsTable c.self.view_is c.self.invariant.table) (is_known c.args.self.now c.args.ty c.in-Some.at (c.in-Some.ensures.index ∙ ap (position (type_eq c.args.ty)) c.self.view_is))

pub returns-in-None-clause-number : goal.returns-in-None-clause-number
returns-in-None-clause-number c = interned_new c.args.self.now c.add.new.self c.args.ty c.add.result c.add.ensures.number (not_there c.self.inside.rows.entries c.args.self.now c.args.ty c.self.view_is c.in-None.ensures.found)
