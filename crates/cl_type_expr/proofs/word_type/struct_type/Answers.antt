use Rattle.std.proofs.Common.{sym, ◌∙◌, subst, Ok}
use Rattle.cl_builtins.proofs.Growth.{grown_same}
use Rattle.cl_type_expr.specs.Typing.{StructStops}
use Rattle.cl_type_expr.proofs.WordTypes.{struct_may_be, struct_grows, struct_made, struct_too_large, struct_too_deep}
use Rattle.cl_type_expr.proofs.word_type.struct_type.Goals as goal

pub intern-requires : goal.intern-requires
intern-requires c = struct_may_be c.args.types.now c.args.types.now c.in_ok-name.name c.in_ok-members.members c.args.members.now c.args.again c.is_table.ensures c.in_ok-members.ensures c.requires.ready c.if-again.false (sym c.is_empty.ensures ∙ c.if-is_empty.false)

pub returns-in-Ok-clause-ok : goal.returns-in-Ok-clause-ok
returns-in-Ok-clause-ok c =
    let grows = struct_grows c.args.types.now c.intern.new.self c.in_ok-name.name c.in_ok-members.members c.args.members.now c.args.again c.is_table.ensures c.in_ok-members.ensures c.requires.ready c.if-again.false (sym c.is_empty.ensures ∙ c.if-is_empty.false) (Ok c.in-Ok.ty) c.is_table-in-Ok.ensures c.in-Ok.ensures.number tt in
    struct_made c.args.types.now c.intern.new.self c.in_ok-name.name c.in_ok-members.members c.args.members.now c.args.again c.is_table.ensures c.in_ok-members.ensures c.requires.ready c.if-again.false (sym c.is_empty.ensures ∙ c.if-is_empty.false) c.args.name.now c.in-Ok.ty grows.grown c.in_ok-name.ensures c.in-Ok.ensures.number c.in-Ok.ensures.within

pub returns-in-Ok-clause-grows : goal.returns-in-Ok-clause-grows
returns-in-Ok-clause-grows c = struct_grows c.args.types.now c.intern.new.self c.in_ok-name.name c.in_ok-members.members c.args.members.now c.args.again c.is_table.ensures c.in_ok-members.ensures c.requires.ready c.if-again.false (sym c.is_empty.ensures ∙ c.if-is_empty.false) (Ok c.in-Ok.ty) c.is_table-in-Ok.ensures c.in-Ok.ensures.number tt

pub returns-in-Err-TooLarge-clause-out : goal.returns-in-Err-TooLarge-clause-out
returns-in-Err-TooLarge-clause-out c =
    let e = c.in-Err-TooLarge in
    subst (StructStops c.intern.new.self c.args.place c.args.again c.args.members.now) (sym c.out-in-Err-TooLarge.ensures)
    (struct_too_large c.args.types.now c.intern.new.self c.in_ok-name.name c.in_ok-members.members c.args.members.now c.args.again c.is_table.ensures c.in_ok-members.ensures c.requires.ready c.if-again.false (sym c.is_empty.ensures ∙ c.if-is_empty.false) c.args.place e.field-0 (grown_same c.args.types.now c.intern.new.self e.ensures.refused) e.field-0-is e.ensures.over)

pub returns-in-Err-TooDeep-clause-out : goal.returns-in-Err-TooDeep-clause-out
returns-in-Err-TooDeep-clause-out c =
    let e = c.in-Err-TooDeep in
    subst (StructStops c.intern.new.self c.args.place c.args.again c.args.members.now) (sym c.out-in-Err-TooDeep.ensures)
    (struct_too_deep c.args.types.now c.intern.new.self c.in_ok-name.name c.in_ok-members.members c.args.members.now c.args.again c.is_table.ensures c.in_ok-members.ensures c.requires.ready c.if-again.false (sym c.is_empty.ensures ∙ c.if-is_empty.false) c.args.place e.field-0 (grown_same c.args.types.now c.intern.new.self e.ensures.refused) e.field-0-is e.ensures.over)
