use Rattle.std.proofs.Common.{sym, ap, ◌∙◌, subst}
use Rattle.cl_type_expr.specs.Expressions.{is_typedef}
use Rattle.cl_type_expr.specs.Typing.{BaseIs, BaseStops}
use Rattle.cl_words.specs.Words.{named_type}
use Rattle.cl_type_expr.proofs.WordTypes.{found_known, typedef_ok, typedef_out}
use Rattle.cl_type_expr.proofs.word_type.typedef.Goals as goal

pub returns-then-not-is_typedef-clause-out : goal.returns-then-not-is_typedef-clause-out
returns-then-not-is_typedef-clause-out c =
    subst (BaseStops c.args.types.now c.args.names.now c.args.word.now) (sym c.out-then-not-is_typedef.ensures)
    (typedef_out c.args.types.now c.args.names.now c.args.word.now c.args.name.now c.args.place c.requires.is (ap is_typedef (sym c.in-Some.ensures) ∙ sym c.if-not-is_typedef.ensures))

pub shaped-target-requires : goal.shaped-target-requires
shaped-target-requires c = found_known c.args.types.now c.args.names.now c.args.name.now c.in-Some.declared.now c.requires.known (sym c.in-Some.ensures)

pub returns-in-None-clause-out : goal.returns-in-None-clause-out
returns-in-None-clause-out c =
    subst (BaseStops c.args.types.now c.args.names.now c.args.word.now) (sym c.out.ensures)
    (typedef_out c.args.types.now c.args.names.now c.args.word.now c.args.name.now c.args.place c.requires.is (ap is_typedef (sym c.in-None.ensures)))

pub returns-else-not-is_typedef-clause-ok : goal.returns-else-not-is_typedef-clause-ok
returns-else-not-is_typedef-clause-ok c =
    subst (BaseIs c.args.types.now c.args.names.now c.args.word.now c.args.names.now) (sym (c.named_type.ensures ∙ ap (λ t. named_type t c.in-Some.declared.now.readonly c.in-Some.declared.now.space) c.shaped-target.ensures))
    (typedef_ok c.args.types.now c.args.names.now c.args.word.now c.args.name.now c.args.place c.in-Some.declared.now c.is_table.ensures c.requires.known c.requires.is (sym c.in-Some.ensures) (sym c.if-not-is_typedef.ensures))
