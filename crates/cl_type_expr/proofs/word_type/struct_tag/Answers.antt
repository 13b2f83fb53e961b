use Rattle.std.proofs.Common.{false, sym, ap, ◌∙◌, subst}
use Rattle.cl_type_expr.specs.Expressions.{is_complete}
use Rattle.cl_type_expr.specs.Typing.{BaseIs, BaseStops}
use Rattle.cl_words.specs.Words.{plain}
use Rattle.cl_type_expr.proofs.WordTypes.{tag_found_known, struct_tag_ok, struct_tag_out}
use Rattle.cl_type_expr.proofs.word_type.struct_tag.Goals as goal

pub returns-then-not-declared-clause-out : goal.returns-then-not-declared-clause-out
returns-then-not-declared-clause-out c =
    subst (BaseStops c.args.types.now c.args.names.now c.args.word.now) (sym c.out-then-not-declared.ensures)
    (struct_tag_out c.args.types.now c.args.names.now c.args.word.now c.args.name.now c.args.place c.requires.is (ap is_complete (sym c.in-Some.ensures) ∙ c.if-not-declared.true))

pub shaped-requires : goal.shaped-requires
shaped-requires c = tag_found_known c.args.types.now c.args.names.now c.args.name.now c.in-Some.declared.now c.requires.known (sym c.in-Some.ensures)

pub returns-in-None-clause-out : goal.returns-in-None-clause-out
returns-in-None-clause-out c =
    subst (BaseStops c.args.types.now c.args.names.now c.args.word.now) (sym c.out.ensures)
    (struct_tag_out c.args.types.now c.args.names.now c.args.word.now c.args.name.now c.args.place c.requires.is (ap is_complete (sym c.in-None.ensures)))

pub returns-else-not-declared-clause-ok : goal.returns-else-not-declared-clause-ok
returns-else-not-declared-clause-ok c =
    subst (BaseIs c.args.types.now c.args.names.now c.args.word.now c.args.names.now) (sym (c.plain.ensures ∙ ap (λ t. plain t false) c.shaped.ensures))
    (struct_tag_ok c.args.types.now c.args.names.now c.args.word.now c.args.name.now c.args.place c.in-Some.declared.now c.is_table.ensures c.requires.known c.requires.is (sym c.in-Some.ensures) c.if-not-declared.false)
