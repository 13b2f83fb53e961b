use Rattle.std.proofs.Common.{false, None, arith, rules, sym, ap, ◌∙◌}
use Rattle.std.specs.Prelude.{slice_index_or}
use Rattle.std.proofs.lemmas.List.{get_or_read}
use Rattle.cl_words.specs.Words.{plain, qualify}
use Rattle.cl_make.proofs.Growing.{grows_twice}
use Rattle.cl_make.proofs.Stays.{ready_type_stays}
use Rattle.cl_type_expr.proofs.Nodes.{if_ok, if_err, stop_exit, no_ok}
use Rattle.cl_type_expr.proofs.DeclaredNames.{ready_members_stay}
use Rattle.cl_type_expr.proofs.WordTypes.{struct_known, struct_members_out, struct_out, struct_ok, tag_begins}
use Rattle.cl_type_expr.proofs.Loops.{node_typed, node_stopped, operands_out, size_words_out, cast_words_out, vector_words_out, term_typed, term_stopped, cast_operands_out, vector_operands_out, size_typed, size_stopped, operands_start, operands_next, operands_stop, operands_end, words_out, words_ok, members_start, members_stop, members_next, members_end, named_start, field_is, lengths_start, lengths_end, field_words_stop, field_names_stop, name_lengths_stop, name_stop, named_next, lengths_next, lengths_stop, length_missing, length_given, length_expr_out, length_out}
use Rattle.cl_type_expr.proofs.expression.+expression.Goals as goal

pub expr-returns-in_err-q-in-SizeofType-clause-out : goal.expr-returns-in_err-q-in-SizeofType-clause-out
expr-returns-in_err-q-in-SizeofType-clause-out t c =
    stop_exit c.from_residual.result _ _ c.from_residual.ensures.1
    (size_words_out _ _ _ c.args.e.now c.in-SizeofType.term _ c.in-SizeofType.is c.in_err-q-in-SizeofType.ensures.out)

pub expr-returns-in_err-q-in-Cast-clause-out : goal.expr-returns-in_err-q-in-Cast-clause-out
expr-returns-in_err-q-in-Cast-clause-out t c =
    stop_exit c.from_residual-in_err-q-in-Cast.result _ _ c.from_residual-in_err-q-in-Cast.ensures.1
    (cast_words_out _ _ _ c.args.e.now c.in-Cast.term _ c.in-Cast.is c.in_err-q-in-Cast.ensures.out)

pub expr-returns-in_err-q-in-Vector-clause-out : goal.expr-returns-in_err-q-in-Vector-clause-out
expr-returns-in_err-q-in-Vector-clause-out t c =
    stop_exit c.from_residual-in_err-q-in-Vector.result _ _ c.from_residual-in_err-q-in-Vector.ensures.1
    (vector_words_out _ _ _ c.args.e.now c.in-Vector.term _ c.in-Vector.is c.in_err-q-in-Vector.ensures.out)

pub expr-returns-in_ok-q-in-SizeofType-clause-ok : goal.expr-returns-in_ok-q-in-SizeofType-clause-ok
expr-returns-in_ok-q-in-SizeofType-clause-ok t c =
    let w = c.in_ok-q-in-SizeofType.ensures in
    size_typed _ _ _ _ _ c.args.e.now c.in-SizeofType.term _ c.size_of_type.ensures.grows w.ok c.size_of_type.result c.size_of_type.ensures.ok

pub expr-returns-in_ok-q-in-SizeofType-clause-out : goal.expr-returns-in_ok-q-in-SizeofType-clause-out
expr-returns-in_ok-q-in-SizeofType-clause-out t c =
    let w = c.in_ok-q-in-SizeofType.ensures in
    size_stopped _ _ _ _ _ c.args.e.now c.in-SizeofType.term _ c.size_of_type.ensures.grows w.ok c.size_of_type.result c.size_of_type.ensures.out

pub expr-returns-in_err-operands-in-Cast-clause-out : goal.expr-returns-in_err-operands-in-Cast-clause-out
expr-returns-in_err-operands-in-Cast-clause-out t c =
    let w = c.in_ok-q-in-Cast.ensures in
    let o = c.in_err-operands-in-Cast.ensures in
    stop_exit c.from_residual-in_err-operands-in-Cast.result _ _ c.from_residual-in_err-operands-in-Cast.ensures.1
    (cast_operands_out _ _ _ _ _ c.args.e.now c.in-Cast.term _ _ w.ok c.deref.ensures.value o.grows _ c.in-Cast.is o.out)

pub expr-returns-in_ok-operands-in-Cast-clause-ok : goal.expr-returns-in_ok-operands-in-Cast-clause-ok
expr-returns-in_ok-operands-in-Cast-clause-ok t c =
    let w = c.in_ok-q-in-Cast.ensures in
    let o = c.in_ok-operands-in-Cast.ensures in
    term_typed _ _ _ _ _ _ _ c.args.e.now c.in-Cast.term _ _ _ w.ok c.deref.ensures.value o.grows c.cast.ensures.grows o.ok c.cast.result c.cast.ensures.ok

pub expr-returns-in_ok-operands-in-Cast-clause-out : goal.expr-returns-in_ok-operands-in-Cast-clause-out
expr-returns-in_ok-operands-in-Cast-clause-out t c =
    let w = c.in_ok-q-in-Cast.ensures in
    let o = c.in_ok-operands-in-Cast.ensures in
    term_stopped _ _ _ _ _ _ _ c.args.e.now c.in-Cast.term _ _ _ w.ok c.deref.ensures.value o.grows c.cast.ensures.grows o.ok c.cast.result c.cast.ensures.out

pub expr-returns-in_err-operands-in-Vector-clause-out : goal.expr-returns-in_err-operands-in-Vector-clause-out
expr-returns-in_err-operands-in-Vector-clause-out t c =
    let w = c.in_ok-q-in-Vector.ensures in
    let o = c.in_err-operands-in-Vector.ensures in
    stop_exit c.from_residual-in_err-operands-in-Vector.result _ _ c.from_residual-in_err-operands-in-Vector.ensures.1
    (vector_operands_out _ _ _ _ _ c.args.e.now c.in-Vector.term _ _ w.ok c.deref-in-Vector.ensures.value o.grows _ c.in-Vector.is o.out)

pub expr-returns-in_ok-operands-in-Vector-clause-ok : goal.expr-returns-in_ok-operands-in-Vector-clause-ok
expr-returns-in_ok-operands-in-Vector-clause-ok t c =
    let w = c.in_ok-q-in-Vector.ensures in
    let o = c.in_ok-operands-in-Vector.ensures in
    term_typed _ _ _ _ _ _ _ c.args.e.now c.in-Vector.term _ _ _ w.ok c.deref-in-Vector.ensures.value o.grows c.vector.ensures.grows o.ok c.vector.result c.vector.ensures.ok

pub expr-returns-in_ok-operands-in-Vector-clause-out : goal.expr-returns-in_ok-operands-in-Vector-clause-out
expr-returns-in_ok-operands-in-Vector-clause-out t c =
    let w = c.in_ok-q-in-Vector.ensures in
    let o = c.in_ok-operands-in-Vector.ensures in
    term_stopped _ _ _ _ _ _ _ c.args.e.now c.in-Vector.term _ _ _ w.ok c.deref-in-Vector.ensures.value o.grows c.vector.ensures.grows o.ok c.vector.result c.vector.ensures.out

pub expr-cast-requires-clause-type_ready : goal.expr-cast-requires-clause-type_ready
expr-cast-requires-clause-type_ready t c =
    let w = c.in_ok-q-in-Cast.ensures in
    ready_type_stays _ _ _ w.grows.table c.in_ok-operands-in-Cast.ensures.grows.grown w.ok.ready

pub expr-vector-requires-clause-type_ready : goal.expr-vector-requires-clause-type_ready
expr-vector-requires-clause-type_ready t c =
    let w = c.in_ok-q-in-Vector.ensures in
    ready_type_stays _ _ _ w.grows.table c.in_ok-operands-in-Vector.ensures.grows.grown w.ok.ready

pub expr-returns-in_err-operands-in_default : goal.expr-returns-in_err-operands-in_default
expr-returns-in_err-operands-in_default t c =
    let o = c.in_err-operands-in_default.ensures in
    let r = c.from_residual-in_err-operands-in_default in
    record {
      ok = no_ok r.result _ _ r.ensures.1;
      out = stop_exit r.result _ _ r.ensures.1 (operands_out _ _ _ c.args.e.now _ _ _ (record { no_cast = c.in_default.not-Cast; no_vector = c.in_default.not-Vector; no_size = c.in_default.not-SizeofType }) c.deref-in_default.ensures.value c.first_left-first.ensures o.out);
      grows = o.grows;
    }

pub expr-returns-in_ok-operands-in_default : goal.expr-returns-in_ok-operands-in_default
expr-returns-in_ok-operands-in_default t c =
    let o = c.in_ok-operands-in_default.ensures in
    record {
      ok = node_typed c.args.types.now c.operands-in_default.new.types c.node.new.types c.args.names.now _ c.args.left c.args.e.now _ _ _ c.deref-in_default.ensures.value c.first_left-first.ensures c.node.ensures.grows o.ok c.node.result c.node.ensures.ok;
      out = node_stopped c.args.types.now c.operands-in_default.new.types c.node.new.types c.args.names.now _ c.args.left c.args.e.now _ _ _ c.deref-in_default.ensures.value c.first_left-first.ensures c.node.ensures.grows o.ok c.node.result c.node.ensures.out;
      grows = grows_twice _ _ _ o.grows c.node.ensures.grows;
    }

pub operands-loop-arg-init : goal.operands-loop-arg-init
operands-loop-arg-init t c = operands_start c.args.types.now c.args.names.now c.args.left c.args.args.now _ c.new-typed.ensures.items c.is_table.ensures c.requires.known

pub operands-returns-in_err-expr-clause-out : goal.operands-returns-in_err-expr-clause-out
operands-returns-in_err-expr-clause-out t c =
    let o = c.in_err-expr.ensures in
    stop_exit c.from_residual.result _ _ c.from_residual.ensures.1
    (operands_stop c.args.types.now c.loop-arg.types c.expr.new.types c.args.names.now c.args.left c.args.args.now c.loop-arg.arg-index c.loop-arg.names c.loop-arg.first c.loop-arg.typed.items c.arg-item.result c.loop-arg.invariant c.loop-arg-test.true c.arg-item.is o.grows _ o.out)

pub operands-loop-arg-preserved : goal.operands-loop-arg-preserved
operands-loop-arg-preserved t c =
    let o = c.in_ok-expr.ensures in
    operands_next c.args.types.now c.loop-arg.types c.expr.new.types c.args.names.now c.args.left c.args.args.now c.loop-arg.arg-index c.loop-arg.names c.loop-arg.first c.loop-arg.typed.items c.arg-item.result c.loop-arg.invariant c.loop-arg-test.true c.arg-item.is o.grows c.expr.new.names c.in_ok-expr.field-0 _ c.in_ok-push.ensures.items o.ok

pub operands-returns-clause-ok : goal.operands-returns-clause-ok
operands-returns-clause-ok t c = operands_end _ c.loop-arg.types c.args.names.now c.args.left c.args.args.now c.loop-arg.arg-index c.loop-arg.names _ c.loop-arg.typed.items c.loop-arg.invariant c.loop-arg-test.false

pub words-returns-in_err-q-clause-out : goal.words-returns-in_err-q-clause-out
words-returns-in_err-q-clause-out t c = stop_exit c.from_residual.result _ _ c.from_residual.ensures.1 (words_out _ _ c.args.spec.now _ c.in_err-q.ensures.out)

pub words-returns-clause-ok : goal.words-returns-clause-ok
words-returns-clause-ok t c = words_ok _ _ _ c.args.spec.now c.in_ok-q.q _ (c.qualify.ensures ∙ ap (λ z. qualify z c.in_ok-q.q) c.as_slice.ensures) c.in_ok-q.ensures.ok

pub members-loop-field-init : goal.members-loop-field-init
members-loop-field-init t c = members_start c.args.types.now c.args.names.now c.args.fields.now _ c.new-members.ensures c.is_table.ensures c.requires.known

pub members-returns-clause-ok : goal.members-returns-clause-ok
members-returns-clause-ok t c = members_end _ c.loop-field.types c.args.names.now c.args.fields.now c.loop-field.field-index c.loop-field.names _ c.loop-field.invariant c.loop-field-test.false

pub named-member_named-requires-clause-type_ready : goal.named-member_named-requires-clause-type_ready
named-member_named-requires-clause-type_ready t c = ready_type_stays _ _ _ c.loop-one.invariant.grown.table c.in_ok-lengths.ensures.grows.grown c.loop-one.invariant.type_ready

pub named-member_named-requires-clause-ready : goal.named-member_named-requires-clause-ready
named-member_named-requires-clause-ready t c = ready_members_stay c.loop-one.types c.lengths.new.types c.loop-one.members c.loop-one.invariant.grown.table c.in_ok-lengths.ensures.grows.grown c.loop-one.invariant.ready

pub structure-members-requires : goal.structure-members-requires
structure-members-requires t c =
    (search rules, tag_begins c.args.types.now c.of_shape.new.types c.args.name.now c.in_ok-void.void c.args.names.now c.tagged.new.names c.in_ok-void.ensures.grows.grown c.requires.known c.in_ok-void.ensures.number c.in_ok-tagged.ensures)

pub structure-returns-in_err-members-clause-out : goal.structure-returns-in_err-members-clause-out
structure-returns-in_err-members-clause-out t c =
    stop_exit c.from_residual-in_err-members.result _ _ c.from_residual-in_err-members.ensures.1
    (struct_members_out c.of_shape.new.types c.members.new.types c.args.names.now c.tagged.new.names c.args.base.now c.args.name.now c.args.place c.args.fields.now c.in_ok-void.void c.requires.is c.in_ok-void.ensures.number c.in_ok-tagged.ensures c.in_err-members.ensures.grows
    _ _ c.deref.ensures.value c.in_err-members.ensures.out)

pub structure-returns-in_err-ty-clause-out : goal.structure-returns-in_err-ty-clause-out
structure-returns-in_err-ty-clause-out t c =
    stop_exit c.from_residual-in_err-ty.result _ _ c.from_residual-in_err-ty.ensures.1
    (struct_out c.of_shape.new.types c.members.new.types c.args.names.now c.tagged.new.names c.args.base.now c.args.name.now c.args.place c.args.fields.now c.in_ok-void.void c.requires.is c.in_ok-void.ensures.number c.in_ok-tagged.ensures c.in_ok-members.ensures.grows
    c.struct_type.new.types _ c.members.new.names c.in_ok-members.members c.is_tag_again-again.result c.deref.ensures.value c.in_ok-members.ensures.ok c.is_tag_again-again.ensures c.in_err-ty.ensures.grows _ c.in_err-ty.ensures.out)

pub structure-returns-in_err-ty-clause-grows : goal.structure-returns-in_err-ty-clause-grows
structure-returns-in_err-ty-clause-grows t c = grows_twice _ _ _ c.in_ok-void.ensures.grows (grows_twice _ _ _ c.in_ok-members.ensures.grows c.in_err-ty.ensures.grows)

pub structure-returns-in_err-tagged-2-clause-grows : goal.structure-returns-in_err-tagged-2-clause-grows
structure-returns-in_err-tagged-2-clause-grows t c = grows_twice _ _ _ c.in_ok-void.ensures.grows (grows_twice _ _ _ c.in_ok-members.ensures.grows c.in_ok-ty.ensures.grows)

pub structure-shaped-requires : goal.structure-shaped-requires
structure-shaped-requires t c = struct_known c.struct_type.new.types c.args.name.now _ _ c.in_ok-ty.ty c.in_ok-ty.ensures.ok

pub structure-returns-clause-ok : goal.structure-returns-clause-ok
structure-returns-clause-ok t c =
    struct_ok c.of_shape.new.types c.members.new.types c.args.names.now c.tagged.new.names c.args.base.now c.args.name.now c.args.place c.args.fields.now c.in_ok-void.void c.requires.is c.in_ok-void.ensures.number c.in_ok-tagged.ensures c.in_ok-members.ensures.grows
    c.struct_type.new.types _ c.members.new.names c.in_ok-members.members c.is_tag_again-again.result c.deref.ensures.value c.in_ok-members.ensures.ok c.is_tag_again-again.ensures c.in_ok-ty.ensures.grows
    c.in_ok-ty.ty c.tagged-2.new.names c.plain.result c.in_ok-ty.ensures.ok c.in_ok-tagged-2.ensures (c.plain.ensures ∙ ap (λ z. plain z false) c.shaped.ensures)

pub structure-returns-clause-grows : goal.structure-returns-clause-grows
structure-returns-clause-grows t c = grows_twice _ _ _ c.in_ok-void.ensures.grows (grows_twice _ _ _ c.in_ok-members.ensures.grows c.in_ok-ty.ensures.grows)

pub members-returns-in_err-named-clause-out : goal.members-returns-in_err-named-clause-out
members-returns-in_err-named-clause-out t c =
    stop_exit c.from_residual.result _ _ c.from_residual.ensures.1 (members_stop c.args.types.now c.loop-field.types c.named.new.types c.args.names.now c.args.fields.now c.loop-field.field-index c.loop-field.names c.loop-field.members c.field-item.result c.loop-field.invariant c.loop-field-test.true c.field-item.is c.in_err-named.ensures.grows _ c.in_err-named.ensures.out)

pub members-loop-field-preserved : goal.members-loop-field-preserved
members-loop-field-preserved t c = members_next c.args.types.now c.loop-field.types c.named.new.types c.args.names.now c.args.fields.now c.loop-field.field-index c.loop-field.names c.loop-field.members c.field-item.result c.loop-field.invariant c.loop-field-test.true c.field-item.is c.in_ok-named.ensures.grows c.named.new.names c.named.new.members c.in_ok-named.ensures.ok

pub members-returns-in_err-named-clause-grows : goal.members-returns-in_err-named-clause-grows
members-returns-in_err-named-clause-grows t c = grows_twice _ _ _ c.loop-field.invariant.grown c.in_err-named.ensures.grows

pub named-returns-in_err-q-clause-out : goal.named-returns-in_err-q-clause-out
named-returns-in_err-q-clause-out t c = stop_exit c.from_residual.result _ _ c.from_residual.ensures.1 (field_words_stop _ _ _ c.args.field.now _ c.in_err-q.ensures.out)

pub named-loop-one-init : goal.named-loop-one-init
named-loop-one-init t c =
    named_start c.words.new.types c.words.new.names c.in_ok-q.q c.args.members.now _ c.in_ok-q.ensures.grows.table c.in_ok-q.ensures.ok.known c.in_ok-q.ensures.ok.ready
    (ready_members_stay c.args.types.now c.words.new.types c.args.members.now c.is_table.ensures c.in_ok-q.ensures.grows.grown c.requires.ready)

pub named-returns-in_err-lengths-clause-out : goal.named-returns-in_err-lengths-clause-out
named-returns-in_err-lengths-clause-out t c =
    let grows = grows_twice _ _ _ c.loop-one.invariant.grown c.in_err-lengths.ensures.grows in
    stop_exit c.from_residual-in_err-lengths.result _ _ c.from_residual-in_err-lengths.ensures.1
    (field_names_stop c.words.new.types c.lengths.new.types c.args.names.now c.words.new.names c.args.field.now c.args.members.now c.in_ok-q.q c.deref-one-items.result.now c.deref-one-items.ensures.value c.in_ok-q.ensures.ok _ grows (name_lengths_stop c.words.new.types c.loop-one.types c.lengths.new.types c.words.new.names c.in_ok-q.q c.args.members.now _ c.loop-one.one-index c.loop-one.names c.loop-one.members c.one-item.result _ c.loop-one.invariant c.loop-one-test.true c.one-item.is c.deref.ensures.value c.in_err-lengths.ensures.grows _ c.in_err-lengths.ensures.out))

pub named-returns-in_err-member_named-clause-out : goal.named-returns-in_err-member_named-clause-out
named-returns-in_err-member_named-clause-out t c =
    let grows = grows_twice _ _ _ c.loop-one.invariant.grown (grows_twice _ _ _ c.in_ok-lengths.ensures.grows c.in_err-member_named.ensures.grows) in
    stop_exit c.from_residual-in_err-member_named.result _ _ c.from_residual-in_err-member_named.ensures.1
    (field_names_stop c.words.new.types c.member_named.new.types c.args.names.now c.words.new.names c.args.field.now c.args.members.now c.in_ok-q.q c.deref-one-items.result.now c.deref-one-items.ensures.value c.in_ok-q.ensures.ok _ grows
    (name_stop c.words.new.types c.loop-one.types c.lengths.new.types c.words.new.names c.in_ok-q.q c.args.members.now _ c.loop-one.one-index c.loop-one.names c.loop-one.members c.one-item.result _ c.loop-one.invariant c.loop-one-test.true c.one-item.is c.deref.ensures.value c.in_ok-lengths.ensures.grows c.member_named.new.types c.lengths.new.names c.in_ok-lengths.lengths c.in_ok-lengths.ensures.ok c.in_err-member_named.ensures.grows _ c.in_err-member_named.ensures.out))

pub named-loop-one-preserved : goal.named-loop-one-preserved
named-loop-one-preserved t c =
    named_next c.words.new.types c.loop-one.types c.lengths.new.types c.words.new.names c.in_ok-q.q c.args.members.now _ c.loop-one.one-index c.loop-one.names c.loop-one.members c.one-item.result _ c.loop-one.invariant c.loop-one-test.true c.one-item.is c.deref.ensures.value c.in_ok-lengths.ensures.grows c.member_named.new.types c.lengths.new.names c.in_ok-lengths.lengths c.in_ok-lengths.ensures.ok c.in_ok-member_named.ensures.grows c.member_named.new.members c.in_ok-member_named.ensures.ok

pub named-returns-clause-ok : goal.named-returns-clause-ok
named-returns-clause-ok t c = field_is c.words.new.types c.loop-one.types c.args.names.now c.words.new.names c.args.field.now c.args.members.now c.in_ok-q.q c.deref-one-items.result.now c.deref-one-items.ensures.value c.in_ok-q.ensures.ok c.loop-one.one-index c.loop-one.names c.loop-one.members c.loop-one.invariant c.loop-one-test.false

pub named-returns-in_err-lengths-clause-grows : goal.named-returns-in_err-lengths-clause-grows
named-returns-in_err-lengths-clause-grows t c = grows_twice _ _ _ c.in_ok-q.ensures.grows (grows_twice _ _ _ c.loop-one.invariant.grown c.in_err-lengths.ensures.grows)

pub named-returns-in_err-member_named-clause-grows : goal.named-returns-in_err-member_named-clause-grows
named-returns-in_err-member_named-clause-grows t c = grows_twice _ _ _ c.in_ok-q.ensures.grows (grows_twice _ _ _ c.loop-one.invariant.grown (grows_twice _ _ _ c.in_ok-lengths.ensures.grows c.in_err-member_named.ensures.grows))

pub named-returns-clause-grows : goal.named-returns-clause-grows
named-returns-clause-grows t c = grows_twice _ _ _ c.in_ok-q.ensures.grows c.loop-one.invariant.grown

pub lengths-loop-at-init : goal.lengths-loop-at-init
lengths-loop-at-init t c = lengths_start c.args.types.now c.args.names.now c.args.may_miss c.args.written.now _ c.new-lengths.ensures c.is_table.ensures c.requires.known

pub lengths-returns-clause-ok : goal.lengths-returns-clause-ok
lengths-returns-clause-ok t c = lengths_end _ c.loop-at.types c.args.names.now c.args.may_miss c.args.written.now c.loop-at.at c.loop-at.names _ c.loop-at.lengths c.loop-at.invariant (omega arith)

pub lengths-returns-in_err-length_at-clause-out : goal.lengths-returns-in_err-length_at-clause-out
lengths-returns-in_err-length_at-clause-out t c =
    stop_exit c.from_residual.result _ _ c.from_residual.ensures.1 (lengths_stop c.args.types.now c.loop-at.types c.length_at.new.types c.args.names.now c.args.may_miss c.args.written.now c.loop-at.at c.loop-at.names c.loop-at.may c.loop-at.lengths c.loop-at.invariant (omega arith) c.in_err-length_at.ensures.grows _ c.in_err-length_at.ensures.out)

pub lengths-loop-at-preserved : goal.lengths-loop-at-preserved
lengths-loop-at-preserved t c = lengths_next c.args.types.now c.loop-at.types c.length_at.new.types c.args.names.now c.args.may_miss c.args.written.now c.loop-at.at c.loop-at.names c.loop-at.may c.loop-at.lengths c.loop-at.invariant (omega arith) c.in_ok-length_at.ensures.grows c.length_at.new.names c.in_ok-length_at.field-0 _ c.in_ok-push.ensures.ok c.in_ok-length_at.ensures.ok

pub length_at-returns-in_err-typed-in-Some-clause-out : goal.length_at-returns-in_err-typed-in-Some-clause-out
length_at-returns-in_err-typed-in-Some-clause-out t c =
    let read = get_or_read c.args.written.now c.args.at c.index-written-at.result c.requires.within c.index-written-at.is None in
    stop_exit c.from_residual.result _ _ c.from_residual.ensures.1
    (length_expr_out _ _ c.args.may_miss (slice_index_or c.args.written.now c.args.at None) c.in-Some.e _ (sym read ∙ c.in-Some.is) c.in_err-typed-in-Some.ensures.out)

pub length_at-returns-in_ok-typed-in-Some-clause-ok : goal.length_at-returns-in_ok-typed-in-Some-clause-ok
length_at-returns-in_ok-typed-in-Some-clause-ok t c =
    let read = get_or_read c.args.written.now c.args.at c.index-written-at.result c.requires.within c.index-written-at.is None in
    if_ok c.length_of.result _ _ (λ l m. length_given c.expr.new.types c.args.names.now c.expr.new.names c.args.may_miss (slice_index_or c.args.written.now c.args.at None) c.in-Some.e c.in_ok-typed-in-Some.typed l (sym read ∙ c.in-Some.is) c.in_ok-typed-in-Some.ensures.ok m) c.length_of.ensures.ok

pub length_at-returns-in_ok-typed-in-Some-clause-out : goal.length_at-returns-in_ok-typed-in-Some-clause-out
length_at-returns-in_ok-typed-in-Some-clause-out t c =
    let read = get_or_read c.args.written.now c.args.at c.index-written-at.result c.requires.within c.index-written-at.is None in
    if_err c.length_of.result _ _ (λ s m. length_out c.expr.new.types c.args.names.now c.expr.new.names c.args.may_miss (slice_index_or c.args.written.now c.args.at None) c.in-Some.e c.in_ok-typed-in-Some.typed s (sym read ∙ c.in-Some.is) c.in_ok-typed-in-Some.ensures.ok m) c.length_of.ensures.out

pub length_at-returns-in-None-clause-ok : goal.length_at-returns-in-None-clause-ok
length_at-returns-in-None-clause-ok t c =
    let read = get_or_read c.args.written.now c.args.at c.index-written-at.result c.requires.within c.index-written-at.is None in
    length_missing c.args.types.now c.args.names.now c.args.may_miss (slice_index_or c.args.written.now c.args.at None) _ c.requires.known (sym read ∙ c.in-None.is) c.missing.ensures
