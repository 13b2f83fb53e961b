use Rattle.std.proofs.Common.{sym, ap, ◌∙◌, subst, ◌≤◌, ltb-false, ◌*◌}
use Rattle.cl_words.specs.Words.{numbers}
use Rattle.cl_type_expr.specs.Sizes.{AreSome, product}
use Rattle.cl_type_expr.proofs.Nodes.{if_ok, if_err}
use Rattle.cl_type_expr.proofs.WordTypes.{object_sized}
use Rattle.cl_type_expr.proofs.DeclaredNames.{declared_plain, some_lengths, element_is, declared_large, declared_ok, declared_out, numbers_some}
use Rattle.cl_type_expr.proofs.declaring.declared.Goals as goal

pub returns-then-is_empty-clause-ok : goal.returns-then-is_empty-clause-ok
returns-then-is_empty-clause-ok c = declared_plain c.args.types.now c.given.new.types c.args.sketch.now c.args.first c.in_ok-elem.elem c.is_table.ensures c.requires.ready c.in_ok-elem.ensures.grows c.in_ok-elem.ensures.number (c.is_empty.ensures.0 c.if-is_empty.true)

pub size-requires : goal.size-requires
size-requires c =
    let el = element_is c.args.types.now c.given.new.types c.args.sketch.now c.args.first c.in_ok-elem.elem c.is_table.ensures c.requires.ready c.in_ok-elem.ensures.grows c.in_ok-elem.ensures.number c.requires.element (some_lengths _ c.args.sketch.now.lengths c.is_empty.ensures.1 c.if-is_empty.false) in
    object_sized c.given.new.types c.in_ok-elem.elem el.object

pub returns-then-is_large-clause-out : goal.returns-then-is_large-clause-out
returns-then-is_large-clause-out c =
    let el = element_is c.args.types.now c.given.new.types c.args.sketch.now c.args.first c.in_ok-elem.elem c.is_table.ensures c.requires.ready c.in_ok-elem.ensures.grows c.in_ok-elem.ensures.number c.requires.element (some_lengths _ c.args.sketch.now.lengths c.is_empty.ensures.1 c.if-is_empty.false) in
    declared_large c.args.types.now c.given.new.types c.args.sketch.now c.args.first c.in_ok-elem.elem c.is_table.ensures c.requires.ready c.in_ok-elem.ensures.grows c.in_ok-elem.ensures.number el c.size.result c.as_slice-2.result.now c.size.ensures.is (c.as_slice-2.ensures ∙ c.in_ok-numbers.ensures ∙ ap (numbers c.args.first) c.as_slice.ensures) (sym c.if-is_large.ensures)

pub arrays-requires-clause-known : goal.arrays-requires-clause-known
arrays-requires-clause-known c =
    let el = element_is c.args.types.now c.given.new.types c.args.sketch.now c.args.first c.in_ok-elem.elem c.is_table.ensures c.requires.ready c.in_ok-elem.ensures.grows c.in_ok-elem.ensures.number c.requires.element (some_lengths _ c.args.sketch.now.lengths c.is_empty.ensures.1 c.if-is_empty.false) in
    el.known

pub arrays-requires-clause-object : goal.arrays-requires-clause-object
arrays-requires-clause-object c =
    let el = element_is c.args.types.now c.given.new.types c.args.sketch.now c.args.first c.in_ok-elem.elem c.is_table.ensures c.requires.ready c.in_ok-elem.ensures.grows c.in_ok-elem.ensures.number c.requires.element (some_lengths _ c.args.sketch.now.lengths c.is_empty.ensures.1 c.if-is_empty.false) in
    el.object

pub arrays-requires-clause-some : goal.arrays-requires-clause-some
arrays-requires-clause-some c = subst AreSome (sym (c.as_slice-3.ensures ∙ c.in_ok-numbers.ensures ∙ ap (numbers c.args.first) c.as_slice.ensures)) (numbers_some c.args.first c.args.sketch.now.lengths c.requires.some c.requires.positive)

pub returns-clause-ok : goal.returns-clause-ok
returns-clause-ok c =
    let el = element_is c.args.types.now c.given.new.types c.args.sketch.now c.args.first c.in_ok-elem.elem c.is_table.ensures c.requires.ready c.in_ok-elem.ensures.grows c.in_ok-elem.ensures.number c.requires.element (some_lengths _ c.args.sketch.now.lengths c.is_empty.ensures.1 c.if-is_empty.false) in
    if_ok c.arrays.result _ _ (λ t built. declared_ok c.args.types.now c.given.new.types c.args.sketch.now c.args.first c.in_ok-elem.elem c.is_table.ensures c.requires.ready c.in_ok-elem.ensures.grows c.in_ok-elem.ensures.number el c.arrays.new.types _ (c.as_slice-3.ensures ∙ c.in_ok-numbers.ensures ∙ ap (numbers c.args.first) c.as_slice.ensures) c.arrays.ensures.grows t built) c.arrays.ensures.ok

pub returns-clause-out : goal.returns-clause-out
returns-clause-out c =
    let el = element_is c.args.types.now c.given.new.types c.args.sketch.now c.args.first c.in_ok-elem.elem c.is_table.ensures c.requires.ready c.in_ok-elem.ensures.grows c.in_ok-elem.ensures.number c.requires.element (some_lengths _ c.args.sketch.now.lengths c.is_empty.ensures.1 c.if-is_empty.false) in
    let low = subst (λ z. product z * c.size.result ≤ 65536) (c.as_slice-2.ensures ∙ sym c.as_slice-3.ensures) (ltb-false 65536 (product c.as_slice-2.result.now * c.size.result) (sym c.if-is_large.ensures)) in
    if_err c.arrays.result _ _ (λ s stops. declared_out c.args.types.now c.given.new.types c.args.sketch.now c.args.first c.in_ok-elem.elem c.is_table.ensures c.requires.ready c.in_ok-elem.ensures.grows c.in_ok-elem.ensures.number el c.arrays.new.types c.as_slice-3.result.now (c.as_slice-3.ensures ∙ c.in_ok-numbers.ensures ∙ ap (numbers c.args.first) c.as_slice.ensures) c.arrays.ensures.grows c.size.result s c.size.ensures.is low stops) c.arrays.ensures.out
