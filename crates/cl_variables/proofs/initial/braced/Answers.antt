use Rattle.std.proofs.Common.{◌≡◌, true, false, Some, refl, subst}
use Rattle.std.proofs.lemmas.Result.{IfOk-weaker}
use Rattle.cl_ast.specs.declared.declaration.Init.TheVariants as init
use Rattle.cl_words.specs.Words.{is_open}
use Rattle.cl_type_expr.proofs.Nodes.{stop_exit}
use Rattle.cl_variables.specs.Answers.{ListIs, ListStops, OpenListIs, OpenListStops, OpenedIs, InitialIs}
use Rattle.cl_variables.proofs.Variables.{initial_list, initial_list_out, initial_open, initial_open_out, open_array, open_elem_known, ready_later_sketch}
use Rattle.cl_variables.proofs.initial.braced.Goals as goal

pub element_of-elem-requires-clause-array : goal.element_of-elem-requires-clause-array
element_of-elem-requires-clause-array c =
    let opened : is_open c.args.sketch.now.lengths ≡ true = cc in
    open_array c.args.types.now c.args.sketch.now c.args.ty c.requires.type_is opened

pub open_list-requires-clause-type_known : goal.open_list-requires-clause-type_known
open_list-requires-clause-type_known c = open_elem_known c.args.types.now c.args.ty c.element_of-elem.result c.is_table.ensures c.requires.type_is.known c.element_of-elem.ensures

pub returns-in_err-all-clause-out : goal.returns-in_err-all-clause-out
returns-in_err-all-clause-out c =
    let opened : is_open c.args.sketch.now.lengths ≡ true = cc in
    let old = c.args.types.now in
    let mid = c.open_list.new.types in
    let s = c.in_err-all.field-0.0 in
    stop_exit c.from_residual.result _ _ c.from_residual.ensures.1
    (initial_open_out old mid c.args.constant c.args.names.now c.args.place c.args.items.now c.args.sketch.now c.args.ty c.element_of-elem.result opened c.is_table.ensures c.requires.type_is.known c.element_of-elem.ensures c.open_list.ensures.grows s
    (subst (λ z. OpenListStops mid c.args.constant c.args.names.now c.args.place z c.element_of-elem.result s) c.deref.ensures.value c.in_err-all.ensures.out))

pub opened-requires-clause-ready : goal.opened-requires-clause-ready
opened-requires-clause-ready c = ready_later_sketch c.args.types.now c.open_list.new.types c.args.sketch.now c.is_table.ensures c.open_list.ensures.grows c.requires.ready

pub returns-then-is_open-clause-ok : goal.returns-then-is_open-clause-ok
returns-then-is_open-clause-ok c =
    let opened : is_open c.args.sketch.now.lengths ≡ true = cc in
    let old = c.args.types.now in
    let mid = c.open_list.new.types in
    let new = c.opened.new.types in
    let env = c.args.names.now in
    let after = c.open_list.new.names in
    let all = c.in_ok-all.all in
    let elem = c.element_of-elem.result in
    IfOk-weaker c.opened.result (OpenedIs new c.args.place c.args.sketch.now all) (InitialIs new c.args.constant env (Some (init.Braces c.args.place c.args.items.now)) c.args.sketch.now c.args.ty after)
    (λ r h. initial_open old mid c.args.constant env c.args.place c.args.items.now c.args.sketch.now c.args.ty elem opened c.is_table.ensures c.requires.type_is.known c.element_of-elem.ensures c.open_list.ensures.grows new after all
    (subst (λ z. OpenListIs mid c.args.constant env z elem after all) c.deref.ensures.value c.in_ok-all.ensures.ok) c.opened.ensures.grows r h) c.opened.ensures.ok

pub returns-in_err-listed-clause-out : goal.returns-in_err-listed-clause-out
returns-in_err-listed-clause-out c =
    let closed : is_open c.args.sketch.now.lengths ≡ false = cc in
    let new = c.list.new.types in
    let s = c.in_err-listed.field-0.0 in
    stop_exit c.from_residual-in_err-listed.result _ _ c.from_residual-in_err-listed.ensures.1
    (initial_list_out new c.args.constant c.args.names.now c.args.place c.args.items.now c.args.sketch.now c.args.ty s closed
    (subst (λ z. ListStops new c.args.constant c.args.names.now c.args.place z c.args.ty s) c.deref-2.ensures.value c.in_err-listed.ensures.out))

pub returns-clause-ok : goal.returns-clause-ok
returns-clause-ok c =
    let closed : is_open c.args.sketch.now.lengths ≡ false = cc in
    let new = c.list.new.types in
    let after = c.list.new.names in
    let l = c.in_ok-listed.listed in
    initial_list new c.args.constant c.args.names.now c.args.place c.args.items.now c.args.sketch.now c.args.ty after l (record { tree = Some l.tree; count = 1; tally = c.only.result }) closed
    (subst (λ z. ListIs new c.args.constant c.args.names.now c.args.place z c.args.ty after l) c.deref-2.ensures.value c.in_ok-listed.ensures.ok) refl refl c.only.ensures
