use Rattle.std.proofs.Common.{ap, ◌∙◌}
use Rattle.cl_builtins.specs.Kinds.{is_gentype}
use Rattle.cl_make.proofs.Growing.{grows_twice}
use Rattle.cl_typing.proofs.Results.{stop_exit}
use Rattle.cl_typing.proofs.Switches.{labels_start, labels_next, labels_stop, labels_end}
use Rattle.cl_typing.proofs.label.labels.Goals as goal

pub loop-one-init : goal.loop-one-init
loop-one-init c = labels_start c.args.falls c.args.types.now c.args.tested.now c.args.names.now c.args.all.now _ c.new-typed.ensures.items c.is_table.ensures c.requires.known

pub label-requires-clause-known : goal.label-requires-clause-known
label-requires-clause-known c = c.loop-one.invariant.known

pub label-requires-clause-kind : goal.label-requires-clause-kind
label-requires-clause-kind c = ap is_gentype c.loop-one.invariant.type ∙ c.requires.kind

pub returns-in_err-label-clause-out : goal.returns-in_err-label-clause-out
returns-in_err-label-clause-out c =
    stop_exit c.from_residual.result _ _ c.from_residual.ensures.1
    (labels_stop c.args.falls c.args.types.now c.loop-one.types c.label.new.types c.args.tested.now c.args.names.now c.args.all.now c.loop-one.one-index c.loop-one.tested c.loop-one.names c.loop-one.typed.items c.one-item.result c.loop-one.invariant c.loop-one-test.true c.one-item.is c.in_err-label.ensures.grows _ c.in_err-label.ensures.out)

pub returns-in_err-label-clause-grows : goal.returns-in_err-label-clause-grows
returns-in_err-label-clause-grows c = grows_twice _ _ _ c.loop-one.invariant.goes.grown c.in_err-label.ensures.grows

pub returns-in_err-push-clause-grows : goal.returns-in_err-push-clause-grows
returns-in_err-push-clause-grows c = grows_twice _ _ _ c.loop-one.invariant.goes.grown c.label.ensures.grows

pub loop-one-preserved : goal.loop-one-preserved
loop-one-preserved c =
    labels_next c.args.falls c.args.types.now c.loop-one.types c.label.new.types c.args.tested.now c.args.names.now c.args.all.now c.loop-one.one-index c.loop-one.tested c.loop-one.names c.loop-one.typed.items c.one-item.result c.loop-one.invariant c.loop-one-test.true c.one-item.is c.label.ensures.grows c.label.new.tested c.label.new.names c.in_ok-label.field-0 _ c.in_ok-push.ensures.items c.in_ok-label.ensures.ok

pub returns-clause-ok : goal.returns-clause-ok
returns-clause-ok c = labels_end c.args.falls c.args.types.now c.loop-one.types c.args.tested.now c.args.names.now c.args.all.now c.loop-one.one-index c.loop-one.tested c.loop-one.names c.loop-one.typed.items c.loop-one.invariant c.loop-one-test.false

pub returns-clause-grows : goal.returns-clause-grows
returns-clause-grows c = c.loop-one.invariant.goes.grown
