use Rattle.std.proofs.lemmas.Result.{IfOk-from_err}
use Rattle.cl_parse_stmt.proofs.Moves.{out_by, no_memory, pushed, pushed_first, shorter}
use Rattle.cl_parse_stmt.proofs.Sections.{LabelsAt, labels_stop_first, labels_at_first, labels_stop_more, labels_at_more, labels_done}
use Rattle.cl_parse_stmt.proofs.label.labels.Goals as goal

pub label-requires-clause-ends : goal.label-requires-clause-ends
label-requires-clause-ends c = c.requires.ends

pub label-requires-clause-within : goal.label-requires-clause-within
label-requires-clause-within c = c.requires.within

pub label-requires-clause-begins : goal.label-requires-clause-begins
label-requires-clause-begins c = c.requires.begins

pub returns-in_err-first-clause-ok : goal.returns-in_err-first-clause-ok
returns-in_err-first-clause-ok c = IfOk-from_err _ _ c.from_residual.ensures.0

pub returns-in_err-first-clause-out : goal.returns-in_err-first-clause-out
returns-in_err-first-clause-out c = out_by _ _ _ _ _ c.from_residual.ensures.1 (labels_stop_first _ _ c.requires.begins _ c.in_err-first.ensures.out)

pub returns-in_err-push-clause-ok : goal.returns-in_err-push-clause-ok
returns-in_err-push-clause-ok c = IfOk-from_err _ _ c.from_residual-in_err-push.ensures.0

pub returns-in_err-push-clause-out : goal.returns-in_err-push-clause-out
returns-in_err-push-clause-out c = no_memory _ _ _ _ c.from_residual-in_err-push.ensures.1

pub loop-alloc-init : goal.loop-alloc-init
loop-alloc-init c = pushed_first (λ z. LabelsAt c.args.reader.now c.args.at c.in_ok-first.here z) _ _ _ c.in_ok-push.ensures.items c.new-labels.ensures.items (labels_at_first _ _ _ _ c.requires.begins c.in_ok-first.ensures.ok)

pub begins_label-requires : goal.begins_label-requires
begins_label-requires c = c.loop-alloc.invariant.begun.within

pub label-requires-in-loop-alloc-clause-ends : goal.label-requires-in-loop-alloc-clause-ends
label-requires-in-loop-alloc-clause-ends c = c.requires.ends

pub label-requires-in-loop-alloc-clause-within : goal.label-requires-in-loop-alloc-clause-within
label-requires-in-loop-alloc-clause-within c = c.loop-alloc.invariant.begun.within

pub label-requires-in-loop-alloc-clause-begins : goal.label-requires-in-loop-alloc-clause-begins
label-requires-in-loop-alloc-clause-begins c = c.loop-alloc-test.ensures

pub returns-in_err-another-clause-ok : goal.returns-in_err-another-clause-ok
returns-in_err-another-clause-ok c = IfOk-from_err _ _ c.from_residual-in_err-another.ensures.0

pub returns-in_err-another-clause-out : goal.returns-in_err-another-clause-out
returns-in_err-another-clause-out c = out_by _ _ _ _ _ c.from_residual-in_err-another.ensures.1 (labels_stop_more _ _ _ _ c.loop-alloc.invariant c.loop-alloc-test.ensures _ c.in_err-another.ensures.out)

pub returns-in_err-push-2-clause-ok : goal.returns-in_err-push-2-clause-ok
returns-in_err-push-2-clause-ok c = IfOk-from_err _ _ c.from_residual-in_err-push-2.ensures.0

pub returns-in_err-push-2-clause-out : goal.returns-in_err-push-2-clause-out
returns-in_err-push-2-clause-out c = no_memory _ _ _ _ c.from_residual-in_err-push-2.ensures.1

pub loop-alloc-smaller : goal.loop-alloc-smaller
loop-alloc-smaller c = shorter _ _ _ c.in_ok-another.ensures.ok.forth c.in_ok-another.ensures.ok.read.read.within

pub loop-alloc-preserved : goal.loop-alloc-preserved
loop-alloc-preserved c = pushed (λ z. LabelsAt c.args.reader.now c.args.at c.in_ok-another.behind z) _ _ _ c.in_ok-push-2.ensures.items (labels_at_more _ _ _ _ _ _ c.loop-alloc.invariant c.loop-alloc-test.ensures c.in_ok-another.ensures.ok)

pub returns-clause-ok : goal.returns-clause-ok
returns-clause-ok c = labels_done _ _ _ _ c.loop-alloc.invariant c.loop-alloc-test.ensures
