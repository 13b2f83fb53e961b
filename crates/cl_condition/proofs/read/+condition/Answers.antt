use Rattle.std.proofs.lemmas.Result.{err_from_is_err_and}
use Rattle.cl_condition.proofs.Reading.{part_more, row_done, row_stopped_more}
use Rattle.cl_condition.proofs.read.+condition.Goals as goal

pub row-returns-in_err-operand-clause-stopped : goal.row-returns-in_err-operand-clause-stopped
row-returns-in_err-operand-clause-stopped t c =
    let p = err_from_is_err_and c.from_residual-in_err-operand.result c.from_residual-in_err-operand.ensures.1 in
    rw (p.1, p.2) (row_stopped_more _ _ _ _ _ _ _ c.loop-operator.invariant c.in-Some.ensures c.in_err-operand.ensures.stopped)

pub row-loop-operator-preserved : goal.row-loop-operator-preserved
row-loop-operator-preserved t c = rw c.in_ok-push.ensures.items (part_more _ _ _ _ _ _ _ _ c.loop-operator.invariant c.in-Some.ensures c.in_ok-operand.ensures.read)

pub row-returns-clause-read : goal.row-returns-clause-read
row-returns-clause-read t c = row_done _ _ _ _ _ _ c.loop-operator.invariant c.in_default.ensures c.in_ok-grouped.ensures
