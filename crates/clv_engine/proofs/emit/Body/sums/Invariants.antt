use Rattle.std.proofs.Common.{◌≡◌, ◌+◌, ◌*◌, ◌++◌, drop}
use Rattle.clv_engine.specs.Emitted.{sums_from, sum_from}
use Rattle.clv_engine.proofs.emit.Body.sums.Given as goal

abbrev pub invariant-loop-term : goal.invariant-loop-term
invariant-loop-term l =
    (l.next ≡ l.fn.first + 3 * l.term-index)
    × (sum_from l.next l.sum (drop l.term-index l.terms) ≡ sum_from l.fn.first l.fn.start l.terms)
    × (l.self ++ sums_from l.next l.sum (drop l.term-index l.terms) ≡ l.fn.self ++ sums_from l.fn.first l.fn.start l.terms)
