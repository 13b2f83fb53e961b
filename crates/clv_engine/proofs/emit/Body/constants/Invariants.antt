use Rattle.std.proofs.Common.{◌≡◌, ◌+◌, ◌*◌, ◌++◌, drop}
use Rattle.clv_engine.specs.Emitted.{constants_from}
use Rattle.clv_engine.specs.declared.id.TheConstants as id
use Rattle.clv_engine.proofs.emit.Body.constants.Given as goal

abbrev pub invariant-loop-term : goal.invariant-loop-term
invariant-loop-term l =
    (l.next ≡ id.TERMS + 3 * l.term-index) × (l.self ++ constants_from l.next (drop l.term-index l.terms) ≡ l.fn.self ++ constants_from id.TERMS l.terms)
