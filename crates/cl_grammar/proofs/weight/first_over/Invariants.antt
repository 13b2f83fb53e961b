use Rattle.cl_grammar.proofs.Weights.{SoLight}
use Rattle.cl_grammar.proofs.weight.first_over.Given as goal

abbrev pub invariant-loop-at : goal.invariant-loop-at
invariant-loop-at l = SoLight l.lexemes l.at l.counters
