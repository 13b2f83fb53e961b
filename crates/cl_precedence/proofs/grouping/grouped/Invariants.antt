use Rattle.std.proofs.Common.{ℕ}
use Rattle.cl_precedence.specs.Waiting.{Held}
use Rattle.cl_precedence.proofs.Rows.{IsRead}
use Rattle.cl_precedence.proofs.grouping.grouped.Given as goal

abbrev pub invariant-loop-operator : goal.invariant-loop-operator
invariant-loop-operator g l = record {
  read : IsRead l.fn.rest.items l.yielded l.operator-iterator.rest.items l.operator-iterator.rest.len;
  held : (level : ℕ) → Held g.N.Operand.level g.N.Operand.Joins l.fn.first l.yielded l.waiting.items l.here level;
}
