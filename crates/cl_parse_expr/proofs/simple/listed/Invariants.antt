use Rattle.std.proofs.Common.{◌≡◌, ◌∷◌}
use Rattle.cl_parse_expr.proofs.simple.listed.Given as goal

abbrev pub invariant-loop-other : goal.invariant-loop-other
invariant-loop-other l = l.args.items ≡ l.fn.operands.first ∷ l.yielded
