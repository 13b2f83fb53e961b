use Rattle.std.proofs.Common.{◌≡◌, map, take}
use Rattle.cl_meaning.specs.declared.code.Expr.{out-Expr}
use Rattle.cl_meaning.proofs.ending.types_of.Given as goal

abbrev pub invariant-loop-operand : goal.invariant-loop-operand
invariant-loop-operand l = l.types.items ≡ map (λ e. (out-Expr e).ty) (take l.operand-index l.operands)
