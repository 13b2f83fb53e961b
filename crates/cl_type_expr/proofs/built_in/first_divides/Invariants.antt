use Rattle.std.proofs.Common.{◌≡◌, drop, map}
use Rattle.cl_make.specs.Ready.{tree_of}
use Rattle.cl_type_expr.specs.Expressions.{first_divides}
use Rattle.cl_type_expr.proofs.built_in.first_divides.Given as goal

abbrev pub invariant-loop-operand : goal.invariant-loop-operand
invariant-loop-operand l = first_divides l.types (map tree_of l.operands) ≡ first_divides l.types (map tree_of (drop l.operand-index l.operands))
