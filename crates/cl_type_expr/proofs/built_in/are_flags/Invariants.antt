use Rattle.std.proofs.Common.{◌≡◌, drop, map}
use Rattle.cl_make.specs.Ready.{tree_of}
use Rattle.cl_type_expr.specs.Expressions.{are_flags}
use Rattle.cl_type_expr.proofs.built_in.are_flags.Given as goal

abbrev pub invariant-loop-operand : goal.invariant-loop-operand
invariant-loop-operand l = are_flags l.types (map tree_of l.operands) ≡ are_flags l.types (map tree_of (drop l.operand-index l.operands))
