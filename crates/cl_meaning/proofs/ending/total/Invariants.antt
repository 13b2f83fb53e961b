use Rattle.std.proofs.Common.{map, drop}
use Rattle.cl_meaning.specs.Expressions.{operand_of, types_of}
use Rattle.cl_meaning.specs.Views.{expr_by}
use Rattle.cl_meaning.proofs.OneByOne.{Counted}
use Rattle.cl_meaning.proofs.ending.total.Given as goal

abbrev pub invariant-loop-operand : goal.invariant-loop-operand
invariant-loop-operand l =
    Counted l.types (types_of (map (λ e. operand_of l.types (expr_by e)) l.operands)) (types_of (map (λ e. operand_of l.types (expr_by e)) (drop l.operand-index l.operands))) l.sum
