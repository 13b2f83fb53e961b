use Rattle.std.proofs.Common.{◌≡◌, take, map}
use Rattle.cl_make.specs.Ready.{operand_in}
use Rattle.cl_type_expr.proofs.judge.operands_of.Given as goal

abbrev pub invariant-loop-one : goal.invariant-loop-one
invariant-loop-one l = l.operands ≡ map operand_in (take l.one-index l.typed)
