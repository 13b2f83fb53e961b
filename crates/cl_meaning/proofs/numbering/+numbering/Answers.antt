use Rattle.std.proofs.Common.{arith}
use Rattle.cl_meaning.proofs.Numberings.{operands_end}
use Rattle.cl_meaning.proofs.numbering.+numbering.Goals as goal

pub behind_operands-returns : goal.behind_operands-returns
behind_operands-returns t c =
    operands_end c.args.vars.now c.args.args.now c.args.n c.loop-arg.arg-index c.in_ok-behind.field-0 c.args.node _ c.loop-arg.invariant.listed (omega arith) c.in_ok-behind.ensures c.loop-arg.invariant.node
