use Rattle.cl_make.proofs.Answering.{IsRead, ConvertedSoFar}
use Rattle.cl_make.proofs.making.all_converted.Given as goal

abbrev pub invariant-loop-operand : goal.invariant-loop-operand
invariant-loop-operand l = record {
  read : IsRead l.fn.operands.items l.yielded l.operand-iterator.rest.items l.operand-iterator.rest.len;
  done : ConvertedSoFar l.fn.types l.types l.wants l.yielded l.args.items;
}
