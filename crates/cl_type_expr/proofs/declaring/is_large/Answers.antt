use Rattle.cl_type_expr.proofs.Arrays.{bytes_step}
use Rattle.cl_type_expr.proofs.declaring.is_large.Goals as goal

pub loop-number-preserved : goal.loop-number-preserved
loop-number-preserved c = bytes_step c.args.size c.args.numbers.now c.loop-number.number-index c.loop-number.bytes c.min.result c.min-bytes.result c.loop-number.invariant c.loop-number-test.true c.min.ensures c.min-bytes.ensures
