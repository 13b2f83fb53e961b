use Rattle.std.proofs.Common.{arith}
use Rattle.cl_builtins.proofs.Leading.{at_width}
use Rattle.cl_builtins.proofs.component.clz.Goals as goal

pub overflow_sub-x : goal.overflow_sub-x
overflow_sub-x c = omega (arith, (at_width c.args.x.width c.args.x.value c.args.x.is_width c.args.x.in_range).0)
