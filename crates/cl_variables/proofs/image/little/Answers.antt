use Rattle.std.proofs.Common.{◌++◌}
use Rattle.cl_variables.specs.Bytes.{little}
use Rattle.cl_variables.proofs.Pieces.{little_more}
use Rattle.cl_variables.proofs.image.little.Goals as goal

pub loop-byte-preserved : goal.loop-byte-preserved
loop-byte-preserved c = little_more c.args.width c.loop-byte._byte c.loop-byte.rest c.loop-byte.out.items c.push.new.self.items (c.args.out.now.items ++ little c.args.width c.args.n) c.loop-byte.invariant c.loop-byte-test.true c.in_ok-push.ensures.items
