use Rattle.cl_meaning.specs.Tasks.{Read}
use Rattle.cl_meaning.specs.Views.{marked, tasks_by}
use Rattle.cl_meaning.proofs.OneByOne.{one_more}
use Rattle.cl_meaning.proofs.ending.scalars_read.Goals as goal

pub loop-k-preserved : goal.loop-k-preserved
loop-k-preserved c = one_more (λ k. marked c.args.mark (Read c.args.ty k)) c.loop-k.k (tasks_by c.args.out.now.items) c.loop-k.out.items c.push.new.self.items _ c.loop-k.invariant c.in_ok-push.ensures.items c.task.ensures
