use Rattle.cl_meaning.proofs.Unrolled.{params_more}
use Rattle.cl_meaning.proofs.expression.Unfolding.params.Goals as goal

pub loop-ty-preserved : goal.loop-ty-preserved
loop-ty-preserved c =
    params_more c.args.self.types.now c.args.params.now c.loop-ty.ty-index _ c.count.result _ _ _ c.loop-ty.invariant c.loop-ty-test.true c.count.ensures c.in_ok-steps.ensures
