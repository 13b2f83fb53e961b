use Rattle.std.proofs.Common.{[], ◌∷◌, ◌++◌, sym, ap, ◌∙◌}
use Rattle.cl_typing.proofs.Heads.{types_more}
use Rattle.cl_typing.proofs.head.types_of.Goals as goal

pub loop-param-preserved : goal.loop-param-preserved
loop-param-preserved c =
    c.in_ok-push.ensures.ok ∙ ap (λ z. z ++ (c.param-item.result.ty ∷ [])) c.loop-param.invariant
    ∙ sym (types_more c.args.params.now c.loop-param.param-index c.param-item.result c.loop-param-test.true c.param-item.is)
