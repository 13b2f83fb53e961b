use Rattle.cl_typing.specs.Units.{with_size_in}
use Rattle.cl_typing.proofs.Mapping.{mapped_start, mapped_more, mapped_all}
use Rattle.cl_typing.proofs.function_list.FunctionList.with_sizes.Goals as goal

pub loop-function-init : goal.loop-function-init
loop-function-init c =
    let h = c.into_iter-function-iterator.ensures.into_iter_gives in
    mapped_start (with_size_in c.args.sized.now c.args.sizes.now) c.args.self c.self.inside.functions.items _ _ c.self.inside.functions.len _ h.0 c.self.view_is h.1 c.self.inside.functions.ok.0 c.new-all.ensures

pub loop-function-preserved : goal.loop-function-preserved
loop-function-preserved c =
    mapped_more (with_size_in c.args.sized.now c.args.sizes.now) c.args.self _ _ _ _ _ _ c.in-Some.function c.with_size.result c.loop-function.invariant c.in-Some.ensures.steps.0 c.in-Some.ensures.steps.1 c.with_size.ensures c.in_ok-push.ensures.ok

pub returns : goal.returns
returns c = mapped_all (with_size_in c.args.sized.now c.args.sizes.now) c.args.self _ _ _ c.loop-function.invariant c.in-None.ensures.steps.0
