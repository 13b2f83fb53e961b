use Rattle.clv_engine.proofs.TopSteps.{if_ok}
use Rattle.clv_engine.proofs.RunFacts.{comes_from, few_items}
use Rattle.clv_engine.proofs.run_module.run_reflected.Goals as goal

pub returns-in-Ok : goal.returns-in-Ok
returns-in-Ok c = if_ok _ _ _ (λ o h. comes_from _ _ _ _ _ o c.in-Ok.ensures.kept.same_module c.in-Ok.ensures.ok h) c.run_bound.ensures

pub run_bound-requires-clause-few : goal.run_bound-requires-clause-few
run_bound-requires-clause-few c = few_items c.args.checked c.args.launch.now c.args.buffers c.in-Ok.start c.in-Ok.ensures.ok
