use Rattle.spv_reflect.proofs.Steps.{judging_more}
use Rattle.spv_reflect.proofs.rules.first_broken.Goals as goal

pub loop-rest-preserved : goal.loop-rest-preserved
loop-rest-preserved c = judging_more c.args.rule c.args.lines.now c.loop-rest.at c.loop-rest.rest.now c.line-item.result c.loop-rest.invariant c.in-len1-up.len_at_least c.line-item.is c.if-not-keeps.ensures
