use Rattle.spv_reflect.proofs.Steps.{reading_more}
use Rattle.spv_reflect.proofs.line.read_lines.Goals as goal

pub loop-rest-preserved : goal.loop-rest-preserved
loop-rest-preserved c = reading_more c.args.body.now c.loop-rest.lines c.add.new.lines c.loop-rest.place c.loop-rest.rest.now c.inst-item.result c.in_ok-line.line c.loop-rest.invariant c.in-len1-up.len_at_least c.inst-item.is c.in_ok-line.ensures c.in_ok-add.ensures
