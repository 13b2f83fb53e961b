use Rattle.std.proofs.Common.{◌∙◌}
use Rattle.cl_meaning.proofs.Callings.{all_arguments}
use Rattle.cl_meaning.proofs.item.Item.arguments.Goals as goal

pub returns : goal.returns
returns c = all_arguments c.args.count c.loop-entry.entry-index c.args.self.now.stack c.newest-entries.result.now c.from_vec.result c.newest-entries.ensures (c.from_vec.ensures ∙ c.loop-entry.invariant) c.loop-entry-test.false
