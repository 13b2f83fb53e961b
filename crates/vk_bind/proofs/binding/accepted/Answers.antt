use Rattle.vk_bind.proofs.Starting.{few_rows, same_among}
use Rattle.vk_bind.proofs.binding.accepted.Goals as goal

pub judged-requires-clause-few : goal.judged-requires-clause-few
judged-requires-clause-few c = few_rows c.args.body.now c.args.reflection.now c.args.launch.now.kernel c.in-Some.row.now c.requires.rows (same_among _ _ _ _ _ c.as_slice.ensures c.as_slice-2.ensures c.in-Some.ensures) c.requires.few
