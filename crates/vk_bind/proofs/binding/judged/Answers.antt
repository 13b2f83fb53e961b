use Rattle.vk_bind.proofs.Starting.{few_found, same_taken}
use Rattle.vk_bind.proofs.binding.judged.Goals as goal

pub least_broken-requires-clause-few : goal.least_broken-requires-clause-few
least_broken-requires-clause-few c = few_found c.args.body.now c.args.row.now.args _ _ c.requires.few (same_taken c.args.body.now _ _ _ _ c.as_slice.ensures c.in-Some.is c.in_ok-parameters.ensures) c.as_slice-in-Some.ensures
