use Rattle.launch_text.proofs.Breaking.{names_one}
use Rattle.launch_text.proofs.rules.one_rule.Goals as goal

pub returns : goal.returns
returns c = names_one
