use Rattle.std.proofs.Common.{rules, refl}
use Rattle.cl_variables.proofs.filling.fill.Goals as goal

pub returns : goal.returns
returns c = record { args = c.args.trees; has = refl; is = record { has = search rules; at = search rules; is = search rules } }
