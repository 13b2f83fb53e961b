use Rattle.std.proofs.Common.{◌≡◌, [], drop}
use Rattle.cl_pre.specs.Conditions.{condition_from}
use Rattle.cl_pre.proofs.condition.condition_of.Given as goal

abbrev pub invariant-loop-token : goal.invariant-loop-token
invariant-loop-token l = record { at : l.at ≡ l.token-index; rest : condition_from l.table l.items l.skips (drop l.token-index l.tokens) ≡ condition_from l.table [] 0 l.tokens }
