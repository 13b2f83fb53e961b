use Rattle.std.proofs.Common.{◌≡◌, true, [], drop}
use Rattle.cl_pre.specs.Definitions.{params_from}
use Rattle.cl_pre.proofs.definition.params_from.Given as goal

abbrev pub invariant-loop-token : goal.invariant-loop-token
invariant-loop-token l = record { at : l.length ≡ l.token-index; rest : params_from l.names l.wants_name l.length (drop l.token-index l.tokens) ≡ params_from [] true 0 l.tokens }
