use Rattle.std.proofs.Common.{◌≡◌, ◌≤◌, None, drop}
use Rattle.cl_pre.specs.Unended.{unended_from}
use Rattle.cl_pre.proofs.unended.unended.Given as goal

abbrev pub invariant-loop-token : goal.invariant-loop-token
invariant-loop-token l = record { at : l.at ≡ l.token-index; few : l.depth ≤ l.token-index; rest : unended_from l.outermost l.depth (drop l.token-index l.tokens) ≡ unended_from None 0 l.tokens }
