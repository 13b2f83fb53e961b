use Rattle.std.proofs.Common.{◌≡◌, drop}
use Rattle.cl_pre.specs.Definitions.{has_hash}
use Rattle.cl_pre.proofs.definition.has_hash.Given as goal

abbrev pub invariant-loop-token : goal.invariant-loop-token
invariant-loop-token l = has_hash (drop l.token-index l.tokens) ≡ has_hash l.tokens
