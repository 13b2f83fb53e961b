use Rattle.std.proofs.Common.{◌≡◌, take}
use Rattle.cl_pre.proofs.definition.copies.Given as goal

abbrev pub invariant-loop-token : goal.invariant-loop-token
invariant-loop-token l = l.all ≡ take l.token-index l.tokens
