use Rattle.std.proofs.Common.{◌≡◌, map, take}
use Rattle.cl_macro.specs.Items.{of_text}
use Rattle.cl_pre.proofs.expansion.items_of.Given as goal

abbrev pub invariant-loop-token : goal.invariant-loop-token
invariant-loop-token l = l.items ≡ map of_text (take l.token-index l.tokens)
