use Rattle.std.proofs.Common.{◌≡◌, take}
use Rattle.cl_meaning.proofs.Callings.{first_patterns}
use Rattle.cl_meaning.proofs.item.Item.arguments.Given as goal

abbrev pub invariant-loop-entry : goal.invariant-loop-entry
invariant-loop-entry l = l.ns.items ≡ first_patterns (take l.entry-index l.entries)
