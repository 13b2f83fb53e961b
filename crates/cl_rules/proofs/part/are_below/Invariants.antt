use Rattle.std.proofs.Common.{◌≡◌, drop}
use Rattle.cl_tree.specs.Facts.{are_below}
use Rattle.cl_rules.proofs.part.are_below.Given as goal

abbrev pub invariant-loop-k : goal.invariant-loop-k
invariant-loop-k l = are_below l.count l.at ≡ are_below l.count (drop l.k-index l.at)
