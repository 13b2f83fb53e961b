use Rattle.std.proofs.Common.{◌≡◌, ◌++◌, drop}
use Rattle.cl_tree.specs.Constants.{joined}
use Rattle.cl_meaning.proofs.numbers.joined.Given as goal

abbrev pub invariant-loop-value : goal.invariant-loop-value
invariant-loop-value l = l.ns.items ++ joined (drop l.value-index l.values) ≡ joined l.values
