use Rattle.std.proofs.Common.{◌≡◌, take, map}
use Rattle.cl_meaning.specs.Values.{patterns_in}
use Rattle.cl_meaning.specs.Operations.{scalars_in}
use Rattle.cl_meaning.proofs.entry.patterns_of_all.Given as goal

abbrev pub invariant-loop-entry : goal.invariant-loop-entry
invariant-loop-entry l = l.nss.items ≡ map patterns_in (map scalars_in (take l.entry-index l.entries))
