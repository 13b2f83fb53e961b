use Rattle.std.proofs.Common.{◌≡◌, ◌++◌, drop}
use Rattle.cl_rules.specs.Parts.{comma_wants, last_of}
use Rattle.cl_rules.proofs.part.comma.Given as goal

abbrev pub invariant-loop-o : goal.invariant-loop-o
invariant-loop-o l = (comma_wants l.initial.last l.rest ≡ l.wants ++ comma_wants l.last (drop l.o-index l.rest)) × (last_of l.initial.last l.rest ≡ last_of l.last (drop l.o-index l.rest))
