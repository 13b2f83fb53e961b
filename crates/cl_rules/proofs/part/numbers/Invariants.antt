use Rattle.std.proofs.Common.{◌≡◌, take, map}
use Rattle.cl_rules.specs.Parts.{number_at}
use Rattle.cl_rules.proofs.part.numbers.Given as goal

abbrev pub invariant-loop-c : goal.invariant-loop-c
invariant-loop-c l = l.numbers ≡ map (number_at l.digits) (take l.c-index l.name)
