use Rattle.std.proofs.Common.{◌≡◌, true, take}
use Rattle.std.specs.List.{list_all}
use Rattle.cl_rules.specs.Parts.{is_named}
use Rattle.cl_rules.proofs.part.are_named.Given as goal

abbrev pub invariant-loop-c : goal.invariant-loop-c
invariant-loop-c l = list_all (is_named l.digits) (take l.c-index l.name) ≡ true
