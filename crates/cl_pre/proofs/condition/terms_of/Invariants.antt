use Rattle.std.proofs.Common.{◌≡◌, map, take}
use Rattle.cl_pre.specs.Conditions.{term_of}
use Rattle.cl_pre.proofs.condition.terms_of.Given as goal

abbrev pub invariant-loop-item : goal.invariant-loop-item
invariant-loop-item l = l.terms ≡ map term_of (take l.item-index l.items)
