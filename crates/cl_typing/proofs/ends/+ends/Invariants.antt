use Rattle.std.proofs.Common.{◌≡◌, drop}
use Rattle.cl_typing.specs.Statements.{list_ends}
use Rattle.cl_typing.proofs.ends.+ends.Given as goal

abbrev pub invariant-list_ends-loop-s : goal.invariant-list_ends-loop-s
invariant-list_ends-loop-s l = list_ends l.all ≡ list_ends (drop l.s-index l.all)
