use Rattle.std.proofs.Common.{◌≡◌, ◌++◌, drop}
use Rattle.cl_macro.specs.Names.{common}
use Rattle.cl_macro.proofs.names.Names.common.Given as goal

abbrev pub invariant-loop-name : goal.invariant-loop-name
invariant-loop-name l = l.both ++ common (drop l.name-index l.self) l.others ≡ common l.self l.others
