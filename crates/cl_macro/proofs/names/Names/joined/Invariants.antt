use Rattle.std.proofs.Common.{◌≡◌, ◌++◌, drop}
use Rattle.cl_macro.specs.Names.{without}
use Rattle.cl_macro.proofs.names.Names.joined.Given as goal

abbrev pub invariant-loop-name : goal.invariant-loop-name
invariant-loop-name l = l.all ++ without l.self (drop l.name-index l.others) ≡ l.self ++ without l.self l.others
