use Rattle.std.proofs.Common.{◌≡◌, drop}
use Rattle.cl_macro.specs.Names.{index_from}
use Rattle.cl_macro.proofs.names.index_of.Given as goal

abbrev pub invariant-loop-n : goal.invariant-loop-n
invariant-loop-n l = record { at : l.at ≡ l.n-index; rest : index_from l.at l.name (drop l.n-index l.names) ≡ index_from 0 l.name l.names }
