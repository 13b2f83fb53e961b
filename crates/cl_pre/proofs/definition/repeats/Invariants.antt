use Rattle.std.proofs.Common.{◌≡◌, drop}
use Rattle.cl_pre.specs.Definitions.{repeats}
use Rattle.cl_pre.proofs.definition.repeats.Given as goal

abbrev pub invariant-loop-name : goal.invariant-loop-name
invariant-loop-name l = record { at : l.at ≡ l.name-index; rest : repeats (drop l.name-index l.names) ≡ repeats l.names }
