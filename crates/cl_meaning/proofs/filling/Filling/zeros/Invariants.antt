use Rattle.std.proofs.Common.{◌≡◌, ◌++◌, replicate}
use Rattle.cl_meaning.proofs.filling.Filling.zeros.Given as goal

abbrev pub invariant-loop-scalar : goal.invariant-loop-scalar
invariant-loop-scalar l = record {
  filled : l.self.filled.items ≡ l.initial.self.filled.items ++ replicate l._scalar 0;
  types : l.self.types ≡ l.initial.self.types;
  values : l.self.values ≡ l.initial.self.values;
}
