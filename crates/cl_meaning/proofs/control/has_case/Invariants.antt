use Rattle.std.proofs.Common.{◌≡◌, drop}
use Rattle.cl_meaning.specs.Effects.{is_case, some_label}
use Rattle.cl_meaning.proofs.control.has_case.Given as goal

abbrev pub invariant-loop-label : goal.invariant-loop-label
invariant-loop-label l = some_label (is_case l.n) (drop l.label-index l.labels) ≡ some_label (is_case l.n) l.labels
