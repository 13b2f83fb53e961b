use Rattle.std.proofs.Common.{◌≡◌, drop}
use Rattle.cl_meaning.specs.Effects.{is_default, some_label}
use Rattle.cl_meaning.proofs.control.has_default.Given as goal

abbrev pub invariant-loop-label : goal.invariant-loop-label
invariant-loop-label l = some_label is_default (drop l.label-index l.labels) ≡ some_label is_default l.labels
