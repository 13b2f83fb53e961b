use Rattle.std.proofs.Common.{◌≡◌, length}
use Rattle.cl_meaning.specs.Effects.{from_label, is_default}
use Rattle.cl_meaning.specs.Views.{sections_by}
use Rattle.cl_meaning.proofs.control.from_default.Given as goal

abbrev pub invariant-loop-left : goal.invariant-loop-left
invariant-loop-left l = from_label is_default (sections_by l.left) ≡ from_label is_default (sections_by l.sections)

abbrev pub decreases-loop-left : goal.decreases-loop-left
decreases-loop-left l = length l.left
