use Rattle.cl_typing.proofs.Switches.{LabelsSoFar}
use Rattle.cl_typing.proofs.label.labels.Given as goal

abbrev pub invariant-loop-one : goal.invariant-loop-one
invariant-loop-one l = LabelsSoFar l.falls l.initial.types l.types l.initial.tested l.initial.names l.all l.one-index l.tested l.names l.typed.items
