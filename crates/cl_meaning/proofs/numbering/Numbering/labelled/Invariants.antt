use Rattle.cl_meaning.specs.Placing.{label_at}
use Rattle.cl_meaning.proofs.Numberings.{ListedTo}
use Rattle.cl_meaning.proofs.numbering.Numbering.labelled.Given as goal

abbrev pub invariant-loop-label : goal.invariant-loop-label
invariant-loop-label l = ListedTo (label_at l.self.types.now l.self.vars.now) l.labels l.n l.label-index l.made l.next
