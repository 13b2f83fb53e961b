use Rattle.std.proofs.Common.{arith}
use Rattle.cl_meaning.proofs.Numberings.{labels_end}
use Rattle.cl_meaning.proofs.numbering.Numbering.labelled.Goals as goal

pub returns : goal.returns
returns c =
    labels_end c.args.self.types.now c.args.self.vars.now c.args.labels.now c.args.n c.loop-label.label-index c.loop-label.next c.loop-label.made c.loop-label.invariant (omega arith)
