use Rattle.cl_meaning.proofs.Applications.{ArgsTo}
use Rattle.cl_meaning.proofs.applied.component.Given as goal

abbrev pub invariant-loop-ns : goal.invariant-loop-ns
invariant-loop-ns l = ArgsTo l.from.bits l.k l.nss l.ns-index l.args.items
