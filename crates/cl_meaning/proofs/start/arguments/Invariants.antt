use Rattle.cl_meaning.specs.Views.{memory_by}
use Rattle.cl_meaning.proofs.Beginnings.{ArgumentsTo}
use Rattle.cl_meaning.proofs.start.arguments.Given as goal

abbrev pub invariant-loop-k : goal.invariant-loop-k
invariant-loop-k l = ArgumentsTo l.s.launch.now.args l.k (memory_by l.memory)
