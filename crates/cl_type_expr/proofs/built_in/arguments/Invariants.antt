use Rattle.cl_type_expr.proofs.BuiltIns.{ArgumentsSoFar}
use Rattle.cl_type_expr.proofs.built_in.arguments.Given as goal

abbrev pub invariant-loop-o : goal.invariant-loop-o
invariant-loop-o l = ArgumentsSoFar l.initial.types l.types l.os l.o-index l.tys
