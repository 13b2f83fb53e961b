use Rattle.clv_engine.proofs.Least.{LeastSoFar}
use Rattle.clv_engine.proofs.run_file.least_given.Given as goal

abbrev pub invariant-loop-arg : goal.invariant-loop-arg
invariant-loop-arg l = LeastSoFar l.args l.file l.arg-index l.least
