use Rattle.std.proofs.Common.{◌≡◌, ◌++◌}
use Rattle.cl_common.specs.Operators.{each_from}
use Rattle.cl_meaning.specs.Tasks.{Step, Write}
use Rattle.cl_meaning.specs.Views.{tasks_by}
use Rattle.cl_meaning.proofs.ending.writes.Given as goal

abbrev pub invariant-loop-k : goal.invariant-loop-k
invariant-loop-k l = tasks_by l.out.items ≡ tasks_by l.initial.out.items ++ each_from (λ k. Step (Write l.ty k)) 0 l.k
