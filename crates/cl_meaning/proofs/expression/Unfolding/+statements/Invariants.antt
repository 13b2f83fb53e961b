use Rattle.std.proofs.Common.{◌≡◌, ◌++◌, drop}
use Rattle.cl_meaning.specs.Statements.{stmts_tasks}
use Rattle.cl_meaning.specs.Views.{stmts_by, tasks_by}
use Rattle.cl_meaning.proofs.expression.Unfolding.+statements.Given as goal

abbrev pub invariant-stmts-loop-stmt : goal.invariant-stmts-loop-stmt
invariant-stmts-loop-stmt l =
    tasks_by l.out.items ++ stmts_tasks l.self.types.now (stmts_by (drop l.stmt-index l.stmts)) ≡ tasks_by l.initial.out.items ++ stmts_tasks l.self.types.now (stmts_by l.stmts)
