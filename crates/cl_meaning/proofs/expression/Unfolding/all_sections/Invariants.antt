use Rattle.std.proofs.Common.{◌≡◌, ◌++◌, drop}
use Rattle.cl_meaning.specs.Statements.{sections_tasks}
use Rattle.cl_meaning.specs.Views.{sections_by, tasks_by}
use Rattle.cl_meaning.proofs.expression.Unfolding.all_sections.Given as goal

abbrev pub invariant-loop-section : goal.invariant-loop-section
invariant-loop-section l =
    tasks_by l.out.items ++ sections_tasks l.self.types.now (sections_by (drop l.section-index l.sections)) ≡ tasks_by l.initial.out.items ++ sections_tasks l.self.types.now (sections_by l.sections)
