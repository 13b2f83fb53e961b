use Rattle.std.proofs.Common.{◌≡◌, ◌++◌}
use Rattle.cl_meaning.specs.Tasks.{steps}
use Rattle.cl_meaning.specs.Views.{tasks_by}
use Rattle.cl_meaning.proofs.task.steps.Given as goal

abbrev pub invariant-loop-step : goal.invariant-loop-step
invariant-loop-step l = tasks_by l.out.items ≡ tasks_by l.initial.out.items ++ steps l._step
