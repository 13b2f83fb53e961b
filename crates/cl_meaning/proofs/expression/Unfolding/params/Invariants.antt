use Rattle.std.proofs.Common.{◌≡◌, ◌++◌, drop}
use Rattle.cl_meaning.specs.Expressions.{total}
use Rattle.cl_meaning.specs.Tasks.{steps}
use Rattle.cl_meaning.specs.Views.{tasks_by}
use Rattle.cl_meaning.proofs.expression.Unfolding.params.Given as goal

abbrev pub invariant-loop-ty : goal.invariant-loop-ty
invariant-loop-ty l =
    tasks_by l.out.items ++ steps (total l.self.types.now (drop l.ty-index l.params)) ≡ tasks_by l.initial.out.items ++ steps (total l.self.types.now l.params)
