use Rattle.std.proofs.Common.{◌≡◌, [], map}
use Rattle.std.specs.Prelude.{replicate}
use Rattle.spv_meaning.specs.Invocation.{run}
use Rattle.run_machine.specs.Views.{run_by}
use Rattle.run_machine.proofs.begin.firsts.Given as goal

abbrev pub invariant-loop-made : goal.invariant-loop-made
invariant-loop-made l = map run_by l.runs.items ≡ replicate l.made (run l.function l.place [] [])
