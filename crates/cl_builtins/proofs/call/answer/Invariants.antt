use Rattle.std.proofs.Common.{take}
use Rattle.cl_builtins.proofs.Growth.{Answered}
use Rattle.cl_builtins.proofs.call.answer.Given as goal

abbrev pub invariant-loop-kind : goal.invariant-loop-kind
invariant-loop-kind l = Answered l.fn.types l.types (take l.kind-index l.kind-items) l.params
