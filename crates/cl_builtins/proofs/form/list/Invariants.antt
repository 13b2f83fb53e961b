use Rattle.std.proofs.Common.{◌≡◌, take}
use Rattle.cl_builtins.proofs.form.list.Given as goal

abbrev pub invariant-loop-kind : goal.invariant-loop-kind
invariant-loop-kind l = l.list ≡ take l.kind-index l.kinds
