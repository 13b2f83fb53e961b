use Rattle.std.proofs.Common.{◌≡◌, take, map}
use Rattle.cl_builtins.specs.Kinds.{kind_of}
use Rattle.cl_builtins.proofs.call.kinds.Given as goal

abbrev pub invariant-loop-arg : goal.invariant-loop-arg
invariant-loop-arg l = l.kinds ≡ map (kind_of l.types) (take l.arg-index l.arg-items)
