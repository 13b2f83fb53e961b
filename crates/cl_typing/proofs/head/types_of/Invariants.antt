use Rattle.std.proofs.Common.{◌≡◌, take}
use Rattle.cl_tree.specs.Units.{types_of}
use Rattle.cl_typing.proofs.head.types_of.Given as goal

abbrev pub invariant-loop-param : goal.invariant-loop-param
invariant-loop-param l = l.types ≡ types_of (take l.param-index l.params)
