use Rattle.std.proofs.Common.{◌≡◌, drop}
use Rattle.cl_tree.specs.Units.{has_kernel}
use Rattle.cl_typing.proofs.function_list.FunctionList.has_kernel.Given as goal

abbrev pub invariant-loop-function : goal.invariant-loop-function
invariant-loop-function l = has_kernel l.self ≡ has_kernel (drop l.function-index l.self)
