use Rattle.cl_typing.specs.Units.{with_size_in}
use Rattle.cl_typing.proofs.Mapping.{IsMapped}
use Rattle.cl_typing.proofs.function_list.FunctionList.with_sizes.Given as goal

abbrev pub invariant-loop-function : goal.invariant-loop-function
invariant-loop-function l = IsMapped (with_size_in l.sized l.sizes) l.fn.self l.function-iterator.rest.items l.function-iterator.rest.len l.all
