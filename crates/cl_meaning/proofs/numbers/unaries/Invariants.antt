use Rattle.std.proofs.Common.{◌≡◌, take, map}
use Rattle.cl_tree.specs.Constants.{unary_of}
use Rattle.cl_meaning.proofs.numbers.unaries.Given as goal

abbrev pub invariant-loop-n : goal.invariant-loop-n
invariant-loop-n l = l.made.items ≡ map (unary_of l.op l.operand.bits) (take l.n-index l.ns)
