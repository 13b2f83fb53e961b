use Rattle.std.proofs.Common.{◌≡◌, ◌++◌, length}
use Rattle.spv_reflect.specs.Writing.{texts_of_args}
use Rattle.spv_reflect.proofs.named.put_texts_of_args.Given as goal

abbrev pub invariant-loop-rest : goal.invariant-loop-rest
invariant-loop-rest l = l.texts ++ texts_of_args l.rest ≡ l.fn.texts ++ texts_of_args l.fn.args

abbrev pub decreases-loop-rest : goal.decreases-loop-rest
decreases-loop-rest l = length l.rest
