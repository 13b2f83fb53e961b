use Rattle.cl_typing.proofs.Sizes.{SizesSoFar}
use Rattle.cl_typing.proofs.size.sizes.Given as goal

abbrev pub invariant-loop-word : goal.invariant-loop-word
invariant-loop-word l = SizesSoFar l.initial.types l.types l.initial.names l.initial.known l.all l.word-index l.names l.known l.found
