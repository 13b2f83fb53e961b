use Rattle.std.proofs.Common.{◌-◌, length}
use Rattle.cl_parse.proofs.FWords.{Words}
use Rattle.cl_parse.proofs.word.words.Given as goal

abbrev pub invariant-loop-alloc : goal.invariant-loop-alloc
invariant-loop-alloc l = Words l.reader l.fn.at l.here l.list.items l.lone l.variables

abbrev pub decreases-loop-alloc : goal.decreases-loop-alloc
decreases-loop-alloc l = length l.reader - l.here
