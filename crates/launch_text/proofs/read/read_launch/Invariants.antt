use Rattle.std.proofs.Common.{length}
use Rattle.launch_text.proofs.Reading.{ReadTo}
use Rattle.launch_text.proofs.read.read_launch.Given as goal

abbrev pub invariant-loop-rest : goal.invariant-loop-rest
invariant-loop-rest l = ReadTo l.bytes l.rest l.draft l.lines

abbrev pub decreases-loop-rest : goal.decreases-loop-rest
decreases-loop-rest l = length l.rest
