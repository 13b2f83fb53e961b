use Rattle.std.proofs.Common.{◌≤◌}
use Rattle.launch_text.proofs.Numbers.{WritesSoFar}
use Rattle.launch_text.proofs.number.number.Given as goal

abbrev pub invariant-loop-digit : goal.invariant-loop-digit
invariant-loop-digit l = record {
  writes : WritesSoFar l.word l.digit-index l.value;
  limit : l.value ≤ l.most;
}
