use Rattle.std.proofs.Common.{◌≡◌, map, slice_index, take}
use Rattle.cl_meaning.proofs.operate.selected_of.Given as goal

abbrev pub invariant-loop-k : goal.invariant-loop-k
invariant-loop-k l = l.made.items ≡ map (slice_index l.old) (take l.k-index l.at)
