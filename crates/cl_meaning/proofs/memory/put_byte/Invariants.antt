use Rattle.std.proofs.Common.{◌≡◌, ◌+◌, ◌-◌, length, ℕ}
use Rattle.cl_meaning.specs.Views.{bytes_by}
use Rattle.cl_meaning.proofs.memory.put_byte.Given as goal

abbrev pub invariant-loop-bytes : goal.invariant-loop-bytes
invariant-loop-bytes l = (k : ℕ) → bytes_by l.bytes.items k ≡ bytes_by l.initial.bytes.items k

abbrev pub decreases-loop-bytes : goal.decreases-loop-bytes
decreases-loop-bytes l = l.at + 1 - length l.bytes.items
