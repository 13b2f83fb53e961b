use Rattle.std.proofs.Common.{◌≡◌, ◌+◌, ◌-◌}
use Rattle.spv_meaning.specs.Worlds.{put_at, low_bytes}
use Rattle.run_machine.proofs.memory.put.Given as goal

abbrev pub invariant-loop-k : goal.invariant-loop-k
invariant-loop-k l = put_at (l.offset + l.k) (low_bytes (l.count - l.k) l.rest) l.bytes ≡ put_at l.offset (low_bytes l.count l.value) l.fn.bytes
