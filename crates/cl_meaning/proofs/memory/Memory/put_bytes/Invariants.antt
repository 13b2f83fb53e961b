use Rattle.std.proofs.Common.{◌≡◌, Some, map, take}
use Rattle.cl_meaning.proofs.memory.Memory.put_bytes.Given as goal

abbrev pub invariant-loop-byte : goal.invariant-loop-byte
invariant-loop-byte l = l.bytes.items ≡ map Some (take l.byte-index l.text)
