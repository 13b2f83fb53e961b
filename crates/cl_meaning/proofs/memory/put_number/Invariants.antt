use Rattle.std.proofs.Common.{◌≡◌, ◌+◌, ◌-◌}
use Rattle.cl_common.specs.Bytes.{with_number}
use Rattle.cl_meaning.specs.Views.{bytes_by}
use Rattle.cl_meaning.proofs.memory.put_number.Given as goal

abbrev pub invariant-loop-k : goal.invariant-loop-k
invariant-loop-k l = with_number (l.at + l.k) (l.count - l.k) l.left (bytes_by l.bytes.items) ≡ with_number l.at l.count l.n (bytes_by l.initial.bytes.items)
