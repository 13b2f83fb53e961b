use Rattle.std.proofs.Common.{◌≡◌, ◌+◌, ◌-◌, ◌^◌, ◌<◌, Some}
use Rattle.cl_common.specs.Bytes.{number_at}
use Rattle.cl_meaning.specs.Views.{bytes_by}
use Rattle.cl_meaning.proofs.memory.number_at.Given as goal

abbrev pub invariant-loop-k : goal.invariant-loop-k
invariant-loop-k l = record { read : number_at (bytes_by l.bytes) (l.at + l.k) (l.count - l.k) ≡ Some l.number; small : l.number < 256 ^ (l.count - l.k) }
