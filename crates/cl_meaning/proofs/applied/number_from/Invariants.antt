use Rattle.std.proofs.Common.{◌≡◌, ◌*◌, ◌/◌, ◌%◌, ◌^◌, map}
use Rattle.cl_builtins.specs.Values.{joined}
use Rattle.cl_common.specs.Operators.{cut}
use Rattle.cl_meaning.proofs.applied.number_from.Given as goal

abbrev pub invariant-loop-k : goal.invariant-loop-k
invariant-loop-k l = l.number ≡ (joined (8 * l.width) (map (cut (8 * l.width)) l.ns) / 256 ^ l.at) % 256 ^ l.k
