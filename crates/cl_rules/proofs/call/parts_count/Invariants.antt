use Rattle.std.proofs.Common.{◌≡◌, ◌+◌, ◌*◌, ◌≤◌, drop}
use Rattle.cl_rules.specs.Calls.{parts_count}
use Rattle.cl_rules.proofs.call.parts_count.Given as goal

abbrev pub invariant-loop-o : goal.invariant-loop-o
invariant-loop-o l = (l.count + parts_count (drop l.o-index l.os) ≡ parts_count l.os) × (l.count ≤ 255 * l.o-index)
