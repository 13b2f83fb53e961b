use Rattle.std.proofs.Common.{◌≡◌, length, drop}
use Rattle.cl_typing.specs.Units.{same_types}
use Rattle.cl_typing.proofs.head.same_types.Given as goal

abbrev pub invariant-loop-i : goal.invariant-loop-i
invariant-loop-i l = (length l.ts ≡ length l.us) × (same_types l.ts l.us ≡ same_types (drop l.i l.ts) (drop l.i l.us))
