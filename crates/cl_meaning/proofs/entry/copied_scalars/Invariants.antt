use Rattle.std.proofs.Common.{◌≡◌, take}
use Rattle.cl_meaning.proofs.entry.copied_scalars.Given as goal

abbrev pub invariant-loop-scalar : goal.invariant-loop-scalar
invariant-loop-scalar l = l.copies.items ≡ take l.scalar-index l.scalars
