use Rattle.std.proofs.Common.{sym, arith}
use Rattle.std.proofs.Math.Nat.{mod-eq_of_lt}
use Rattle.std.proofs.Math.Pow.{pow_mono}
use Rattle.cl_meaning.proofs.numbers.cut.Goals as goal

pub returns-then-bits-ge64 : goal.returns-then-bits-ge64
returns-then-bits-ge64 c = sym (mod-eq_of_lt (omega (arith, c.ranges.n.fits, pow_mono c.if-bits-ge64.true)))
