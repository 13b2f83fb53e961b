-- Patterns below 2 ^ w.
use Rattle.std.proofs.Common.{◌≡◌, ℕ, ◌+◌, ◌-◌, ◌%◌, ◌^◌, bit_and, ap, ◌∙◌, arith}
use Rattle.std.proofs.lemmas.Nat.{and_mask}

-- The ones of a width cut a number to it.
pub and_ones : (n ones w : ℕ) → ones + 1 ≡ 2 ^ w → bit_and n ones ≡ n % 2 ^ w
and_ones n ones w e = let same : ones ≡ 2 ^ w - 1 = omega arith in ap (bit_and n) same ∙ and_mask n w
