-- The leading zeros of a number at its width, by those at 64 bits.
use Rattle.std.proofs.Common.{◌≡◌, ℕ, zero, suc, ◌+◌, ◌-◌, ◌/◌, ◌^◌, ◌<◌, ◌≤◌, IsTrue, refl, sym, ap, ◌∙◌, arith}
use Rattle.std.specs.Int.Count.{count_leading_zeros}
use Rattle.std.proofs.lemmas.Nat.{leading_le}
use Rattle.std.proofs.Math.Nat.{pow-suc, pow-le-pow_right}
use Rattle.clv_num.specs.Numbers.{is_width}

-- one more digit, which is 0
one_more : (k n : ℕ) → n < 2 ^ k → count_leading_zeros (suc k) n ≡ suc (count_leading_zeros k n)
unfolding count_leading_zeros
one_more zero zero h = refl
one_more zero (suc n) h = absurd (omega arith)
one_more (suc k) zero h = refl
one_more (suc k) (suc n) h = one_more k (suc n / 2) (omega (arith, pow-suc 2 k))

more : (d k n : ℕ) → n < 2 ^ k → count_leading_zeros (d + k) n ≡ d + count_leading_zeros k n
more zero k n h =
    let same : 0 + k ≡ k = omega arith in
    omega (arith, ap (λ m. count_leading_zeros m n) same)
more (suc d) k n h =
    let same : suc d + k ≡ suc (d + k) = omega arith in
    let power : 2 ^ k ≤ 2 ^ (d + k) = pow-le-pow_right (omega arith) (omega arith) in
    omega (arith, ap (λ m. count_leading_zeros m n) same, one_more (d + k) n (omega (arith, power, h)), more d k n h)

-- a width is at most 64, and its numbers of places have patterns of it
pub narrow : (w : ℕ) → IsTrue (is_width w) → (w ≤ 64) × (w < 2 ^ w)
narrow w h = grind arith

pub at_width : (w n : ℕ) → IsTrue (is_width w) → n < 2 ^ w → (count_leading_zeros 64 n + w ≡ count_leading_zeros w n + 64) × (count_leading_zeros w n < 2 ^ w)
at_width w n h below =
    let n_w = narrow w h in
    let whole : 64 - w + w ≡ 64 = omega (arith, n_w.0) in
    let e : count_leading_zeros 64 n ≡ 64 - w + count_leading_zeros w n = ap (λ k. count_leading_zeros k n) (sym whole) ∙ more (64 - w) w n below in
    (omega (arith, e, n_w.0), omega (arith, leading_le w n, n_w.1))
