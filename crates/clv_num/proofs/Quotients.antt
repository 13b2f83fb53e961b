-- Signed quotients, remainders and shifts.
use Rattle.std.proofs.Common.{◌≡◌, ◌≢◌, ℕ, zero, suc, ◌-◌, ◌/◌, ◌^◌, ◌<◌, ◌≤◌, IsTrue, ℤ, pos, negsuc, neg_ℤ, ◌≤ℤ◌, ◌<ℤ◌, FitsSigned, w64, to_z, of_z, inl, inr, refl, sym, ap, ◌∙◌, arith}
use Rattle.std.specs.Prelude.{int_div, int_rem}
use Rattle.std.specs.Int.Signed.{mag, mag_rem}
use Rattle.std.proofs.lemmas.Bool.{cases_lt}
use Rattle.std.proofs.lemmas.Int.{ints, quot_is}
use Rattle.std.proofs.lemmas.Nat.{pow_pos}
use Rattle.std.proofs.Math.Nat.{div-le_self, div-one, div-lt_self}
use Rattle.clv_num.specs.Numbers.{is_width, signed_of, pattern_of, floor_of, sdiv_of, srem_of, ashr_of, NotLeastByMinusOne}
use Rattle.clv_num.proofs.Laws.{halves, signed_of-low, signed_of-high, signed_of_above, signed_of_below, signed_of-pattern_of}

-- z lies from -half to half - 1 where `mag z`, which is n both of n and of -(n + 1), is below half.
size : (z : ℤ) (half : ℕ) → neg_ℤ (pos half) ≤ℤ z → z <ℤ pos half → mag z < half
size (pos n) half above below = omega (arith, ints)
size (negsuc n) half above below = omega (arith, ints)

above_least : (z : ℤ) (half : ℕ) → mag z < half → neg_ℤ (pos half) ≤ℤ z
above_least (pos n) half small = omega (arith, ints)
above_least (negsuc n) half small = omega (arith, ints)

below_greatest : (z : ℤ) (half : ℕ) → mag z < half → z <ℤ pos half
below_greatest (pos n) half small = omega (arith, ints)
below_greatest (negsuc n) half small = omega (arith, ints)

size_of_signed : (w n : ℕ) → 0 < w → n < 2 ^ w → mag (signed_of w n) < 2 ^ (w - 1)
size_of_signed w n some below = size (signed_of w n) (2 ^ (w - 1)) (signed_of_above w n some below) (signed_of_below w n some below)

exact : (w : ℕ) (z : ℤ) → 0 < w → mag z < 2 ^ (w - 1) → signed_of w (pattern_of w z) ≡ z
exact w z some small = signed_of-pattern_of w z some (above_least z (2 ^ (w - 1)) small) (below_greatest z (2 ^ (w - 1)) small)

size_of_negated : (n : ℕ) → mag (neg_ℤ (pos n)) ≡ n - 1
size_of_negated zero = refl
size_of_negated (suc n) = omega arith

-- No quotient leaves the range but that of the least number by -1.
size_of_quotient : (x y : ℤ) (half : ℕ) → mag x < half → (y ≡ negsuc 0 → x ≢ negsuc (half - 1)) → mag (int_div x y) < half
size_of_quotient (pos a) (pos b) half small apart = omega (arith, div-le_self a b)
size_of_quotient (pos a) (negsuc b) half small apart = omega (arith, div-le_self a (suc b), size_of_negated (a / suc b))
size_of_quotient (negsuc a) (pos b) half small apart = omega (arith, div-le_self (suc a) b, size_of_negated (suc a / b))
size_of_quotient (negsuc a) (negsuc zero) half small apart = let other : a ≢ half - 1 = λ e. apart refl (ap negsuc e) in omega (arith, div-one (suc a))
size_of_quotient (negsuc a) (negsuc (suc b)) half small apart = omega (arith, div-lt_self {n = suc a} {k = suc (suc b)} (omega arith) (omega arith))

size_of_floor : (z : ℤ) (d : ℕ) → mag (floor_of z d) ≤ mag z
size_of_floor (pos n) d = div-le_self n d
size_of_floor (negsuc n) d = div-le_self n d

-- Which pattern is -1, which is the least number of its width, and which the least of 64 bits.
is_minus_one : (w n : ℕ) → n < 2 ^ w → signed_of w n ≡ negsuc 0 → n ≡ 2 ^ w - 1
is_minus_one w n below e = grind (arith, ints)

is_least_of_width : (w n : ℕ) → 0 < w → signed_of w n ≡ negsuc (2 ^ (w - 1) - 1) → n ≡ 2 ^ (w - 1)
is_least_of_width w n some e =
    elim (cases_lt n (2 ^ (w - 1))) [
      | inl low ↦ absurd (omega (arith, ints, sym (signed_of-low w n low) ∙ e))
      | inr high ↦ omega (arith, ints, sym (signed_of-high w n high) ∙ e, halves w some, pow_pos (w - 1))
    ]

is_least_of_64 : (w n : ℕ) → IsTrue (is_width w) → n < 2 ^ w → signed_of w n ≡ negsuc (2 ^ 63 - 1) → n ≡ 2 ^ (w - 1)
is_least_of_64 w n width below e = grind (arith, ints)

-- What `/` gives at 64 bits is the quotient of the signed views.
pub sdiv_is : (w a b : ℕ) (x y : ℤ) → IsTrue (is_width w) → a < 2 ^ w → b < 2 ^ w → NotLeastByMinusOne w a b
    → FitsSigned w64 x → FitsSigned w64 y → x ≡ signed_of w a → y ≡ signed_of w b
    → pattern_of w (to_z w64 (of_z w64 (int_div (to_z w64 (of_z w64 x)) (to_z w64 (of_z w64 y))))) ≡ sdiv_of w a b
sdiv_is w a b x y width a_below b_below apart x_fits y_fits x_is y_is =
    let other : y ≡ negsuc 0 → x ≢ negsuc (2 ^ 63 - 1) = λ e f.
    apart (is_minus_one w b b_below (sym y_is ∙ e)) (is_least_of_64 w a width a_below (sym x_is ∙ f)) in
    let fits : FitsSigned w64 (int_div x y) = record { sfits = size_of_quotient x y (2 ^ 63) x_fits.sfits other } in
    ap (pattern_of w) (quot_is w64 x y x_fits y_fits fits)
    ∙ ap (λ z. pattern_of w (int_div z y)) x_is
    ∙ ap (λ z. pattern_of w (int_div (signed_of w a) z)) y_is

-- ---- the signed view of a result is the exact result

pub signed_of-sdiv_of : (w a b : ℕ) → 0 < w → a < 2 ^ w → b < 2 ^ w → NotLeastByMinusOne w a b
    → signed_of w (sdiv_of w a b) ≡ int_div (signed_of w a) (signed_of w b)
signed_of-sdiv_of w a b some a_below b_below apart =
    let x = signed_of w a in
    let y = signed_of w b in
    let other : y ≡ negsuc 0 → x ≢ negsuc (2 ^ (w - 1) - 1) = λ e f. apart (is_minus_one w b b_below e) (is_least_of_width w a some f) in
    exact w (int_div x y) some (size_of_quotient x y (2 ^ (w - 1)) (size_of_signed w a some a_below) other)

pub signed_of-srem_of : (w a b : ℕ) → 0 < w → a < 2 ^ w → signed_of w (srem_of w a b) ≡ int_rem (signed_of w a) (signed_of w b)
signed_of-srem_of w a b some below =
    let small = size_of_signed w a some below in
    exact w (int_rem (signed_of w a) (signed_of w b)) some (omega (arith, mag_rem (signed_of w a) (signed_of w b)))

pub signed_of-ashr_of : (w n by : ℕ) → 0 < w → n < 2 ^ w → signed_of w (ashr_of w n by) ≡ floor_of (signed_of w n) (2 ^ by)
signed_of-ashr_of w n by some below =
    let small = size_of_signed w n some below in
    exact w (floor_of (signed_of w n) (2 ^ by)) some (omega (arith, size_of_floor (signed_of w n) (2 ^ by)))
