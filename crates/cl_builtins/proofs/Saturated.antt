-- A product that was saturated at 128 bits saturates at each width as the exact one does.
use Rattle.std.proofs.Common.{◌≡◌, ℕ, ◌+◌, ◌-◌, ◌*◌, ◌^◌, ◌<◌, ◌≤◌, min, Bool, true, false, IsTrue, ℤ, pos, negsuc, neg_ℤ, ◌+ℤ◌, ◌*ℤ◌, ◌≤ℤ◌, ◌<ℤ◌, FitsSigned, unsigned_abs, sym, ap, ◌∙◌, arith}
use Rattle.std.specs.Int.{saturate_signed, w64, w128, cast_signed, cast_unsigned}
use Rattle.std.specs.Int.Signed.{mag}
use Rattle.std.proofs.lemmas.Int.{ints, clamps, fits_signed_mul, unsigned_abs-mul, to_z-of_z}
use Rattle.std.proofs.lemmas.Nat.{mul-le}
use Rattle.clv_num.specs.Numbers.{is_width, signed_of, pattern_of}
use Rattle.clv_num.proofs.Laws.{signed_of_above, signed_of_below}
use Rattle.cl_builtins.specs.Values.{number, nearest_of, saturated}

-- what fits is left as it is
fitting : (z : ℤ) → FitsSigned w128 z → saturate_signed w128 z ≡ z
fitting (pos n) fits = let f : n < 2 ^ 127 = fits.sfits in ap pos (omega (arith, f))
fitting (negsuc n) fits = let f : n < 2 ^ 127 = fits.sfits in ap negsuc (omega (arith, f))

-- the nearest unsigned number
nearest : (w k : ℕ) → nearest_of w false (pos k) ≡ pos (min k (2 ^ w - 1))
nearest w k = omega (arith, ints, clamps)

unsigned_sum : (w p c : ℕ) → 2 ^ w ≤ 2 ^ 64 → saturated w false (saturate_signed w128 (saturate_signed w128 (pos p) +ℤ pos c)) ≡ saturated w false (pos p +ℤ pos c)
unsigned_sum w p c small =
    let m = 2 ^ 127 - 1 in
    let e : min (min (min p m + c) m) (2 ^ w - 1) ≡ min (p + c) (2 ^ w - 1) = omega (arith, small) in
    ap (pattern_of w) (nearest w (min (min p m + c) m) ∙ ap pos e ∙ sym (nearest w (p + c)))

powers : (w : ℕ) → IsTrue (is_width w) → (0 < w) × (2 ^ w ≤ 2 ^ 64) × (2 ^ (w - 1) ≤ 2 ^ 63)
powers w h = grind arith

-- a signed number is of 64 bits
size : (w n : ℕ) → IsTrue (is_width w) → n < 2 ^ w → unsigned_abs (number w true n) ≤ 2 ^ 63
size w n width low =
    let p = powers w width in
    by (signed_of w n) (signed_of_above w n p.0 low) (signed_of_below w n p.0 low) p.2
  where
    by : (z : ℤ) → neg_ℤ (pos (2 ^ (w - 1))) ≤ℤ z → z <ℤ pos (2 ^ (w - 1)) → 2 ^ (w - 1) ≤ 2 ^ 63 → unsigned_abs z ≤ 2 ^ 63
    by (pos n) above below small = omega (arith, ints)
    by (negsuc n) above below small = omega (arith, ints)

sum_fits : (p z : ℤ) → unsigned_abs p ≤ 2 ^ 63 * 2 ^ 63 → unsigned_abs z ≤ 2 ^ 63 → FitsSigned w128 (p +ℤ z)
sum_fits (pos a) (pos b) h k = record { sfits = omega arith }
sum_fits (pos a) (negsuc b) h k = grind (arith, ints)
sum_fits (negsuc a) (pos b) h k = grind (arith, ints)
sum_fits (negsuc a) (negsuc b) h k = record { sfits = omega arith }

pub mad_is : (signed : Bool) (w a b c : ℕ) → IsTrue (is_width w) → a < 2 ^ w → b < 2 ^ w → c < 2 ^ w
    → saturated w signed (saturate_signed w128 (saturate_signed w128 (number w signed a *ℤ number w signed b) +ℤ number w signed c)) ≡ saturated w signed (number w signed a *ℤ number w signed b +ℤ number w signed c)
mad_is false w a b c width a_low b_low c_low = unsigned_sum w (a * b) c (powers w width).1
mad_is true w a b c width a_low b_low c_low =
    let x = number w true a in
    let y = number w true b in
    let z = number w true c in
    let x_size = size w a width a_low in
    let y_size = size w b width b_low in
    let z_size = size w c width c_low in
    let small : unsigned_abs (x *ℤ y) ≤ 2 ^ 63 * 2 ^ 63 = omega (arith, unsigned_abs-mul x y, mul-le (unsigned_abs x) (unsigned_abs y) (2 ^ 63) (2 ^ 63) x_size y_size) in
    let product = fitting (x *ℤ y) (fits_signed_mul w128 x y (2 ^ 63) (2 ^ 63) x_size y_size (omega arith)) in
    let total = fitting (x *ℤ y +ℤ z) (sum_fits (x *ℤ y) z small z_size) in
    ap (λ p. saturated w true (saturate_signed w128 (p +ℤ z))) product ∙ ap (saturated w true) total

-- the product of two numbers of 64 bits at 128 bits
widened : (r : ℤ) → FitsSigned w64 r → cast_signed w128 (cast_unsigned w128 (cast_signed w64 (cast_unsigned w64 r))) ≡ r
widened r f = omega (arith, ints)

size_64 : (r : ℤ) → FitsSigned w64 r → unsigned_abs r ≤ 2 ^ 63
size_64 (pos n) f = let g : n < 2 ^ 63 = f.sfits in omega (arith, g)
size_64 (negsuc n) f = let g : n < 2 ^ 63 = f.sfits in omega (arith, g)

pub wide_product : (r s : ℤ) → FitsSigned w64 r → FitsSigned w64 s → cast_signed w128 (cast_unsigned w128 (cast_signed w128 (cast_unsigned w128 (cast_signed w64 (cast_unsigned w64 r))) *ℤ cast_signed w128 (cast_unsigned w128 (cast_signed w64 (cast_unsigned w64 s))))) ≡ r *ℤ s
wide_product r s f g =
    ap (λ z. cast_signed w128 (cast_unsigned w128 (z *ℤ cast_signed w128 (cast_unsigned w128 (cast_signed w64 (cast_unsigned w64 s)))))) (widened r f)
    ∙ ap (λ z. cast_signed w128 (cast_unsigned w128 (r *ℤ z))) (widened s g)
    ∙ to_z-of_z w128 (r *ℤ s) (fits_signed_mul w128 r s (2 ^ 63) (2 ^ 63) (size_64 r f) (size_64 s g) (omega arith))

-- a number of 128 bits is as it was passed
pub held : (r : ℤ) → mag r < 2 ^ 127 → cast_signed w128 (cast_unsigned w128 r) ≡ r
held r f = to_z-of_z w128 r (record { sfits = f })
