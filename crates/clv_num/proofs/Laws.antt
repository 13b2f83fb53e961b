-- What the definitions of specs/Numbers.antt come to: each integer has one pattern, the two readings undo one another,
-- sums, differences and products serve both, and a conversion cuts or extends.
use Rattle.std.proofs.Common.{◌≡◌, ℕ, zero, suc, ◌+◌, ◌-◌, ◌*◌, ◌%◌, ◌^◌, ◌<◌, ◌≤◌, ◌⊎◌, Bool, true, false, inl, inr, ℤ, pos, negsuc, neg_ℤ, ◌+ℤ◌, ◌-ℤ◌, ◌*ℤ◌, ◌≤ℤ◌, ◌<ℤ◌, refl, sym, ap, ◌∙◌, arith}
use Rattle.std.specs.Int.{int_rem_euclid}
use Rattle.std.proofs.lemmas.Bool.{cases_lt, cond_below, cond_above}
use Rattle.std.proofs.lemmas.Int.{ints, int_rem_euclid_is}
use Rattle.std.proofs.lemmas.Nat.{pow_pos, pow-add, mod_below}
use Rattle.std.proofs.Math.Nat.{pow-suc, mod-eq_of_lt, add-mul-mod_self_right, le-mul_of_pos_right, mul_comm, mul_assoc, pow-le-pow_right}
use Rattle.clv_num.specs.Numbers.{signed_of, pattern_of, floor_of, add_of, sub_of, mul_of, neg_of, convert_of}

pub halves : (w : ℕ) → 0 < w → 2 ^ w ≡ 2 ^ (w - 1) + 2 ^ (w - 1)
halves zero some = absurd (omega arith)
halves (suc v) some = let same : suc v - 1 ≡ v = omega arith in omega (arith, pow-suc 2 v, ap (λ k. 2 ^ k) same)

-- ---- patterns

pub pattern_of_below : (w : ℕ) (z : ℤ) → pattern_of w z < 2 ^ w
pattern_of_below w (pos n) = mod_below n (2 ^ w) (pow_pos w)
pattern_of_below w (negsuc n) = omega (arith, pow_pos w)

rest_is_pattern : (w : ℕ) (z : ℤ) → int_rem_euclid z (pos (2 ^ w)) ≡ pos (pattern_of w z)
rest_is_pattern w (pos n) = refl
rest_is_pattern w (negsuc n) = ap pos (omega (arith, pow_pos w))

-- A multiple of 2 ^ w added leaves the pattern.
pub pattern_of_is : (w : ℕ) (z : ℤ) (k m : ℕ) → z +ℤ pos (k * 2 ^ w) ≡ pos m → pattern_of w z ≡ m % 2 ^ w
pattern_of_is w z k m e =
    let known = rest_is_pattern w z in
    let rest = int_rem_euclid_is z (pos (2 ^ w)) (2 ^ w) k m (pow_pos w) refl e in
    cc

-- ---- the signed view

pub signed_of-low : (w n : ℕ) → n < 2 ^ (w - 1) → signed_of w n ≡ pos n
signed_of-low w n low = sym (cond_below n (2 ^ (w - 1)) _ _ low)

pub signed_of-high : (w n : ℕ) → 2 ^ (w - 1) ≤ n → signed_of w n ≡ pos n -ℤ pos (2 ^ w)
signed_of-high w n high = sym (cond_above n (2 ^ (w - 1)) _ _ _ high refl)

-- The signed view is the number, or 2 ^ w less.
signed_up : (w n : ℕ) → (s : ℕ) × (signed_of w n +ℤ pos (s * 2 ^ w) ≡ pos n)
signed_up w n =
    elim (cases_lt n (2 ^ (w - 1))) [
      | inl low ↦ (0, omega (arith, ints, signed_of-low w n low))
      | inr high ↦ (1, omega (arith, ints, signed_of-high w n high))
    ]

pub signed_of_above : (w n : ℕ) → 0 < w → n < 2 ^ w → neg_ℤ (pos (2 ^ (w - 1))) ≤ℤ signed_of w n
signed_of_above w n some below =
    elim (cases_lt n (2 ^ (w - 1))) [
      | inl low ↦ omega (arith, ints, signed_of-low w n low)
      | inr high ↦ omega (arith, ints, signed_of-high w n high, halves w some)
    ]

pub signed_of_below : (w n : ℕ) → 0 < w → n < 2 ^ w → signed_of w n <ℤ pos (2 ^ (w - 1))
signed_of_below w n some below =
    elim (cases_lt n (2 ^ (w - 1))) [
      | inl low ↦ omega (arith, ints, signed_of-low w n low)
      | inr high ↦ omega (arith, ints, signed_of-high w n high, halves w some)
    ]

pub pattern_of-signed_of : (w n : ℕ) → n < 2 ^ w → pattern_of w (signed_of w n) ≡ n
pattern_of-signed_of w n below =
    let up = signed_up w n in
    pattern_of_is w (signed_of w n) up.0 n up.1 ∙ mod-eq_of_lt below

pub signed_of-pattern_of : (w : ℕ) (z : ℤ) → 0 < w → neg_ℤ (pos (2 ^ (w - 1))) ≤ℤ z → z <ℤ pos (2 ^ (w - 1))
    → signed_of w (pattern_of w z) ≡ z
signed_of-pattern_of w (pos n) some above below =
    let low : n < 2 ^ (w - 1) = omega (arith, ints) in
    let kept : n % 2 ^ w ≡ n = mod-eq_of_lt (omega (arith, halves w some)) in
    signed_of-low w (n % 2 ^ w) (omega arith) ∙ ap pos kept
signed_of-pattern_of w (negsuc n) some above below =
    let low : n < 2 ^ (w - 1) = omega (arith, ints) in
    let kept : n % 2 ^ w ≡ n = mod-eq_of_lt (omega (arith, halves w some)) in
    let high : 2 ^ (w - 1) ≤ 2 ^ w - suc (n % 2 ^ w) = omega (arith, halves w some) in
    signed_of-high w (2 ^ w - suc (n % 2 ^ w)) high ∙ (let l = halves w some in omega (arith, ints))

-- ---- one sum, difference and product for both views

sum_up : (x y : ℤ) (a b s t m : ℕ) → x +ℤ pos (s * m) ≡ pos a → y +ℤ pos (t * m) ≡ pos b
    → x +ℤ y +ℤ pos ((s + t) * m) ≡ pos (a + b)
sum_up x y a b s t m e f = omega (arith, ints)

pub add_of-signed : (w a b : ℕ) → pattern_of w (signed_of w a +ℤ signed_of w b) ≡ add_of w a b
add_of-signed w a b =
    let x = signed_up w a in
    let y = signed_up w b in
    let up = sum_up (signed_of w a) (signed_of w b) a b x.0 y.0 (2 ^ w) x.1 y.1 in
    pattern_of_is w (signed_of w a +ℤ signed_of w b) (x.0 + y.0) (a + b) up

difference_up : (x y : ℤ) (a b s t m : ℕ) → b ≤ b * m → x +ℤ pos (s * m) ≡ pos a → y +ℤ pos (t * m) ≡ pos b
    → x -ℤ y +ℤ pos ((s + b) * m) ≡ pos (a + (b * m - b) + t * m)
difference_up x y a b s t m room e f = omega (arith, ints)

difference : (w a b s t : ℕ) (x y : ℤ) → x +ℤ pos (s * 2 ^ w) ≡ pos a → y +ℤ pos (t * 2 ^ w) ≡ pos b
    → pattern_of w (x -ℤ y) ≡ (a + (b * 2 ^ w - b)) % 2 ^ w
difference w a b s t x y e f =
    let up = difference_up x y a b s t (2 ^ w) (le-mul_of_pos_right b (pow_pos w)) e f in
    pattern_of_is w (x -ℤ y) (s + b) _ up ∙ add-mul-mod_self_right (a + (b * 2 ^ w - b)) t (2 ^ w)

pub sub_of-signed : (w a b : ℕ) → pattern_of w (signed_of w a -ℤ signed_of w b) ≡ sub_of w a b
sub_of-signed w a b =
    let x = signed_up w a in
    let y = signed_up w b in
    let unsigned = difference w a b 0 0 (pos a) (pos b) (omega (arith, ints)) (omega (arith, ints)) in
    difference w a b x.0 y.0 (signed_of w a) (signed_of w b) x.1 y.1 ∙ sym unsigned

negated : (z : ℤ) → neg_ℤ z ≡ pos 0 -ℤ z
negated z = omega (arith, ints)

pub neg_of-signed : (w n : ℕ) → pattern_of w (neg_ℤ (signed_of w n)) ≡ neg_of w n
neg_of-signed w n =
    let up = signed_up w n in
    let none : pos 0 +ℤ pos (0 * 2 ^ w) ≡ pos 0 = omega (arith, ints) in
    let signed = difference w 0 n 0 up.0 (pos 0) (signed_of w n) none up.1 in
    let unsigned = difference w 0 n 0 0 (pos 0) (pos n) none (omega (arith, ints)) in
    ap (pattern_of w) (negated (signed_of w n)) ∙ signed ∙ sym (ap (pattern_of w) (negated (pos n)) ∙ unsigned)

-- The signed view is the number, or the negative one that is 2 ^ w less.
signs : (w n : ℕ) → n < 2 ^ w → (signed_of w n ≡ pos n) ⊎ ((c : ℕ) × (signed_of w n ≡ negsuc c) × (n + suc c ≡ 2 ^ w))
signs w n below =
    elim (cases_lt n (2 ^ (w - 1))) [
      | inl low ↦ inl (signed_of-low w n low)
      | inr high ↦ inr (2 ^ w - 1 - n, signed_of-high w n high ∙ omega (arith, ints), omega arith)
    ]

by_negative : (w a b d : ℕ) → b + suc d ≡ 2 ^ w → pattern_of w (neg_ℤ (pos (a * suc d))) ≡ (a * b) % 2 ^ w
by_negative w a b d e =
    let whole = ap (λ k. a * k) e in
    pattern_of_is w (neg_ℤ (pos (a * suc d))) a (a * b) (omega (arith, ints))

of_negatives : (a b c d m : ℕ) → a + suc c ≡ m → b + suc d ≡ m → (suc c * suc d) % m ≡ (a * b) % m
of_negatives a b c d m e f =
    let rows = ap (λ k. k * b) e in
    let columns = ap (λ k. suc c * k) f in
    let same : suc c * suc d + b * m ≡ a * b + suc c * m = omega arith in
    sym (add-mul-mod_self_right (suc c * suc d) b m) ∙ ap (λ k. k % m) same ∙ add-mul-mod_self_right (a * b) (suc c) m

product : (w a b : ℕ) (x y : ℤ)
    → (x ≡ pos a) ⊎ ((c : ℕ) × (x ≡ negsuc c) × (a + suc c ≡ 2 ^ w))
    → (y ≡ pos b) ⊎ ((d : ℕ) × (y ≡ negsuc d) × (b + suc d ≡ 2 ^ w))
    → pattern_of w (x *ℤ y) ≡ (a * b) % 2 ^ w
product w a b x y (inl e) (inl f) = rw (e, f)
product w a b x y (inl e) (inr (d, f, g)) = rw (e, f) (by_negative w a b d g)
product w a b x y (inr (c, e, g)) (inl f) =
    let turned = ap (λ k. pattern_of w (neg_ℤ (pos k))) (mul_comm (suc c) b) in
    rw (e, f) (turned ∙ by_negative w b a c g ∙ ap (λ k. k % 2 ^ w) (mul_comm b a))
product w a b x y (inr (c, e, g)) (inr (d, f, h)) = rw (e, f) (of_negatives a b c d (2 ^ w) g h)

pub mul_of-signed : (w a b : ℕ) → a < 2 ^ w → b < 2 ^ w → pattern_of w (signed_of w a *ℤ signed_of w b) ≡ mul_of w a b
mul_of-signed w a b a_below b_below = product w a b (signed_of w a) (signed_of w b) (signs w a a_below) (signs w b b_below)

-- ---- the floor

pub floor_of_within : (z : ℤ) (d : ℕ) → 0 < d → (floor_of z d *ℤ pos d) ≤ℤ z
floor_of_within (pos n) d some = omega (arith, ints)
floor_of_within (negsuc n) d some = omega (arith, ints)

pub floor_of_greatest : (z : ℤ) (d : ℕ) → 0 < d → z <ℤ (floor_of z d *ℤ pos d +ℤ pos d)
floor_of_greatest (pos n) d some = omega (arith, ints)
floor_of_greatest (negsuc n) d some = omega (arith, ints)

-- ---- conversions

-- To a width that is not greater, the number is cut, whatever its sign.
pub convert_of-narrow : (w n : ℕ) (signed : Bool) (to : ℕ) → to ≤ w → convert_of w n signed to ≡ n % 2 ^ to
convert_of-narrow w n false to narrow = refl
convert_of-narrow w n true to narrow =
    let up = signed_up w n in
    let whole : w ≡ w - to + to = omega arith in
    let power : 2 ^ w ≡ 2 ^ (w - to) * 2 ^ to = ap (λ k. 2 ^ k) whole ∙ pow-add 2 (w - to) to in
    let row : (up.0 * 2 ^ (w - to)) * 2 ^ to ≡ up.0 * 2 ^ w = mul_assoc up.0 (2 ^ (w - to)) (2 ^ to) ∙ ap (λ k. up.0 * k) (sym power) in
    pattern_of_is to (signed_of w n) (up.0 * 2 ^ (w - to)) n (ap (λ k. signed_of w n +ℤ pos k) row ∙ up.1)

-- To a width that is not less, a signed number keeps its signed view.
pub signed_of-convert_of : (w n to : ℕ) → 0 < w → w ≤ to → n < 2 ^ w → signed_of to (convert_of w n true to) ≡ signed_of w n
signed_of-convert_of w n to some wide below =
    let above_least = signed_of_above w n some below in
    let below_greatest = signed_of_below w n some below in
    let power : 2 ^ (w - 1) ≤ 2 ^ (to - 1) = pow-le-pow_right (omega arith) (omega arith) in
    signed_of-pattern_of to (signed_of w n) (omega arith) (omega (arith, ints)) (omega (arith, ints))
