-- The bits of components, byte by byte.
use Rattle.std.proofs.Common.{◌≡◌, ◌⊎◌, inl, inr, ℕ, zero, suc, ◌+◌, ◌-◌, ◌*◌, ◌/◌, ◌%◌, ◌^◌, ◌<◌, ◌≤◌, List, [], ◌∷◌, length, get_or, map, refl, sym, ap, ◌∙◌, arith, bit_and, bit_or}
use Rattle.std.proofs.lemmas.Bool.{cases_lt}
use Rattle.std.proofs.lemmas.Nat.{pow_pos, pow-add, shr-shr, field_of, mod-pow-add, and_mask, or_comm, or_shifted, shl_whole, shr_high, mod_low, mod_below}
use Rattle.std.proofs.Math.Nat.{add_comm, mul_comm, zero-div, div-eq_of_lt, mod-eq_of_lt, mod-one, add-div_left, add-mod_left}
use Rattle.std.proofs.Math.Pow.{mod-mod-pow}
use Rattle.cl_builtins.specs.Values.{joined}
use Rattle.cl_common.specs.Operators.{cut}

-- a number of bytes is one of bits
pub bytes_bits : (m : ℕ) → 256 ^ m ≡ 2 ^ (8 * m)
bytes_bits zero = refl
bytes_bits (suc m) =
    let e : 8 * suc m ≡ 8 * m + 8 = omega arith in
    let more : suc m ≡ m + 1 = omega arith in
    ap (λ z. 256 ^ z) more ∙ pow-add 256 m 1 ∙ ap (λ z. z * 256) (bytes_bits m) ∙ sym (pow-add 2 (8 * m) 8) ∙ ap (λ z. 2 ^ z) (sym e)

masked : (x i j : ℕ) → i ≤ j → x % 2 ^ j % 2 ^ i ≡ x % 2 ^ i
masked x i j h =
    let e : j ≡ (j - i) + i = omega arith in
    ap (λ z. x % 2 ^ z % 2 ^ i) e ∙ mod-mod-pow x (j - i) i

-- the first component, with the others above it
abbrev over : ℕ → ℕ → ℕ → ℕ
over w n rest = n % 2 ^ w + 2 ^ w * rest

turned : (w n rest : ℕ) → over w n rest ≡ rest * 2 ^ w + n % 2 ^ w
turned w n rest = add_comm (n % 2 ^ w) (2 ^ w * rest) ∙ ap (λ z. z + n % 2 ^ w) (mul_comm (2 ^ w) rest)

-- so many bits from one on that lie in the first component
low_bits : (w n rest j k : ℕ) → j + k ≤ w → over w n rest / 2 ^ k % 2 ^ j ≡ n / 2 ^ k % 2 ^ j
low_bits w n rest j k h =
    sym (field_of (over w n rest) j k)
    ∙ ap (λ z. z / 2 ^ k) (sym (masked (over w n rest) (j + k) w h) ∙ ap (λ z. z % 2 ^ (j + k)) (ap (λ z. z % 2 ^ w) (turned w n rest) ∙ mod_low rest w (n % 2 ^ w) (mod_below n (2 ^ w) (pow_pos w))) ∙ masked n (j + k) w h)
    ∙ field_of n j k

-- what lies above it
high_bits : (w n rest k : ℕ) → over w n rest / 2 ^ (w + k) ≡ rest / 2 ^ k
high_bits w n rest k =
    sym (shr-shr (over w n rest) w k) ∙ ap (λ z. z / 2 ^ k) (ap (λ z. z / 2 ^ w) (turned w n rest) ∙ shr_high rest w (n % 2 ^ w) (mod_below n (2 ^ w) (pow_pos w)))

byte_of : (w : ℕ) → 0 < w → (ns : List ℕ) (at : ℕ) → joined (8 * w) (map (cut (8 * w)) ns) / 2 ^ (8 * at) % 2 ^ 8 ≡ get_or ns (at / w) 0 / 2 ^ (8 * (at % w)) % 2 ^ 8
byte_of w some [] at = ap (λ z. z % 2 ^ 8) (zero-div (2 ^ (8 * at)) ∙ sym (zero-div (2 ^ (8 * (at % w)))))
byte_of w some (n ∷ ns) at = by (byte_of w some ns) (cases_lt at w)
  where
    rest : ℕ
    rest = joined (8 * w) (map (cut (8 * w)) ns)

    by : ((o : ℕ) → joined (8 * w) (map (cut (8 * w)) ns) / 2 ^ (8 * o) % 2 ^ 8 ≡ get_or ns (o / w) 0 / 2 ^ (8 * (o % w)) % 2 ^ 8) → (at < w) ⊎ (w ≤ at) → over (8 * w) n rest / 2 ^ (8 * at) % 2 ^ 8 ≡ get_or (n ∷ ns) (at / w) 0 / 2 ^ (8 * (at % w)) % 2 ^ 8
    by below (inl h) =
        low_bits (8 * w) n rest 8 (8 * at) (omega arith)
        ∙ sym (ap (λ z. get_or (n ∷ ns) z 0 / 2 ^ (8 * (at % w)) % 2 ^ 8) (div-eq_of_lt h) ∙ ap (λ z. n / 2 ^ (8 * z) % 2 ^ 8) (mod-eq_of_lt h))
    by below (inr h) =
        let e : at ≡ w + (at - w) = omega arith in
        let d : at / w ≡ suc ((at - w) / w) = ap (λ z. z / w) e ∙ add-div_left (at - w) some ∙ omega arith in
        let m : at % w ≡ (at - w) % w = ap (λ z. z % w) e ∙ add-mod_left w (at - w) in
        ap (λ z. over (8 * w) n rest / 2 ^ z % 2 ^ 8) (omega (arith, e))
        ∙ ap (λ z. z % 2 ^ 8) (high_bits (8 * w) n rest (8 * (at - w)))
        ∙ below (at - w)
        ∙ sym (ap (λ z. get_or (n ∷ ns) z 0 / 2 ^ (8 * (at % w)) % 2 ^ 8) d ∙ ap (λ z. get_or ns ((at - w) / w) 0 / 2 ^ (8 * z) % 2 ^ 8) m)

pub byte_found : (w : ℕ) (ns : List ℕ) (at : ℕ) → 0 < w → bit_and (get_or ns (at / w) 0 / 2 ^ (at % w * 8)) 255 ≡ joined (8 * w) (map (cut (8 * w)) ns) / 256 ^ at % 256
byte_found w ns at some =
    and_mask (get_or ns (at / w) 0 / 2 ^ (at % w * 8)) 8
    ∙ ap (λ z. get_or ns (at / w) 0 / 2 ^ z % 2 ^ 8) (mul_comm (at % w) 8)
    ∙ sym (byte_of w some ns at)
    ∙ ap (λ z. joined (8 * w) (map (cut (8 * w)) ns) / z % 256) (sym (bytes_bits at))

get_past : (ns : List ℕ) (k : ℕ) → length ns ≤ k → get_or ns k 0 ≡ 0
get_past [] k h = refl
get_past (n ∷ ns) zero h = absurd (omega arith)
get_past (n ∷ ns) (suc k) h = get_past ns k (omega arith)

pub byte_past : (w : ℕ) (ns : List ℕ) (at : ℕ) → 0 < w → length ns ≤ at / w → 0 ≡ joined (8 * w) (map (cut (8 * w)) ns) / 256 ^ at % 256
byte_past w ns at some h =
    sym (ap (λ z. joined (8 * w) (map (cut (8 * w)) ns) / z % 256) (bytes_bits at)
    ∙ byte_of w some ns at
    ∙ ap (λ z. z / 2 ^ (8 * (at % w)) % 2 ^ 8) (get_past ns (at / w) h)
    ∙ ap (λ z. z % 2 ^ 8) (zero-div (2 ^ (8 * (at % w)))))

pub number_begin : (x : ℕ) → 0 ≡ x % 256 ^ 0
number_begin x = sym (mod-one x)

pub number_more : (x at k b number : ℕ) → k < 8 → number ≡ x / 256 ^ at % 256 ^ k → b ≡ x / 256 ^ (at + k) % 256 → bit_or number ((b * 2 ^ (k * 8)) % 2 ^ 64) ≡ x / 256 ^ at % 256 ^ (k + 1)
number_more x at k b number h so_far is =
    ap (λ z. bit_or z ((b * 2 ^ (k * 8)) % 2 ^ 64)) low
    ∙ ap (bit_or (y % 2 ^ (8 * k))) (ap (λ z. (z * 2 ^ (k * 8)) % 2 ^ 64) high ∙ ap (λ z. (y / 2 ^ (8 * k) % 2 ^ 8 * 2 ^ z) % 2 ^ 64) (mul_comm k 8) ∙ shl_whole (y / 2 ^ (8 * k) % 2 ^ 8) 8 (8 * k) 64 (mod_below (y / 2 ^ (8 * k)) (2 ^ 8) (pow_pos 8)) (omega arith))
    ∙ or_comm (y % 2 ^ (8 * k)) (y / 2 ^ (8 * k) % 2 ^ 8 * 2 ^ (8 * k))
    ∙ or_shifted (y / 2 ^ (8 * k) % 2 ^ 8) (8 * k) (y % 2 ^ (8 * k)) (mod_below y (2 ^ (8 * k)) (pow_pos (8 * k)))
    ∙ sym (mod-pow-add y 8 (8 * k))
    ∙ whole
  where
    y : ℕ
    y = x / 2 ^ (8 * at)

    low : number ≡ y % 2 ^ (8 * k)
    low = so_far ∙ ap (λ z. x / z % 256 ^ k) (bytes_bits at) ∙ ap (λ z. y % z) (bytes_bits k)

    high : b ≡ y / 2 ^ (8 * k) % 2 ^ 8
    high =
        let e : 8 * (at + k) ≡ 8 * at + 8 * k = omega arith in
        is ∙ ap (λ z. x / z % 256) (bytes_bits (at + k)) ∙ ap (λ z. x / 2 ^ z % 2 ^ 8) e ∙ ap (λ z. z % 2 ^ 8) (sym (shr-shr x (8 * at) (8 * k)))

    whole : y % 2 ^ (8 + 8 * k) ≡ x / 256 ^ at % 256 ^ (k + 1)
    whole =
        let e : 8 + 8 * k ≡ 8 * (k + 1) = omega arith in
        ap (λ z. y % 2 ^ z) e ∙ ap (λ z. y % z) (sym (bytes_bits (k + 1))) ∙ ap (λ z. x / z % 256 ^ (k + 1)) (sym (bytes_bits at))

pub byte_small : (w at : ℕ) → 0 < w → w ≤ 8 → at % w * 8 < 64
byte_small w at some few = omega (arith, mod_below at w some)

pub ruleset bytes = (byte_found, byte_past, byte_small, number_begin, number_more)
