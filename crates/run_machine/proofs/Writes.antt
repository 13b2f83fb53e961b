-- Bytes put into buffers.
use Rattle.std.proofs.Common.{◌≡◌, ℕ, zero, suc, ◌+◌, ◌-◌, ◌/◌, ◌%◌, ◌<◌, ◌≤◌, List, [], ◌∷◌, refl, ap, ◌∙◌, length, get_or, set, arith}
use Rattle.spv_meaning.specs.Worlds.{low_bytes, put_at, put_in}

less_more : (count k : ℕ) → k < count → count - k ≡ suc (count - (k + 1))
less_more count k h = omega (arith, h)

pub put_more : (offset k count rest : ℕ) (old : List ℕ) → k < count → put_at (offset + k) (low_bytes (count - k) rest) old ≡ put_at (offset + (k + 1)) (low_bytes (count - (k + 1)) (rest / 256)) (set old (offset + k) (rest % 256))
put_more offset k count rest old h =
    ap (λ n. put_at (offset + k) (low_bytes n rest) old) (less_more count k h)
    ∙ ap (λ at. put_at at (low_bytes (count - (k + 1)) (rest / 256)) (set old (offset + k) (rest % 256))) (let e : offset + k + 1 ≡ offset + (k + 1) = omega arith in e)

pub set_past : (old : List ℕ) (at b : ℕ) → length old ≤ at → set old at b ≡ old
set_past [] at b h = refl
set_past (x ∷ old) zero b h = absurd (omega (arith, h))
set_past (x ∷ old) (suc at) b h = ap (λ l. x ∷ l) (set_past old at b (omega (arith, h)))

pub put_done : (offset count rest : ℕ) (old : List ℕ) → put_at (offset + count) (low_bytes (count - count) rest) old ≡ old
put_done offset count rest old = ap (λ n. put_at (offset + count) (low_bytes n rest) old) (let e : count - count ≡ 0 = omega arith in e)

pub put_start : (offset count value : ℕ) (old : List ℕ) → put_at (offset + 0) (low_bytes (count - 0) value) old ≡ put_at offset (low_bytes count value) old
put_start offset count value old = ap (λ n. put_at n (low_bytes (count - 0) value) old) (let e : offset + 0 ≡ offset = omega arith in e) ∙ ap (λ n. put_at offset (low_bytes n value) old) (let e : count - 0 ≡ count = omega arith in e)

pub ruleset bytes = (put_more, set_past, put_done, put_start)

pub put_in_past : (n offset : ℕ) (bytes : List ℕ) (bs : List (List ℕ)) → length bs ≤ n → put_in n offset bytes bs ≡ bs
put_in_past n offset bytes [] h = refl
put_in_past zero offset bytes (b ∷ bs) h = absurd (omega (arith, h))
put_in_past (suc n) offset bytes (b ∷ bs) h = ap (λ l. b ∷ l) (put_in_past n offset bytes bs (omega (arith, h)))

pub put_in_set : (n offset : ℕ) (bytes : List ℕ) (bs : List (List ℕ)) (d : List ℕ) → n < length bs → put_in n offset bytes bs ≡ set bs n (put_at offset bytes (get_or bs n d))
put_in_set n offset bytes [] d h = absurd (omega (arith, h))
put_in_set zero offset bytes (b ∷ bs) d h = refl
put_in_set (suc n) offset bytes (b ∷ bs) d h = ap (λ l. b ∷ l) (put_in_set n offset bytes bs d (omega (arith, h)))

pub ruleset buffers = (put_in_past, put_in_set)
