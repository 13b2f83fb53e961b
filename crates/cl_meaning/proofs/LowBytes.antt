-- Numbers from their bytes, the highest byte first.
use Rattle.std.proofs.Common.{◌≡◌, ℕ, suc, zero, ◌+◌, ◌*◌, ◌^◌, ◌<◌, ◌≤◌, Option, Some, None, refl, sym, ap, ◌∙◌, arith}
use Rattle.std.proofs.Math.Nat.{pow-le-pow_right}
use Rattle.std.proofs.lemmas.Grind.{pow_more}
use Rattle.cl_common.specs.Bytes.{Bytes, with_low, number_at}

-- a byte below those that were read
pub lower : (bs : Bytes) (p q c d b n m : ℕ) → number_at bs p c ≡ Some n → bs q ≡ Some b → p ≡ q + 1 → d ≡ c + 1 → m ≡ n * 256 + b → number_at bs q d ≡ Some m
lower bs p q c d b n m e f g h k =
    let next : p ≡ suc q = omega (arith, g) in
    let more : d ≡ suc c = omega (arith, h) in
    ap (number_at bs q) more
    ∙ ap (λ z. with_low z (number_at bs (suc q) c)) f
    ∙ ap (λ z. with_low (Some b) (number_at bs z c)) (sym next)
    ∙ ap (with_low (Some b)) e
    ∙ ap Some (omega (arith, k))

-- where a byte isn't set, there is no number
no_high : (o : Option ℕ) → with_low o None ≡ None
no_high None = refl
no_high (Some n) = refl

pub unset_byte : (bs : Bytes) (at j c k : ℕ) → k ≡ at + j → bs k ≡ None → j < c → number_at bs at c ≡ None
unset_byte bs at j zero k e f h = absurd (omega (arith, h))
unset_byte bs at zero (suc c) k e f h = let here : at ≡ k = omega (arith, e) in ap (λ z. with_low z (number_at bs (suc at) c)) (ap bs here ∙ f)
unset_byte bs at (suc j) (suc c) k e f h = ap (with_low (bs at)) (unset_byte bs (suc at) j c k (omega (arith, e)) f (omega (arith, h))) ∙ no_high (bs at)

-- how large the number is
pub grown : (n b c d m : ℕ) → n < 256 ^ c → b < 256 → d ≡ c + 1 → m ≡ n * 256 + b → m < 256 ^ d
grown n b c d m h g e k =
    let more : 256 ^ d ≡ 256 ^ c * 256 = ap (λ z. 256 ^ z) e ∙ pow_more 256 c in
    omega (arith, h, g, k, more)

pub roomy : (n c : ℕ) → n < 256 ^ c → c ≤ 7 → n < 72057594037927936
roomy n c h g =
    let most : 256 ^ c ≤ 256 ^ 7 = pow-le-pow_right (omega arith) g in
    omega (arith, h, most)
