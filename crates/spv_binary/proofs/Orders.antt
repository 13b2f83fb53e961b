-- The words of a file and its bytes, in either order.
use Rattle.std.proofs.Common.{◌≡◌, ℕ, ◌^◌, ◌/◌, ◌%◌, ◌<◌, ◌⊎◌, Bool, true, false, List, [], ◌∷◌, ◌++◌, length, get_or, zero, suc, refl, sym, ap, ◌∙◌, arith, inl, inr}
use Rattle.std.specs.List.{AllByRecursion}
use Rattle.std.specs.Int.{w32, to_le_bytes, to_be_bytes, from_be_bytes}
use Rattle.std.proofs.lemmas.Nat.{le_bytes_4, be_bytes_4, from_le_bytes-to_le_bytes_4}
use Rattle.spv_module.specs.declared.module.TheConstants.{MAGIC}
use Rattle.spv_module.specs.Words.{word_of, little_endian, big_endian, IsWord}
use Rattle.spv_binary.specs.Faults.{words_of, word_in_order, words_in_order, is_high_first}

-- ---- how many

length-words_in_order : (high : Bool) (bytes : List ℕ) → length (words_in_order high bytes) ≡ length bytes / 4
length-words_in_order high [] = refl
length-words_in_order high (a ∷ []) = refl
length-words_in_order high (a ∷ b ∷ []) = refl
length-words_in_order high (a ∷ b ∷ c ∷ []) = refl
length-words_in_order high (a ∷ b ∷ c ∷ d ∷ bytes) = omega (arith, length-words_in_order high bytes)

pub length-words_of : (bytes : List ℕ) → length (words_of bytes) ≡ length bytes / 4
unfolding words_of
length-words_of bytes = length-words_in_order (is_high_first bytes) bytes

-- ---- the words of bytes

abbrev pub AreBytes : List ℕ → Type 0
AreBytes bytes = (i : ℕ) → get_or bytes i 0 < 256

below : (a b c d : ℕ) → a < 256 → b < 256 → c < 256 → d < 256 → AreBytes (a ∷ b ∷ c ∷ d ∷ [])
below a b c d p q r s zero = p
below a b c d p q r s (suc zero) = q
below a b c d p q r s (suc (suc zero)) = r
below a b c d p q r s (suc (suc (suc zero))) = s
below a b c d p q r s (suc (suc (suc (suc i)))) = omega arith

low_bytes : (a b c d : ℕ) → a < 256 → b < 256 → c < 256 → d < 256 → to_le_bytes w32 (word_of a b c d) ≡ a ∷ b ∷ c ∷ d ∷ []
low_bytes a b c d p q r s = le_bytes_4 (a ∷ b ∷ c ∷ d ∷ []) (word_of a b c d) refl (below a b c d p q r s) refl

high_word : (a b c d : ℕ) → word_of d c b a ≡ from_be_bytes w32 (a ∷ b ∷ c ∷ d ∷ [])
high_word a b c d = omega arith

high_bytes : (a b c d : ℕ) → a < 256 → b < 256 → c < 256 → d < 256 → to_be_bytes w32 (word_of d c b a) ≡ a ∷ b ∷ c ∷ d ∷ []
high_bytes a b c d p q r s = be_bytes_4 (a ∷ b ∷ c ∷ d ∷ []) (word_of d c b a) refl (below a b c d p q r s) (high_word a b c d)

rest_bytes : (a b c d : ℕ) (bytes : List ℕ) → AreBytes (a ∷ b ∷ c ∷ d ∷ bytes) → AreBytes bytes
rest_bytes a b c d bytes h i = h (suc (suc (suc (suc i))))

-- a list of whole words
no_words : (n : ℕ) → n % 4 ≡ 0 → n < 4 → n ≡ 0
no_words n e h = omega arith

low_first_again : (bytes : List ℕ) → AreBytes bytes → length bytes % 4 ≡ 0 → bytes ≡ little_endian (words_in_order false bytes)
low_first_again [] h e = refl
low_first_again (a ∷ []) h e = absurd (let n = no_words 1 e (omega arith) in omega arith)
low_first_again (a ∷ b ∷ []) h e = absurd (let n = no_words 2 e (omega arith) in omega arith)
low_first_again (a ∷ b ∷ c ∷ []) h e = absurd (let n = no_words 3 e (omega arith) in omega arith)
low_first_again (a ∷ b ∷ c ∷ d ∷ bytes) h e =
    let others = low_first_again bytes (rest_bytes a b c d bytes h) (omega arith) in
    ap (λ bs. a ∷ b ∷ c ∷ d ∷ bs) others ∙ ap (λ bs. bs ++ little_endian (words_in_order false bytes)) (sym (low_bytes a b c d (h 0) (h 1) (h 2) (h 3)))

high_first_again : (bytes : List ℕ) → AreBytes bytes → length bytes % 4 ≡ 0 → bytes ≡ big_endian (words_in_order true bytes)
high_first_again [] h e = refl
high_first_again (a ∷ []) h e = absurd (let n = no_words 1 e (omega arith) in omega arith)
high_first_again (a ∷ b ∷ []) h e = absurd (let n = no_words 2 e (omega arith) in omega arith)
high_first_again (a ∷ b ∷ c ∷ []) h e = absurd (let n = no_words 3 e (omega arith) in omega arith)
high_first_again (a ∷ b ∷ c ∷ d ∷ bytes) h e =
    let others = high_first_again bytes (rest_bytes a b c d bytes h) (omega arith) in
    ap (λ bs. a ∷ b ∷ c ∷ d ∷ bs) others ∙ ap (λ bs. bs ++ big_endian (words_in_order true bytes)) (sym (high_bytes a b c d (h 0) (h 1) (h 2) (h 3)))

again_by : (b : Bool) (bytes : List ℕ) → AreBytes bytes → length bytes % 4 ≡ 0 → (bytes ≡ little_endian (words_in_order b bytes)) ⊎ (bytes ≡ big_endian (words_in_order b bytes))
again_by true bytes h e = inr (high_first_again bytes h e)
again_by false bytes h e = inl (low_first_again bytes h e)

-- whole words are the bytes again
pub bytes_again : (bytes : List ℕ) → AreBytes bytes → length bytes % 4 ≡ 0 → (bytes ≡ little_endian (words_of bytes)) ⊎ (bytes ≡ big_endian (words_of bytes))
unfolding words_of
bytes_again bytes h e = again_by (is_high_first bytes) bytes h e

-- ---- each word fits

word_fits : (b : Bool) (a c d e : ℕ) → a < 256 → c < 256 → d < 256 → e < 256 → IsWord (word_in_order b a c d e)
word_fits true a c d e p q r s = record { below = omega arith }
word_fits false a c d e p q r s = record { below = omega arith }

in_order_fit : (high : Bool) (bytes : List ℕ) → AreBytes bytes → AllByRecursion IsWord (words_in_order high bytes)
in_order_fit high [] h = tt
in_order_fit high (a ∷ []) h = tt
in_order_fit high (a ∷ b ∷ []) h = tt
in_order_fit high (a ∷ b ∷ c ∷ []) h = tt
in_order_fit high (a ∷ b ∷ c ∷ d ∷ bytes) h = (word_fits high a b c d (h 0) (h 1) (h 2) (h 3), in_order_fit high bytes (rest_bytes a b c d bytes h))

pub words_of-fit : (bytes : List ℕ) → AreBytes bytes → AllByRecursion IsWord (words_of bytes)
unfolding words_of
words_of-fit bytes h = in_order_fit (is_high_first bytes) bytes h

-- ---- the bytes of words

low_words : (ws : List ℕ) → AllByRecursion IsWord ws → words_in_order false (little_endian ws) ≡ ws
low_words [] h = refl
low_words (w ∷ ws) h = ap (λ v. v ∷ words_in_order false (little_endian ws)) (from_le_bytes-to_le_bytes_4 w h.0.below) ∙ ap (λ vs. w ∷ vs) (low_words ws h.1)

high_four : (w : ℕ) → w < 2 ^ 32 → word_of (w % 256) (w / 256 % 256) (w / 65536 % 256) (w / 16777216 % 256) ≡ w
high_four w h = from_le_bytes-to_le_bytes_4 w h

high_words : (ws : List ℕ) → AllByRecursion IsWord ws → words_in_order true (big_endian ws) ≡ ws
high_words [] h = refl
high_words (w ∷ ws) h = ap (λ v. v ∷ words_in_order true (big_endian ws)) (high_four w h.0.below) ∙ ap (λ vs. w ∷ vs) (high_words ws h.1)

-- the magic word shows the order
pub low_first : (ws : List ℕ) → AllByRecursion IsWord ws → words_of (little_endian (MAGIC ∷ ws)) ≡ MAGIC ∷ ws
unfolding words_of
low_first ws h = low_words (MAGIC ∷ ws) (record { below = omega arith }, h)

pub high_first : (ws : List ℕ) → AllByRecursion IsWord ws → words_of (big_endian (MAGIC ∷ ws)) ≡ MAGIC ∷ ws
unfolding words_of
high_first ws h = high_words (MAGIC ∷ ws) (record { below = omega arith }, h)
