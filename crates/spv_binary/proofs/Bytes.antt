-- Bytes of words that are put one after the other.
use Rattle.std.proofs.Common.{◌≡◌, ℕ, ◌<◌, ◌%◌, List, [], ◌∷◌, ◌++◌, length, drop, get_or, refl, ap, ◌∙◌, arith, zero, suc}
use Rattle.std.specs.Int.{w32, to_le_bytes}
use Rattle.std.proofs.lemmas.Nat.{le_bytes_4}
use Rattle.spv_module.specs.Words.{string_words, word_of, little_endian}
use Rattle.spv_module.proofs.Lengths.{little_endian-append, length-string_words}

pub ruleset string_lengths = (length-string_words)

pub ruleset joined = (little_endian-append)

-- ---- a string's bytes

below : (a b c d : ℕ) → a < 256 → b < 256 → c < 256 → d < 256 → (i : ℕ) → get_or (a ∷ b ∷ c ∷ d ∷ []) i 0 < 256
below a b c d p q r s zero = p
below a b c d p q r s (suc zero) = q
below a b c d p q r s (suc (suc zero)) = r
below a b c d p q r s (suc (suc (suc zero))) = s
below a b c d p q r s (suc (suc (suc (suc i)))) = omega arith

-- the bytes of the word that four bytes make
word_bytes : (a b c d : ℕ) → a < 256 → b < 256 → c < 256 → d < 256 → to_le_bytes w32 (word_of a b c d) ≡ a ∷ b ∷ c ∷ d ∷ []
word_bytes a b c d p q r s = le_bytes_4 (a ∷ b ∷ c ∷ d ∷ []) (word_of a b c d) refl (below a b c d p q r s) refl

-- A string's words are its bytes and one to four zero bytes.
pub string_bytes : (s : List ℕ) → ((i : ℕ) → get_or s i 0 < 256) → little_endian (string_words s) ≡ s ++ drop (length s % 4) (0 ∷ 0 ∷ 0 ∷ 0 ∷ [])
string_bytes [] h = refl
string_bytes (a ∷ []) h = ap (λ bs. bs ++ []) (word_bytes a 0 0 0 (h 0) (omega arith) (omega arith) (omega arith))
string_bytes (a ∷ b ∷ []) h = ap (λ bs. bs ++ []) (word_bytes a b 0 0 (h 0) (h 1) (omega arith) (omega arith))
string_bytes (a ∷ b ∷ c ∷ []) h = ap (λ bs. bs ++ []) (word_bytes a b c 0 (h 0) (h 1) (h 2) (omega arith))
string_bytes (a ∷ b ∷ c ∷ d ∷ s) h =
    let same : length s % 4 ≡ suc (suc (suc (suc (length s)))) % 4 = omega arith in
    ap (λ bs. bs ++ little_endian (string_words s)) (word_bytes a b c d (h 0) (h 1) (h 2) (h 3))
    ∙ ap (λ bs. a ∷ b ∷ c ∷ d ∷ bs) (string_bytes s (λ i. h (suc (suc (suc (suc i))))))
    ∙ ap (λ k. a ∷ b ∷ c ∷ d ∷ (s ++ drop k (0 ∷ 0 ∷ 0 ∷ 0 ∷ []))) same
