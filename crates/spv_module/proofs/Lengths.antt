-- Words and bytes of what is joined, and how many there are.
use Rattle.std.proofs.Common.{◌≡◌, ℕ, ◌+◌, ◌*◌, ◌/◌, List, [], ◌∷◌, ◌++◌, length, refl, ap, ◌∙◌, arith, length-append}
use Rattle.std.specs.Int.{w32, to_le_bytes, to_be_bytes}
use Rattle.std.proofs.lemmas.List.Concat.{flat_map-append}
use Rattle.spv_module.specs.declared.module.Module.{Module}
use Rattle.spv_module.specs.declared.module.Inst.{Inst}
use Rattle.spv_module.specs.Words.{string_words, word_count, inst_words, body_words, header_words, module_words, little_endian, big_endian}

-- ---- joined

pub body_words-append : (xs ys : List Inst) → body_words (xs ++ ys) ≡ body_words xs ++ body_words ys
body_words-append = flat_map-append inst_words

pub module_words-append : (version generator bound : ℕ) (xs ys : List Inst) → module_words (record { version = version; generator = generator; bound = bound; body = xs ++ ys }) ≡ module_words (record { version = version; generator = generator; bound = bound; body = xs }) ++ body_words ys
module_words-append version generator bound xs ys = ap (λ ws. header_words (record { version = version; generator = generator; bound = bound; body = xs }) ++ ws) (body_words-append xs ys)

pub little_endian-append : (xs ys : List ℕ) → little_endian (xs ++ ys) ≡ little_endian xs ++ little_endian ys
little_endian-append = flat_map-append (to_le_bytes w32)

pub big_endian-append : (xs ys : List ℕ) → big_endian (xs ++ ys) ≡ big_endian xs ++ big_endian ys
big_endian-append = flat_map-append (to_be_bytes w32)

-- ---- how many

pub length-little_endian : (ws : List ℕ) → length (little_endian ws) ≡ 4 * length ws
length-little_endian [] = refl
length-little_endian (w ∷ ws) = omega (arith, length-little_endian ws)

pub length-big_endian : (ws : List ℕ) → length (big_endian ws) ≡ 4 * length ws
length-big_endian [] = refl
length-big_endian (w ∷ ws) = omega (arith, length-big_endian ws)

pub length-string_words : (s : List ℕ) → length (string_words s) ≡ length s / 4 + 1
length-string_words [] = refl
length-string_words (a ∷ []) = refl
length-string_words (a ∷ b ∷ []) = refl
length-string_words (a ∷ b ∷ c ∷ []) = refl
length-string_words (a ∷ b ∷ c ∷ d ∷ s) = omega (arith, length-string_words s)

pub length-inst_words : (i : Inst) → length (inst_words i) ≡ word_count i
length-inst_words i = omega arith

pub length-body_words-append : (xs ys : List Inst) → length (body_words (xs ++ ys)) ≡ length (body_words xs) + length (body_words ys)
length-body_words-append xs ys = ap length (body_words-append xs ys) ∙ length-append (body_words xs) (body_words ys)

pub length-module_words : (m : Module) → length (module_words m) ≡ 5 + length (body_words m.body)
length-module_words m = omega arith

pub ruleset string_lengths = (length-string_words)
