-- A string that is read is spelled by its words, and one that is spelled is read.
use Rattle.std.proofs.Common.{◌≡◌, ◌≢◌, ℕ, ◌+◌, ◌^◌, ◌/◌, ◌%◌, ◌<◌, ◌==◌, Bool, true, false, cond, ltb, inl, inr, List, [], ◌∷◌, ◌++◌, length, drop, get_or, zero, suc, Option, None, Some, refl, sym, ap, subst, ◌∙◌, arith}
use Rattle.std.specs.Prelude.{IsUtf8, if◌then◌else◌}
use Rattle.std.specs.List.{AllByRecursion}
use Rattle.std.specs.Int.{w32, to_le_bytes}
use Rattle.std.specs.Str.{is_utf8}
use Rattle.std.proofs.lemmas.Bool.{or_right, or_from, or_parts, ne_eqb, eqb-false, and_parts, ltb-true, cases_Bool, cond_both}
use Rattle.std.proofs.lemmas.List.Elements.{All-from_recursion, recursion_from_All}
use Rattle.std.proofs.lemmas.Nat.{le_bytes_4, from_le_bytes-to_le_bytes_4}
use Rattle.std.proofs.lemmas.Str.{IsUtf8-from_is_utf8, is_utf8-from_IsUtf8}
use lib.Utf8.{scalar, scalars, encode, encodes, next, scalar_cases}
use Rattle.spv_module.specs.Grammar.{is_among}
use Rattle.spv_module.specs.Words.{word_of, string_words, IsString, IsNotZero, IsWord}
use Rattle.spv_binary.specs.Faults.{has_zero, string_len}
use Rattle.spv_binary.specs.Reading.{last_bytes, before, bytes_at, if_text, string_at}
use Rattle.spv_binary.proofs.Strings.{len-last, len-inner, bytes-last, bytes-inner}

-- ---- bytes of strings

pub record IsTextByte (b : ℕ) : Type 0 where
  pub other : b ≢ 0
  pub below : b < 256

record IsByte (b : ℕ) : Type 0 where
  below : b < 256

bytes-append : (xs ys : List ℕ) → AllByRecursion IsByte xs → AllByRecursion IsByte ys → AllByRecursion IsByte (xs ++ ys)
bytes-append [] ys p q = q
bytes-append (x ∷ xs) ys p q = (p.0, bytes-append xs ys p.1 q)

-- the bytes of a character
encode_bytes : (c : ℕ) → scalar c ≡ true → AllByRecursion IsByte (encode c)
unfolding encode
encode_bytes c h =
    let small : c < 1114112 = elim (scalar_cases c h) [ inl a ↦ omega arith | inr b ↦ b.1 ] in
    let two = (192 + c / 64) ∷ next c ∷ [] in
    let three = (224 + c / 4096) ∷ next (c / 64) ∷ next c ∷ [] in
    let four = (240 + c / 262144) ∷ next (c / 4096) ∷ next (c / 64) ∷ next c ∷ [] in
    cond_both (ltb c 128) (c ∷ []) (cond (ltb c 2048) two (cond (ltb c 65536) three four)) (AllByRecursion IsByte)
    (λ e. let a = ltb-true c 128 e in (record { below = omega arith }, tt))
    (λ e. cond_both (ltb c 2048) two (cond (ltb c 65536) three four) (AllByRecursion IsByte)
    (λ f. let a = ltb-true c 2048 f in (record { below = omega arith }, (record { below = omega arith }, tt)))
    (λ f. cond_both (ltb c 65536) three four (AllByRecursion IsByte)
    (λ g. let a = ltb-true c 65536 g in (record { below = omega arith }, (record { below = omega arith }, (record { below = omega arith }, tt))))
    (λ g. (record { below = omega arith }, (record { below = omega arith }, (record { below = omega arith }, (record { below = omega arith }, tt)))))))

encodes_bytes : (cs : List ℕ) → scalars cs ≡ true → AllByRecursion IsByte (encodes cs)
encodes_bytes [] h = tt
encodes_bytes (c ∷ cs) h = let parts = and_parts (scalar c) (scalars cs) h in bytes-append (encode c) (encodes cs) (encode_bytes c parts.0) (encodes_bytes cs parts.1)

utf8_bytes : (s : List ℕ) → IsUtf8 s → AllByRecursion IsByte s
utf8_bytes s u = subst (AllByRecursion IsByte) u.1.1 (encodes_bytes u.0 u.1.0)

both : (s : List ℕ) → AllByRecursion IsByte s → AllByRecursion IsNotZero s → AllByRecursion IsTextByte s
both [] p q = tt
both (b ∷ s) p q = (record { other = q.0.other; below = p.0.below }, both s p.1 q.1)

no_zeros : (s : List ℕ) → AllByRecursion IsTextByte s → AllByRecursion IsNotZero s
no_zeros [] p = tt
no_zeros (b ∷ s) p = (record { other = p.0.other }, no_zeros s p.1)

pub IsString-bytes : (s : List ℕ) → IsString s → AllByRecursion IsTextByte s
IsString-bytes s h = both s (utf8_bytes s h.utf8) (recursion_from_All IsNotZero s h.no_zero)

-- ---- a word and its four bytes

below : (a b c d : ℕ) → a < 256 → b < 256 → c < 256 → d < 256 → (i : ℕ) → get_or (a ∷ b ∷ c ∷ d ∷ []) i 0 < 256
below a b c d p q r s zero = p
below a b c d p q r s (suc zero) = q
below a b c d p q r s (suc (suc zero)) = r
below a b c d p q r s (suc (suc (suc zero))) = s
below a b c d p q r s (suc (suc (suc (suc i)))) = omega arith

bytes_of_word : (a b c d : ℕ) → a < 256 → b < 256 → c < 256 → d < 256 → to_le_bytes w32 (word_of a b c d) ≡ a ∷ b ∷ c ∷ d ∷ []
bytes_of_word a b c d p q r s = le_bytes_4 (a ∷ b ∷ c ∷ d ∷ []) (word_of a b c d) refl (below a b c d p q r s) refl

has_zero-by : (w : ℕ) (bs : List ℕ) → to_le_bytes w32 w ≡ bs → has_zero w ≡ is_among bs 0
unfolding has_zero
has_zero-by w bs e = ap (λ (cs : List ℕ). is_among cs 0) e

zero_last : (a b c : ℕ) → true ≡ is_among (a ∷ b ∷ c ∷ 0 ∷ []) 0
zero_last a b c = sym (or_right (a == 0) _ (or_right (b == 0) _ (or_right (c == 0) _ refl)))

no_zero_among : (a b c d : ℕ) → a ≢ 0 → b ≢ 0 → c ≢ 0 → d ≢ 0 → false ≡ is_among (a ∷ b ∷ c ∷ d ∷ []) 0
no_zero_among a b c d p q r s = sym (or_from (a == 0) _ (ne_eqb a 0 p) (or_from (b == 0) _ (ne_eqb b 0 q) (or_from (c == 0) _ (ne_eqb c 0 r) (or_from (d == 0) _ (ne_eqb d 0 s) refl))))

-- ---- what is spelled is read

last_word : (a b c : ℕ) (s rest : List ℕ) → a < 256 → b < 256 → c < 256 → last_bytes (a ∷ b ∷ c ∷ 0 ∷ []) ≡ Some s → (bytes_at (word_of a b c 0 ∷ rest) ≡ Some s) × (string_len (word_of a b c 0 ∷ rest) ≡ 1)
last_word a b c s rest p q r e =
    let four = bytes_of_word a b c 0 p q r (omega arith) in
    let zero_there : true ≡ has_zero (word_of a b c 0) = zero_last a b c ∙ sym (has_zero-by (word_of a b c 0) (a ∷ b ∷ c ∷ 0 ∷ []) four) in
    (bytes-last (word_of a b c 0) rest zero_there ∙ ap last_bytes four ∙ e, len-last (word_of a b c 0) rest zero_there)

pub bytes_again : (s rest : List ℕ) → AllByRecursion IsTextByte s → (bytes_at (string_words s ++ rest) ≡ Some s) × (string_len (string_words s ++ rest) ≡ length (string_words s))
bytes_again [] rest h = last_word 0 0 0 [] rest (omega arith) (omega arith) (omega arith) refl
bytes_again (zero ∷ s) rest h = absurd (h.0.other refl)
bytes_again (suc a ∷ []) rest h = last_word (suc a) 0 0 (suc a ∷ []) rest h.0.below (omega arith) (omega arith) refl
bytes_again (suc a ∷ zero ∷ s) rest h = absurd (h.1.0.other refl)
bytes_again (suc a ∷ suc b ∷ []) rest h = last_word (suc a) (suc b) 0 (suc a ∷ suc b ∷ []) rest h.0.below h.1.0.below (omega arith) refl
bytes_again (suc a ∷ suc b ∷ zero ∷ s) rest h = absurd (h.1.1.0.other refl)
bytes_again (suc a ∷ suc b ∷ suc c ∷ []) rest h = last_word (suc a) (suc b) (suc c) (suc a ∷ suc b ∷ suc c ∷ []) rest h.0.below h.1.0.below h.1.1.0.below refl
bytes_again (suc a ∷ suc b ∷ suc c ∷ d ∷ s) rest h =
    let w = word_of (suc a) (suc b) (suc c) d in
    let four = bytes_of_word (suc a) (suc b) (suc c) d h.0.below h.1.0.below h.1.1.0.below h.1.1.1.0.below in
    let inner : false ≡ has_zero w = no_zero_among (suc a) (suc b) (suc c) d h.0.other h.1.0.other h.1.1.0.other h.1.1.1.0.other ∙ sym (has_zero-by w (suc a ∷ suc b ∷ suc c ∷ d ∷ []) four) in
    let others = bytes_again s rest h.1.1.1.1 in (
      bytes-inner w (string_words s ++ rest) inner ∙ ap (λ bs. before bs (bytes_at (string_words s ++ rest))) four ∙ ap (before (suc a ∷ suc b ∷ suc c ∷ d ∷ [])) others.0,
      len-inner w (string_words s ++ rest) inner ∙ ap suc others.1,
    )

pub string_again : (s rest : List ℕ) → IsString s → string_at (string_words s ++ rest) ≡ Some s
unfolding string_at
string_again s rest h = ap if_text (bytes_again s rest (IsString-bytes s h)).0 ∙ ap (λ (b : Bool). if b then Some s else None) (is_utf8-from_IsUtf8 s h.utf8)

pub string_len_again : (s rest : List ℕ) → IsString s → string_len (string_words s ++ rest) ≡ length (string_words s)
string_len_again s rest h = (bytes_again s rest (IsString-bytes s h)).1

-- ---- what is read is spelled

abbrev Spelled : List ℕ → List ℕ → Type 0
Spelled s words = AllByRecursion IsTextByte s × (string_words s ≡ words)

last_spelled : (a b c d : ℕ) (s : List ℕ) → a < 256 → b < 256 → c < 256 → last_bytes (a ∷ b ∷ c ∷ d ∷ []) ≡ Some s → Spelled s (word_of a b c d ∷ [])
last_spelled zero zero zero zero s p q r e = let same : [] ≡ s = cc in subst (λ t. Spelled t (0 ∷ [])) same (tt, refl)
last_spelled zero zero zero (suc d) s p q r e = absurd (cc)
last_spelled zero zero (suc c) d s p q r e = absurd (cc)
last_spelled zero (suc b) c d s p q r e = absurd (cc)
last_spelled (suc a) zero zero zero s p q r e = let same : suc a ∷ [] ≡ s = cc in subst (λ t. Spelled t (word_of (suc a) 0 0 0 ∷ [])) same ((record { other = omega arith; below = p }, tt), refl)
last_spelled (suc a) zero zero (suc d) s p q r e = absurd (cc)
last_spelled (suc a) zero (suc c) d s p q r e = absurd (cc)
last_spelled (suc a) (suc b) zero zero s p q r e = let same : suc a ∷ suc b ∷ [] ≡ s = cc in subst (λ t. Spelled t (word_of (suc a) (suc b) 0 0 ∷ [])) same ((record { other = omega arith; below = p }, (record { other = omega arith; below = q }, tt)), refl)
last_spelled (suc a) (suc b) zero (suc d) s p q r e = absurd (cc)
last_spelled (suc a) (suc b) (suc c) zero s p q r e = let same : suc a ∷ suc b ∷ suc c ∷ [] ≡ s = cc in subst (λ t. Spelled t (word_of (suc a) (suc b) (suc c) 0 ∷ [])) same ((record { other = omega arith; below = p }, (record { other = omega arith; below = q }, (record { other = omega arith; below = r }, tt))), refl)
last_spelled (suc a) (suc b) (suc c) (suc d) s p q r e = absurd (cc)

word_is : (w : ℕ) → w < 2 ^ 32 → word_of (w % 256) (w / 256 % 256) (w / 65536 % 256) (w / 16777216 % 256) ≡ w
word_is w h = from_le_bytes-to_le_bytes_4 w h

last_word_spelled : (w : ℕ) (s : List ℕ) → w < 2 ^ 32 → last_bytes (to_le_bytes w32 w) ≡ Some s → Spelled s (w ∷ [])
last_word_spelled w s h e =
    let four = last_spelled (w % 256) (w / 256 % 256) (w / 65536 % 256) (w / 16777216 % 256) s (omega arith) (omega arith) (omega arith) e in
    (four.0, four.1 ∙ ap (λ v. v ∷ []) (word_is w h))

-- a word with no zero byte, and the string behind it
inner_spelled : (w : ℕ) (s words : List ℕ) → w < 2 ^ 32 → has_zero w ≡ false → Spelled s words → Spelled (to_le_bytes w32 w ++ s) (w ∷ words)
inner_spelled w s words h z p =
    let a = w % 256 in
    let b = w / 256 % 256 in
    let c = w / 65536 % 256 in
    let d = w / 16777216 % 256 in
    let none : is_among (a ∷ b ∷ c ∷ d ∷ []) 0 ≡ false = sym (has_zero-by w (a ∷ b ∷ c ∷ d ∷ []) refl) ∙ z in
    let e1 = or_parts (a == 0) _ none in
    let e2 = or_parts (b == 0) _ e1.1 in
    let e3 = or_parts (c == 0) _ e2.1 in
    let e4 = or_parts (d == 0) _ e3.1 in
    let byte_a : IsTextByte a = record { other = eqb-false a 0 e1.0; below = omega arith } in
    let byte_b : IsTextByte b = record { other = eqb-false b 0 e2.0; below = omega arith } in
    let byte_c : IsTextByte c = record { other = eqb-false c 0 e3.0; below = omega arith } in
    let byte_d : IsTextByte d = record { other = eqb-false d 0 e4.0; below = omega arith } in
    ((byte_a, (byte_b, (byte_c, (byte_d, p.0)))), ap (λ v. v ∷ string_words s) (word_is w h) ∙ ap (λ ws. w ∷ ws) p.1)

-- the words that the string takes, where there is one
before_some : (bs : List ℕ) (o : Option (List ℕ)) (s : List ℕ) → before bs o ≡ Some s → (t : List ℕ) × (o ≡ Some t) × (bs ++ t ≡ s)
before_some bs None s e = absurd (cc)
before_some bs (Some t) s e = (t, refl, cc)

pub bytes_take : (ws : List ℕ) (s : List ℕ) → AllByRecursion IsWord ws → bytes_at ws ≡ Some s → AllByRecursion IsTextByte s × (ws ≡ string_words s ++ drop (string_len ws) ws)
bytes_take [] s h e = absurd (cc)
bytes_take (w ∷ ws) s h e =
    elim (cases_Bool (has_zero w)) [
      | inl z ↦
          let p = last_word_spelled w s h.0.below (sym (bytes-last w ws (sym z)) ∙ e) in
          (p.0, ap (λ vs. vs ++ ws) (sym p.1) ∙ ap (λ n. string_words s ++ drop n (w ∷ ws)) (sym (len-last w ws (sym z))))
      | inr z ↦
          let t = before_some (to_le_bytes w32 w) (bytes_at ws) s (sym (bytes-inner w ws (sym z)) ∙ e) in
          let others = bytes_take ws t.0 h.1 t.1 in
          let p = inner_spelled w t.0 (string_words t.0) h.0.below z (others.0, refl) in
          let whole : w ∷ ws ≡ string_words (to_le_bytes w32 w ++ t.0) ++ drop (string_len (w ∷ ws)) (w ∷ ws) =
          ap (λ vs. w ∷ vs) others.1 ∙ ap (λ vs. vs ++ drop (string_len ws) ws) (sym p.1) ∙ ap (λ n. string_words (to_le_bytes w32 w ++ t.0) ++ drop n (w ∷ ws)) (sym (len-inner w ws (sym z))) in
          subst (λ r. AllByRecursion IsTextByte r × (w ∷ ws ≡ string_words r ++ drop (string_len (w ∷ ws)) (w ∷ ws))) t.2 (p.0, whole)
    ]

text_guard : (b : Bool) (t s : List ℕ) → (if b then Some t else None) ≡ Some s → (Some t ≡ Some s) × (b ≡ true) × (t ≡ s)
text_guard true t s e = (e, refl, cc)
text_guard false t s e = absurd (cc)

text_some : (o : Option (List ℕ)) (s : List ℕ) → if_text o ≡ Some s → (o ≡ Some s) × (is_utf8 s ≡ true)
text_some None s e = absurd (cc)
text_some (Some t) s e = let g = text_guard (is_utf8 t) t s e in (g.0, ap is_utf8 (sym g.2) ∙ g.1)

pub string_takes : (ws s : List ℕ) → AllByRecursion IsWord ws → string_at ws ≡ Some s → IsString s × (ws ≡ string_words s ++ drop (string_len ws) ws)
unfolding string_at
string_takes ws s h e =
    let t = text_some (bytes_at ws) s e in
    let p = bytes_take ws s h t.0 in
    (record { utf8 = IsUtf8-from_is_utf8 s t.1; no_zero = All-from_recursion IsNotZero s (no_zeros s p.0) }, p.1)

-- where none is read, none is spelled
pub no_string : (ws s others : List ℕ) → string_at ws ≡ None → IsString s → ws ≡ string_words s ++ others → ⊥
no_string ws s others e h is = let again : None ≡ Some s = sym e ∙ ap string_at is ∙ string_again s others h in absurd (cc)
