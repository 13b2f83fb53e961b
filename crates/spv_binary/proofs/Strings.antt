-- Strings word by word.
use Rattle.std.proofs.Common.{◌≡◌, ℕ, ◌+◌, ◌<◌, Bool, true, false, List, ◌∷◌, ◌++◌, length, get_or, drop, suc, Option, None, Some, refl, sym, ap, ◌∙◌, append_assoc, add-one, drop-cons}
use Rattle.std.specs.Prelude.{IsUtf8, if◌then◌else◌}
use Rattle.std.specs.Int.{w32, to_le_bytes}
use Rattle.std.specs.Str.{is_utf8}
use Rattle.std.proofs.lemmas.Str.{IsUtf8-from_is_utf8, is_utf8-from_IsUtf8}
use Rattle.spv_binary.specs.Faults.{has_zero, string_len}
use Rattle.spv_binary.specs.Reading.{last_bytes, before, bytes_at}

-- ---- UTF-8

one_way : (b : Bool) → (b ≡ true → ⊥) → false ≡ b
one_way true h = absurd (h refl)
one_way false h = refl

pub is_text : (bs : List ℕ) → IsUtf8 bs → true ≡ is_utf8 bs
is_text bs h = sym (is_utf8-from_IsUtf8 bs h)

pub no_text : (bs : List ℕ) → (IsUtf8 bs → ⊥) → false ≡ is_utf8 bs
no_text bs h = one_way (is_utf8 bs) (λ e. h (IsUtf8-from_is_utf8 bs e))

pub ruleset text_tests = (is_text, no_text)

-- ---- how many words

pub len-last : (w : ℕ) (ws : List ℕ) → true ≡ has_zero w → string_len (w ∷ ws) ≡ 1
len-last w ws z = ap (λ (b : Bool). if b then 1 else suc (string_len ws)) (sym z)

pub len-inner : (w : ℕ) (ws : List ℕ) → false ≡ has_zero w → string_len (w ∷ ws) ≡ suc (string_len ws)
len-inner w ws z = ap (λ (b : Bool). if b then 1 else suc (string_len ws)) (sym z)

pub ends_here : (ws : List ℕ) (i w : ℕ) → i < length ws → w ≡ get_or ws i 0 → true ≡ has_zero w → string_len (drop i ws) ≡ 1
ends_here ws i w h e z = ap string_len (drop-cons ws i 0 h) ∙ len-last (get_or ws i 0) (drop (suc i) ws) (z ∙ ap has_zero e)

pub goes_on : (ws : List ℕ) (i w : ℕ) → i < length ws → w ≡ get_or ws i 0 → false ≡ has_zero w → string_len (drop i ws) ≡ suc (string_len (drop (i + 1) ws))
goes_on ws i w h e z = rw add-one (ap string_len (drop-cons ws i 0 h) ∙ len-inner (get_or ws i 0) (drop (suc i) ws) (z ∙ ap has_zero e))

pub ruleset len_steps = (ends_here, goes_on)

-- ---- the bytes

pub bytes-last : (w : ℕ) (ws : List ℕ) → true ≡ has_zero w → bytes_at (w ∷ ws) ≡ last_bytes (to_le_bytes w32 w)
bytes-last w ws z = ap (λ (b : Bool). if b then last_bytes (to_le_bytes w32 w) else before (to_le_bytes w32 w) (bytes_at ws)) (sym z)

pub bytes-inner : (w : ℕ) (ws : List ℕ) → false ≡ has_zero w → bytes_at (w ∷ ws) ≡ before (to_le_bytes w32 w) (bytes_at ws)
bytes-inner w ws z = ap (λ (b : Bool). if b then last_bytes (to_le_bytes w32 w) else before (to_le_bytes w32 w) (bytes_at ws)) (sym z)

before-before : (a b : List ℕ) (o : Option (List ℕ)) → before a (before b o) ≡ before (a ++ b) o
before-before a b None = refl
before-before a b (Some c) = ap Some (sym (append_assoc a b c))

pub text_ends : (text : List ℕ) (ws : List ℕ) (i w : ℕ) (all : Option (List ℕ)) → i < length ws → w ≡ get_or ws i 0 → true ≡ has_zero w → before text (bytes_at (drop i ws)) ≡ all → before text (last_bytes (to_le_bytes w32 w)) ≡ all
text_ends text ws i w all h e z so_far = ap (λ v. before text (last_bytes (to_le_bytes w32 v))) e ∙ ap (before text) (sym (bytes-last (get_or ws i 0) (drop (suc i) ws) (z ∙ ap has_zero e))) ∙ ap (λ vs. before text (bytes_at vs)) (sym (drop-cons ws i 0 h)) ∙ so_far

pub text_goes_on : (text : List ℕ) (ws : List ℕ) (i w : ℕ) (all : Option (List ℕ)) → i < length ws → w ≡ get_or ws i 0 → false ≡ has_zero w → before text (bytes_at (drop i ws)) ≡ all → before (text ++ to_le_bytes w32 w) (bytes_at (drop (i + 1) ws)) ≡ all
text_goes_on text ws i w all h e z so_far =
    let whole : bytes_at (drop i ws) ≡ before (to_le_bytes w32 w) (bytes_at (drop (suc i) ws)) = ap bytes_at (drop-cons ws i 0 h) ∙ bytes-inner (get_or ws i 0) (drop (suc i) ws) (z ∙ ap has_zero e) ∙ ap (λ v. before (to_le_bytes w32 v) (bytes_at (drop (suc i) ws))) (sym e) in
    rw add-one (sym (before-before text (to_le_bytes w32 w) (bytes_at (drop (suc i) ws))) ∙ ap (before text) (sym whole) ∙ so_far)

pub ruleset byte_steps = (text_ends, text_goes_on)
