-- A spelling is found at its number.
use Rattle.std.proofs.Common.{◌≡◌, ℕ, zero, suc, ◌+◌, ◌<◌, ◌≤◌, Bool, true, false, Option, Some, None, List, [], ◌∷◌, length, get_or, map, drop, length-drop, ◌-◌, refl, sym, ap, ◌∙◌, arith}
use Rattle.std.specs.Prelude.{bytes_eq, if◌then◌else◌, slice_index, slice_index_or, nat_lt}
use Rattle.std.specs.List.{list_all}
use Rattle.std.proofs.lemmas.Bool.{both_ways}
use Rattle.std.proofs.lemmas.List.{get_or-drop}
use Rattle.std.proofs.lemmas.Slice.Eq.{bytes_eq-Decides}
use Rattle.cl_lexer.proofs.Advances.{both_left, both_right}
use Rattle.cl_grammar.specs.declared.terminal.Terminal.{Terminal}
use Rattle.cl_grammar.specs.declared.terminal.Terminal.TheVariants as t
use Rattle.cl_grammar.specs.Words.{words, meaning_among}
use Rattle.cl_grammar.specs.Lookup.{number_of, numbers, shifts, may_be_word}

abbrev Entry : Type 0
Entry = List ℕ × Terminal

abbrev none : Entry
none = ([], t.Name)

-- ---- what was computed of each entry, at one of them

at_map : {B : Type 0} (f g : Entry → B) (es : List Entry) (n : ℕ) → n < length es → map f es ≡ map g es → f (get_or es n none) ≡ g (get_or es n none)
at_map f g [] n h e = absurd (omega (arith, h))
at_map f g (x ∷ es) zero h e = cc
at_map f g (x ∷ es) (suc n) h e = at_map f g es n (omega (arith, h)) (cc)

abbrev counted : ℕ → List Entry → List ℕ
counted k [] = []
counted k (e ∷ es) = k ∷ counted (k + 1) es

at_counted : (f : Entry → ℕ) (es : List Entry) (k n : ℕ) → n < length es → map f es ≡ counted k es → f (get_or es n none) ≡ k + n
at_counted f [] k n h e = absurd (omega (arith, h))
at_counted f (x ∷ es) k zero h e = let here : f x ≡ k = cc in omega arith
at_counted f (x ∷ es) k (suc n) h e = let later : f (get_or es n none) ≡ (k + 1) + n = at_counted f es (k + 1) n (omega (arith, h)) (cc) in omega arith

words_count : length words ≡ 118
unfolding words
words_count = refl

meanings_found : map (λ e. meaning_among words e.0) words ≡ map (λ e. Some e.1) words
unfolding words
meanings_found = refl

numbers_found : map (λ e. number_of e.0) words ≡ counted 0 words
unfolding words number_of numbers shifts
numbers_found = refl

words_may_be : map (λ e. may_be_word e.0) words ≡ map (λ e. true) words
unfolding words
words_may_be = refl

-- ---- a word that has a meaning is one of the entries

record Place (es : List Entry) (word : List ℕ) : Type 0 where
  index : ℕ
  within : index < length es
  is : (get_or es index none).0 ≡ word

place_behind : (x : Entry) (es : List Entry) (word : List ℕ) → Place es word → Place (x ∷ es) word
place_behind x es word p = record { index = suc p.index; within = omega (arith, p.within); is = p.is }

place_step : (x : Entry) (es : List Entry) (word : List ℕ) (m : Terminal) (b : Bool) → bytes_eq x.0 word ≡ b → (if b then Some x.1 else meaning_among es word) ≡ Some m → (meaning_among es word ≡ Some m → Place es word) → Place (x ∷ es) word
place_step x es word m true e means later = record { index = 0; within = omega arith; is = (bytes_eq-Decides x.0 word).0 e }
place_step x es word m false e means later = place_behind x es word (later means)

place_of : (es : List Entry) (word : List ℕ) (m : Terminal) → meaning_among es word ≡ Some m → Place es word
place_of [] word m means = absurd (cc means)
place_of (x ∷ es) word m means = place_step x es word m (bytes_eq x.0 word) refl means (place_of es word m)

-- what holds of no place gives no meaning
nothing : (word : List ℕ) (r : Option Terminal) → meaning_among words word ≡ r → (Place words word → ⊥) → None ≡ meaning_among words word
nothing word None e none_is = sym e
nothing word (Some m) e none_is = absurd (none_is (place_of words word m e))

-- ---- the steps of a look-up

pub word_not : (word : List ℕ) (b : Bool) → b ≡ may_be_word word → b ≡ false → None ≡ meaning_among words word
word_not word b is other = nothing word (meaning_among words word) refl (λ p. both_ways (may_be_word word) (sym is ∙ other) (sym (ap may_be_word p.is) ∙ at_map (λ e. may_be_word e.0) (λ e. true) words p.index p.within words_may_be))

number_at : (n : ℕ) → n < 118 → number_of (get_or words n none).0 ≡ n
number_at n h = at_counted (λ e. number_of e.0) words 0 n (omega (arith, words_count, h)) numbers_found ∙ omega arith

pub word_here : (word spelled : List ℕ) (n : ℕ) (m : Terminal) (b : Bool) → n < 118 → spelled ≡ (slice_index_or words n ([], t.Name)).0 → m ≡ (slice_index_or words n ([], t.Name)).1 → b ≡ bytes_eq spelled word → b ≡ true → Some m ≡ meaning_among words word
word_here word spelled n m b within is means test same =
    let at : meaning_among words (get_or words n none).0 ≡ Some (get_or words n none).1 = at_map (λ e. meaning_among words e.0) (λ e. Some e.1) words n (omega (arith, words_count, within)) meanings_found in
    let word_is : (get_or words n none).0 ≡ word = sym is ∙ (bytes_eq-Decides spelled word).0 (sym test ∙ same) in
    ap Some means ∙ sym at ∙ ap (meaning_among words) word_is

pub word_other : (word spelled : List ℕ) (n : ℕ) (b : Bool) → n ≡ number_of word → spelled ≡ (slice_index_or words n ([], t.Name)).0 → b ≡ bytes_eq spelled word → b ≡ false → None ≡ meaning_among words word
word_other word spelled n b numbered is test other = nothing word (meaning_among words word) refl (λ p.
    let number : n ≡ p.index = numbered ∙ sym (ap number_of p.is) ∙ number_at p.index (omega (arith, words_count, p.within)) in
    let same : spelled ≡ word = is ∙ ap (λ k. (get_or words k none).0) number ∙ p.is in
    both_ways (bytes_eq spelled word) (sym test ∙ other) ((bytes_eq-Decides spelled word).1 same))

-- ---- the numbers

all_within : (ns : List ℕ) (k : ℕ) → list_all (λ n. nat_lt n 118) ns ≡ true → slice_index ns k < 118
all_within [] k h = omega arith
all_within (n ∷ ns) zero h = grind (arith, both_left (nat_lt n 118) (list_all (λ n. nat_lt n 118) ns) h)
all_within (n ∷ ns) (suc k) h = all_within ns k (both_right (nat_lt n 118) (list_all (λ n. nat_lt n 118) ns) h)

numbers_fit : list_all (λ n. nat_lt n 118) numbers ≡ true
unfolding numbers
numbers_fit = refl

pub number_within : (word : List ℕ) → number_of word < 118
unfolding number_of
number_within word = all_within numbers _ numbers_fit

-- ---- the spellings behind the keywords are refused

refused_among : map (λ e. e.1) (drop 71 words) ≡ map (λ e. t.Refused) (drop 71 words)
unfolding words
refused_among = refl

pub refused_words : (n : ℕ) → 71 ≤ n → n < 118 → t.Refused ≡ (slice_index_or words n ([], t.Name)).1
refused_words n past within =
    let at : (get_or (drop 71 words) (n - 71) none).1 ≡ t.Refused = at_map (λ e. e.1) (λ e. t.Refused) (drop 71 words) (n - 71) (omega (arith, length-drop 71 words, words_count, past, within)) refused_among in
    sym at ∙ ap (λ e. e.1) (get_or-drop 71 words (n - 71) none) ∙ ap (λ k. (get_or words k none).1) (omega (arith, past))

pub ruleset word_steps = (word_not, word_other, number_within)
