-- The words of a line of printable ASCII are names, and a name is UTF-8.
use Rattle.std.proofs.Common.{◌≡◌, ℕ, ◌<◌, Bool, true, false, cond, List, [], ◌∷◌, refl, arith}
use Rattle.std.specs.Prelude.{All, IsUtf8, filter}
use Rattle.std.specs.List.{list_all, slice_split, onto_first}
use Rattle.std.proofs.lemmas.Bool.{and_parts}
use Rattle.std.proofs.lemmas.Bool.Decides.{nat_tests}
use Rattle.std.proofs.lemmas.List.Elements.{All-nil, All-cons, All-head, All-tail, All-weaker}
use Rattle.std.proofs.lemmas.Str.{IsUtf8-from_ascii}
use Rattle.std.proofs.lemmas.Str.Ascii.{IsAscii-from_all}
use Rattle.launch_text.specs.Lines.{is_blank, is_word, words_of}
use Rattle.launch_text.specs.Readable.{IsVisible, IsName}
use Rattle.launch_text.specs.Said.{is_text}

pub name_utf8 : (name : List ℕ) → IsName name → IsUtf8 name
name_utf8 name h = IsUtf8-from_ascii name (IsAscii-from_all name (All-weaker IsVisible (λ b. b < 128) (λ b v. (let last = v.last in omega (arith, last))) name h.visible))

pub names_utf8 : (names : List (List ℕ)) → All IsName names → All IsUtf8 names
names_utf8 = All-weaker IsName IsUtf8 name_utf8

abbrev AreVisible : List ℕ → Type 0
AreVisible = All IsVisible

visible : (b : ℕ) → is_text b ≡ true → is_blank b ≡ false → IsVisible b
visible b text blank = record { first = grind (arith, nat_tests); last = grind (arith, nat_tests) }

onto_visible : (b : ℕ) (parts : List (List ℕ)) → IsVisible b → All AreVisible parts → All AreVisible (onto_first b parts)
onto_visible b [] v h = All-cons AreVisible (b ∷ []) [] (All-cons IsVisible b [] v (All-nil IsVisible)) h
onto_visible b (part ∷ parts) v h = All-cons AreVisible (b ∷ part) parts (All-cons IsVisible b part v (All-head AreVisible part parts h)) (All-tail AreVisible part parts h)

parts_if : (b : ℕ) (parts : List (List ℕ)) (blank : Bool) → (blank ≡ false → IsVisible b) → All AreVisible parts → All AreVisible (cond blank ([] ∷ parts) (onto_first b parts))
parts_if b parts true v h = All-cons AreVisible [] parts (All-nil IsVisible) h
parts_if b parts false v h = onto_visible b parts (v refl) h

parts_visible : (line : List ℕ) → list_all is_text line ≡ true → All AreVisible (slice_split is_blank line)
parts_visible [] e = All-cons AreVisible [] [] (All-nil IsVisible) (All-nil AreVisible)
parts_visible (b ∷ bs) e =
    let p = and_parts (is_text b) (list_all is_text bs) e in
    parts_if b (slice_split is_blank bs) (is_blank b) (visible b p.0) (parts_visible bs p.1)

words_named : (parts : List (List ℕ)) → All AreVisible parts → All IsName (filter is_word parts)
words_named [] h = All-nil IsName
words_named ([] ∷ parts) h = words_named parts (All-tail AreVisible [] parts h)
words_named ((b ∷ bs) ∷ parts) h = All-cons IsName (b ∷ bs) (filter is_word parts) (record { some = omega arith; visible = All-head AreVisible (b ∷ bs) parts h }) (words_named parts (All-tail AreVisible (b ∷ bs) parts h))

pub words_are_names : (line : List ℕ) → list_all is_text line ≡ true → All IsName (words_of line)
words_are_names line e = words_named (slice_split is_blank line) (parts_visible line e)
