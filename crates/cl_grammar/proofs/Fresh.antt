-- A name that no typedef declared.
use Rattle.std.proofs.Common.{◌≡◌, ℕ, zero, suc, ◌+◌, ◌^◌, ◌<◌, ◌≤◌, Bool, true, false, Option, Some, None, List, [], ◌∷◌, length, map, refl, sym, ap, ◌∙◌, arith}
use Rattle.std.specs.Prelude.{bytes_eq, if◌then◌else◌, nat_eq, nat_lt, nat_le, ◌&&◌, ◌||◌, unwrap_or}
use Rattle.std.proofs.lemmas.Bool.Decides.{nat_tests}
use Rattle.std.proofs.lemmas.List.{length-map}
use Rattle.std.proofs.Math.Nat.{pow-suc}
use Rattle.cl_grammar.specs.declared.names.TypeName.{TypeName}
use Rattle.cl_grammar.specs.declared.terminal.Terminal.TheVariants as t
use Rattle.cl_grammar.specs.Words.{words, meaning_among, terminal_of_word, is_image}
use Rattle.cl_grammar.specs.Lookup.{may_be_word}
use Rattle.cl_grammar.specs.Lexemes.{vector_of}
use Rattle.cl_grammar.proofs.Words.{word_not}

-- whether a name is one of these
abbrev pub among : List ℕ → List (List ℕ) → Bool
among name [] = false
among name (n ∷ ns) = bytes_eq name n || among name ns

-- those that begin with a byte, without it
abbrev pub behind : ℕ → List (List ℕ) → List (List ℕ)
behind c [] = []
behind c ([] ∷ ns) = behind c ns
behind c ((b ∷ bs) ∷ ns) = if nat_eq c b then bs ∷ behind c ns else behind c ns

among_step : (c : ℕ) (s bs : List ℕ) (ns : List (List ℕ)) (same : Bool) → among (c ∷ s) ns ≡ among s (behind c ns) → ((same && bytes_eq s bs) || among (c ∷ s) ns) ≡ among s (if same then bs ∷ behind c ns else behind c ns)
among_step c s bs ns true e = ap (λ r. bytes_eq s bs || r) e
among_step c s bs ns false e = e

among_behind : (c : ℕ) (s : List ℕ) (ns : List (List ℕ)) → among (c ∷ s) ns ≡ among s (behind c ns)
among_behind c s [] = refl
among_behind c s ([] ∷ ns) = among_behind c s ns
among_behind c s ((b ∷ bs) ∷ ns) = among_step c s bs ns (nat_eq c b) (among_behind c s ns)

halves_step : (a b : Bool) (bs : List ℕ) (us vs ns : List (List ℕ)) → (a ≡ true → b ≡ true → ⊥) → length us + length vs ≤ length ns → length (if a then bs ∷ us else us) + length (if b then bs ∷ vs else vs) ≤ suc (length ns)
halves_step true true bs us vs ns apart h = absurd (apart refl refl)
halves_step true false bs us vs ns apart h = omega (arith, h)
halves_step false true bs us vs ns apart h = omega (arith, h)
halves_step false false bs us vs ns apart h = omega (arith, h)

not_both : (x : ℕ) → nat_eq 97 x ≡ true → nat_eq 98 x ≡ true → ⊥
not_both x p q = grind (arith, nat_tests)

halves : (ns : List (List ℕ)) → length (behind 97 ns) + length (behind 98 ns) ≤ length ns
halves [] = omega arith
halves ([] ∷ ns) = omega (arith, halves ns)
halves ((b ∷ bs) ∷ ns) = halves_step (nat_eq 97 b) (nat_eq 98 b) bs (behind 97 ns) (behind 98 ns) ns (not_both b) (halves ns)

-- a name of so many letters that is not among others: each letter leaves the lesser half of them
abbrev pub pick : ℕ → List (List ℕ) → List ℕ
pick zero ns = []
pick (suc n) ns = if nat_le (length (behind 97 ns)) (length (behind 98 ns)) then 97 ∷ pick n (behind 97 ns) else 98 ∷ pick n (behind 98 ns)

pick_length_step : (n : ℕ) (b : Bool) (us vs : List ℕ) → length us ≡ n → length vs ≡ n → length (if b then 97 ∷ us else 98 ∷ vs) ≡ suc n
pick_length_step n true us vs p q = omega (arith, p)
pick_length_step n false us vs p q = omega (arith, q)

pick_length : (n : ℕ) (ns : List (List ℕ)) → length (pick n ns) ≡ n
pick_length zero ns = refl
pick_length (suc n) ns = pick_length_step n (nat_le (length (behind 97 ns)) (length (behind 98 ns))) (pick n (behind 97 ns)) (pick n (behind 98 ns)) (pick_length n (behind 97 ns)) (pick_length n (behind 98 ns))

none_among : (s : List ℕ) (ns : List (List ℕ)) → length ns < 1 → among s ns ≡ false
none_among s [] h = refl
none_among s (n ∷ ns) h = absurd (omega (arith, h))

doubled : (n : ℕ) → 2 ^ suc n ≡ 2 ^ n + 2 ^ n
doubled n = pow-suc 2 n ∙ omega arith

pick_step : (n : ℕ) (ns : List (List ℕ)) (b : Bool) → nat_le (length (behind 97 ns)) (length (behind 98 ns)) ≡ b → length ns < 2 ^ suc n
    → (length (behind 97 ns) < 2 ^ n → among (pick n (behind 97 ns)) (behind 97 ns) ≡ false) → (length (behind 98 ns) < 2 ^ n → among (pick n (behind 98 ns)) (behind 98 ns) ≡ false)
    → among (if b then 97 ∷ pick n (behind 97 ns) else 98 ∷ pick n (behind 98 ns)) ns ≡ false
pick_step n ns true e h p q = among_behind 97 (pick n (behind 97 ns)) ns ∙ p (let le : length (behind 97 ns) ≤ length (behind 98 ns) = grind (arith, nat_tests, e) in omega (arith, halves ns, doubled n, h))
pick_step n ns false e h p q = among_behind 98 (pick n (behind 98 ns)) ns ∙ q (let gt : length (behind 98 ns) < length (behind 97 ns) = grind (arith, nat_tests, e) in omega (arith, halves ns, doubled n, h))

not_among : (n : ℕ) (ns : List (List ℕ)) → length ns < 2 ^ n → among (pick n ns) ns ≡ false
not_among zero ns h = none_among [] ns h
not_among (suc n) ns h = pick_step n ns (nat_le (length (behind 97 ns)) (length (behind 98 ns))) refl h (not_among n (behind 97 ns)) (not_among n (behind 98 ns))

abbrev text_of : TypeName → List ℕ
text_of n = n.name

-- `z` and 64 letters
unfoldable pub fresh_name : List TypeName → List ℕ
fresh_name names = 122 ∷ pick 64 (behind 122 (map text_of names))

not_declared_step : (b : Bool) (v : Bool) (r : Option Bool) (more : Bool) → (b || more) ≡ false → (more ≡ false → r ≡ None) → (if b then Some v else r) ≡ None
not_declared_step true v r more e later = absurd (cc e)
not_declared_step false v r more e later = later e

not_declared : (names : List TypeName) (name : List ℕ) → among name (map text_of names) ≡ false → vector_of names name ≡ None
not_declared [] name h = refl
not_declared (n ∷ ns) name h = not_declared_step (bytes_eq name n.name) n.vector (vector_of ns name) (among name (map text_of ns)) h (not_declared ns name)

behind_length_step : (b : Bool) (bs : List ℕ) (us ns : List (List ℕ)) → length us ≤ length ns → length (if b then bs ∷ us else us) ≤ suc (length ns)
behind_length_step true bs us ns h = omega (arith, h)
behind_length_step false bs us ns h = omega (arith, h)

behind_length : (c : ℕ) (ns : List (List ℕ)) → length (behind c ns) ≤ length ns
behind_length c [] = omega arith
behind_length c ([] ∷ ns) = omega (arith, behind_length c ns)
behind_length c ((b ∷ bs) ∷ ns) = behind_length_step (nat_eq c b) bs (behind c ns) ns (behind_length c ns)

pub fresh_undeclared : (names : List TypeName) → length names < 2 ^ 64 → vector_of names (fresh_name names) ≡ None
unfolding fresh_name
fresh_undeclared names h = not_declared names _ (among_behind 122 (pick 64 (behind 122 (map text_of names))) (map text_of names) ∙ not_among 64 (behind 122 (map text_of names)) (omega (arith, behind_length 122 (map text_of names), length-map {A = TypeName} {B = List ℕ}, h)))

plain_name : (word : List ℕ) → nat_lt 65535 (length word) ≡ false → is_image word ≡ false → may_be_word word ≡ false → terminal_of_word word ≡ t.Name
unfolding terminal_of_word
plain_name word short no_image no_word =
    ap (λ b. if b then t.Stray else if is_image word then t.Refused else unwrap_or (meaning_among words word) t.Name) short
    ∙ ap (λ b. if b then t.Refused else unwrap_or (meaning_among words word) t.Name) no_image
    ∙ ap (λ m. unwrap_or m t.Name) (sym (word_not word (may_be_word word) refl no_word))

letters_name : (letters : List ℕ) → length letters ≡ 64 → terminal_of_word (122 ∷ letters) ≡ t.Name
letters_name letters e = plain_name (122 ∷ letters) (ap (λ n. nat_lt 65535 (suc n)) e) refl (ap (λ n. nat_lt 0 (suc n) && nat_le (suc n) 13) e)

pub fresh_is_name : (names : List TypeName) → terminal_of_word (fresh_name names) ≡ t.Name
unfolding fresh_name
fresh_is_name names = letters_name (pick 64 (behind 122 (map text_of names))) (pick_length 64 (behind 122 (map text_of names)))
