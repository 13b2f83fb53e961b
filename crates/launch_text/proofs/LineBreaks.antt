-- The first line of a text, and the text behind it.
use Rattle.std.proofs.Common.{◌≡◌, ℕ, zero, suc, ◌+◌, ◌<◌, ◌≤◌, Bool, true, false, not, cond, eqb, List, [], ◌∷◌, length, take, drop, refl, sym, ap, ◌∙◌, subst, length-drop, arith}
use Rattle.std.specs.List.{position_or_len, onto_first}
use Rattle.std.proofs.lemmas.List.{drop_all}
use Rattle.launch_text.specs.Lines.{lines_of}

-- the index of the first LF, or the length
abbrev pub line_length : List ℕ → ℕ
line_length text = position_or_len (λ b. eqb b 10) text

-- these many bytes are the first line, and one later the text goes on
abbrev Parts : List ℕ → ℕ → List (List ℕ)
Parts text n = take n text ∷ lines_of (drop (n + 1) text)

longer : (b : ℕ) (bs : List ℕ) (n : ℕ) → lines_of bs ≡ Parts bs n → onto_first b (lines_of bs) ≡ Parts (b ∷ bs) (1 + n)
longer b bs n e =
    let one : 1 + n ≡ suc n = omega arith in
    let two : suc n + 1 ≡ suc (n + 1) = omega arith in
    ap (onto_first b) e ∙ sym (rw one (rw two refl))

at_byte : (b : ℕ) (bs : List ℕ) (ends : Bool) → (0 < length bs → lines_of bs ≡ Parts bs (line_length bs)) → cond ends ([] ∷ lines_of bs) (onto_first b (lines_of bs)) ≡ Parts (b ∷ bs) (cond (not ends) (1 + line_length bs) 0)
at_byte b bs true rest = refl
at_byte b [] false rest = refl
at_byte b (c ∷ cs) false rest = longer b (c ∷ cs) (line_length (c ∷ cs)) (rest (omega arith))

pub lines_begin : (text : List ℕ) → 0 < length text → lines_of text ≡ Parts text (line_length text)
lines_begin [] some = absurd (omega arith)
lines_begin (b ∷ bs) some = at_byte b bs (eqb b 10) (lines_begin bs)

drop_next : (text behind : List ℕ) (n b : ℕ) → drop n text ≡ b ∷ behind → drop (n + 1) text ≡ behind
drop_next text behind zero b e = ap (drop 1) e
drop_next [] behind (suc n) b e = cc
drop_next (c ∷ text) behind (suc n) b e = let one : suc n + 1 ≡ suc (n + 1) = omega arith in rw one (drop_next text behind n b e)

abbrev BeginsBy : List ℕ → ℕ → Type 0
BeginsBy text n = lines_of text ≡ Parts text n

begins : (text : List ℕ) (n : ℕ) → 0 < length text → n ≡ line_length text → BeginsBy text n
begins text n some e = subst (BeginsBy text) (sym e) (lines_begin text some)

-- the text goes on behind its first LF
pub first_line_is : (text line rest behind : List ℕ) (n b : ℕ) → 0 < length text → n ≡ line_length text → line ≡ take n text → rest ≡ drop n text → rest ≡ b ∷ behind → lines_of text ≡ line ∷ lines_of behind
first_line_is text line rest behind n b some e front back more =
    let whole = begins text n some e in
    let next = drop_next text behind n b (sym back ∙ more) in
    cc (whole, next)

-- the text has no LF
pub last_line_is : (text line rest : List ℕ) (n : ℕ) → 0 < length text → n ≡ line_length text → line ≡ take n text → rest ≡ drop n text → length rest ≡ 0 → lines_of text ≡ line ∷ lines_of rest
last_line_is text line rest n some e front back none =
    let whole = begins text n some e in
    let short : length text ≤ n = omega (arith, ap length back, length-drop n text) in
    let next = drop_all n text short in
    let more = drop_all (n + 1) text (omega arith) in
    cc (whole, next, more)
