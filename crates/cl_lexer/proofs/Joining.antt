-- A text whose lines are joined, one byte later.
use Rattle.std.proofs.Common.{◌≡◌, ◌≢◌, ℕ, zero, suc, ◌+◌, ◌-◌, ◌<◌, ◌≤◌, List, [], ◌∷◌, ◌++◌, length, take, drop, get_or, refl, sym, ap, ◌∙◌, subst, subst₂, arith, append_assoc, append-nil, ne_eqb}
use Rattle.std.specs.Prelude.{if◌then◌else◌, ◌==◌, count_by}
use Rattle.std.proofs.lemmas.List.{drop_all}
use Rattle.clv_place.specs.Places.{IsAt, IsLineStart}
use Rattle.clv_place.specs.declared.place.Place.{Place}
use Rattle.clv_place.proofs.LineStarts.{start_here, start_same, line_more_yes, line_more_no}
use Rattle.cl_lexer.proofs.Comments.{split_at}
use Rattle.cl_lexer.specs.Answers.{Spread, at_end, glyph}
use Rattle.cl_lexer.specs.Joined.{Glyph, join_length, glyphs_from, glyphs_of}

-- what the glyphs that are left spread to completes what was spread
pub record Joins (text : List ℕ) (at joining : ℕ) (bytes : List ℕ) (places : List Place) : Type 0 where
  pub by : (bs : List ℕ) (ps : List Place) → Spread text (glyphs_from joining at (drop at text)) bs ps → Spread text (glyphs_from 0 0 text) (bytes ++ bs) (places ++ ps)

pub joins_start : (text : List ℕ) → Joins text 0 0 [] []
joins_start text = record { by = λ bs ps h. h }

-- the glyphs from a byte on, where so many bytes from there on join two lines
abbrev glyphs_at : ℕ → ℕ → ℕ → List ℕ → List Glyph
glyphs_at n at b bs = if n == 0 then record { byte = b; offset = at } ∷ glyphs_from 0 (at + 1) bs else glyphs_from (n - 1) (at + 1) bs

glyphs_at_some : (n at b : ℕ) (bs : List ℕ) → 0 < n → glyphs_at n at b bs ≡ glyphs_from (n - 1) (at + 1) bs
glyphs_at_some zero at b bs h = absurd (omega (arith, h))
glyphs_at_some (suc n) at b bs h = rw (ne_eqb (suc n) 0 (λ e. absurd (omega (arith, e)))) refl

glyphs_split : (text : List ℕ) (at n : ℕ) → at < length text → n ≡ join_length (drop at text) → glyphs_from 0 at (drop at text) ≡ glyphs_at n at (get_or text at 0) (drop (at + 1) text)
glyphs_split text at n within is =
    let split = split_at text at within in
    ap (glyphs_from 0 at) split ∙ ap (λ k. glyphs_at k at (get_or text at 0) (drop (at + 1) text)) (ap join_length (sym split) ∙ sym is)

glyphs_later : (n at b : ℕ) (bs : List ℕ) → 0 < n → glyphs_from n at (b ∷ bs) ≡ glyphs_from (n - 1) (at + 1) bs
glyphs_later zero at b bs h = absurd (omega (arith, h))
glyphs_later (suc n) at b bs h = let same : n ≡ suc n - 1 = omega arith in ap (λ k. glyphs_from k (at + 1) bs) same

glyphs_inside : (text : List ℕ) (at joining : ℕ) → at < length text → 0 < joining → glyphs_from joining at (drop at text) ≡ glyphs_from (joining - 1) (at + 1) (drop (at + 1) text)
glyphs_inside text at joining within some = ap (glyphs_from joining at) (split_at text at within) ∙ glyphs_later joining at (get_or text at 0) (drop (at + 1) text) some

glyphs_begin : (text : List ℕ) (at n : ℕ) → at < length text → n ≡ join_length (drop at text) → 0 < n → glyphs_from 0 at (drop at text) ≡ glyphs_from (n - 1) (at + 1) (drop (at + 1) text)
glyphs_begin text at n within is some = glyphs_split text at n within is ∙ glyphs_at_some n at (get_or text at 0) (drop (at + 1) text) some

glyphs_none : (joining at : ℕ) → glyphs_from joining at [] ≡ []
glyphs_none joining at = refl

pub joins_inside : (text : List ℕ) (at joining : ℕ) (bytes : List ℕ) (places : List Place) → at < length text → 0 < joining → Joins text at joining bytes places → Joins text (at + 1) (joining - 1) bytes places
joins_inside text at joining bytes places within some h = record { by = λ bs ps s. h.by bs ps (subst (λ gs. Spread text gs bs ps) (sym (glyphs_inside text at joining within some)) s) }

pub joins_begin : (text : List ℕ) (at joining n : ℕ) (bytes : List ℕ) (places : List Place) → at < length text → joining ≤ 0 → n ≡ join_length (drop at text) → 0 < n → Joins text at joining bytes places → Joins text (at + 1) (n - 1) bytes places
joins_begin text at joining n bytes places within none is some h =
    let at_none : joining ≡ 0 = omega (arith, none) in
    let same = ap (λ j. glyphs_from j at (drop at text)) at_none ∙ glyphs_begin text at n within is some in
    record { by = λ bs ps s. h.by bs ps (subst (λ gs. Spread text gs bs ps) (sym same) s) }

pub joins_stay : (text : List ℕ) (at joining n line col : ℕ) (bytes new : List ℕ) (places after : List Place) → at < length text → joining ≤ 0 → n ≡ join_length (drop at text) → n ≤ 0 → IsAt text at line col → new ≡ bytes ++ get_or text at 0 ∷ [] → after ≡ places ++ record { line = line; col = col } ∷ [] → Joins text at joining bytes places → Joins text (at + 1) joining new after
joins_stay text at joining n line col bytes new places after within none is nothing is_at pushed placed h =
    let at_none : joining ≡ 0 = omega (arith, none) in
    let no_join : n ≡ 0 = omega (arith, nothing) in
    let place : Place = record { line = line; col = col } in
    let b = get_or text at 0 in
    let more = glyphs_from 0 (at + 1) (drop (at + 1) text) in
    let g : Glyph = record { byte = b; offset = at } in
    let same : glyphs_from joining at (drop at text) ≡ g ∷ more = ap (λ j. glyphs_from j at (drop at text)) at_none ∙ glyphs_split text at 0 within (sym no_join ∙ is) in
    record {
      by = λ bs ps s.
          let whole = h.by (b ∷ bs) (place ∷ ps) (subst (λ gs. Spread text gs (b ∷ bs) (place ∷ ps)) (sym same) (glyph g more place bs ps is_at (subst (λ j. Spread text (glyphs_from j (at + 1) (drop (at + 1) text)) bs ps) at_none s))) in
          subst₂ (λ xs ys. Spread text (glyphs_from 0 0 text) xs ys) (sym (ap (λ xs. xs ++ bs) pushed ∙ append_assoc bytes (b ∷ []) bs)) (sym (ap (λ xs. xs ++ ps) placed ∙ append_assoc places (place ∷ []) ps)) whole;
    }

pub joins_end : (text : List ℕ) (at joining line col : ℕ) (bytes : List ℕ) (places after : List Place) → length text ≤ at → IsAt text (length text) line col → after ≡ places ++ record { line = line; col = col } ∷ [] → Joins text at joining bytes places → Spread text (glyphs_of text) bytes after
unfolding glyphs_of
joins_end text at joining line col bytes places after past is_at placed h =
    let place : Place = record { line = line; col = col } in
    let same = ap (glyphs_from joining at) (drop_all at text past) ∙ glyphs_none joining at in
    subst₂ (λ xs ys. Spread text (glyphs_from 0 0 text) xs ys) (append-nil bytes) (sym placed) (h.by [] (place ∷ []) (subst (λ gs. Spread text gs [] (place ∷ [])) (sym same) (at_end place is_at)))

-- the place of a byte whose line's start is known
pub is_at : (text : List ℕ) (at line start : ℕ) → line ≡ 1 + count_by (λ b. b == 10) (take at text) → IsLineStart text at start → IsAt text at line (at - start + 1)
is_at text at line start counted begins = let within = begins.within in record { lines = counted; column = (start, begins, omega (arith, within)) }

-- the lines up to a byte
pub record Counts (text : List ℕ) (at line start : ℕ) : Type 0 where
  pub counted : line ≡ 1 + count_by (λ b. b == 10) (take at text)
  pub bound : line ≤ at + 1
  pub begins : IsLineStart text at start

pub counts_lf : (text : List ℕ) (at line start l s : ℕ) → at < length text → get_or text at 0 ≡ 10 → line ≡ 1 + count_by (λ b. b == 10) (take at text) → line ≤ at + 1 → l ≡ line + 1 → s ≡ at + 1 → Counts text (at + 1) l s
counts_lf text at line start l s within e counted bound f g =
    let more = line_more_yes text at within e in
    record { counted = omega (arith, more, counted, f); bound = omega (arith, bound, f); begins = subst (λ k. IsLineStart text (at + 1) k) (sym g) (start_here text at e) }

pub counts_other : (text : List ℕ) (at line start l s : ℕ) → at < length text → get_or text at 0 ≢ 10 → line ≡ 1 + count_by (λ b. b == 10) (take at text) → line ≤ at + 1 → IsLineStart text at start → l ≡ line → s ≡ start → Counts text (at + 1) l s
counts_other text at line start l s within e counted bound begins f g =
    let more = line_more_no text at within e in
    record { counted = omega (arith, more, counted, f); bound = omega (arith, bound, f); begins = subst (λ k. IsLineStart text (at + 1) k) (sym g) (start_same text at start e begins) }

pub joins_as : (text : List ℕ) (at joining j : ℕ) (bytes bs : List ℕ) (places ps : List Place) → j ≡ joining → bs ≡ bytes → ps ≡ places → Joins text at joining bytes places → Joins text at j bs ps
joins_as text at joining j bytes bs places ps e f g h = subst (λ i. Joins text at i bs ps) (sym e) (subst₂ (λ xs ys. Joins text at joining xs ys) (sym f) (sym g) h)

pub is_at_end : (text : List ℕ) (at line start : ℕ) → length text ≤ at → at ≤ length text → line ≡ 1 + count_by (λ b. b == 10) (take at text) → IsLineStart text at start → IsAt text (length text) line (length text - start + 1)
is_at_end text at line start past within counted begins =
    let same : at ≡ length text = omega (arith, past, within) in
    is_at text (length text) line start (subst (λ k. line ≡ 1 + count_by (λ b. b == 10) (take k text)) same counted) (subst (λ k. IsLineStart text k start) same begins)

pub ruleset joining = (joins_start, joins_inside, joins_begin, joins_stay, joins_end, start_here, start_same, line_more_yes, line_more_no)
