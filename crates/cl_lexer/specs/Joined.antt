-- The bytes of a text after its lines are joined: a backslash right before the end of a line takes itself and that end away (C99 5.1.1.2, phase 2).
use Rattle.std.specs.Prelude.{ℕ, zero, suc, ◌+◌, ◌-◌, ◌&&◌, ◌==◌, if◌then◌else◌, List, [], ◌∷◌, length, map, slice_index}

-- A byte that stays, and its offset in the text.
pub record Glyph : Type 0 where
  pub byte : ℕ
  pub offset : ℕ

-- how many bytes a text begins with that join two lines: backslash LF, or backslash CR LF; else 0
abbrev pub join_length : List ℕ → ℕ
join_length text =
    if (slice_index text 0 == 92) && (slice_index text 1 == 10) then 2
    else if (slice_index text 0 == 92) && (slice_index text 1 == 13) && (slice_index text 2 == 10) then 3
    else 0

-- the glyphs of what is left of a text from an offset on, whose first `joining` bytes still join two lines
abbrev pub glyphs_from : ℕ → ℕ → List ℕ → List Glyph
glyphs_from joining at [] = []
glyphs_from (suc n) at (b ∷ bs) = glyphs_from n (at + 1) bs
glyphs_from zero at (b ∷ bs) =
    if join_length (b ∷ bs) == 0 then record { byte = b; offset = at } ∷ glyphs_from 0 (at + 1) bs
    else glyphs_from (join_length (b ∷ bs) - 1) (at + 1) bs

unfoldable pub glyphs_of : List ℕ → List Glyph
glyphs_of text = glyphs_from 0 0 text

abbrev pub bytes_of : List Glyph → List ℕ
bytes_of = map (λ g. g.byte)

-- where the first of the glyphs stands that are left of a text, or its end
abbrev pub offset_of : List ℕ → List Glyph → ℕ
offset_of text [] = length text
offset_of text (g ∷ gs) = g.offset
