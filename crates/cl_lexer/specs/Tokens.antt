-- The tokens of a text, or its first offence.
use Rattle.std.specs.Prelude.{◌≡◌, ℕ, ◌<◌, ◌≤◌, Bool, true, false, List, [], ◌∷◌, drop, length, Result, Ok, Err}
use Rattle.clv_place.specs.Places.{IsAt}
use Rattle.clv_place.specs.declared.place.Place.{Place}
use Rattle.clv_place.specs.declared.stop.Offence.{Offence}
use Rattle.cl_lexer.specs.declared.token.Token.{Token}
use Rattle.cl_lexer.specs.declared.token.TokenKind.{TokenKind}
use Rattle.cl_lexer.specs.declared.token.Tokens.{Tokens}
use Rattle.cl_lexer.specs.declared.front.Front.TheVariants as stands
use Rattle.cl_lexer.specs.declared.front.Stage.{Stage}
use Rattle.cl_lexer.specs.declared.front.Stage.TheVariants.{Beginning}
use Rattle.cl_lexer.specs.Fronts.{front_of, stage_after, is_beginning}
use Rattle.cl_lexer.specs.Joined.{Glyph, glyphs_of, bytes_of, offset_of}

-- a place in a text: of the first of the glyphs that are left, or of the end
abbrev pub StandsAt : List ℕ → List Glyph → Place → Type 0
StandsAt text glyphs place = IsAt text (offset_of text glyphs) place.line place.col

-- one token before an answer
abbrev pub with_front : Token → Result (List Token) Offence → Result (List Token) Offence
with_front t (Ok ts) = Ok (t ∷ ts)
with_front t (Err e) = Err e

-- What the glyphs that are left of a text read as, at a stage of their line, behind a separator or not: these tokens, or this first offence.
--     ended       nothing is left
--     offends     an offence stands first, and at its place
--     line_ended  the end of a line stands first, and the rest begins a line
--     parted      a separator or a comment of n bytes stands first
--     taken       a token of n bytes stands first, and then comes what the rest reads as
pub data Reads (text : List ℕ) : List Glyph → Stage → Bool → Result (List Token) Offence → Type 0 where
  ended : (gs : List Glyph) (stage : Stage) (spaced : Bool) → front_of stage (bytes_of gs) ≡ stands.End → Reads text gs stage spaced (Ok [])
  offends : (gs : List Glyph) (stage : Stage) (spaced : Bool) (code : ℕ) (place : Place) → front_of stage (bytes_of gs) ≡ stands.Bad code → StandsAt text gs place → Reads text gs stage spaced (Err (record { code = code; place = place }))
  line_ended : (gs : List Glyph) (stage : Stage) (spaced : Bool) (r : Result (List Token) Offence) → front_of stage (bytes_of gs) ≡ stands.LineEnd → Reads text (drop 1 gs) Beginning true r → Reads text gs stage spaced r
  parted : (gs : List Glyph) (stage : Stage) (spaced : Bool) (n : ℕ) (r : Result (List Token) Offence) → front_of stage (bytes_of gs) ≡ stands.Apart n → Reads text (drop n gs) stage true r → Reads text gs stage spaced r
  taken : (gs : List Glyph) (stage : Stage) (spaced : Bool) (kind : TokenKind) (n : ℕ) (place : Place) (r whole : Result (List Token) Offence) → front_of stage (bytes_of gs) ≡ stands.Begins kind n → StandsAt text gs place → Reads text (drop n gs) (stage_after stage kind) false r → whole ≡ with_front (record { kind = kind; place = place; first = is_beginning stage; spaced = spaced }) r → Reads text gs stage spaced whole

-- The verdict on a text: its tokens and the place of its end, or its first offence. 105, of a text over 1 MiB, is looked for first.
pub data Lexes (text : List ℕ) : Result Tokens Offence → Type 0 where
  too_large : 1048576 < length text → Lexes text (Err (record { code = 105; place = record { line = 1; col = 1 } }))
  refused : (offence : Offence) → length text ≤ 1048576 → Reads text (glyphs_of text) Beginning false (Err offence) → Lexes text (Err offence)
  read : (list : List Token) (end : Place) → length text ≤ 1048576 → Reads text (glyphs_of text) Beginning false (Ok list) → StandsAt text [] end → Lexes text (Ok (record { list = list; end = end }))

-- Each text has one verdict.
abbrev pub OneVerdict : Type 0
OneVerdict = (text : List ℕ) (v w : Result Tokens Offence) → Lexes text v → Lexes text w → v ≡ w
