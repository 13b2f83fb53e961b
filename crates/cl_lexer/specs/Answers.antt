-- What the calls of this crate answer.
use Rattle.std.specs.Prelude.{ℕ, List, [], ◌∷◌, Result, Ok, Err}
use Rattle.clv_place.specs.declared.place.Place.{Place}
use Rattle.clv_place.specs.declared.stop.Offence.{Offence}
use Rattle.clv_place.specs.declared.stop.Stop.{Stop}
use Rattle.clv_place.specs.declared.stop.Stop.TheVariants.{Out, NoMemory}
use Rattle.cl_lexer.specs.declared.token.Tokens.{Tokens}
use Rattle.cl_lexer.specs.Joined.{Glyph}
use Rattle.cl_lexer.specs.Tokens.{StandsAt}

-- A verdict, unless memory ran out, of which nothing is said.
abbrev pub AnswersStop : Stop → (Result Tokens Offence → Type 0) → Type 0
AnswersStop NoMemory Meets = Unit {0}
AnswersStop (Out offence) Meets = Meets (Err offence)

abbrev pub Answers : Result Tokens Stop → (Result Tokens Offence → Type 0) → Type 0
Answers (Ok tokens) Meets = Meets (Ok tokens)
Answers (Err stop) Meets = AnswersStop stop Meets

-- The bytes and the places of glyphs, and the place of the end behind them.
pub data Spread (text : List ℕ) : List Glyph → List ℕ → List Place → Type 0 where
  at_end : (place : Place) → StandsAt text [] place → Spread text [] [] (place ∷ [])
  glyph : (g : Glyph) (gs : List Glyph) (place : Place) (bytes : List ℕ) (places : List Place) → StandsAt text (g ∷ gs) place → Spread text gs bytes places → Spread text (g ∷ gs) (g.byte ∷ bytes) (place ∷ places)
