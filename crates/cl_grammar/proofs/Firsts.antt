-- Tokens whose first is of one of some kinds.
use Rattle.std.proofs.Common.{◌≡◌, ℕ, true, List, ◌∷◌, ◌++◌, refl, ap}
use Rattle.cl_grammar.specs.declared.lexeme.Lexeme.{Lexeme}
use Rattle.cl_grammar.proofs.TerminalKinds.{kind, has}

-- tokens whose first one is of one of these kinds
pub record Begins (kinds : List ℕ) (u : List Lexeme) : Type 0 where
  pub first : Lexeme
  pub rest : List Lexeme
  pub is : u ≡ first ∷ rest
  pub fits : has kinds (kind first.terminal) ≡ true

pub begins_one : (kinds : List ℕ) (l : Lexeme) (w : List Lexeme) → has kinds (kind l.terminal) ≡ true → Begins kinds (l ∷ w)
begins_one kinds l w h = record { first = l; rest = w; is = refl; fits = h }

pub begins_more : (kinds : List ℕ) (u v : List Lexeme) → Begins kinds u → Begins kinds (u ++ v)
begins_more kinds u v b = record { first = b.first; rest = b.rest ++ v; is = ap (λ z. z ++ v) b.is; fits = b.fits }

-- the same by more kinds
pub begins : (kinds more : List ℕ) (u : List Lexeme) → ((l : Lexeme) → has kinds (kind l.terminal) ≡ true → has more (kind l.terminal) ≡ true) → Begins kinds u → Begins more u
begins kinds more u h b = record { first = b.first; rest = b.rest; is = b.is; fits = h b.first b.fits }
