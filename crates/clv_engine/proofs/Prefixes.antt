-- The kinds of tokens, one more.
use Rattle.std.proofs.Common.{◌≡◌, ℕ, zero, suc, ◌+◌, ◌<◌, ◌≤◌, List, [], ◌∷◌, length, take, get_or, sym, ap, ◌∙◌, arith}
use Rattle.std.specs.Prelude.{map}
use Rattle.cl_lexer.specs.declared.token.Token.{Token}
use Rattle.clv_engine.specs.declared.form.Piece.{Piece}
use Rattle.clv_engine.specs.FirstForm.{kind_of, kinds_of}
use Rattle.clv_engine.specs.Forming.{token_of}

more_at : (tokens : List Token) (pieces : List Piece) (i : ℕ) (t : Token) (d : Piece) → i < length tokens → i < length pieces → t ≡ get_or tokens i t → kind_of t ≡ token_of (get_or pieces i d) → take i (kinds_of tokens) ≡ map token_of (take i pieces) → take (suc i) (kinds_of tokens) ≡ map token_of (take (suc i) pieces)
more_at [] pieces i t d l m a e h = absurd (omega arith)
more_at (u ∷ tokens) [] i t d l m a e h = absurd (omega arith)
more_at (u ∷ tokens) (q ∷ pieces) zero t d l m a e h = ap (λ z. z ∷ []) (ap kind_of (sym a) ∙ e)
more_at (u ∷ tokens) (q ∷ pieces) (suc i) t d l m a e h =
    let front : kind_of u ≡ token_of q = (let f : (kind_of u ∷ take i (kinds_of tokens)) ≡ (token_of q ∷ map token_of (take i pieces)) = h in cc) in
    let others : take i (kinds_of tokens) ≡ map token_of (take i pieces) = (let f : (kind_of u ∷ take i (kinds_of tokens)) ≡ (token_of q ∷ map token_of (take i pieces)) = h in cc) in
    let r = more_at tokens pieces i t d (omega arith) (omega arith) a e others in
    (λ j. front j ∷ r j)

-- the tokens begin with one piece more
pub prefix_more : (tokens : List Token) (pieces : List Piece) (i : ℕ) (t : Token) (d : Piece) → length pieces ≤ length tokens → i < length pieces → t ≡ get_or tokens i t → kind_of t ≡ token_of (get_or pieces i d) → take i (kinds_of tokens) ≡ map token_of (take i pieces) → take (i + 1) (kinds_of tokens) ≡ map token_of (take (i + 1) pieces)
prefix_more tokens pieces i t d l m a e h =
    let z : suc i ≡ i + 1 = omega arith in
    let low : i < length tokens = omega arith in
    (λ j. (ap (λ k. take k (kinds_of tokens)) (sym z) ∙ more_at tokens pieces i t d low m a e h ∙ ap (λ k. map token_of (take k pieces)) z) j)

kind_at : (tokens : List Token) (pieces : List Piece) (i : ℕ) (t : Token) (d : Piece) → i < length tokens → i < length pieces → t ≡ get_or tokens i t → take (length pieces) (kinds_of tokens) ≡ map token_of pieces → kind_of t ≡ token_of (get_or pieces i d)
kind_at [] pieces i t d l m a h = absurd (omega arith)
kind_at (u ∷ tokens) [] i t d l m a h = absurd (omega arith)
kind_at (u ∷ tokens) (q ∷ pieces) zero t d l m a h =
    let front : kind_of u ≡ token_of q = (let f : (kind_of u ∷ take (length pieces) (kinds_of tokens)) ≡ (token_of q ∷ map token_of pieces) = h in cc) in
    ap kind_of a ∙ front
kind_at (u ∷ tokens) (q ∷ pieces) (suc i) t d l m a h =
    let others : take (length pieces) (kinds_of tokens) ≡ map token_of pieces = (let f : (kind_of u ∷ take (length pieces) (kinds_of tokens)) ≡ (token_of q ∷ map token_of pieces) = h in cc) in
    kind_at tokens pieces i t d (omega arith) (omega arith) a others

-- a token that isn't its piece is of no tokens that begin with the pieces
pub prefix_differs : (tokens : List Token) (pieces : List Piece) (i : ℕ) (t : Token) (d : Piece) → length pieces ≤ length tokens → i < length pieces → t ≡ get_or tokens i t → (kind_of t ≡ token_of (get_or pieces i d) → ⊥) → take (length pieces) (kinds_of tokens) ≡ map token_of pieces → ⊥
prefix_differs tokens pieces i t d l m a n h = n (kind_at tokens pieces i t d (omega arith) m a h)
