-- How the kernel is found that tokens are.
use Rattle.std.specs.Prelude.{◌≡◌, ◌≢◌, ℕ, ◌≤◌, true, if◌then◌else◌, List, [], ◌∷◌, ◌++◌, length, take, All, codes, Option, Some, None}
use Rattle.cl_lexer.specs.declared.token.TokenKind.{TokenKind}
use Rattle.cl_lexer.specs.declared.token.TokenKind.TheVariants.{Name, Mark}
use Rattle.clv_engine.specs.declared.form.Kernel.{Kernel}
use Rattle.clv_engine.specs.declared.form.Term.{Term}
use Rattle.clv_engine.specs.declared.form.Piece.{Piece}
use Rattle.clv_engine.specs.declared.form.Piece.TheVariants as piece
use Rattle.clv_engine.specs.declared.form.mark.TheConstants as mark
use Rattle.clv_engine.specs.FirstForm.{is_lower_case, int_literal, global_id_tokens, term_tokens, sum_tokens, kernel_tokens, IsTerm, IsKernel}

-- the tokens are no kernel
abbrev pub IsNoKernel : List TokenKind → Type 0
IsNoKernel ts = (k : Kernel) → IsKernel k → ts ≡ kernel_tokens k → ⊥

-- the kernel that tokens are, where they are one
abbrev pub IsFormed : List TokenKind → Option Kernel → Type 0
IsFormed ts (Some k) = IsKernel k × (ts ≡ kernel_tokens k)
IsFormed ts None = IsNoKernel ts

abbrev pub token_of : Piece → TokenKind
token_of (piece.Word w) = Name w.now
token_of (piece.Letter b) = Name (b ∷ [])
token_of piece.Zero = int_literal 0
token_of (piece.Mark b) = Mark b

-- the lower-case letter that a token is
abbrev pub letter_of : Option TokenKind → Option ℕ
letter_of (Some (Name (b ∷ []))) = if is_lower_case b then Some b else None
letter_of _ = None

-- These letters may be the names in these tokens, and no others.
pub record AreLetters (ts : List TokenKind) (name argument : ℕ) : Type 0 where
  pub name_letter : is_lower_case name ≡ true
  pub argument_letter : is_lower_case argument ≡ true
  pub different : name ≢ argument
  pub only : (k : Kernel) → IsKernel k → ts ≡ kernel_tokens k → (k.name ≡ name) × (k.argument ≡ argument)

-- the tokens before the sum, and those behind it
abbrev pub head_tokens : ℕ → ℕ → List TokenKind
head_tokens name argument =
    Name (codes "__kernel") ∷ Name (codes "void") ∷ Name (name ∷ []) ∷ Mark mark.OPEN_ROUND ∷ Name (codes "__global") ∷ Name (codes "uint") ∷ Mark mark.STAR ∷ Name (argument ∷ []) ∷ Mark mark.CLOSE_ROUND ∷ Mark mark.OPEN_CURLY ∷ Name (argument ∷ []) ∷ Mark mark.OPEN_SQUARE ∷ (global_id_tokens ++ Mark mark.CLOSE_SQUARE ∷ Mark mark.ASSIGN ∷ [])

abbrev pub end_tokens : List TokenKind
end_tokens = Mark mark.SEMICOLON ∷ Mark mark.CLOSE_CURLY ∷ []

-- A sum has one to 100 terms.
pub record IsSum (us : List Term) : Type 0 where
  pub some : 1 ≤ length us
  pub few : length us ≤ 100
  pub terms : All IsTerm us

-- the terms of the sum that tokens are before their end, where they are one
abbrev pub IsBody : List TokenKind → Option (List Term) → Type 0
IsBody ts (Some us) = IsSum us × (ts ≡ sum_tokens us ++ end_tokens)
IsBody ts None = (us : List Term) → IsSum us → ts ≡ sum_tokens us ++ end_tokens → ⊥

-- the term that tokens begin with, where they begin with one
abbrev pub IsFirstTerm : List TokenKind → Option Term → Type 0
IsFirstTerm ts (Some t) = IsTerm t × (take (length (term_tokens t)) ts ≡ term_tokens t)
IsFirstTerm ts None = (t : Term) → IsTerm t → take (length (term_tokens t)) ts ≡ term_tokens t → ⊥
