-- What a reader of tokens answers: what it has read, and the tokens that are left. It takes a number of steps that it may go down, and with
-- enough of them it reads each tree of the grammar.
use Rattle.std.proofs.Common.{◌≡◌, ℕ, ◌+◌, Bool, true, false, List, [], ◌∷◌, ◌++◌, Option, Some}
use Rattle.cl_grammar.specs.declared.lexeme.Lexeme.{Lexeme}
use Rattle.cl_grammar.specs.declared.terminal.Terminal.{Terminal}
use Rattle.cl_grammar.specs.declared.terminal.Terminal.TheVariants as t

-- with enough steps, and with any more
pub record Reads {A : Type 0} (read : ℕ → List Lexeme → Option (A × List Lexeme)) (u r : List Lexeme) (x : A) : Type 0 where
  pub steps : ℕ
  pub is : (k : ℕ) → read (steps + k) (u ++ r) ≡ Some (x, r)

abbrev pub first_is : (Terminal → Bool) → List Lexeme → Bool
first_is p [] = false
first_is p (l ∷ ls) = p l.terminal

-- what may stand behind an expression without commas; behind one with commas, or behind arguments
abbrev pub is_end : Terminal → Bool
is_end t.CloseParen = true
is_end t.CloseBracket = true
is_end t.CloseBrace = true
is_end t.Comma = true
is_end t.Semicolon = true
is_end t.Colon = true
is_end _ = false

abbrev pub is_close : Terminal → Bool
is_close t.CloseParen = true
is_close t.CloseBracket = true
is_close t.Semicolon = true
is_close _ = false

-- behind the words of a type; behind a declared name
abbrev pub is_spec_end : Terminal → Bool
is_spec_end t.Name = true
is_spec_end t.Star = true
is_spec_end t.Semicolon = true
is_spec_end t.CloseParen = true
is_spec_end t.Comma = true
is_spec_end _ = false

-- behind a star and its words, or where one might stand
abbrev pub is_star_end : Terminal → Bool
is_star_end t.Name = true
is_star_end t.CloseParen = true
is_star_end t.Comma = true
is_star_end _ = false

abbrev pub is_declor_end : Terminal → Bool
is_declor_end t.Comma = true
is_declor_end t.Semicolon = true
is_declor_end t.Equals = true
is_declor_end _ = false

-- a word that may begin a type
abbrev pub begins_type : Terminal → Bool
begins_type (t.TypeName vector) = true
begins_type t.Const = true
begins_type t.Volatile = true
begins_type (t.Space s) = true
begins_type t.Void = true
begins_type t.Bool = true
begins_type t.Signed = true
begins_type t.Unsigned = true
begins_type t.Char = true
begins_type t.Short = true
begins_type t.Int = true
begins_type t.Long = true
begins_type (t.UnsignedInt bits) = true
begins_type (t.Vector bits signed n) = true
begins_type (t.Sized signed) = true
begins_type t.Struct = true
begins_type _ = false
