-- What the next token begins.
use Rattle.std.specs.Prelude.{◌≡◌, ℕ, Bool, true, false, List}
use Rattle.cl_grammar.specs.declared.lexeme.Lexeme.{Lexeme}
use Rattle.cl_grammar.specs.declared.terminal.Terminal.{Terminal}
use Rattle.cl_grammar.specs.declared.terminal.Terminal.TheVariants as t
use Rattle.cl_grammar.specs.Symbols.{is_type_word}
use Rattle.cl_grammar.specs.Items.{IsAt}
use Rattle.cl_parse_stmt.specs.declared.look.Kind.{Kind}
use Rattle.cl_parse_stmt.specs.declared.look.Kind.TheVariants as kind

-- which statement a token begins
abbrev pub kind_of : Terminal → Kind
kind_of t.OpenBrace = kind.Block
kind_of t.If = kind.If
kind_of t.While = kind.While
kind_of t.For = kind.For
kind_of t.Do = kind.Do
kind_of t.Switch = kind.Switch
kind_of t.Break = kind.Break
kind_of t.Continue = kind.Continue
kind_of t.Return = kind.Return
kind_of _ = kind.Expression

abbrev pub is_label : Terminal → Bool
is_label t.Case = true
is_label t.Default = true
is_label _ = false

-- the tokens that stand behind items
abbrev pub is_items_end : Terminal → Bool
is_items_end t.CloseBrace = true
is_items_end t.Case = true
is_items_end t.Default = true
is_items_end _ = false

-- the marks behind an expression that may be missing
abbrev pub is_clause_end : Terminal → Bool
is_clause_end t.Semicolon = true
is_clause_end t.CloseParen = true
is_clause_end _ = false

-- a statement of this kind begins there, if any
pub record KindAt (ts : List Lexeme) (at : ℕ) (k : Kind) : Type 0 where
  pub terminal : Terminal
  pub stands : IsAt ts at terminal
  pub is : k ≡ kind_of terminal

-- a type begins there, and none does
pub record TypeAt (ts : List Lexeme) (at : ℕ) : Type 0 where
  pub terminal : Terminal
  pub stands : IsAt ts at terminal
  pub is : is_type_word terminal ≡ true

pub record NoTypeAt (ts : List Lexeme) (at : ℕ) : Type 0 where
  pub terminal : Terminal
  pub stands : IsAt ts at terminal
  pub is : is_type_word terminal ≡ false

-- a label begins there, and none does
pub record LabelAt (ts : List Lexeme) (at : ℕ) : Type 0 where
  pub terminal : Terminal
  pub stands : IsAt ts at terminal
  pub is : is_label terminal ≡ true

pub record NoLabelAt (ts : List Lexeme) (at : ℕ) : Type 0 where
  pub terminal : Terminal
  pub stands : IsAt ts at terminal
  pub is : is_label terminal ≡ false

-- items end there, and they don't
pub record ItemsEndAt (ts : List Lexeme) (at : ℕ) : Type 0 where
  pub terminal : Terminal
  pub stands : IsAt ts at terminal
  pub is : is_items_end terminal ≡ true

pub record MoreItemsAt (ts : List Lexeme) (at : ℕ) : Type 0 where
  pub terminal : Terminal
  pub stands : IsAt ts at terminal
  pub is : is_items_end terminal ≡ false
