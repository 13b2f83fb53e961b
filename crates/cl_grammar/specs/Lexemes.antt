-- Tokens as the grammar sees them, before typedefs and after.
use Rattle.std.specs.Prelude.{ℕ, Bool, true, false, if◌then◌else◌, List, [], ◌∷◌, ◌++◌, map, Option, Some, None, unwrap_or, codes, bytes_eq, slice_index_or}
use Rattle.std.specs.Int.{w32, cast_unsigned}
use Rattle.clv_place.specs.declared.place.Place.{Place}
use Rattle.cl_types.specs.declared.operator.BinOp.TheVariants as bin
use Rattle.cl_lexer.specs.declared.token.Token.{Token}
use Rattle.cl_lexer.specs.declared.token.TokenKind.{TokenKind}
use Rattle.cl_lexer.specs.declared.token.TokenKind.TheVariants as kind
use Rattle.cl_lexer.specs.Marks.{marks}
use Rattle.cl_grammar.specs.declared.lexeme.Lexeme.{Lexeme}
use Rattle.cl_grammar.specs.declared.names.TypeName.{TypeName}
use Rattle.cl_grammar.specs.declared.terminal.Terminal.{Terminal}
use Rattle.cl_grammar.specs.declared.terminal.Terminal.TheVariants as t
use Rattle.cl_grammar.specs.Words.{meaning_among, terminal_of_word}

-- which terminals marks are; `#` is none
unfoldable pub mark_meanings : List (List ℕ × Terminal)
mark_meanings =
    (codes "(", t.OpenParen) ∷ (codes ")", t.CloseParen) ∷ (codes "[", t.OpenBracket) ∷ (codes "]", t.CloseBracket) ∷ (codes "{", t.OpenBrace) ∷ (codes "}", t.CloseBrace) ∷
    (codes ",", t.Comma) ∷ (codes ";", t.Semicolon) ∷ (codes ":", t.Colon) ∷ (codes "?", t.Question) ∷ (codes ".", t.Dot) ∷ (codes "->", t.Arrow) ∷
    (codes "++", t.Increment) ∷ (codes "--", t.Decrement) ∷ (codes "~", t.Tilde) ∷ (codes "!", t.Exclamation) ∷ (codes "&", t.Ampersand) ∷ (codes "*", t.Star) ∷ (codes "+", t.Plus) ∷ (codes "-", t.Minus) ∷
    (codes "/", t.Infix bin.Div) ∷ (codes "%", t.Infix bin.Rem) ∷ (codes "<<", t.Infix bin.Shl) ∷ (codes ">>", t.Infix bin.Shr) ∷
    (codes "<", t.Infix bin.Less) ∷ (codes ">", t.Infix bin.Greater) ∷ (codes "<=", t.Infix bin.LessEqual) ∷ (codes ">=", t.Infix bin.GreaterEqual) ∷ (codes "==", t.Infix bin.Equal) ∷ (codes "!=", t.Infix bin.NotEqual) ∷
    (codes "^", t.Infix bin.Xor) ∷ (codes "|", t.Infix bin.Or) ∷ (codes "&&", t.Infix bin.LogicalAnd) ∷ (codes "||", t.Infix bin.LogicalOr) ∷
    (codes "=", t.Equals) ∷ (codes "*=", t.Compound bin.Mul) ∷ (codes "/=", t.Compound bin.Div) ∷ (codes "%=", t.Compound bin.Rem) ∷ (codes "+=", t.Compound bin.Add) ∷ (codes "-=", t.Compound bin.Sub) ∷
    (codes "<<=", t.Compound bin.Shl) ∷ (codes ">>=", t.Compound bin.Shr) ∷ (codes "&=", t.Compound bin.And) ∷ (codes "^=", t.Compound bin.Xor) ∷ (codes "|=", t.Compound bin.Or) ∷ []

unfoldable pub terminal_of_mark : ℕ → Terminal
terminal_of_mark n = unwrap_or (meaning_among mark_meanings (slice_index_or marks n [])) t.Stray

abbrev pub terminal_of : TokenKind → Terminal
terminal_of (kind.Name name) = terminal_of_word name
terminal_of (kind.Number value ty) = t.Number value ty
terminal_of (kind.Char value) = t.Number (cast_unsigned w32 value) 0
terminal_of (kind.Mark n) = terminal_of_mark n
terminal_of (kind.Rest text) = t.Stray

-- the bytes of a word
abbrev pub text_of : TokenKind → List ℕ
text_of (kind.Name name) = name
text_of _ = []

abbrev pub lexeme_of : Token → Lexeme
lexeme_of token = record { terminal = terminal_of token.kind; text = text_of token.kind; place = token.place }

abbrev pub end_lexeme : Place → Lexeme
end_lexeme place = record { terminal = t.End; text = []; place = place }

-- all tokens, and the end behind them at its place
abbrev pub lexemes_of : List Token → Place → List Lexeme
lexemes_of tokens end = map lexeme_of tokens ++ end_lexeme end ∷ []

-- whether the typedef of a name declared a vector type, if there is one
abbrev pub vector_of : List TypeName → List ℕ → Option Bool
vector_of [] name = None
vector_of (n ∷ ns) name = if bytes_eq name n.name then Some n.vector else vector_of ns name

abbrev pub is_name : Terminal → Bool
is_name t.Name = true
is_name _ = false

abbrev pub typed_as : Lexeme → Option Bool → Lexeme
typed_as l (Some vector) = record { terminal = t.TypeName vector; text = l.text; place = l.place }
typed_as l None = l

-- a name that a typedef declared is the name of a type
abbrev pub resolve : List TypeName → Lexeme → Lexeme
resolve names l = if is_name l.terminal then typed_as l (vector_of names l.text) else l

abbrev pub resolved : List TypeName → List Lexeme → List Lexeme
resolved names lexemes = map (resolve names) lexemes
