-- The tokens of a text, as a reader sees them, end.
use Rattle.std.proofs.Common.{◌≡◌, ◌<◌, List, [], ◌∷◌, length, length-append, ap, sym, ◌∙◌, subst, arith}
use Rattle.clv_place.specs.declared.place.Place.{Place}
use Rattle.cl_lexer.specs.declared.token.Token.{Token}
use Rattle.cl_grammar.specs.declared.lexeme.Lexeme.{Lexeme}
use Rattle.cl_grammar.specs.declared.names.TypeName.{TypeName}
use Rattle.cl_grammar.specs.Items.{EndsIn}
use Rattle.cl_grammar.specs.Lexemes.{lexemes_of, resolved}
use Rattle.cl_parse_expr.proofs.LongestRead.{seen_ends}

some_end : (ts : List Lexeme) → EndsIn ts → 0 < length ts
some_end ts e = subst (λ z. 0 < length z) (sym e.is) (omega (arith, length-append e.front (e.last ∷ [])))

pub read_ends : (names : List TypeName) (tokens : List Token) (end : Place) (seen list reader : List Lexeme) → seen ≡ lexemes_of tokens end → list ≡ seen → reader ≡ resolved names list → EndsIn reader
read_ends names tokens end seen list reader a b c = subst EndsIn (sym (c ∙ ap (resolved names) (b ∙ a))) (seen_ends names tokens end)

pub read_some : (names : List TypeName) (tokens : List Token) (end : Place) (seen list reader : List Lexeme) → seen ≡ lexemes_of tokens end → list ≡ seen → reader ≡ resolved names list → 0 < length reader
read_some names tokens end seen list reader a b c = some_end reader (read_ends names tokens end seen list reader a b c)
