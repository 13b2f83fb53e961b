-- Tokens as they can be written behind any typedefs.
use Rattle.std.proofs.Common.{◌≡◌, ℕ, ◌<◌, ◌^◌, List, [], ◌∷◌, ◌++◌, Bool, true, false, Option, Some, None, refl, sym, ap, ◌∙◌, subst}
use Rattle.std.specs.Prelude.{codes, if◌then◌else◌, length}
use Rattle.std.proofs.lemmas.List.{map-append}
use Rattle.cl_lexer.specs.declared.token.Token.{Token}
use Rattle.cl_lexer.specs.declared.token.TokenKind.{TokenKind}
use Rattle.cl_lexer.specs.declared.token.TokenKind.TheVariants as token
use Rattle.cl_lexer.specs.Marks.{marks}
use Rattle.cl_grammar.specs.declared.lexeme.Lexeme.{Lexeme}
use Rattle.cl_grammar.specs.declared.names.TypeName.{TypeName}
use Rattle.cl_grammar.specs.declared.terminal.Terminal.{Terminal}
use Rattle.cl_grammar.specs.declared.terminal.Terminal.TheVariants as t
use Rattle.cl_grammar.specs.Words.{words, terminal_of_word}
use Rattle.cl_grammar.specs.Lexemes.{lexeme_of, terminal_of_mark, mark_meanings, resolve, resolved, is_name, typed_as, vector_of}
use Rattle.cl_grammar.specs.Statements.{is_vector_hint}
use Rattle.cl_grammar.specs.Symbols.{Sym, Are, makes, have_some}
use Rattle.cl_grammar.specs.Units.{seen_as}
use Rattle.cl_grammar.proofs.Fresh.{fresh_name, fresh_undeclared, fresh_is_name}
use Rattle.cl_parse.proofs.Written.{AllMade, made}

-- a token of a terminal, where this is a name
abbrev kind_of : List ℕ → Terminal → TokenKind
kind_of name t.Name = token.Name name
kind_of name (t.Number value ty) = token.Number value ty
kind_of name t.Typedef = token.Name (codes "typedef")
kind_of name t.Kernel = token.Name (codes "kernel")
kind_of name t.Inline = token.Name (codes "inline")
kind_of name t.Static = token.Name (codes "static")
kind_of name t.Const = token.Name (codes "const")
kind_of name t.Volatile = token.Name (codes "volatile")
kind_of name t.Restrict = token.Name (codes "restrict")
kind_of name t.Void = token.Name (codes "void")
kind_of name t.Bool = token.Name (codes "bool")
kind_of name t.Signed = token.Name (codes "signed")
kind_of name t.Unsigned = token.Name (codes "unsigned")
kind_of name t.Char = token.Name (codes "char")
kind_of name t.Short = token.Name (codes "short")
kind_of name t.Int = token.Name (codes "int")
kind_of name t.Long = token.Name (codes "long")
kind_of name t.Struct = token.Name (codes "struct")
kind_of name t.If = token.Name (codes "if")
kind_of name t.Else = token.Name (codes "else")
kind_of name t.While = token.Name (codes "while")
kind_of name t.Do = token.Name (codes "do")
kind_of name t.For = token.Name (codes "for")
kind_of name t.Switch = token.Name (codes "switch")
kind_of name t.Case = token.Name (codes "case")
kind_of name t.Default = token.Name (codes "default")
kind_of name t.Break = token.Name (codes "break")
kind_of name t.Continue = token.Name (codes "continue")
kind_of name t.Return = token.Name (codes "return")
kind_of name t.Sizeof = token.Name (codes "sizeof")
kind_of name t.OpenParen = token.Mark 8
kind_of name t.CloseParen = token.Mark 9
kind_of name t.OpenBracket = token.Mark 36
kind_of name t.CloseBracket = token.Mark 37
kind_of name t.OpenBrace = token.Mark 40
kind_of name t.CloseBrace = token.Mark 44
kind_of name t.Comma = token.Mark 15
kind_of name t.Semicolon = token.Mark 24
kind_of name t.Colon = token.Mark 23
kind_of name t.Question = token.Mark 35
kind_of name t.Dot = token.Mark 20
kind_of name t.Arrow = token.Mark 19
kind_of name t.Increment = token.Mark 13
kind_of name t.Decrement = token.Mark 17
kind_of name t.Tilde = token.Mark 45
kind_of name t.Exclamation = token.Mark 0
kind_of name t.Ampersand = token.Mark 5
kind_of name t.Star = token.Mark 10
kind_of name t.Plus = token.Mark 12
kind_of name t.Minus = token.Mark 16
kind_of name t.Equals = token.Mark 29
kind_of name _ = token.Mark 2

abbrev spell : TokenKind → Token
spell kind = record { kind = kind; place = record { line = 1; col = 1 }; first = false; spaced = true }

abbrev written_as : List TypeName → Terminal → Lexeme
written_as names k = resolve names (lexeme_of (spell (kind_of (fresh_name names) k)))

stays_by : (names : List TypeName) (l : Lexeme) (r : Option Bool) → r ≡ None → l.terminal ≡ t.Name → (if is_name l.terminal then typed_as l r else l).terminal ≡ t.Name
stays_by names l r none h = ap (λ b. (if b then typed_as l r else l).terminal) (ap is_name h) ∙ ap (λ z. (typed_as l z).terminal) none ∙ h

name_stays : (names : List TypeName) → length names < 2 ^ 64 → (written_as names t.Name).terminal ≡ t.Name
name_stays names few = stays_by names (lexeme_of (spell (token.Name (fresh_name names)))) (vector_of names (fresh_name names)) (fresh_undeclared names few) (fresh_is_name names)

fits : (names : List TypeName) → length names < 2 ^ 64 → (k : Terminal) → makes k ≡ true → (written_as names k).terminal ≡ k
unfolding terminal_of_word words terminal_of_mark mark_meanings marks
fits names few t.Name h = name_stays names few
fits names few (t.Number value ty) h = refl
fits names few t.Typedef h = refl
fits names few t.Kernel h = refl
fits names few t.Inline h = refl
fits names few t.Static h = refl
fits names few t.Const h = refl
fits names few t.Volatile h = refl
fits names few t.Restrict h = refl
fits names few t.Void h = refl
fits names few t.Bool h = refl
fits names few t.Signed h = refl
fits names few t.Unsigned h = refl
fits names few t.Char h = refl
fits names few t.Short h = refl
fits names few t.Int h = refl
fits names few t.Long h = refl
fits names few t.Struct h = refl
fits names few t.If h = refl
fits names few t.Else h = refl
fits names few t.While h = refl
fits names few t.Do h = refl
fits names few t.For h = refl
fits names few t.Switch h = refl
fits names few t.Case h = refl
fits names few t.Default h = refl
fits names few t.Break h = refl
fits names few t.Continue h = refl
fits names few t.Return h = refl
fits names few t.Sizeof h = refl
fits names few t.OpenParen h = refl
fits names few t.CloseParen h = refl
fits names few t.OpenBracket h = refl
fits names few t.CloseBracket h = refl
fits names few t.OpenBrace h = refl
fits names few t.CloseBrace h = refl
fits names few t.Comma h = refl
fits names few t.Semicolon h = refl
fits names few t.Colon h = refl
fits names few t.Question h = refl
fits names few t.Dot h = refl
fits names few t.Arrow h = refl
fits names few t.Increment h = refl
fits names few t.Decrement h = refl
fits names few t.Tilde h = refl
fits names few t.Exclamation h = refl
fits names few t.Ampersand h = refl
fits names few t.Star h = refl
fits names few t.Plus h = refl
fits names few t.Minus h = refl
fits names few t.Equals h = refl
fits names few _ h = absurd (let e : false ≡ true = h in cc)

abbrev vector_token : List TypeName → Lexeme
vector_token names = resolve names (lexeme_of (spell (token.Name (codes "int4"))))

fits_vector : (names : List TypeName) → (vector_token names).terminal ≡ t.Vector 32 true 4
unfolding terminal_of_word words
fits_vector names = refl

abbrev hint_token : List TypeName → Lexeme
hint_token names = resolve names (lexeme_of (spell (token.Name (codes "vec_type_hint"))))

typed_text : (l : Lexeme) (r : Option Bool) → (typed_as l r).text ≡ l.text
typed_text l None = refl
typed_text l (Some v) = refl

text_by : (l : Lexeme) (r : Option Bool) (b : Bool) → (if b then typed_as l r else l).text ≡ l.text
text_by l r true = typed_text l r
text_by l r false = refl

fits_hint : (names : List TypeName) → is_vector_hint (hint_token names).text ≡ true
fits_hint names =
    let l : Lexeme = lexeme_of (spell (token.Name (codes "vec_type_hint"))) in
    ap is_vector_hint (text_by l (vector_of names l.text) (is_name l.terminal))

record IsWritten (names : List TypeName) (u : List Lexeme) : Type 0 where
  tokens : List Token
  is : u ≡ resolved names (seen_as tokens)

one_more : (names : List TypeName) (kind : TokenKind) (u : List Lexeme) → IsWritten names u → IsWritten names (resolve names (lexeme_of (spell kind)) ∷ u)
one_more names kind u w = record { tokens = spell kind ∷ w.tokens; is = ap (λ z. resolve names (lexeme_of (spell kind)) ∷ z) w.is }

both : (names : List TypeName) (u v : List Lexeme) → IsWritten names u → IsWritten names v → IsWritten names (u ++ v)
both names u v a b = record { tokens = a.tokens ++ b.tokens; is = ap (λ z. z ++ v) a.is ∙ ap (λ z. resolved names (seen_as a.tokens) ++ z) b.is ∙ sym (map-append (resolve names) (seen_as a.tokens) (seen_as b.tokens)) ∙ ap (resolved names) (sym (map-append lexeme_of a.tokens b.tokens)) }

-- these symbols stand for some tokens that can be written behind these typedefs
pub record Completion (names : List TypeName) (todo : List Sym) : Type 0 where
  pub tokens : List Token
  pub are : Are todo (resolved names (seen_as tokens))

pub completion : (names : List TypeName) → length names < 2 ^ 64 → (todo : List Sym) → have_some todo ≡ true → Completion names todo
completion names few todo h =
    let m : AllMade (IsWritten names) todo = made (written_as names) (fits names few) (vector_token names) (fits_vector names) (hint_token names) (fits_hint names)
    (IsWritten names) (record { tokens = []; is = refl }) (λ k u g w. one_more names (kind_of (fresh_name names) k) u w) (λ u w. one_more names (token.Name (codes "int4")) u w) (λ u w. one_more names (token.Name (codes "vec_type_hint")) u w) (both names) todo h in
    record { tokens = m.written.tokens; are = subst (Are todo) m.written.is m.are }
