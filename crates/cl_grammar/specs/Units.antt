-- The sentences of the language, and the verdict on a list of tokens: its tree, or its first offence.
use Rattle.std.specs.Prelude.{◌≡◌, ℕ, ◌+◌, ◌-◌, ◌<◌, ◌≤◌, Bool, true, false, ◌&&◌, ◌||◌, not, nat_le, if◌then◌else◌, Option, Some, None, List, [], ◌∷◌, ◌++◌, length, take, drop, map, slice_get, Result, Ok, Err}
use Rattle.clv_place.specs.declared.place.Place.{Place}
use Rattle.clv_place.specs.declared.stop.Offence.{Offence}
use Rattle.cl_lexer.specs.declared.token.Token.{Token}
use Rattle.cl_lexer.specs.declared.token.Tokens.{Tokens}
use Rattle.cl_ast.specs.declared.declaration.Ast.{Ast}
use Rattle.cl_ast.specs.declared.declaration.External.{External}
use Rattle.cl_grammar.specs.declared.lexeme.Lexeme.{Lexeme}
use Rattle.cl_grammar.specs.declared.names.TypeName.{TypeName}
use Rattle.cl_grammar.specs.declared.terminal.Terminal.{Terminal}
use Rattle.cl_grammar.specs.declared.terminal.Terminal.TheVariants as t
use Rattle.cl_grammar.specs.Expressions.{is_open}
use Rattle.cl_grammar.specs.Lexemes.{lexeme_of, resolved}
use Rattle.cl_grammar.specs.Statements.{IsExternal, is_vector_hint, is_size_name}
use Rattle.cl_grammar.specs.StatementTrees.{ExternalTree}
use Rattle.cl_grammar.specs.Weights.{first_over}

-- unit = external {external}, where typedefs have declared these names so far. A typedef's name is the name of a type
-- from the end of the typedef on.
pub data IsUnit : List TypeName → List Lexeme → Type 0 where
  last : (names declared : List TypeName) (u : List Lexeme) → IsExternal declared (resolved names u) → IsUnit names u
  more : (names declared : List TypeName) (u v : List Lexeme) → IsExternal declared (resolved names u) → IsUnit (names ++ declared) v → IsUnit names (u ++ v)

pub data UnitTree : List TypeName → List Lexeme → List External → Type 0 where
  last : (names declared : List TypeName) (u : List Lexeme) (e : External) → IsExternal declared (resolved names u) → ExternalTree (resolved names u) e → UnitTree names u (e ∷ [])
  more : (names declared : List TypeName) (u v : List Lexeme) (e : External) (es : List External) → IsExternal declared (resolved names u) → ExternalTree (resolved names u) e → UnitTree (names ++ declared) v es → UnitTree names (u ++ v) (e ∷ es)

abbrev pub seen_as : List Token → List Lexeme
seen_as tokens = map lexeme_of tokens

-- tokens are a unit
abbrev pub IsSentence : List Token → Type 0
IsSentence tokens = IsUnit [] (seen_as tokens)

-- some sentence begins so
abbrev pub IsBegun : List Token → Type 0
IsBegun front = (rest : List Token) × IsSentence (front ++ rest)

-- The syntax offence stands at an index: some sentence begins with the tokens before it, and none with the token there too,
-- or, behind the last token, none ends there.
pub record IsSyntaxOffence (tokens : List Token) (k : ℕ) : Type 0 where
  pub within : k ≤ length tokens
  pub begun : IsBegun (take k tokens)
  pub no_more : k < length tokens → IsBegun (take (k + 1) tokens) → ⊥
  pub no_end : k ≡ length tokens → IsSentence tokens → ⊥

abbrev pub is_refused : Terminal → Bool
is_refused t.Refused = true
is_refused _ = false

abbrev pub is_stray : Terminal → Bool
is_stray t.Stray = true
is_stray _ = false

abbrev pub is_attribute : Terminal → Bool
is_attribute t.Attribute = true
is_attribute _ = false

-- a word
abbrev pub is_word : Lexeme → Bool
is_word l = nat_le 1 (length l.text)

abbrev pub stands_refused : List Lexeme → Bool
stands_refused [] = false
stands_refused (l ∷ ls) = is_refused l.terminal

-- the name of no attribute of the language, behind `__attribute__((`
abbrev pub names_no_attribute : List Lexeme → Bool
names_no_attribute (a ∷ o ∷ p ∷ n ∷ rest) = is_attribute a.terminal && (is_open o.terminal && (is_open p.terminal && (is_word n && (not (is_stray n.terminal) && not (is_vector_hint n.text || is_size_name n.text)))))
names_no_attribute _ = false

-- 203: a word that the subset leaves out, or the name of another attribute; 201: any other token, and the end
abbrev pub code_at : List Lexeme → ℕ → ℕ
code_at ls k = if stands_refused (drop k ls) || (nat_le 3 k && names_no_attribute (drop (k - 3) ls)) then 203 else 201

abbrev pub place_or : Place → Option Token → Place
place_or end None = end
place_or end (Some token) = token.place

-- the place of the token at an index, or of the end
abbrev pub place_at : Tokens → ℕ → Place
place_at tokens k = place_or tokens.end (slice_get tokens.list k)

-- no token before this index raises the weight too far
abbrev pub IsLight : List Lexeme → ℕ → Type 0
IsLight ls k = (w : ℕ) → first_over ls ≡ Some w → k ≤ w

-- The verdict: the tree of the tokens; 201 or 203 at the syntax offence, if none before it raises the weight too far; or 202 at
-- the first token that does, if some sentence begins with the tokens up to it.
pub data Judges (tokens : Tokens) : Result Ast Offence → Type 0 where
  parsed : (ast : Ast) → UnitTree [] (seen_as tokens.list) ast.externals → first_over (seen_as tokens.list) ≡ None → Judges tokens (Ok ast)
  refused : (k : ℕ) → IsSyntaxOffence tokens.list k → IsLight (seen_as tokens.list) k → Judges tokens (Err (record { code = code_at (seen_as tokens.list) k; place = place_at tokens k }))
  heavy : (w : ℕ) → first_over (seen_as tokens.list) ≡ Some w → IsBegun (take (w + 1) tokens.list) → Judges tokens (Err (record { code = 202; place = place_at tokens w }))
