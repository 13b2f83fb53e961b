-- How much a text nests and chains: a bound on the depth of any tree of it.
use Rattle.std.specs.Prelude.{ℕ, ◌+◌, Bool, true, false, ◌&&◌, ◌||◌, not, nat_lt, if◌then◌else◌, List, [], ◌∷◌, Option, Some, None, sum}
use Rattle.cl_grammar.specs.declared.lexeme.Lexeme.{Lexeme}
use Rattle.cl_grammar.specs.declared.terminal.Terminal.{Terminal}
use Rattle.cl_grammar.specs.declared.terminal.Terminal.TheVariants as t

-- The text and each open bracket have a counter. A list of counters begins with that of the innermost bracket and ends with the text's.

abbrev pub is_opening : Terminal → Bool
is_opening t.OpenParen = true
is_opening t.OpenBracket = true
is_opening t.OpenBrace = true
is_opening _ = false

abbrev pub is_closing : Terminal → Bool
is_closing t.CloseParen = true
is_closing t.CloseBracket = true
is_closing t.CloseBrace = true
is_closing _ = false

-- marks that are operators: all but brackets, `,` and `;`
abbrev pub is_operator : Terminal → Bool
is_operator t.Colon = true
is_operator t.Question = true
is_operator t.Dot = true
is_operator t.Arrow = true
is_operator t.Increment = true
is_operator t.Decrement = true
is_operator t.Tilde = true
is_operator t.Exclamation = true
is_operator t.Ampersand = true
is_operator t.Star = true
is_operator t.Plus = true
is_operator t.Minus = true
is_operator (t.Infix op) = true
is_operator t.Equals = true
is_operator (t.Compound op) = true
is_operator _ = false

abbrev pub is_nesting_word : Terminal → Bool
is_nesting_word t.If = true
is_nesting_word t.Else = true
is_nesting_word t.For = true
is_nesting_word t.While = true
is_nesting_word t.Do = true
is_nesting_word t.Switch = true
is_nesting_word t.Case = true
is_nesting_word t.Default = true
is_nesting_word t.Return = true
is_nesting_word t.Sizeof = true
is_nesting_word _ = false

-- `,`, `;` and `}`
abbrev pub is_parting : Terminal → Bool
is_parting t.Comma = true
is_parting t.Semicolon = true
is_parting t.CloseBrace = true
is_parting _ = false

abbrev pub is_else : Terminal → Bool
is_else t.Else = true
is_else _ = false

abbrev pub begins_else : List Lexeme → Bool
begins_else [] = false
begins_else (l ∷ ls) = is_else l.terminal

-- what a token adds to the counter of the innermost bracket open before it
abbrev pub added_by : Terminal → ℕ
added_by terminal = if is_opening terminal || (is_operator terminal || is_nesting_word terminal) then 1 else 0

abbrev pub raised : Terminal → List ℕ → List ℕ
raised terminal [] = []
raised terminal (c ∷ cs) = (c + added_by terminal) ∷ cs

-- without the counter of the innermost bracket; the text's stays
abbrev pub closed : List ℕ → List ℕ
closed [] = []
closed (c ∷ []) = c ∷ []
closed (c ∷ d ∷ cs) = d ∷ cs

abbrev pub bracketed : Terminal → List ℕ → List ℕ
bracketed terminal counters =
    if is_opening terminal then 0 ∷ counters
    else if is_closing terminal then closed counters
    else counters

abbrev pub cleared : List ℕ → List ℕ
cleared [] = []
cleared (c ∷ cs) = 0 ∷ cs

-- `,`, `;` and `}` set the counter of the innermost bracket open behind them to 0, unless `else` stands next
abbrev pub parted : Terminal → List Lexeme → List ℕ → List ℕ
parted terminal next counters = if is_parting terminal && not (begins_else next) then cleared counters else counters

-- the counters behind a token that has these tokens next
abbrev pub counters_behind : Terminal → List Lexeme → List ℕ → List ℕ
counters_behind terminal next counters = parted terminal next (bracketed terminal (raised terminal counters))

-- The first token that raises the sum of the counters over 256, by its index, where the tokens that are left begin at an index.
abbrev pub first_over_from : ℕ → List ℕ → List Lexeme → Option ℕ
first_over_from at counters [] = None
first_over_from at counters (l ∷ ls) =
    if nat_lt 256 (sum (raised l.terminal counters)) then Some at
    else first_over_from (at + 1) (counters_behind l.terminal ls counters) ls

unfoldable pub first_over : List Lexeme → Option ℕ
first_over lexemes = first_over_from 0 (0 ∷ []) lexemes
