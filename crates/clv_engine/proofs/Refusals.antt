-- What the phases say of the kernel that a text is.
use Rattle.std.proofs.Common.{◌≡◌, Ok}
use Rattle.clv_place.specs.declared.stop.Offence.{Offence}
use Rattle.clv_place.specs.declared.stop.Stop.{Stop}
use Rattle.clv_place.specs.declared.stop.Stop.TheVariants.{Out, NoMemory}
use Rattle.std.proofs.Common.{ℕ, List}
use Rattle.cl_lexer.specs.declared.token.Tokens.{Tokens}
use Rattle.cl_lexer.specs.Answers.{AnswersStop as LexerStop}
use Rattle.cl_lexer.specs.Tokens.{Lexes}
use Rattle.cl_pre.specs.Answers.{AnswersStop}
use Rattle.cl_pre.specs.Expansion.{Expansion}
use Rattle.cl_ast.specs.declared.declaration.Ast.{Ast}
use Rattle.cl_grammar.specs.Units.{Judges}
use Rattle.cl_parse.specs.Verdicts.{AnswersStop as ParserStop}
use Rattle.cl_tree.specs.declared.tree.Tree.{Tree}
use Rattle.cl_typing.specs.Units.{IsTyped, StopsAt}
use Rattle.clv_engine.specs.declared.form.Kernel.{Kernel}
use Rattle.clv_engine.specs.FirstForm.{kinds_of, kernel_tokens, IsKernel, IsRead, IsIn, IsOut, lexing, expanding, parsing, typing, forming, IsStopOf}
use Rattle.clv_engine.specs.Forming.{IsNoKernel}

-- a text with its tokens and what they expand to
pub read_of : (text : List ℕ) (tokens expanded : Tokens) → Lexes text (Ok tokens) → Expansion tokens (Ok expanded) → IsRead text tokens expanded
read_of text tokens expanded l e = record { lexes = l; expands = e }

pub is_in : (text : List ℕ) (tokens expanded : Tokens) (tree : Ast) (typed : Tree) (k : Kernel) → IsRead text tokens expanded → Judges expanded (Ok tree) → IsTyped tree typed → IsKernel k → kinds_of expanded.list ≡ kernel_tokens k → IsIn text k
is_in text tokens expanded tree typed k r j t kernel e = record { tokens = tokens; expanded = expanded; is_read = r; tree = tree; parses = j; typed = typed; types = t; kernel = kernel; spelled = e }

pub lexer_stops : (text : List ℕ) (s : Stop) → LexerStop s (Lexes text) → IsStopOf text s
lexer_stops text (Out o) h = lexing h
lexer_stops text NoMemory h = tt

pub expansion_stops : (text : List ℕ) (tokens : Tokens) (s : Stop) → Lexes text (Ok tokens) → AnswersStop s (Expansion tokens) → IsStopOf text s
expansion_stops text tokens (Out o) l h = expanding tokens l h
expansion_stops text tokens NoMemory l h = tt

pub parser_stops : (text : List ℕ) (tokens expanded : Tokens) (s : Stop) → IsRead text tokens expanded → ParserStop s (Judges expanded) → IsStopOf text s
parser_stops text tokens expanded (Out o) r h = parsing tokens expanded r h
parser_stops text tokens expanded NoMemory r h = tt

pub typing_stops : (text : List ℕ) (tokens expanded : Tokens) (tree : Ast) (s : Stop) → IsRead text tokens expanded → Judges expanded (Ok tree) → StopsAt tree s → IsStopOf text s
typing_stops text tokens expanded tree (Out o) r j h = typing tokens expanded tree r j h
typing_stops text tokens expanded tree NoMemory r j h = tt

pub not_built : (text : List ℕ) (tokens expanded : Tokens) (tree : Ast) (typed : Tree) (o : Offence) → IsRead text tokens expanded → Judges expanded (Ok tree) → IsTyped tree typed → IsNoKernel (kinds_of expanded.list) → o.code ≡ 900 → o.place.line ≡ 1 → o.place.col ≡ 1 → IsOut text o
not_built text tokens expanded tree typed o r j t none code line col = forming (record { tokens = tokens; expanded = expanded; is_read = r; tree = tree; parses = j; typed = typed; types = t; no_kernel = none; code = code; line = line; col = col })

pub ruleset refusals = (read_of, is_in, lexer_stops, expansion_stops, parser_stops, typing_stops, not_built)
