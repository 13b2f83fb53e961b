-- The texts that are compiled so far: kernels that store a sum at their own global id.
use Rattle.std.specs.Prelude.{◌≡◌, ◌≢◌, ℕ, ◌≤◌, Bool, true, ◌&&◌, nat_le, List, [], ◌∷◌, ◌++◌, length, map, codes, All, Ok, Err}
use Rattle.clv_place.specs.declared.stop.Offence.{Offence}
use Rattle.clv_place.specs.declared.stop.Stop.{Stop}
use Rattle.clv_place.specs.declared.stop.Stop.TheVariants.{Out, NoMemory}
use Rattle.cl_lexer.specs.declared.token.Token.{Token}
use Rattle.cl_lexer.specs.declared.token.TokenKind.{TokenKind}
use Rattle.cl_lexer.specs.declared.token.TokenKind.TheVariants.{Name, Number, Mark}
use Rattle.cl_lexer.specs.declared.token.Tokens.{Tokens}
use Rattle.cl_lexer.specs.Tokens.{Lexes}
use Rattle.cl_pre.specs.Expansion.{Expansion}
use Rattle.cl_ast.specs.declared.declaration.Ast.{Ast}
use Rattle.cl_grammar.specs.Units.{Judges}
use Rattle.cl_tree.specs.declared.tree.Tree.{Tree}
use Rattle.cl_typing.specs.Units.{IsTyped, IsOffence}
use Rattle.clv_engine.specs.declared.form.Kernel.{Kernel}
use Rattle.clv_engine.specs.declared.form.Term.{Term}
use Rattle.clv_engine.specs.declared.form.Term.TheVariants.{GlobalId, Literal}
use Rattle.clv_engine.specs.declared.form.mark.TheConstants as mark

abbrev pub is_lower_case : ℕ → Bool
is_lower_case b = nat_le 97 b && nat_le b 122

abbrev pub kind_of : Token → TokenKind
kind_of t = t.kind

abbrev pub kinds_of : List Token → List TokenKind
kinds_of = map kind_of

-- a literal that is an int
abbrev pub int_literal : ℕ → TokenKind
int_literal n = Number n 0

-- `get_global_id(0)`
abbrev pub global_id_tokens : List TokenKind
global_id_tokens = Name (codes "get_global_id") ∷ Mark mark.OPEN_ROUND ∷ int_literal 0 ∷ Mark mark.CLOSE_ROUND ∷ []

abbrev pub term_tokens : Term → List TokenKind
term_tokens GlobalId = global_id_tokens
term_tokens (Literal n) = int_literal n ∷ []

-- the terms with `+` between
abbrev pub sum_tokens : List Term → List TokenKind
sum_tokens [] = []
sum_tokens (t ∷ []) = term_tokens t
sum_tokens (t ∷ u ∷ ts) = term_tokens t ++ Mark mark.PLUS ∷ sum_tokens (u ∷ ts)

-- `__kernel void K(__global uint *A){A[get_global_id(0)]=` sum `;}`
abbrev pub kernel_tokens : Kernel → List TokenKind
kernel_tokens k =
    Name (codes "__kernel") ∷ Name (codes "void") ∷ Name (k.name ∷ []) ∷ Mark mark.OPEN_ROUND ∷ Name (codes "__global") ∷ Name (codes "uint") ∷ Mark mark.STAR ∷ Name (k.argument ∷ []) ∷ Mark mark.CLOSE_ROUND ∷ Mark mark.OPEN_CURLY ∷ Name (k.argument ∷ []) ∷ Mark mark.OPEN_SQUARE ∷ (global_id_tokens ++ Mark mark.CLOSE_SQUARE ∷ Mark mark.ASSIGN ∷ (sum_tokens k.terms ++ Mark mark.SEMICOLON ∷ Mark mark.CLOSE_CURLY ∷ []))

abbrev pub IsTerm : Term → Type 0
IsTerm GlobalId = Unit {0}
IsTerm (Literal n) = n ≤ 2147483647

-- The names are two different lower-case letters, and there are one to 100 terms.
pub record IsKernel (k : Kernel) : Type 0 where
  pub name : is_lower_case k.name ≡ true
  pub argument : is_lower_case k.argument ≡ true
  pub different : k.name ≢ k.argument
  pub some : 1 ≤ length k.terms
  pub few : length k.terms ≤ 100
  pub terms : All IsTerm k.terms

-- The text has these tokens, which expand to these.
pub record IsRead (text : List ℕ) (tokens expanded : Tokens) : Type 0 where
  pub lexes : Lexes text (Ok tokens)
  pub expands : Expansion tokens (Ok expanded)

-- The text's tokens expand to those of this kernel, which are a unit that keeps the typing rules.
pub record IsIn (text : List ℕ) (k : Kernel) : Type 0 where
  pub tokens : Tokens
  pub expanded : Tokens
  pub is_read : IsRead text tokens expanded
  pub tree : Ast
  pub parses : Judges expanded (Ok tree)
  pub typed : Tree
  pub types : IsTyped tree typed
  pub kernel : IsKernel k
  pub spelled : kinds_of expanded.list ≡ kernel_tokens k

-- Code 900, at 1:1: the text's tokens expand to a unit that keeps the typing rules, and to those of no such kernel.
pub record IsNotBuilt (text : List ℕ) (o : Offence) : Type 0 where
  pub tokens : Tokens
  pub expanded : Tokens
  pub is_read : IsRead text tokens expanded
  pub tree : Ast
  pub parses : Judges expanded (Ok tree)
  pub typed : Tree
  pub types : IsTyped tree typed
  pub no_kernel : (k : Kernel) → IsKernel k → kinds_of expanded.list ≡ kernel_tokens k → ⊥
  pub code : o.code ≡ 900
  pub line : o.place.line ≡ 1
  pub col : o.place.col ≡ 1

-- The offence of a text: the lexer's, else that of the expansion, else that of the grammar, else that of the typing rules, else code
-- 900.
pub data IsOut (text : List ℕ) (o : Offence) : Type 0 where
  lexing : Lexes text (Err o) → IsOut text o
  expanding : (tokens : Tokens) → Lexes text (Ok tokens) → Expansion tokens (Err o) → IsOut text o
  parsing : (tokens expanded : Tokens) → IsRead text tokens expanded → Judges expanded (Err o) → IsOut text o
  typing : (tokens expanded : Tokens) (tree : Ast) → IsRead text tokens expanded → Judges expanded (Ok tree) → IsOffence tree o → IsOut text o
  forming : IsNotBuilt text o → IsOut text o

-- The stop of a text: at its offence, or for want of memory, of which nothing is said.
abbrev pub IsStopOf : List ℕ → Stop → Type 0
IsStopOf text (Out o) = IsOut text o
IsStopOf text NoMemory = Unit {0}

-- No text is a kernel and out, and a text has one offence at most.
abbrev pub InOrOut : Type 0
InOrOut = (text : List ℕ) (k : Kernel) (o : Offence) → IsIn text k → IsOut text o → ⊥

abbrev pub OneOffence : Type 0
OneOffence = (text : List ℕ) (o p : Offence) → IsOut text o → IsOut text p → o ≡ p
