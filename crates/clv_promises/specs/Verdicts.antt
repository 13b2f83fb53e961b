-- The verdict of a text: the unit that it is, or its first offence. The phases follow each other, and a text is out at the first that has an offence:
-- tokens, macros and directives, syntax, types, pointers, limits of copies, limits of the interface.
use Rattle.std.specs.Prelude.{◌≡◌, ℕ, List, Some, None, Ok, Err}
use Rattle.clv_place.specs.declared.stop.Offence.{Offence}
use Rattle.clv_place.specs.declared.stop.Stop.{Stop}
use Rattle.clv_place.specs.declared.stop.Stop.TheVariants.{Out, NoMemory}
use Rattle.cl_lexer.specs.declared.token.Tokens.{Tokens}
use Rattle.cl_lexer.specs.Tokens.{Lexes}
use Rattle.cl_pre.specs.Expansion.{Expansion}
use Rattle.cl_ast.specs.declared.declaration.Ast.{Ast}
use Rattle.cl_grammar.specs.Units.{Judges}
use Rattle.cl_tree.specs.declared.tree.Tree.{Tree}
use Rattle.cl_typing.specs.Units.{IsTyped, IsOffence}
use Rattle.cl_provenance.specs.Routines.{Unit as Functions, unit_of}
use Rattle.cl_specialise.specs.Limits.{resolving, specialising}
use Rattle.vk_layout.specs.declared.options.Options.{Options}
use Rattle.vk_layout.specs.Limits.{laying}

-- the functions of a typed unit, as texts
abbrev pub functions_of : Tree → Functions
functions_of t = unit_of t.types t.constants t.functions

-- The text has these tokens, which expand to a unit of this syntax.
pub record IsParsed (text : List ℕ) (ast : Ast) : Type 0 where
  pub tokens : Tokens
  pub expanded : Tokens
  pub lexes : Lexes text (Ok tokens)
  pub expands : Expansion tokens (Ok expanded)
  pub parses : Judges expanded (Ok ast)

-- The text is this typed unit. Its types may have other numbers in another one.
pub record IsUnit (text : List ℕ) (tree : Tree) : Type 0 where
  pub ast : Ast
  pub parsed : IsParsed text ast
  pub typed : IsTyped ast tree

-- The text is in: it is this unit, whose pointers have objects and steps, and which keeps all limits.
pub record IsIn (text : List ℕ) (options : Options) (tree : Tree) : Type 0 where
  pub unit : IsUnit text tree
  pub resolves : resolving (functions_of tree) ≡ None
  pub specialises : specialising (functions_of tree) ≡ None
  pub lies : laying options.pod (functions_of tree) ≡ None

-- The text is out, at this offence.
pub data IsOut (text : List ℕ) (options : Options) (o : Offence) : Type 0 where
  lexing : Lexes text (Err o) → IsOut text options o
  expanding : (tokens : Tokens) → Lexes text (Ok tokens) → Expansion tokens (Err o) → IsOut text options o
  parsing : (tokens expanded : Tokens) → Lexes text (Ok tokens) → Expansion tokens (Ok expanded) → Judges expanded (Err o) → IsOut text options o
  typing : (ast : Ast) → IsParsed text ast → IsOffence ast o → IsOut text options o
  pointing : (tree : Tree) → IsUnit text tree → resolving (functions_of tree) ≡ Some o → IsOut text options o
  copying : (tree : Tree) → IsUnit text tree → resolving (functions_of tree) ≡ None → specialising (functions_of tree) ≡ Some o → IsOut text options o
  laying_out : (tree : Tree) → IsUnit text tree → resolving (functions_of tree) ≡ None → specialising (functions_of tree) ≡ None → laying options.pod (functions_of tree) ≡ Some o → IsOut text options o

-- The stop of a text: at its offence, or for want of memory, of which nothing is said.
abbrev pub IsStopOf : List ℕ → Options → Stop → Type 0
IsStopOf text options (Out o) = IsOut text options o
IsStopOf text options NoMemory = Unit {0}

-- No text is in and out, and a text has one offence at most.
abbrev pub InOrOut : Type 0
InOrOut = (text : List ℕ) (options : Options) (tree : Tree) (o : Offence) → IsIn text options tree → IsOut text options o → ⊥

abbrev pub OneOffence : Type 0
OneOffence = (text : List ℕ) (options : Options) (o p : Offence) → IsOut text options o → IsOut text options p → o ≡ p
