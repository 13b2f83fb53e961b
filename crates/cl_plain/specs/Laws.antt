-- Tokens have one tree.
use Rattle.std.specs.Prelude.{◌≡◌, Ok}
use Rattle.cl_lexer.specs.declared.token.Tokens.{Tokens}
use Rattle.cl_ast.specs.declared.declaration.Ast.{Ast}
use Rattle.cl_grammar.specs.Units.{Judges}
use Rattle.cl_plain.specs.Plain.{plain_unit}

-- two units say the same
abbrev pub SaysTheSame : Ast → Ast → Type 0
SaysTheSame a b = plain_unit a.externals ≡ plain_unit b.externals

-- the grammar is unambiguous
abbrev pub OneTree : Type 0
OneTree = (tokens : Tokens) (a b : Ast) → Judges tokens (Ok a) → Judges tokens (Ok b) → SaysTheSame a b
