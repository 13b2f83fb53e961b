-- What declarations at file scope declare for the tokens behind them.
use Rattle.std.specs.Prelude.{◌≡◌, Bool, None, List, [], ◌∷◌}
use Rattle.cl_ast.specs.declared.declaration.External.{External}
use Rattle.cl_ast.specs.declared.declaration.External.TheVariants as tree
use Rattle.cl_ast.specs.declared.expression.Base.TheViews.{out-Declor}
use Rattle.cl_grammar.specs.declared.lexeme.Lexeme.{Lexeme}
use Rattle.cl_grammar.specs.declared.names.TypeName.{TypeName}
use Rattle.cl_grammar.specs.Lexemes.{vector_of}
use Rattle.cl_grammar.specs.Statements.{IsExternal}

-- a typedef declares its name, which stands for a vector type or not
abbrev pub declared_by : External → Bool → List TypeName
declared_by (tree.Typedef spec name) vector = record { name = (out-Declor name).name; vector = vector } ∷ []
declared_by _ vector = []

-- tokens are a declaration that declares these names, and can be read as none that declares others
pub record Declares (declared : List TypeName) (u : List Lexeme) : Type 0 where
  pub is : IsExternal declared u
  pub same : (d : List TypeName) → IsExternal d u → d ≡ declared

-- none of them is declared yet
pub record AreNew (names declared : List TypeName) : Type 0 where
  pub new : (n : TypeName) (ns : List TypeName) → declared ≡ n ∷ ns → vector_of names n.name ≡ None
