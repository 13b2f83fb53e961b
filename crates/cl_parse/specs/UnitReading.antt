-- How far a unit was read.
use Rattle.std.specs.Prelude.{◌≡◌, ◌<◌, ◌≤◌, List, [], ◌∷◌, ◌++◌, length, take, drop}
use Rattle.cl_ast.specs.declared.declaration.External.{External}
use Rattle.cl_grammar.specs.declared.lexeme.Lexeme.{Lexeme}
use Rattle.cl_grammar.specs.declared.names.TypeName.{TypeName}
use Rattle.cl_grammar.specs.Units.{IsUnit, UnitTree}
use Rattle.cl_parse.specs.declared.unit.Progress.{Progress}

-- Declarations with these trees stand before what is left of the tokens, and their typedefs declared these names: what is a unit behind
-- them makes one with them, and so does nothing else that goes on with the token there.
pub record UnitRead (names : List TypeName) (trees : List External) (before tail : List Lexeme) : Type 0 where
  pub only : (l : Lexeme) (v w : List Lexeme) → tail ≡ l ∷ v → IsUnit [] (before ++ l ∷ w) → IsUnit names (l ∷ w)
  pub sentence : (u : List Lexeme) → IsUnit names u → IsUnit [] (before ++ u)
  pub tree : (u : List Lexeme) (es : List External) → UnitTree names u es → UnitTree [] (before ++ u) (trees ++ es)

-- the same up to an index
pub record IsReadTo (ts : List Lexeme) (p : Progress) : Type 0 where
  pub read : UnitRead p.names p.externals (take p.at ts) (drop p.at ts)
  pub few : length p.names ≤ p.at
  pub within : p.at < length ts

-- a unit ends there
pub record EndsThere (ts : List Lexeme) (p : Progress) : Type 0 where
  pub is : UnitTree [] (take p.at ts) p.externals
