-- The longest expression at the head of some tokens, and where none goes on.
use Rattle.std.specs.Prelude.{ℕ, ◌+◌, ◌-◌, ◌<◌, ◌≤◌, length, take, drop, List, ◌++◌}
use Rattle.cl_ast.specs.declared.expression.Expr.{Expr}
use Rattle.cl_lexer.specs.declared.token.Tokens.{Tokens}
use Rattle.cl_grammar.specs.declared.lexeme.Lexeme.{Lexeme}
use Rattle.cl_grammar.specs.declared.names.TypeName.{TypeName}
use Rattle.cl_grammar.specs.declared.stop.ExprStop.{ExprStop}
use Rattle.cl_grammar.specs.declared.stop.ExprStop.TheVariants.{Out, NoMemory}
use Rattle.cl_grammar.specs.Expressions.{AreAssigns}
use Rattle.cl_grammar.specs.ExpressionTrees.{ExprTree}
use Rattle.cl_grammar.specs.Lexemes.{lexemes_of, resolved}

-- tokens from one index to another as the grammar sees them behind typedefs, and the end behind them
abbrev pub seen_between : Tokens → List TypeName → ℕ → ℕ → List Lexeme
seen_between tokens names at end = resolved names (lexemes_of (take (end - at) (drop at tokens.list)) tokens.end)

-- So many tokens are an expression with this tree, and no expression begins with them and the next token, or the end.
pub record Longest (ts : List Lexeme) (n : ℕ) (tree : Expr) : Type 0 where
  pub within : n < length ts
  pub are : AreAssigns (take n ts)
  pub is : ExprTree (take n ts) tree
  pub no_more : (w : List Lexeme) → AreAssigns (take (n + 1) ts ++ w) → ⊥

-- Some expression begins with so many tokens, and none with the next one, or the end, too.
pub record FirstOut (ts : List Lexeme) (n : ℕ) : Type 0 where
  pub within : n < length ts
  pub rest : List Lexeme
  pub begun : AreAssigns (take n ts ++ rest)
  pub no_more : (w : List Lexeme) → AreAssigns (take (n + 1) ts ++ w) → ⊥

-- the same of a stop, whose index counts from a first one, unless memory ran out
abbrev pub IsOut : List Lexeme → ℕ → ExprStop → Type 0
IsOut ts at (Out k) = (at ≤ k) × FirstOut ts (k - at)
IsOut ts at NoMemory = Unit {0}

pub record StopsAt (ts : List Lexeme) (at : ℕ) (stop : ExprStop) : Type 0 where
  pub stops : IsOut ts at stop
