-- In what the contracts of the numbering's parts speak.
use Rattle.std.specs.Prelude.{ℕ, List, Option, Some, None}
use Rattle.cl_types.specs.declared.types.ClType.{ClType}
use Rattle.cl_tree.specs.declared.expression.TExpr.{TExpr}
use Rattle.cl_tree.specs.declared.unit.Variable.{Variable}
use Rattle.cl_tree.specs.Constants.{number_of}
use Rattle.cl_meaning.specs.Code.{Label, Default, Case, numbered}

-- A label of a `switch`, by the number of its first node, and the number behind it. Its nodes have numbers too.
abbrev pub label_at : List ClType → List Variable → Option TExpr → ℕ → Label × ℕ
label_at cs vars None n = (Default, n)
label_at cs vars (Some e) n = (Case (number_of cs e), (numbered vars e n).1)
