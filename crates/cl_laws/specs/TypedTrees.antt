-- What typing makes of an expression is a typed tree: each node is typed by its operands, in lists that have what the declarations round
-- the expression declare, and have what it declares besides.
use Rattle.std.specs.Prelude.{◌≡◌, Bool, true}
use Rattle.cl_types.specs.Table.{IsTable}
use Rattle.cl_ast.specs.declared.expression.Expr.{Expr}
use Rattle.cl_tree.specs.declared.expression.TExpr.{TExpr}
use Rattle.cl_tree.specs.Facts.{Lists}
use Rattle.cl_tree.specs.Units.{are_allowed}
use Rattle.cl_rules.specs.declared.rule.Operand.{Operand}
use Rattle.cl_scope.specs.Names.{Env}
use Rattle.cl_type_expr.specs.Expressions.{Types}
use Rattle.cl_laws.specs.Agreement.{Agrees, IsTypedAs}

abbrev pub EachTreeIsTyped : Type 0
EachTreeIsTyped = (l : Lists) (env after : Env) (left : Bool) (e : Expr) (t : TExpr) (o : Operand) → IsTable l.types → are_allowed l.types l.types ≡ true → Types l.types env left e after t o → Agrees l env → Agrees l after × IsTypedAs l t o
