-- What typing an expression in a scope answers: in the table that it leaves, and in each that has more types.
use Rattle.std.specs.Prelude.{false, List}
use Rattle.cl_types.specs.declared.types.ClType.{ClType}
use Rattle.cl_ast.specs.declared.expression.Expr.{Expr}
use Rattle.cl_tree.specs.declared.expression.TExpr.{TExpr}
use Rattle.cl_rules.specs.declared.rule.Operand.{Operand}
use Rattle.cl_scope.specs.Names.{Env}
use Rattle.cl_make.specs.Ready.{From}
use Rattle.cl_type_expr.specs.Expressions.{Types}

-- the typed tree of an expression in these declarations
pub record IsTypedTree (cs : List ClType) (env : Env) (e : Expr) (t : TExpr) : Type 0 where
  pub after : Env
  pub operand : Operand
  pub types : From cs (λ more. Types more env false e after t operand)
