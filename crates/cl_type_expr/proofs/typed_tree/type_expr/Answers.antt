use Rattle.std.proofs.Common.{subst}
use Rattle.cl_type_expr.specs.Scopes.{IsTypedTree}
use Rattle.cl_type_expr.proofs.typed_tree.type_expr.Goals as goal

pub returns-clause-tree : goal.returns-clause-tree
returns-clause-tree c =
    subst (λ env. IsTypedTree c.expr.new.types env c.args.e.now c.in_ok-typed.typed.tree) c.in_ok-names.ensures
    (record { after = c.expr.new.names; operand = c.in_ok-typed.typed.operand; types = c.in_ok-typed.ensures.ok.types })
