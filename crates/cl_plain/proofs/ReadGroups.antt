-- Operands and operators group to one plain tree.
use Rattle.std.proofs.Common.{◌≡◌, List, [], ◌∷◌, refl, sym, ap, ◌∙◌}
use Rattle.cl_ast.specs.declared.expression.Expr.{Expr}
use Rattle.cl_ast.specs.declared.expression.ExprNode.TheVariants as node
use Rattle.cl_grammar.specs.declared.operator.Operator.{Operator}
use Rattle.cl_grammar.specs.ExpressionTrees.{Joins, level_at}
use Rattle.cl_precedence.specs.Grouping.{Groups, JoinsSome, JoinsOne, viewed}
use Rattle.cl_precedence.proofs.Unique.{some, one, seen}
use Rattle.cl_plain.specs.Plain.{Plain, expr, untyped, over, leaf, plain_expr}
use Rattle.cl_plain.proofs.PlainParts.{expr_of, binary_node}

abbrev pub joined : Operator → Plain → Plain → Plain
joined o left right = over (expr o.place) (leaf (untyped (node.Binary o.op)) ∷ left ∷ right ∷ [])

abbrev PlainJoins : Operator → Plain → Plain → Plain → Type 0
PlainJoins o left right e = e ≡ joined o left right

joins_some : JoinsSome PlainJoins
joins_some = record { some = λ o left right. (joined o left right, refl) }

joins_one : JoinsOne PlainJoins
joins_one = record { one = λ o left right a b h k. h ∙ sym k }

-- the tree of a row
pub grouped : Plain → List (Operator × Plain) → Plain
grouped a row = (some level_at PlainJoins joins_some a row).0

joins_plain : (o : Operator) (left right e : Expr) → Joins o left right e → PlainJoins o (plain_expr left) (plain_expr right) (plain_expr e)
joins_plain o left right e h = expr_of e o.place (node.Binary o.op) (left ∷ right ∷ []) h.at h.is h.has ∙ ap (λ z. over (expr o.place) (z ∷ plain_expr left ∷ plain_expr right ∷ [])) (binary_node o.op)

pub groups_plain : (a : Expr) (row : List (Operator × Expr)) (e : Expr) → Groups level_at Joins a row e → plain_expr e ≡ grouped (plain_expr a) (viewed plain_expr row)
unfolding grouped
groups_plain a row e h =
    one level_at PlainJoins joins_one (plain_expr a) (viewed plain_expr row) (plain_expr e) (grouped (plain_expr a) (viewed plain_expr row))
    (seen level_at Joins PlainJoins plain_expr joins_plain a row e h) (some level_at PlainJoins joins_some (plain_expr a) (viewed plain_expr row)).1
