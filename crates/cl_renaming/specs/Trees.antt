-- Typed trees that are one but for the numbers of their types.
use Rattle.std.specs.Prelude.{◌≡◌, ℕ, List, [], ◌∷◌}
use Rattle.clv_num.specs.declared.Bits.{Bits}
use Rattle.clv_place.specs.declared.place.Place.{Place}
use Rattle.cl_types.specs.declared.types.TypeId.{TypeId}
use Rattle.cl_tree.specs.declared.expression.TExpr.{TExpr}
use Rattle.cl_tree.specs.declared.expression.TNode.TheVariants as tnode
use Rattle.cl_rules.specs.declared.rule.Head.{Head}
use Rattle.cl_make.specs.Building.{IsTyped, IsNode}
use Rattle.cl_renaming.specs.Renaming.{type_id}

mutual
  pub data IsTreeAs (r : ℕ → ℕ) : TExpr → TExpr → Type 0 where
    number : (t u : TExpr) (ty : TypeId) (place : Place) (n m : Bits) → IsTyped t ty place (tnode.Number n) → IsTyped u (type_id r ty) place (tnode.Number m) → m.width ≡ n.width → m.value ≡ n.value → IsTreeAs r t u
    node : (t u : TExpr) (ty : TypeId) (place : Place) (h : Head) (ts us : List TExpr) → IsNode t ty place h ts → IsNode u (type_id r ty) place h us → AreTreesAs r ts us → IsTreeAs r t u

  pub data AreTreesAs (r : ℕ → ℕ) : List TExpr → List TExpr → Type 0 where
    none : AreTreesAs r [] []
    more : (t u : TExpr) (ts us : List TExpr) → IsTreeAs r t u → AreTreesAs r ts us → AreTreesAs r (t ∷ ts) (u ∷ us)
