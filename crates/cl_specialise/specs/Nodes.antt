-- How many nodes a function counts: what it makes, moves or passes, scalar by scalar, if each of its expressions is evaluated once.
use Rattle.std.specs.Prelude.{ℕ, ◌+◌, max, Bool, true, false, ◌&&◌, ◌||◌, if◌then◌else◌, List, [], ◌∷◌}
use Rattle.cl_types.specs.declared.types.ClType.{ClType}
use Rattle.cl_types.specs.declared.types.TypeId.{TypeId}
use Rattle.cl_types.specs.declared.operator.UnOp.TheVariants as un
use Rattle.cl_tree.specs.Shapes.{shape_of, is_pointer, is_array}
use Rattle.cl_meaning.specs.declared.code.Node.{Node}
use Rattle.cl_meaning.specs.Code.{Expr, Exprs, Tree, NoExpr, AndExpr}
use Rattle.cl_meaning.specs.declared.code.Node.TheVariants as kind
use Rattle.cl_common.specs.Types.{count_at}
use Rattle.cl_provenance.specs.Routines.{Routine, type_of}

module _ (cs : List ClType) where
  -- a place (an lvalue: C99, 6.3.2.1)
  abbrev mutual
    pub is_place : Expr → Bool
    is_place (Tree (kind.Param k) ty n es) = true
    is_place (Tree (kind.Var k) ty n es) = true
    is_place (Tree (kind.Local k) ty n es) = true
    is_place (Tree (kind.Constant k) ty n es) = true
    is_place (Tree (kind.Unary un.Deref) ty n es) = is_element es
    is_place (Tree kind.Index ty n es) = is_element es
    is_place (Tree (kind.Member k) ty n es) = is_first_place es
    is_place (Tree (kind.Components at) ty n es) = is_first_place es
    is_place _ = false

    pub is_element : Exprs → Bool
    is_element NoExpr = false
    is_element (AndExpr a es) = is_pointer (shape_of cs (type_of a)) || is_place a

    pub is_first_place : Exprs → Bool
    is_first_place NoExpr = false
    is_first_place (AndExpr a es) = is_place a

  -- of `.`, `->`, `[]` and `&` the operand may be a place, of which nothing is read
  abbrev pub takes_place : Node → Bool
  takes_place (kind.Unary un.Address) = true
  takes_place kind.Index = true
  takes_place (kind.Member k) = true
  takes_place (kind.Components at) = true
  takes_place _ = false

  abbrev pub scalars_in : Exprs → ℕ
  scalars_in NoExpr = 0
  scalars_in (AndExpr e es) = count_at cs (type_of e) + scalars_in es

  -- a call passes the scalars of its arguments
  abbrev pub passed : Node → Exprs → ℕ
  passed (kind.Call f) es = scalars_in es
  passed (kind.Builtin b) es = scalars_in es
  passed _ es = 0

  -- an initialiser list makes the scalars of what it fills; any other node those of its type, or one where that is void, an array, or such a place
  abbrev pub made : Bool → Node → TypeId → ℕ
  made is_named kind.Fill ty = count_at cs ty
  made is_named node ty = if is_named || is_array (shape_of cs ty) then 1 else max 1 (count_at cs ty)

  abbrev mutual
    pub nodes_of : Bool → Expr → ℕ
    nodes_of operand (Tree node ty n es) = made (operand && is_place (Tree node ty n es)) node ty + (passed node es + nodes_in (takes_place node) es)

    pub nodes_in : Bool → Exprs → ℕ
    nodes_in operand NoExpr = 0
    nodes_in operand (AndExpr e es) = nodes_of operand e + nodes_in false es

  abbrev pub nodes_among : List Expr → ℕ
  nodes_among [] = 0
  nodes_among (e ∷ es) = nodes_of false e + nodes_among es

  abbrev pub nodes : Routine → ℕ
  nodes f = nodes_among f.trees
