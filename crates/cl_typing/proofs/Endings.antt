-- Which statements end a list, node by node.
use Rattle.std.proofs.Common.{◌≡◌, ◌≤◌, ◌<◌, Bool, false, ◌&&◌, ◌||◌, List, [], ◌∷◌, length, get_or, map, refl, sym, ap, ◌∙◌, arith}
use Rattle.std.specs.Global.{Vec}
use Rattle.cl_ast.specs.declared.expression.Expr.{Expr}
use Rattle.cl_ast.specs.declared.statement.Stmt.{Stmt}
use Rattle.cl_ast.specs.declared.statement.StmtNode.{StmtNode}
use Rattle.cl_ast.specs.declared.statement.StmtNode.TheVariants as node
use Rattle.cl_ast.specs.declared.statement.StmtNode.TheViews.{out-Stmt}
use Rattle.cl_ast.specs.declared.statement.StmtNode.TheVariants.{rolls-Block, rolls-If}
use Rattle.cl_ast.specs.declared.statement.StmtNode.TheOpen as layer
use Rattle.cl_ast.specs.declared.statement.StmtNode.TheFolds.{fold-StmtNode, fold-roll-StmtNode, fold_out-Stmt}
use Rattle.cl_typing.specs.Statements.{node_ends, group_ends, stmt_ends, some_ends, two_end, ends, list_ends}

abbrev pub node_end : StmtNode → Bool
node_end = fold-StmtNode Bool Bool Bool node_ends group_ends stmt_ends

pub ends_at : (s : Stmt) → ends s ≡ node_end (out-Stmt s).node
ends_at = fold_out-Stmt Bool Bool Bool node_ends group_ends stmt_ends

pub each_ends : (ss : List Stmt) → some_ends (map ends ss) ≡ list_ends ss
each_ends [] = refl
each_ends (s ∷ ss) = ap (λ b. ends s || b) (each_ends ss)

-- ---- blocks and `if`

block_end : (items : Vec Stmt) → node_end (node.Block items) ≡ some_ends (map ends items.items)
block_end items = ap node_end (sym (rolls-Block items)) ∙ fold-roll-StmtNode Bool Bool Bool node_ends group_ends stmt_ends (layer.Block items)

pub if_end : (e : Expr) (arms : Vec Stmt) → node_end (node.If e arms) ≡ two_end (map ends arms.items)
if_end e arms = ap node_end (sym (rolls-If e arms)) ∙ fold-roll-StmtNode Bool Bool Bool node_ends group_ends stmt_ends (layer.If e arms)

pub block_ends : (s : Stmt) (items : Vec Stmt) → (out-Stmt s).node ≡ node.Block items → list_ends items.items ≡ ends s
block_ends s items is = sym (ends_at s ∙ ap node_end is ∙ block_end items ∙ each_ends items.items)

module _ (s : Stmt) (e : Expr) (arms : Vec Stmt) (is : (out-Stmt s).node ≡ node.If e arms) (xs : List Stmt) (same : xs ≡ arms.items) where
  choice_ends : two_end (map ends xs) ≡ ends s
  choice_ends = ap (λ z. two_end (map ends z)) same ∙ sym (ends_at s ∙ ap node_end is ∙ if_end e arms)

  two_here : (a b : Stmt) → (ys : List Stmt) → 2 ≤ length ys → length ys < 3 → a ≡ get_or ys 0 a → b ≡ get_or ys 1 b → (ends a && ends b) ≡ two_end (map ends ys)
  two_here a b [] h k p q = absurd (omega arith)
  two_here a b (x ∷ []) h k p q = absurd (omega arith)
  two_here a b (x ∷ y ∷ []) h k p q = ap (λ z. ends z && ends b) p ∙ ap (λ z. ends x && ends z) q
  two_here a b (x ∷ y ∷ z ∷ zs) h k p q = absurd (omega arith)

  pub both_end : (a b : Stmt) → 2 ≤ length xs → length xs < 3 → a ≡ get_or xs 0 a → b ≡ get_or xs 1 b → (ends a && ends b) ≡ ends s
  both_end a b h k p q = two_here a b xs h k p q ∙ choice_ends

  few_here : (ys : List Stmt) → length ys < 2 → false ≡ two_end (map ends ys)
  few_here [] h = refl
  few_here (x ∷ []) h = refl
  few_here (x ∷ y ∷ ys) h = absurd (omega arith)

  pub few_end : length xs < 2 → false ≡ ends s
  few_end h = few_here xs h ∙ choice_ends

  many_here : (ys : List Stmt) → 3 ≤ length ys → false ≡ two_end (map ends ys)
  many_here [] h = absurd (omega arith)
  many_here (x ∷ []) h = absurd (omega arith)
  many_here (x ∷ y ∷ []) h = absurd (omega arith)
  many_here (x ∷ y ∷ z ∷ zs) h = refl

  pub many_end : 3 ≤ length xs → false ≡ ends s
  many_end h = many_here xs h ∙ choice_ends
