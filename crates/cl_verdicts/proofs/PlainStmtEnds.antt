-- Statements that say the same end the same lists.
use Rattle.std.proofs.Common.{◌≡◌, Bool, true, false, ◌||◌, List, [], ◌∷◌, map, refl, sym, ap, ◌∙◌, subst}
use Rattle.cl_ast.specs.declared.statement.Group.{Group}
use Rattle.cl_ast.specs.declared.statement.Stmt.{Stmt}
use Rattle.cl_ast.specs.declared.statement.StmtNode.{StmtNode}
use Rattle.cl_ast.specs.declared.statement.StmtNode.TheOpen.{StmtNode-F, Stmt-F}
use Rattle.cl_ast.specs.declared.statement.StmtNode.TheOpen as layer
use Rattle.cl_ast.specs.declared.statement.StmtNode.TheViews.{roll-StmtNode, roll-Stmt}
use Rattle.cl_ast.specs.declared.statement.StmtNode.TheFolds.{map-StmtNode, map-Stmt, fold-StmtNode, fold-roll-StmtNode, fold-roll-Stmt, ind-Stmt}
use Rattle.cl_typing.specs.declared.label.Tested.{Tested}
use Rattle.cl_typing.specs.Statements.{some_ends, two_end, node_ends, group_ends, stmt_ends, ends, list_ends, is_last, falls_at, falls}
use Rattle.cl_plain.specs.Plain.{Plain, Plains, Head, tree, none, more, plains, stmt_node_over, group_over, stmt_over, plain_stmt, plain_stmt_node, plain_group}
use Rattle.cl_plain.specs.Plain as h
use Rattle.cl_verdicts.proofs.PlainAlike.{Alike, nothing, each}

-- whether what says this ends a list, by whether its parts do
abbrev told_at : Head → List Bool → Bool
told_at h.block bs = some_ends bs
told_at h.choice (b ∷ bs) = two_end bs
told_at h.break bs = true
told_at h.continue bs = true
told_at h.return bs = true
told_at (h.stmt place) (b ∷ []) = b
told_at _ bs = false

abbrev mutual
  told : Plain → Bool
  told (tree h ts) = told_at h (each_told ts)

  each_told : Plains → List Bool
  each_told none = []
  each_told (more t ts) = told t ∷ each_told ts

-- ---- each statement tells it

abbrev node_end : StmtNode → Bool
node_end = fold-StmtNode Bool Bool Bool node_ends group_ends stmt_ends

abbrev IsToldNode : StmtNode → Type 0
IsToldNode n = told (plain_stmt_node n) ≡ node_end n

abbrev IsToldGroup : Group → Type 0
IsToldGroup g = Unit {0}

abbrev IsTold : Stmt → Type 0
IsTold s = told (plain_stmt s) ≡ ends s

abbrev ToldNode : Type 0
ToldNode = (n : StmtNode) × IsToldNode n

abbrev ToldGroup : Type 0
ToldGroup = (g : Group) × IsToldGroup g

abbrev ToldStmt : Type 0
ToldStmt = (s : Stmt) × IsTold s

abbrev node_in : ToldNode → StmtNode
node_in e = e.0

abbrev group_in : ToldGroup → Group
group_in e = e.0

abbrev stmt_in : ToldStmt → Stmt
stmt_in e = e.0

each_as : (es : List ToldStmt) → each_told (plains (map plain_stmt (map stmt_in es))) ≡ map ends (map stmt_in es)
each_as [] = refl
each_as (e ∷ es) = (λ i. e.1 i ∷ each_as es i)

abbrev bare_node : StmtNode-F ToldNode ToldGroup ToldStmt → StmtNode-F StmtNode Group Stmt
bare_node = map-StmtNode ToldNode ToldGroup ToldStmt StmtNode Group Stmt node_in group_in stmt_in

abbrev bare_stmt : Stmt-F ToldNode ToldGroup ToldStmt → Stmt-F StmtNode Group Stmt
bare_stmt = map-Stmt ToldNode ToldGroup ToldStmt StmtNode Group Stmt node_in group_in stmt_in

module _ (x : StmtNode-F StmtNode Group Stmt) where
  said : plain_stmt_node (roll-StmtNode x) ≡ stmt_node_over (map-StmtNode StmtNode Group Stmt Plain Plain Plain plain_stmt_node plain_group plain_stmt x)
  said = fold-roll-StmtNode Plain Plain Plain stmt_node_over group_over stmt_over x

told_layer : (y : StmtNode-F ToldNode ToldGroup ToldStmt) → IsToldNode (roll-StmtNode (bare_node y))
told_layer (layer.Block items) = ap told (said _) ∙ ap some_ends (each_as items.items) ∙ sym (fold-roll-StmtNode Bool Bool Bool node_ends group_ends stmt_ends (bare_node (layer.Block items)))
told_layer (layer.Decl spec items) = ap told (said _) ∙ sym (fold-roll-StmtNode Bool Bool Bool node_ends group_ends stmt_ends (layer.Decl spec items))
told_layer (layer.Expr e) = ap told (said _) ∙ sym (fold-roll-StmtNode Bool Bool Bool node_ends group_ends stmt_ends (layer.Expr e))
told_layer (layer.If e arms) = ap told (said _) ∙ ap two_end (each_as arms.items) ∙ sym (fold-roll-StmtNode Bool Bool Bool node_ends group_ends stmt_ends (bare_node (layer.If e arms)))
told_layer (layer.While e body) = ap told (said _) ∙ sym (fold-roll-StmtNode Bool Bool Bool node_ends group_ends stmt_ends (bare_node (layer.While e body)))
told_layer (layer.Do body e) = ap told (said _) ∙ sym (fold-roll-StmtNode Bool Bool Bool node_ends group_ends stmt_ends (bare_node (layer.Do body e)))
told_layer (layer.For decl first cond next body) = ap told (said _) ∙ sym (fold-roll-StmtNode Bool Bool Bool node_ends group_ends stmt_ends (bare_node (layer.For decl first cond next body)))
told_layer (layer.Switch e groups) = ap told (said _) ∙ sym (fold-roll-StmtNode Bool Bool Bool node_ends group_ends stmt_ends (bare_node (layer.Switch e groups)))
told_layer layer.Break = ap told (said _) ∙ sym (fold-roll-StmtNode Bool Bool Bool node_ends group_ends stmt_ends layer.Break)
told_layer layer.Continue = ap told (said _) ∙ sym (fold-roll-StmtNode Bool Bool Bool node_ends group_ends stmt_ends layer.Continue)
told_layer (layer.Return e) = ap told (said _) ∙ sym (fold-roll-StmtNode Bool Bool Bool node_ends group_ends stmt_ends (layer.Return e))
told_layer layer.Empty = ap told (said _) ∙ sym (fold-roll-StmtNode Bool Bool Bool node_ends group_ends stmt_ends layer.Empty)

told_node : (x : StmtNode-F StmtNode Group Stmt) (y : StmtNode-F ToldNode ToldGroup ToldStmt) → bare_node y ≡ x → IsToldNode (roll-StmtNode x)
told_node x y is = subst (λ z. IsToldNode (roll-StmtNode z)) is (told_layer y)

told_stmt : (x : Stmt-F StmtNode Group Stmt) (y : Stmt-F ToldNode ToldGroup ToldStmt) → bare_stmt y ≡ x → IsTold (roll-Stmt x)
told_stmt x y is =
    let node : IsToldNode x.node = subst IsToldNode (ap (λ z. z.node) is) y.node.1 in
    ap told (fold-roll-Stmt Plain Plain Plain stmt_node_over group_over stmt_over x) ∙ node ∙ sym (fold-roll-Stmt Bool Bool Bool node_ends group_ends stmt_ends x)

is_told : (s : Stmt) → IsTold s
is_told = ind-Stmt IsToldNode IsToldGroup IsTold (λ x y is. told_node x y is) (λ x y is. tt) (λ x y is. told_stmt x y is)

-- ---- what says the same ends the same

pub ends_same : (s f : Stmt) → plain_stmt f ≡ plain_stmt s → ends f ≡ ends s
ends_same s f p = sym (is_told f) ∙ ap told p ∙ is_told s

pub list_ends_same : (fs ss : List Stmt) → Alike plain_stmt fs ss → list_ends fs ≡ list_ends ss
list_ends_same _ _ nothing = refl
list_ends_same _ _ (each f s fs ss p ps) = (λ i. ends_same s f p i || list_ends_same fs ss ps i)

last_same : (hs gs : List Group) → Alike plain_group hs gs → is_last hs ≡ is_last gs
last_same _ _ nothing = refl
last_same _ _ (each f g fs gs p ps) = refl

pub falls_same : (k : Tested) (all body : List Stmt) (hs gs : List Group) → Alike plain_stmt all body → Alike plain_group hs gs → falls k all hs ≡ falls k body gs
falls_same k all body hs gs p q = (λ i. falls_at (last_same hs gs q i) (list_ends_same all body p i) k.before)
