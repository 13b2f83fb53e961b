-- What statements, initialisers and their parts say, a node at a time.
use Rattle.std.specs.Global.{Vec}
use Rattle.std.proofs.Common.{◌≡◌, List, [], ◌∷◌, map, Option, sym, ap, ◌∙◌}
use Rattle.clv_place.specs.declared.place.Place.{Place}
use Rattle.cl_ast.specs.declared.expression.Expr.{Expr}
use Rattle.cl_ast.specs.declared.expression.Spec.{Spec}
use Rattle.cl_ast.specs.declared.declaration.Init.{Init}
use Rattle.cl_ast.specs.declared.declaration.Init.TheVariants as init
use Rattle.cl_ast.specs.declared.declaration.Init.TheVariants.{rolls-Value, rolls-Braces}
use Rattle.cl_ast.specs.declared.declaration.Init.TheOpen as i
use Rattle.cl_ast.specs.declared.declaration.Init.TheFolds.{fold-roll-Init}
use Rattle.cl_ast.specs.declared.declaration.InitDeclor.{InitDeclor}
use Rattle.cl_ast.specs.declared.statement.Group.{Group}
use Rattle.cl_ast.specs.declared.statement.Label.{Label}
use Rattle.cl_ast.specs.declared.statement.Stmt.{Stmt}
use Rattle.cl_ast.specs.declared.statement.StmtNode.{StmtNode}
use Rattle.cl_ast.specs.declared.statement.StmtNode.TheVariants as node
use Rattle.cl_ast.specs.declared.statement.StmtNode.TheVariants.{rolls-Block, rolls-Decl, rolls-Expr, rolls-If, rolls-While, rolls-Do, rolls-For, rolls-Switch, rolls-Break, rolls-Continue, rolls-Return, rolls-Empty}
use Rattle.cl_ast.specs.declared.statement.StmtNode.TheOpen as s
use Rattle.cl_ast.specs.declared.statement.StmtNode.TheViews.{out-Stmt, out-Group}
use Rattle.cl_ast.specs.declared.statement.StmtNode.TheFolds.{fold-roll-StmtNode, fold_out-Stmt, fold_out-Group}
use Rattle.cl_plain.specs.Plain.{Plain, over, leaf, value, braces, block, declaration, evaluated, choice, while_loop, do_loop, for_loop, switch, break, continue, return, empty, group, stmt, list, in_option, plain_expr, plain_spec, plain_init, plain_declared, plain_label, plain_stmt, plain_stmt_node, plain_group, init_over, stmt_node_over, group_over, stmt_over}

-- ---- initialisers

pub init_value : (e : Expr) → plain_init (init.Value e) ≡ over value (plain_expr e ∷ [])
init_value e = ap plain_init (sym (rolls-Value e)) ∙ fold-roll-Init Plain init_over (i.Value e)

pub init_braces : (place : Place) (items : Vec Init) → plain_init (init.Braces place items) ≡ over (braces place) (map plain_init items.items)
init_braces place items = ap plain_init (sym (rolls-Braces place items)) ∙ fold-roll-Init Plain init_over (i.Braces place items)

-- ---- a statement, and its node

-- by its own parts
pub stmt_out : (x : Stmt) → plain_stmt x ≡ over (stmt (out-Stmt x).place) (plain_stmt_node (out-Stmt x).node ∷ [])
stmt_out x = fold_out-Stmt Plain Plain Plain stmt_node_over group_over stmt_over x

pub stmt_is : (x : Stmt) (place : Place) (n : StmtNode) → (out-Stmt x).place ≡ place → (out-Stmt x).node ≡ n → plain_stmt x ≡ over (stmt place) (plain_stmt_node n ∷ [])
stmt_is x place n at is = stmt_out x ∙ (ap (λ p. over (stmt p) (plain_stmt_node (out-Stmt x).node ∷ [])) at ∙ ap (λ m. over (stmt place) (plain_stmt_node m ∷ [])) is)

pub block_node : (items : Vec Stmt) → plain_stmt_node (node.Block items) ≡ over block (map plain_stmt items.items)
block_node items = ap plain_stmt_node (sym (rolls-Block items)) ∙ fold-roll-StmtNode Plain Plain Plain stmt_node_over group_over stmt_over (s.Block items)

pub decl_node : (said : Spec) (items : Vec InitDeclor) → plain_stmt_node (node.Decl said items) ≡ over declaration (plain_spec said ∷ map plain_declared items.items)
decl_node said items = ap plain_stmt_node (sym (rolls-Decl said items)) ∙ fold-roll-StmtNode Plain Plain Plain stmt_node_over group_over stmt_over (s.Decl said items)

pub expr_node : (e : Expr) → plain_stmt_node (node.Expr e) ≡ over evaluated (plain_expr e ∷ [])
expr_node e = ap plain_stmt_node (sym (rolls-Expr e)) ∙ fold-roll-StmtNode Plain Plain Plain stmt_node_over group_over stmt_over (s.Expr e)

pub if_node : (e : Expr) (arms : Vec Stmt) → plain_stmt_node (node.If e arms) ≡ over choice (plain_expr e ∷ map plain_stmt arms.items)
if_node e arms = ap plain_stmt_node (sym (rolls-If e arms)) ∙ fold-roll-StmtNode Plain Plain Plain stmt_node_over group_over stmt_over (s.If e arms)

pub while_node : (e : Expr) (body : Vec Stmt) → plain_stmt_node (node.While e body) ≡ over while_loop (plain_expr e ∷ map plain_stmt body.items)
while_node e body = ap plain_stmt_node (sym (rolls-While e body)) ∙ fold-roll-StmtNode Plain Plain Plain stmt_node_over group_over stmt_over (s.While e body)

pub do_node : (body : Vec Stmt) (e : Expr) → plain_stmt_node (node.Do body e) ≡ over do_loop (plain_expr e ∷ map plain_stmt body.items)
do_node body e = ap plain_stmt_node (sym (rolls-Do body e)) ∙ fold-roll-StmtNode Plain Plain Plain stmt_node_over group_over stmt_over (s.Do body e)

pub for_node : (decl : Vec Stmt) (first cond next : Option Expr) (body : Vec Stmt) → plain_stmt_node (node.For decl first cond next body) ≡ over for_loop (over list (map plain_stmt decl.items) ∷ in_option plain_expr first ∷ in_option plain_expr cond ∷ in_option plain_expr next ∷ map plain_stmt body.items)
for_node decl first cond next body = ap plain_stmt_node (sym (rolls-For decl first cond next body)) ∙ fold-roll-StmtNode Plain Plain Plain stmt_node_over group_over stmt_over (s.For decl first cond next body)

pub switch_node : (e : Expr) (sections : Vec Group) → plain_stmt_node (node.Switch e sections) ≡ over switch (plain_expr e ∷ map plain_group sections.items)
switch_node e sections = ap plain_stmt_node (sym (rolls-Switch e sections)) ∙ fold-roll-StmtNode Plain Plain Plain stmt_node_over group_over stmt_over (s.Switch e sections)

pub break_node : plain_stmt_node node.Break ≡ leaf break
break_node = ap plain_stmt_node (sym rolls-Break) ∙ fold-roll-StmtNode Plain Plain Plain stmt_node_over group_over stmt_over s.Break

pub continue_node : plain_stmt_node node.Continue ≡ leaf continue
continue_node = ap plain_stmt_node (sym rolls-Continue) ∙ fold-roll-StmtNode Plain Plain Plain stmt_node_over group_over stmt_over s.Continue

pub return_node : (e : Option Expr) → plain_stmt_node (node.Return e) ≡ over return (in_option plain_expr e ∷ [])
return_node e = ap plain_stmt_node (sym (rolls-Return e)) ∙ fold-roll-StmtNode Plain Plain Plain stmt_node_over group_over stmt_over (s.Return e)

pub empty_node : plain_stmt_node node.Empty ≡ leaf empty
empty_node = ap plain_stmt_node (sym rolls-Empty) ∙ fold-roll-StmtNode Plain Plain Plain stmt_node_over group_over stmt_over s.Empty

-- ---- sections of a `switch`

pub group_out : (g : Group) → plain_group g ≡ over group (over list (map plain_label (out-Group g).labels.items) ∷ map plain_stmt (out-Group g).body.items)
group_out g = fold_out-Group Plain Plain Plain stmt_node_over group_over stmt_over g

pub group_is : (g : Group) (labels : List Label) (body : List Stmt) → (out-Group g).labels.items ≡ labels → (out-Group g).body.items ≡ body → plain_group g ≡ over group (over list (map plain_label labels) ∷ map plain_stmt body)
group_is g labels body under has = group_out g ∙ (ap (λ z. over group (over list (map plain_label z) ∷ map plain_stmt (out-Group g).body.items)) under ∙ ap (λ z. over group (over list (map plain_label labels) ∷ map plain_stmt z)) has)
