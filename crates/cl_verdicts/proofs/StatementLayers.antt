-- The nodes of statements as their layers, of which no two kinds are one.
use Rattle.std.specs.Global.{Vec}
use Rattle.std.proofs.Common.{◌≡◌, sym, ap, ◌∙◌, Option}
use Rattle.cl_ast.specs.declared.declaration.InitDeclor.{InitDeclor}
use Rattle.cl_ast.specs.declared.expression.Expr.{Expr}
use Rattle.cl_ast.specs.declared.expression.Spec.{Spec}
use Rattle.cl_ast.specs.declared.statement.Stmt.{Stmt}
use Rattle.cl_ast.specs.declared.statement.Group.{Group}
use Rattle.cl_ast.specs.declared.statement.StmtNode.{StmtNode}
use Rattle.cl_ast.specs.declared.statement.StmtNode.TheVariants as node
use Rattle.cl_ast.specs.declared.statement.StmtNode.TheVariants.{rolls-Block, rolls-Decl, rolls-Expr, rolls-If, rolls-While, rolls-Do, rolls-For, rolls-Switch, rolls-Break, rolls-Continue, rolls-Return, rolls-Empty}
use Rattle.cl_ast.specs.declared.statement.StmtNode.TheOpen.{StmtNode-F}
use Rattle.cl_ast.specs.declared.statement.StmtNode.TheOpen as layer
use Rattle.cl_ast.specs.declared.statement.StmtNode.TheViews.{out-StmtNode, out-roll-StmtNode}

abbrev pub Layer : Type 0
Layer = StmtNode-F StmtNode Group Stmt

abbrev pub layer_of : StmtNode → Layer
layer_of n = out-StmtNode n

pub block_layer : (items : Vec Stmt) → layer_of (node.Block items) ≡ layer.Block items
block_layer items = ap layer_of (sym (rolls-Block items)) ∙ out-roll-StmtNode (layer.Block items)

pub decl_layer : (spec : Spec) (items : Vec InitDeclor) → layer_of (node.Decl spec items) ≡ layer.Decl spec items
decl_layer spec items = ap layer_of (sym (rolls-Decl spec items)) ∙ out-roll-StmtNode (layer.Decl spec items)

pub expr_layer : (e : Expr) → layer_of (node.Expr e) ≡ layer.Expr e
expr_layer e = ap layer_of (sym (rolls-Expr e)) ∙ out-roll-StmtNode (layer.Expr e)

pub if_layer : (e : Expr) (arms : Vec Stmt) → layer_of (node.If e arms) ≡ layer.If e arms
if_layer e arms = ap layer_of (sym (rolls-If e arms)) ∙ out-roll-StmtNode (layer.If e arms)

pub while_layer : (e : Expr) (body : Vec Stmt) → layer_of (node.While e body) ≡ layer.While e body
while_layer e body = ap layer_of (sym (rolls-While e body)) ∙ out-roll-StmtNode (layer.While e body)

pub do_layer : (body : Vec Stmt) (e : Expr) → layer_of (node.Do body e) ≡ layer.Do body e
do_layer body e = ap layer_of (sym (rolls-Do body e)) ∙ out-roll-StmtNode (layer.Do body e)

pub for_layer : (decl : Vec Stmt) (first cond next : Option Expr) (body : Vec Stmt) → layer_of (node.For decl first cond next body) ≡ layer.For decl first cond next body
for_layer decl first cond next body = ap layer_of (sym (rolls-For decl first cond next body)) ∙ out-roll-StmtNode (layer.For decl first cond next body)

pub switch_layer : (e : Expr) (groups : Vec Group) → layer_of (node.Switch e groups) ≡ layer.Switch e groups
switch_layer e groups = ap layer_of (sym (rolls-Switch e groups)) ∙ out-roll-StmtNode (layer.Switch e groups)

pub break_layer : layer_of node.Break ≡ layer.Break
break_layer = ap layer_of (sym rolls-Break) ∙ out-roll-StmtNode layer.Break

pub continue_layer : layer_of node.Continue ≡ layer.Continue
continue_layer = ap layer_of (sym rolls-Continue) ∙ out-roll-StmtNode layer.Continue

pub return_layer : (e : Option Expr) → layer_of (node.Return e) ≡ layer.Return e
return_layer e = ap layer_of (sym (rolls-Return e)) ∙ out-roll-StmtNode (layer.Return e)

pub empty_layer : layer_of node.Empty ≡ layer.Empty
empty_layer = ap layer_of (sym rolls-Empty) ∙ out-roll-StmtNode layer.Empty
