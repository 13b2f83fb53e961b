-- Copies as their meaning sees them: plain trees, in which each label of a `switch` is a value.
use Rattle.std.specs.Prelude.{ℕ, List, [], ◌∷◌, ◌++◌, map, length, Option, Some, None}
use Rattle.cl_types.specs.declared.types.TypeId.{TypeId}
use Rattle.cl_types.specs.declared.operator.UnOp.{UnOp}
use Rattle.cl_types.specs.declared.operator.BinOp.{BinOp}
use Rattle.cl_types.specs.declared.builtin.Builtin.{Builtin as Function}
use Rattle.cl_tree.specs.declared.event.NodeId.{NodeId}
use Rattle.obj_tree.specs.declared.object.Root.{Root}
use Rattle.obj_tree.specs.declared.expression.OExpr.{OExpr}
use Rattle.obj_tree.specs.declared.expression.ONode.TheOpen.{ONode-F, OExpr-F, Access-F, Step-F}
use Rattle.obj_tree.specs.declared.expression.ONode.TheOpen as node
use Rattle.obj_tree.specs.declared.expression.ONode.TheFolds.{fold-OExpr}
use Rattle.obj_tree.specs.declared.statement.OStmt.{OStmt}
use Rattle.obj_tree.specs.declared.statement.OStmtNode.TheOpen.{OStmtNode-F, Section-F, OStmt-F}
use Rattle.obj_tree.specs.declared.statement.OStmtNode.TheOpen as stmt
use Rattle.obj_tree.specs.declared.statement.OStmtNode.TheFolds.{fold-OStmt}
use Rattle.obj_tree.specs.declared.program.Copy.{Copy}

-- ---- expressions

-- What a node is: the read of a place; an assignment to one; a literal, by its pattern; a call of a copy, of which the first operands, so many, are the
-- arguments that are no pointers, and the others the indices of those that are; and so on.
pub data Node : Type 0 where
  Read : Node
  Assign : (op : Option BinOp) → Node
  Number : (pattern : ℕ) → Node
  Convert : Node
  Unary : (op : UnOp) → Node
  Binary : (op : BinOp) → Node
  Cond : Node
  Vector : Node
  Call : (copy plain : ℕ) (privates : List ℕ) (from : NodeId) → Node
  Builtin : (function : Function) (from : Option NodeId) → Node
  Index : Node
  Member : (k : ℕ) → Node
  Components : (at : List ℕ) → Node
  Fill : Node
  Comma : Node

-- A node, its type, the place that it has, and its operands in order.
mutual
  pub data Expr : Type 0 where
    Tree : (node : Node) (ty : TypeId) (at : Place) (operands : Exprs) → Expr

  pub data Exprs : Type 0 where
    NoExpr : Exprs
    AndExpr : Expr → Exprs → Exprs

  pub data Place : Type 0 where
    NoPlace : Place
    At : (root : Root) (steps : Steps) → Place

  pub data Steps : Type 0 where
    NoStep : Steps
    AndMember : (k : ℕ) → Steps → Steps
    AndIndex : Expr → Steps → Steps
    AndSingle : Expr → Steps → Steps
    AndComponents : (at : List ℕ) → Steps → Steps

abbrev pub exprs : List Expr → Exprs
exprs [] = NoExpr
exprs (e ∷ es) = AndExpr e (exprs es)

-- the steps behind one
abbrev pub steps : List (Steps → Steps) → Steps
steps [] = NoStep
steps (f ∷ fs) = f (steps fs)

abbrev pub optional : Option Place → Place
optional None = NoPlace
optional (Some p) = p

abbrev pub node_over : ONode-F (TypeId → Expr) (Steps → Steps) Place Expr → TypeId → Expr
node_over (node.Read at) ty = Tree Read ty at NoExpr
node_over (node.Assign op to value) ty = Tree (Assign op) ty to (exprs value.items)
node_over (node.Number bits) ty = Tree (Number bits.value) ty NoPlace NoExpr
node_over (node.Convert args) ty = Tree Convert ty NoPlace (exprs args.items)
node_over (node.Unary op at args) ty = Tree (Unary op) ty (optional at) (exprs args.items)
node_over (node.Binary op args) ty = Tree (Binary op) ty NoPlace (exprs args.items)
node_over (node.Cond args) ty = Tree Cond ty NoPlace (exprs args.items)
node_over (node.Vector args) ty = Tree Vector ty NoPlace (exprs args.items)
node_over (node.Call copy plain indices privates from) ty = Tree (Call copy (length plain.items) privates from) ty NoPlace (exprs (plain.items ++ indices.items))
node_over (node.Builtin function at args from) ty = Tree (Builtin function from) ty (optional at) (exprs args.items)
node_over (node.ONode::Index args) ty = Tree Index ty NoPlace (exprs args.items)
node_over (node.ONode::Member k args) ty = Tree (Member k) ty NoPlace (exprs args.items)
node_over (node.ONode::Components at args) ty = Tree (Components at) ty NoPlace (exprs args.items)
node_over (node.Fill args) ty = Tree Fill ty NoPlace (exprs args.items)
node_over (node.Comma args) ty = Tree Comma ty NoPlace (exprs args.items)

abbrev pub step_over : Step-F (TypeId → Expr) (Steps → Steps) Place Expr → Steps → Steps
step_over (node.Step::Member k) = AndMember k
step_over (node.Step::Index e) = AndIndex e
step_over (node.Single e) = AndSingle e
step_over (node.Step::Components at) = AndComponents at

abbrev pub access_over : Access-F (TypeId → Expr) (Steps → Steps) Place Expr → Place
access_over a = At a.root (steps a.steps.items)

abbrev pub expr_over : OExpr-F (TypeId → Expr) (Steps → Steps) Place Expr → Expr
expr_over e = e.node e.ty

abbrev pub expr_of : OExpr → Expr
expr_of = fold-OExpr (TypeId → Expr) (Steps → Steps) Place Expr node_over step_over access_over expr_over

-- ---- statements

-- `default`, or a case by the pattern of its value: a literal, in each program.
pub data Label : Type 0 where
  Default : Label
  Case : (pattern : Option ℕ) → Label

-- A declaration without an initialiser makes its variables unset.
mutual
  pub data Stmt : Type 0 where
    Block : Stmts → Stmt
    Declare : (vars : List ℕ) → Stmt
    Initialise : (vars : List ℕ) → Expr → Stmt
    Evaluate : Expr → Stmt
    If : (test : Expr) (on_true on_false : Stmts) → Stmt
    While : (test : Expr) (body : Stmts) → Stmt
    Do : (body : Stmts) (test : Expr) → Stmt
    For : (declarations : Stmts) (first : Option Expr) (test : Expr) (next : Option Expr) (body : Stmts) → Stmt
    Switch : (on : Expr) → Sections → Stmt
    Break : Stmt
    Continue : Stmt
    Return : Option Expr → Stmt
    Empty : Stmt

  pub data Stmts : Type 0 where
    NoStmt : Stmts
    AndStmt : Stmt → Stmts → Stmts

  pub data Sections : Type 0 where
    NoSection : Sections
    AndSection : List Label → Stmts → Sections → Sections

pub record SectionOf : Type 0 where
  pub labels : List Label
  pub body : Stmts

abbrev pub stmts : List Stmt → Stmts
stmts [] = NoStmt
stmts (s ∷ ss) = AndStmt s (stmts ss)

abbrev pub sections : List SectionOf → Sections
sections [] = NoSection
sections (s ∷ ss) = AndSection s.labels s.body (sections ss)

-- the arms of an `if`, where the second may not be there
abbrev pub arms : Expr → Stmts → Stmt
arms test NoStmt = If test NoStmt NoStmt
arms test (AndStmt on_true on_false) = If test (AndStmt on_true NoStmt) on_false

abbrev pub optional_expr : Option OExpr → Option Expr
optional_expr None = None
optional_expr (Some e) = Some (expr_of e)

abbrev pub declared : List ℕ → Option OExpr → Stmt
declared vars None = Declare vars
declared vars (Some e) = Initialise vars (expr_of e)

-- the pattern of a literal
abbrev pub literal_of : Expr → Option ℕ
literal_of (Tree (Number n) ty at es) = Some n
literal_of _ = None

abbrev pub label_of : Option OExpr → Label
label_of None = Default
label_of (Some e) = Case (literal_of (expr_of e))

abbrev pub section_over : Section-F Stmt Stmt SectionOf → SectionOf
section_over s = record { labels = map label_of s.labels.items; body = stmts s.body.items }

abbrev pub stmt_node_over : OStmtNode-F Stmt Stmt SectionOf → Stmt
stmt_node_over (stmt.Block items) = Block (stmts items.items)
stmt_node_over (stmt.Decl vars init) = declared vars init
stmt_node_over (stmt.Expr e) = Evaluate (expr_of e)
stmt_node_over (stmt.If cond items) = arms (expr_of cond) (stmts items.items)
stmt_node_over (stmt.While cond items) = While (expr_of cond) (stmts items.items)
stmt_node_over (stmt.Do items cond) = Do (stmts items.items) (expr_of cond)
stmt_node_over (stmt.For decls begin cond onward items) = For (stmts decls.items) (optional_expr begin) (expr_of cond) (optional_expr onward) (stmts items.items)
stmt_node_over (stmt.Switch value items) = Switch (expr_of value) (sections items.items)
stmt_node_over stmt.Break = Break
stmt_node_over stmt.Continue = Continue
stmt_node_over (stmt.Return e) = Return (optional_expr e)
stmt_node_over stmt.Empty = Empty

abbrev pub stmt_over : OStmt-F Stmt Stmt SectionOf → Stmt
stmt_over s = s.node

abbrev pub body_of : OStmt → Stmt
body_of = fold-OStmt Stmt Stmt SectionOf stmt_node_over stmt_over section_over

-- ---- copies

-- The private objects of a copy by their types: those that are passed, the parameters that are no pointers, so many indices that come with pointers, and
-- the variables; and its result and body.
pub record Code : Type 0 where
  pub privates : List TypeId
  pub plain : List TypeId
  pub indices : ℕ
  pub vars : List TypeId
  pub result : TypeId
  pub body : Stmt

abbrev pub code_of : Copy → Code
code_of c = record { privates = c.privates; plain = c.plain; indices = c.indices; vars = c.vars; result = c.result; body = body_of c.body }
