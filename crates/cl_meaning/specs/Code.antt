-- Functions as their meaning sees them. Each node of an expression has its number in its function, from 0 in text order with operands before
-- their node; a variable in local memory has its number among these; and each label of a `switch` has its value.
use Rattle.std.specs.Prelude.{ℕ, suc, ◌+◌, Bool, false, if◌then◌else◌, List, [], ◌∷◌, take, Option, Some, None, slice_get}
use Rattle.cl_types.specs.declared.types.ClType.{ClType}
use Rattle.cl_types.specs.declared.types.TypeId.{TypeId}
use Rattle.cl_tree.specs.declared.expression.TExpr.{TExpr}
use Rattle.cl_tree.specs.declared.expression.TNode.TheOpen.{TNode-F, TExpr-F}
use Rattle.cl_tree.specs.declared.expression.TNode.TheOpen as node
use Rattle.cl_tree.specs.declared.expression.TNode.TheFolds.{fold-TExpr}
use Rattle.cl_tree.specs.declared.statement.TStmt.{TStmt}
use Rattle.cl_tree.specs.declared.statement.TStmtNode.TheOpen.{TStmtNode-F, Section-F, TStmt-F}
use Rattle.cl_tree.specs.declared.statement.TStmtNode.TheOpen as stmt
use Rattle.cl_tree.specs.declared.statement.TStmtNode.TheFolds.{fold-TStmt}
use Rattle.cl_tree.specs.declared.unit.Variable.{Variable}
use Rattle.cl_tree.specs.declared.unit.Function.{Function as Defined}
use Rattle.cl_tree.specs.Constants.{number_of}
use Rattle.cl_tree.specs.Statements.{is_local}
use Rattle.cl_tree.specs.Units.{types_of}
pub use Rattle.cl_meaning.specs.declared.code.Node.{Node}
pub use Rattle.cl_meaning.specs.declared.code.Node.TheVariants.{Param, Var, Local, Constant, Number, Convert, Unary, Binary, Assign, Cond, Vector, Call, Builtin, Index, Member, Components, Fill, Comma}
pub use Rattle.cl_meaning.specs.declared.code.Label.{Label}
pub use Rattle.cl_meaning.specs.declared.code.Label.TheVariants.{Default, Case}

-- ---- expressions

-- A node, its type, its number, and its operands in text order.
mutual
  pub data Expr : Type 0 where
    Tree : (node : Node) (ty : TypeId) (number : ℕ) (operands : Exprs) → Expr

  pub data Exprs : Type 0 where
    NoExpr : Exprs
    AndExpr : Expr → Exprs → Exprs

-- A variable of the function: in private memory by its number, in local memory by its number among those there.
abbrev pub is_in_local : Option Variable → Bool
is_in_local None = false
is_in_local (Some v) = is_local v.space

abbrev pub locals_among : List Variable → ℕ
locals_among [] = 0
locals_among (v ∷ vs) = (if is_local v.space then 1 else 0) + locals_among vs

abbrev pub variable : List Variable → ℕ → Node
variable vars k = if is_in_local (slice_get vars k) then Local (locals_among (take k vars)) else Var k

-- a tree, by the number of its first node, and the number behind it
abbrev pub Numbered : Type 0
Numbered = ℕ → Expr × ℕ

abbrev pub numbered_all : List Numbered → ℕ → Exprs × ℕ
numbered_all [] n = (NoExpr, n)
numbered_all (f ∷ fs) n = let first = f n in let rest = numbered_all fs first.1 in (AndExpr first.0 rest.0, rest.1)

abbrev pub behind_operands : Node → List Numbered → TypeId → Numbered
behind_operands node operands ty n = let all = numbered_all operands n in (Tree node ty all.1 all.0, suc all.1)

abbrev pub node_step : List Variable → TNode-F (TypeId → Numbered) Numbered → TypeId → Numbered
node_step vars (node.Param k) = behind_operands (Param k) []
node_step vars (node.Var k) = behind_operands (variable vars k) []
node_step vars (node.Constant k) = behind_operands (Constant k) []
node_step vars (node.Number bits) = behind_operands (Number bits.value) []
node_step vars (node.Convert args) = behind_operands Convert args.items
node_step vars (node.Unary op args) = behind_operands (Unary op) args.items
node_step vars (node.Binary op args) = behind_operands (Binary op) args.items
node_step vars (node.Assign op args) = behind_operands (Assign op) args.items
node_step vars (node.Cond args) = behind_operands Cond args.items
node_step vars (node.Vector args) = behind_operands Vector args.items
node_step vars (node.Call f args) = behind_operands (Call f) args.items
node_step vars (node.Builtin b args) = behind_operands (Builtin b) args.items
node_step vars (node.Index args) = behind_operands Index args.items
node_step vars (node.Member k args) = behind_operands (Member k) args.items
node_step vars (node.Components at args) = behind_operands (Components at) args.items
node_step vars (node.Fill args) = behind_operands Fill args.items
node_step vars (node.Comma args) = behind_operands Comma args.items

abbrev pub expr_step : TExpr-F (TypeId → Numbered) Numbered → Numbered
expr_step e = e.node e.ty

abbrev pub numbered : List Variable → TExpr → Numbered
numbered vars = fold-TExpr (TypeId → Numbered) Numbered (node_step vars) expr_step

-- ---- statements

-- A declaration without an initialiser makes a private variable unset, and does nothing to one in local memory.
mutual
  pub data Stmt : Type 0 where
    Block : Stmts → Stmt
    Declare : (k : ℕ) → Stmt
    Initialise : (k : ℕ) → Expr → Stmt
    Evaluate : Expr → Stmt
    If : (test : Expr) (on_true on_false : Stmts) → Stmt
    While : (test : Expr) (body : Stmts) → Stmt
    Do : (body : Stmts) (test : Expr) → Stmt
    For : (declarations : Stmts) (first : Option Expr) (test : Expr) (next : Option Expr) (body : Stmts) → Stmt
    Switch : (on : Expr) → Sections → Stmt
    Break : Stmt
    Continue : Stmt
    Return : Option Expr → Stmt
    Empty : Stmt

  pub data Stmts : Type 0 where
    NoStmt : Stmts
    AndStmt : Stmt → Stmts → Stmts

  pub data Sections : Type 0 where
    NoSection : Sections
    AndSection : List Label → Stmts → Sections → Sections

-- a statement, by the number of its first node, and the number behind it
abbrev pub Placed : Type 0
Placed = ℕ → Stmt × ℕ

pub record SectionAt : Type 0 where
  pub labels : List Label
  pub body : Stmts
  pub behind : ℕ

abbrev pub placed_all : List Placed → ℕ → Stmts × ℕ
placed_all [] n = (NoStmt, n)
placed_all (f ∷ fs) n = let first = f n in let rest = placed_all fs first.1 in (AndStmt first.0 rest.0, rest.1)

abbrev pub placed_sections : List (ℕ → SectionAt) → ℕ → Sections × ℕ
placed_sections [] n = (NoSection, n)
placed_sections (f ∷ fs) n = let first = f n in let rest = placed_sections fs first.behind in (AndSection first.labels first.body rest.0, rest.1)

-- the arms of an `if`, where the second may not be there
abbrev pub arms : Stmts → Stmts × Stmts
arms NoStmt = (NoStmt, NoStmt)
arms (AndStmt on_true on_false) = (AndStmt on_true NoStmt, on_false)

-- The body of a loop is a statement (C99, 6.8.5); a tree without one, which comes of no text, has the empty one.
abbrev pub loop_body : Stmts → Stmts
loop_body NoStmt = AndStmt Empty NoStmt
loop_body (AndStmt s ss) = AndStmt s ss

module _ (cs : List ClType) (vars : List Variable) where
  abbrev pub numbered_option : Option TExpr → ℕ → Option Expr × ℕ
  numbered_option None n = (None, n)
  numbered_option (Some e) n = let p = numbered vars e n in (Some p.0, p.1)

  abbrev pub labelled : List (Option TExpr) → ℕ → List Label × ℕ
  labelled [] n = ([], n)
  labelled (None ∷ ls) n = let rest = labelled ls n in (Default ∷ rest.0, rest.1)
  labelled (Some e ∷ ls) n = let rest = labelled ls (numbered vars e n).1 in (Case (number_of cs e) ∷ rest.0, rest.1)

  abbrev pub section_over : Section-F Placed (ℕ → SectionAt) Placed → ℕ → SectionAt
  section_over s n = let labels = labelled s.labels.items n in let body = placed_all s.body.items labels.1 in record { labels = labels.0; body = body.0; behind = body.1 }

  abbrev pub declared : ℕ → Option Expr → Stmt
  declared k None = if is_in_local (slice_get vars k) then Empty else Declare k
  declared k (Some e) = Initialise k e

  abbrev pub node_over : TStmtNode-F Placed (ℕ → SectionAt) Placed → Placed
  node_over (stmt.Block items) n = let all = placed_all items.items n in (Block all.0, all.1)
  node_over (stmt.Decl k init) n = let e = numbered_option init n in (declared k e.0, e.1)
  node_over (stmt.Expr e) n = let p = numbered vars e n in (Evaluate p.0, p.1)
  node_over (stmt.If cond items) n = let test = numbered vars cond n in let all = placed_all items.items test.1 in (If test.0 (arms all.0).0 (arms all.0).1, all.1)
  node_over (stmt.While cond items) n = let test = numbered vars cond n in let body = placed_all items.items test.1 in (While test.0 (loop_body body.0), body.1)
  node_over (stmt.Do items cond) n = let body = placed_all items.items n in let test = numbered vars cond body.1 in (Do (loop_body body.0) test.0, test.1)
  node_over (stmt.For decls begin cond onward items) n =
      let declarations = placed_all decls.items n in
      let first = numbered_option begin declarations.1 in
      let test = numbered vars cond first.1 in
      let next = numbered_option onward test.1 in
      let body = placed_all items.items next.1 in
      (For declarations.0 first.0 test.0 next.0 (loop_body body.0), body.1)
  node_over (stmt.Switch value sections) n = let on = numbered vars value n in let all = placed_sections sections.items on.1 in (Switch on.0 all.0, all.1)
  node_over stmt.Break n = (Break, n)
  node_over stmt.Continue n = (Continue, n)
  node_over (stmt.Return e) n = let p = numbered_option e n in (Return p.0, p.1)
  node_over stmt.Empty n = (Empty, n)

  abbrev pub stmt_over : TStmt-F Placed (ℕ → SectionAt) Placed → Placed
  stmt_over s = s.node

  abbrev pub body_of : TStmt → Stmt
  body_of s = (fold-TStmt Placed (ℕ → SectionAt) Placed node_over section_over stmt_over s 0).0

-- ---- functions

pub record Code : Type 0 where
  pub params : List TypeId
  pub result : TypeId
  pub body : Stmt

abbrev pub code_of : List ClType → Defined → Code
code_of cs f = record { params = types_of f.params; result = f.result; body = body_of cs f.vars f.body }
