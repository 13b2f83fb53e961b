-- Functions as texts: what stands in a body, in text order, and where.
use Rattle.std.specs.Prelude.{ℕ, Bool, true, false, ◌&&◌, ◌||◌, if◌then◌else◌, List, [], ◌∷◌, ◌++◌, map, Option, Some, None, unwrap_or, slice_get}
use Rattle.clv_place.specs.declared.place.Place.{Place}
use Rattle.cl_types.specs.declared.types.ClType.{ClType}
use Rattle.cl_types.specs.declared.types.TypeId.{TypeId}
use Rattle.cl_tree.specs.declared.expression.TExpr.{TExpr}
use Rattle.cl_tree.specs.declared.expression.TNode.TheOpen.{TNode-F, TExpr-F}
use Rattle.cl_tree.specs.declared.expression.TNode.TheOpen as node
use Rattle.cl_tree.specs.declared.expression.TNode.TheFolds.{fold-TExpr}
use Rattle.cl_tree.specs.declared.statement.TStmt.{TStmt}
use Rattle.cl_tree.specs.declared.statement.TStmtNode.TheOpen.{TStmtNode-F, Section-F, TStmt-F}
use Rattle.cl_tree.specs.declared.statement.TStmtNode.TheOpen as stmt
use Rattle.cl_tree.specs.declared.statement.TStmtNode.TheFolds.{fold-TStmt}
use Rattle.cl_tree.specs.declared.unit.ConstantVar.{ConstantVar}
use Rattle.cl_tree.specs.declared.unit.Function.{Function}
use Rattle.cl_tree.specs.declared.unit.Variable.{Variable}
use Rattle.cl_tree.specs.Shapes.{shape_of, is_pointer}
use Rattle.cl_meaning.specs.Code.{Expr, Exprs, Tree, NoExpr, AndExpr, Stmt, Stmts, NoStmt, AndStmt, Sections, NoSection, AndSection, numbered, body_of}
use Rattle.cl_meaning.specs.declared.code.Node.TheVariants as kind
use Rattle.cl_meaning.specs.Code as code

-- ---- the expressions of a text

-- the expressions of a statement, in text order
abbrev pub Listed : Type 0
Listed = List TExpr

abbrev pub maybe : Option TExpr → Listed
maybe None = []
maybe (Some e) = e ∷ []

abbrev pub all_maybe : List (Option TExpr) → Listed
all_maybe [] = []
all_maybe (e ∷ es) = maybe e ++ all_maybe es

abbrev pub joined : {A : Type 0} → List (List A) → List A
joined [] = []
joined (as_ ∷ rest) = as_ ++ joined rest

abbrev pub listed_node : TStmtNode-F Listed Listed Listed → Listed
listed_node (stmt.Block items) = joined items.items
listed_node (stmt.Decl k init) = maybe init
listed_node (stmt.Expr e) = e ∷ []
listed_node (stmt.If cond arms) = cond ∷ joined arms.items
listed_node (stmt.While cond body) = cond ∷ joined body.items
listed_node (stmt.Do body cond) = joined body.items ++ cond ∷ []
listed_node (stmt.For decls first cond next body) = joined decls.items ++ (maybe first ++ cond ∷ maybe next ++ joined body.items)
listed_node (stmt.Switch value sections) = value ∷ joined sections.items
listed_node stmt.Break = []
listed_node stmt.Continue = []
listed_node (stmt.Return e) = maybe e
listed_node stmt.Empty = []

abbrev pub listed_section : Section-F Listed Listed Listed → Listed
listed_section s = all_maybe s.labels.items ++ joined s.body.items

abbrev pub listed_stmt : TStmt-F Listed Listed Listed → Listed
listed_stmt s = s.node

abbrev pub expressions : TStmt → List TExpr
expressions = fold-TStmt Listed Listed Listed listed_node listed_section listed_stmt

-- the places of the nodes of an expression, in text order, operands before what they belong to
abbrev pub Places : Type 0
Places = List Place

abbrev pub placed_node : TNode-F Places Places → Places
placed_node (node.Param k) = []
placed_node (node.Var k) = []
placed_node (node.Constant k) = []
placed_node (node.Number bits) = []
placed_node (node.Convert args) = joined args.items
placed_node (node.Unary op args) = joined args.items
placed_node (node.Binary op args) = joined args.items
placed_node (node.Assign op args) = joined args.items
placed_node (node.Cond args) = joined args.items
placed_node (node.Vector args) = joined args.items
placed_node (node.Call f args) = joined args.items
placed_node (node.Builtin b args) = joined args.items
placed_node (node.Index args) = joined args.items
placed_node (node.Member k args) = joined args.items
placed_node (node.Components at args) = joined args.items
placed_node (node.Fill args) = joined args.items
placed_node (node.Comma args) = joined args.items

abbrev pub placed_expr : TExpr-F Places Places → Places
placed_expr e = e.node ++ e.place ∷ []

abbrev pub places_of : TExpr → Places
places_of = fold-TExpr Places Places placed_node placed_expr

-- ---- functions and units

-- A function: what is declared in it, its body, the place of each node by its number, and the trees of all its expressions, case values too.
pub record Routine : Type 0 where
  pub name : List ℕ
  pub place : Place
  pub kernel : Bool
  pub required : Option (List ℕ)
  pub params : List Variable
  pub vars : List Variable
  pub result : TypeId
  pub body : Stmt
  pub places : List Place
  pub trees : List Expr

abbrev pub tree_in : List Variable → TExpr → Expr
tree_in vars e = (numbered vars e 0).0

abbrev pub routine_of : List ClType → Function → Routine
routine_of cs f = record {
  name = f.name;
  place = f.place;
  kernel = f.kernel;
  required = f.required;
  params = f.params;
  vars = f.vars;
  result = f.result;
  body = body_of cs f.vars f.body;
  places = joined (map places_of (expressions f.body));
  trees = map (tree_in f.vars) (expressions f.body);
}

-- A unit: its types, its constants and its functions.
pub record Unit : Type 0 where
  pub types : List ClType
  pub constants : List ConstantVar
  pub functions : List Routine

abbrev pub unit_of : List ClType → List ConstantVar → List Function → Unit
unit_of cs constants functions = record { types = cs; constants = constants; functions = map (routine_of cs) functions }

-- ---- what stands in a body

-- A node, which stands behind its operands; a pointer variable on the left of `=`, which is given there and not used; or the name of a variable that
-- is declared with an initialiser, which is given its value behind this.
pub data Point : Type 0 where
  At : Expr → Point
  Left : Expr → Point
  Name : (k : ℕ) → Expr → Point

abbrev pub no_place : Place
no_place = record { line = 0; col = 0 }

abbrev pub variable_place : Option Variable → Place
variable_place None = no_place
variable_place (Some v) = v.place

abbrev pub number_of : Expr → ℕ
number_of (Tree node ty number es) = number

abbrev pub type_of : Expr → TypeId
type_of (Tree node ty number es) = ty

abbrev pub node_place : Routine → ℕ → Place
node_place f n = unwrap_or (slice_get f.places n) no_place

abbrev pub place_of : Routine → Point → Place
place_of f (At e) = node_place f (number_of e)
place_of f (Left e) = node_place f (number_of e)
place_of f (Name k e) = variable_place (slice_get f.vars k)

module _ (cs : List ClType) where
  abbrev pub points : TypeId → Bool
  points ty = is_pointer (shape_of cs ty)

  abbrev mutual
    pub in_expr : Expr → List Point
    in_expr (Tree (kind.Assign None) ty n (AndExpr a es)) = (if points ty then Left a ∷ [] else in_expr a) ++ (in_exprs es ++ At (Tree (kind.Assign None) ty n (AndExpr a es)) ∷ [])
    in_expr (Tree node ty n es) = in_exprs es ++ At (Tree node ty n es) ∷ []

    pub in_exprs : Exprs → List Point
    in_exprs NoExpr = []
    in_exprs (AndExpr e es) = in_expr e ++ in_exprs es

  abbrev pub in_option : Option Expr → List Point
  in_option None = []
  in_option (Some e) = in_expr e

  abbrev mutual
    pub in_stmt : Stmt → List Point
    in_stmt (code.Block ss) = in_stmts ss
    in_stmt (code.Declare k) = []
    in_stmt (code.Initialise k e) = in_expr e ++ Name k e ∷ []
    in_stmt (code.Evaluate e) = in_expr e
    in_stmt (code.If test on_true on_false) = in_expr test ++ (in_stmts on_true ++ in_stmts on_false)
    in_stmt (code.While test body) = in_expr test ++ in_stmts body
    in_stmt (code.Do body test) = in_stmts body ++ in_expr test
    in_stmt (code.For declarations first test next body) = in_stmts declarations ++ (in_option first ++ (in_expr test ++ (in_option next ++ in_stmts body)))
    in_stmt (code.Switch on sections) = in_expr on ++ in_sections sections
    in_stmt code.Break = []
    in_stmt code.Continue = []
    in_stmt (code.Return e) = in_option e
    in_stmt code.Empty = []

    pub in_stmts : Stmts → List Point
    in_stmts NoStmt = []
    in_stmts (AndStmt s ss) = in_stmt s ++ in_stmts ss

    pub in_sections : Sections → List Point
    in_sections NoSection = []
    in_sections (AndSection labels body rest) = in_stmts body ++ in_sections rest

-- ---- what is passed over

-- A statement that ends its list: `return`, `break`, `continue`, a block that holds one that ends, an `if` with two arms that end. Nothing behind
-- it in its list is reached (C99, 6.8.6).
abbrev mutual
  pub ends : Stmt → Bool
  ends (code.Block ss) = some_ends ss
  ends (code.If test on_true on_false) = some_ends on_true && some_ends on_false
  ends code.Break = true
  ends code.Continue = true
  ends (code.Return e) = true
  ends _ = false

  pub some_ends : Stmts → Bool
  some_ends NoStmt = false
  some_ends (AndStmt s ss) = ends s || some_ends ss

-- the text without what is passed over
abbrev mutual
  pub reached : Stmt → Stmt
  reached (code.Block ss) = code.Block (all_reached ss)
  reached (code.If test on_true on_false) = code.If test (all_reached on_true) (all_reached on_false)
  reached (code.While test body) = code.While test (all_reached body)
  reached (code.Do body test) = code.Do (all_reached body) test
  reached (code.For declarations first test next body) = code.For declarations first test next (all_reached body)
  reached (code.Switch on sections) = code.Switch on (sections_reached sections)
  reached s = s

  pub all_reached : Stmts → Stmts
  all_reached NoStmt = NoStmt
  all_reached (AndStmt s ss) = AndStmt (reached s) (if ends s then NoStmt else all_reached ss)

  pub sections_reached : Sections → Sections
  sections_reached NoSection = NoSection
  sections_reached (AndSection labels body rest) = AndSection labels (all_reached body) (sections_reached rest)

-- ---- calls

-- a call of a function of the unit: the number of its node, the function, and the arguments
pub record CallSite : Type 0 where
  pub node : ℕ
  pub function : ℕ
  pub arguments : Exprs

abbrev pub call_at : Point → List CallSite
call_at (At (Tree (kind.Call f) ty n es)) = record { node = n; function = f; arguments = es } ∷ []
call_at _ = []

abbrev pub calls_among : List Point → List CallSite
calls_among [] = []
calls_among (p ∷ ps) = call_at p ++ calls_among ps

-- the calls of a body in text order, and those of them that aren't passed over
abbrev pub calls_of : List ClType → Routine → List CallSite
calls_of cs f = calls_among (in_stmt cs f.body)

abbrev pub reached_calls : List ClType → Routine → List CallSite
reached_calls cs f = calls_among (in_stmt cs (reached f.body))
