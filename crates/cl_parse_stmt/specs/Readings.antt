-- What the reader's functions answer: a part of the grammar from one token to another, with its tree.
use Rattle.std.specs.Prelude.{◌≡◌, ℕ, ◌+◌, ◌<◌, Bool, true, Option, Some, None, List, [], ◌∷◌, ◌++◌}
use Rattle.std.specs.Global.{Vec}
use Rattle.clv_place.specs.declared.place.Place.{Place}
use Rattle.cl_ast.specs.declared.expression.Expr.{Expr}
use Rattle.cl_ast.specs.declared.declaration.InitDeclor.{InitDeclor}
use Rattle.cl_ast.specs.declared.statement.Stmt.{Stmt}
use Rattle.cl_ast.specs.declared.statement.Group.{Group}
use Rattle.cl_ast.specs.declared.statement.Label.{Label}
use Rattle.cl_grammar.specs.declared.lexeme.Lexeme.{Lexeme}
use Rattle.cl_grammar.specs.declared.terminal.Terminal.{Terminal}
use Rattle.cl_grammar.specs.declared.terminal.Terminal.TheVariants as t
use Rattle.cl_grammar.specs.Expressions.{IsA}
use Rattle.cl_grammar.specs.ExpressionTrees.{ExprTree}
use Rattle.cl_grammar.specs.StatementTrees.{BeginsAt, InitDeclorTrees, ForStartTree, LabelTrees, ItemTrees, StmtTree, SectionTrees}
use Rattle.cl_grammar.specs.Symbols.{Sym, S}
use Rattle.cl_grammar.specs.StatementSymbols as x
use Rattle.cl_grammar.specs.Items.{between, OtherAt, GoesOn, ReadAt}
use Rattle.cl_parse_stmt.specs.declared.clause.ForHead.{ForHead}
use Rattle.cl_parse_stmt.specs.Looks.{NoLabelAt}

-- A part that is at least one token was read, with this tree.
pub record Has {A : Type 0} (Tree : List Lexeme → A → Type 0) (y : Sym) (ts : List Lexeme) (at next : ℕ) (a : A) : Type 0 where
  pub forth : at < next
  pub read : ReadAt y ts at next
  pub tree : Tree (between ts at next) a

-- a statement; behind an `if` that an `else` would belong to, no `else` stands
pub record HasStmt (ts : List Lexeme) (at next : ℕ) (s : Stmt) : Type 0 where
  pub forth : at < next
  pub read : ReadAt (S x.Statement) ts at next
  pub open_if : Bool
  pub tree : StmtTree open_if (between ts at next) s
  pub closed : open_if ≡ true → OtherAt ts next t.Else

-- items, of which there may be none
pub record HasItems (ts : List Lexeme) (at next : ℕ) (ss : List Stmt) : Type 0 where
  pub read : ReadAt (S x.Items) ts at next
  pub tree : ItemTrees (between ts at next) ss
  pub none : ss ≡ [] → next ≡ at

-- all labels of a section, behind which its items and more sections may stand
pub record HasLabels (ts : List Lexeme) (at next : ℕ) (ls : List Label) : Type 0 where
  pub forth : at < next
  pub begun : GoesOn (S x.Sections) (S x.Items ∷ S x.Sections ∷ []) ts at next
  pub tree : LabelTrees (between ts at next) ls
  pub ends : NoLabelAt ts next

pub record HasSections (ts : List Lexeme) (at next : ℕ) (gs : List Group) : Type 0 where
  pub read : ReadAt (S x.Sections) ts at next
  pub tree : SectionTrees (between ts at next) gs

-- ---- the trees of parts that have none in the syntax

-- "(" expr ")"
pub data BracketsTree : List Lexeme → Expr → Type 0 where
  brackets : (o c : Lexeme) (u : List Lexeme) (e : Expr) → IsA t.OpenParen o → ExprTree u e → IsA t.CloseParen c → BracketsTree (o ∷ (u ++ c ∷ [])) e

-- [expr] and a mark
pub data ClauseTree (end : Terminal) : List Lexeme → Option Expr → Type 0 where
  no_expression : (c : Lexeme) → IsA end c → ClauseTree end (c ∷ []) None
  expression : (c : Lexeme) (u : List Lexeme) (place : Place) (e : Expr) → ExprTree u e → BeginsAt u place → IsA end c → ClauseTree end (u ++ c ∷ []) (Some e)

-- [inits] ";"
pub data NamesTree : List Lexeme → List InitDeclor → Type 0 where
  no_name : (s : Lexeme) → IsA t.Semicolon s → NamesTree (s ∷ []) []
  names : (s : Lexeme) (u : List Lexeme) (ds : List InitDeclor) → InitDeclorTrees u ds → IsA t.Semicolon s → NamesTree (u ++ s ∷ []) ds

-- the declaration at the head of a `for`
abbrev pub DeclaresTree : List Lexeme → Stmt → Type 0
DeclaresTree u d = ForStartTree u (d ∷ []) None

-- a declaration, an expression or neither
abbrev pub Start : Type 0
Start = Vec Stmt × Option Expr

abbrev pub StartTree : List Lexeme → Start → Type 0
StartTree u start = ForStartTree u start.0.items start.1

-- what stands between the brackets of a `for`
pub data ForHeadTree : List Lexeme → ForHead → Type 0 where
  for_head : (f o : Lexeme) (u v w : List Lexeme) (head : ForHead) → IsA t.For f → IsA t.OpenParen o → ForStartTree u head.decl.items head.first → ClauseTree t.Semicolon v head.cond → ClauseTree t.CloseParen w head.next → ForHeadTree (f ∷ o ∷ (u ++ (v ++ w))) head
