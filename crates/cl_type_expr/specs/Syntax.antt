-- Nodes of syntax trees by their fields.
use Rattle.std.specs.Global.{Vec}
use Rattle.std.specs.Prelude.{◌≡◌, ℕ, List, Option, Some, None}
use Rattle.clv_place.specs.declared.place.Place.{Place}
use Rattle.cl_ast.specs.declared.expression.Qual.{Qual}
use Rattle.cl_ast.specs.declared.expression.Expr.{Expr}
use Rattle.cl_ast.specs.declared.expression.ExprNode.{ExprNode}
use Rattle.cl_ast.specs.declared.expression.TypeTerm.{TypeTerm}
use Rattle.cl_ast.specs.declared.expression.Spec.{Spec}
use Rattle.cl_ast.specs.declared.expression.Base.{Base}
use Rattle.cl_ast.specs.declared.expression.Base.TheVariants as base
use Rattle.cl_ast.specs.declared.expression.Field.{Field}
use Rattle.cl_ast.specs.declared.expression.Declor.{Declor}
use Rattle.cl_ast.specs.declared.expression.Base.TheViews.{out-Expr, out-TypeTerm, out-Spec, out-Field, out-Declor}
use Rattle.cl_ast.specs.declared.statement.Stmt.{Stmt}
use Rattle.cl_ast.specs.declared.statement.StmtNode.{StmtNode}
use Rattle.cl_ast.specs.declared.statement.Group.{Group}
use Rattle.cl_ast.specs.declared.statement.Label.{Label}
use Rattle.cl_ast.specs.declared.statement.StmtNode.TheViews.{out-Stmt, out-Group}

pub record IsExpr (e : Expr) (place : Place) (node : ExprNode) (args : List Expr) : Type 0 where
  pub at : (out-Expr e).place ≡ place
  pub is : (out-Expr e).node ≡ node
  pub has : (out-Expr e).args.items ≡ args

pub record IsTerm (term : TypeTerm) (spec : Spec) (star : Option (List Qual)) : Type 0 where
  pub is : (out-TypeTerm term).spec ≡ spec
  pub has : (out-TypeTerm term).star ≡ star

pub record IsSpec (s : Spec) (quals : List Qual) (base : Base) : Type 0 where
  pub has : (out-Spec s).quals ≡ quals
  pub is : (out-Spec s).base ≡ base

pub record IsField (f : Field) (spec : Spec) (names : List Declor) : Type 0 where
  pub is : (out-Field f).spec ≡ spec
  pub has : (out-Field f).names.items ≡ names

pub record IsDeclor (d : Declor) (star : Option (List Qual)) (name : List ℕ) (place : Place) (lengths : List (Option Expr)) : Type 0 where
  pub behind : (out-Declor d).star ≡ star
  pub is : (out-Declor d).name ≡ name
  pub at : (out-Declor d).place ≡ place
  pub has : (out-Declor d).lengths.items ≡ lengths

abbrev pub items_of : Option (Vec Field) → Option (List Field)
items_of None = None
items_of (Some v) = Some v.items

pub record IsStruct (b : Base) (name : Option (List ℕ)) (place : Place) (members : Option (List Field)) : Type 0 where
  pub declared : Option (Vec Field)
  pub is : b ≡ base.Struct name place declared
  pub has : items_of declared ≡ members

pub record IsStmt (s : Stmt) (place : Place) (node : StmtNode) : Type 0 where
  pub at : (out-Stmt s).place ≡ place
  pub is : (out-Stmt s).node ≡ node

pub record IsGroup (g : Group) (labels : List Label) (body : List Stmt) : Type 0 where
  pub under : (out-Group g).labels.items ≡ labels
  pub has : (out-Group g).body.items ≡ body
