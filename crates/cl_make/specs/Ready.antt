-- What is known of a typed expression by itself, in the table of now and in each that has more types.
use Rattle.std.specs.Prelude.{◌≡◌, true, List, [], ◌∷◌, All}
use Rattle.cl_types.specs.declared.types.ClType.{ClType}
use Rattle.cl_types.specs.Table.{IsTable}
use Rattle.cl_builtins.specs.Found.{IsKnown, IsGrown}
use Rattle.cl_tree.specs.declared.expression.TExpr.{TExpr}
use Rattle.cl_tree.specs.Constants.{known_of}
use Rattle.cl_tree.specs.Shapes.{shape_of}
use Rattle.cl_tree.specs.Units.{are_allowed}
use Rattle.cl_rules.specs.declared.rule.Operand.{Operand}
use Rattle.cl_rules.specs.declared.rule.Qualified.{Qualified}
use Rattle.cl_make.specs.declared.typed.Typed.{Typed}

-- A table that has grown: its types stay, and those that came are allowed where they stand (no array or struct of what can't be in one).
pub record Grows (old new : List ClType) : Type 0 where
  pub table : IsTable new
  pub grown : IsGrown old new
  pub allowed : are_allowed old old ≡ true → are_allowed new new ≡ true

-- in this table, and in each that has its types and maybe more
abbrev pub From : List ClType → (List ClType → Type 0) → Type 0
From now holds = (more : List ClType) → IsGrown now more → holds more

-- A tree's value, where it is a constant, and the type of its root are the same in each longer table.
abbrev pub IsSteady : List ClType → TExpr → Type 0
IsSteady cs t = From cs (λ more. known_of t more ≡ known_of t cs)

-- what a parent has to know of an expression speaks of a type of the table
pub record IsReadyOperand (cs : List ClType) (o : Operand) : Type 0 where
  pub known : IsKnown cs o.facts.ty
  pub shape : o.shape ≡ shape_of cs o.facts.ty

-- a typed expression whose types are in the table
pub record IsReady (cs : List ClType) (r : Typed) : Type 0 where
  pub operand : IsReadyOperand cs r.operand
  pub root : (known_of r.tree cs).ty ≡ r.operand.facts.ty
  pub steady : IsSteady cs r.tree

abbrev pub AreReady : List ClType → List Typed → Type 0
AreReady cs rs = All (IsReady cs) rs

-- words of a type that is in the table
pub record IsReadyType (cs : List ClType) (q : Qualified) : Type 0 where
  pub known : IsKnown cs q.ty
  pub shape : q.shape ≡ shape_of cs q.ty

-- a typed tree of which the type is in the table
pub record IsStable (cs : List ClType) (t : TExpr) : Type 0 where
  pub known : IsKnown cs (known_of t cs).ty
  pub steady : IsSteady cs t

abbrev pub AreStable : List ClType → List TExpr → Type 0
AreStable cs [] = Unit {0}
AreStable cs (t ∷ ts) = IsStable cs t × AreStable cs ts

abbrev pub tree_of : Typed → TExpr
tree_of r = r.tree

abbrev pub operand_in : Typed → Operand
operand_in r = r.operand

abbrev pub AreKnownOperands : List ClType → List Operand → Type 0
AreKnownOperands cs os = All (λ o. IsKnown cs o.facts.ty) os
