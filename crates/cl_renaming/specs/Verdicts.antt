-- An expression has one verdict, whatever numbers its types have in the tables in which it is judged.
use Rattle.std.specs.Prelude.{◌≡◌, ℕ, Bool, List}
use Rattle.clv_place.specs.declared.stop.Offence.{Offence}
use Rattle.cl_types.specs.declared.types.ClType.{ClType}
use Rattle.cl_ast.specs.declared.expression.Expr.{Expr}
use Rattle.cl_tree.specs.declared.expression.TExpr.{TExpr}
use Rattle.cl_rules.specs.declared.rule.Operand.{Operand}
use Rattle.cl_scope.specs.Names.{Env, nothing}
use Rattle.cl_make.specs.Ready.{From}
use Rattle.cl_type_expr.specs.Expressions.{Types}
use Rattle.cl_type_expr.specs.Offences.{Offends}
use Rattle.cl_renaming.specs.Renaming.{AreTypes, IsRenaming, TellsApart, env_as, operand_as}
use Rattle.cl_renaming.specs.Trees.{IsTreeAs}

-- ---- in a table and in one that has its types by other numbers, the declarations' too

-- two typed trees are one but for the numbers of types, and so is what they declare and what their parent has to know of them
abbrev pub RenamedTree : Type 0
RenamedTree = (cs ds : List ClType) (r : ℕ → ℕ) (env after after2 : Env) (left : Bool) (e : Expr) (t t2 : TExpr) (o o2 : Operand) → IsRenaming cs ds r → AreTypes cs → AreTypes ds → Types cs env left e after t o → Types ds (env_as r env) left e after2 t2 o2 → (after2 ≡ env_as r after) × (o2 ≡ operand_as r o) × IsTreeAs r t t2

-- what is typed in the one has no offence in the other
abbrev pub RenamedNeverBoth : Type 0
RenamedNeverBoth = (cs ds : List ClType) (r : ℕ → ℕ) (env after : Env) (left : Bool) (e : Expr) (t : TExpr) (o : Operand) (p : Offence) → IsRenaming cs ds r → AreTypes cs → AreTypes ds → Types cs env left e after t o → Offends ds (env_as r env) left e p → ⊥

abbrev pub RenamedNeverTyped : Type 0
RenamedNeverTyped = (cs ds : List ClType) (r : ℕ → ℕ) (env after : Env) (left : Bool) (e : Expr) (t : TExpr) (o : Operand) (p : Offence) → IsRenaming cs ds r → AreTypes cs → AreTypes ds → Offends cs env left e p → Types ds (env_as r env) left e after t o → ⊥

abbrev pub RenamedOffence : Type 0
RenamedOffence = (cs ds : List ClType) (r : ℕ → ℕ) (env : Env) (left : Bool) (e : Expr) (p q : Offence) → IsRenaming cs ds r → AreTypes cs → AreTypes ds → Offends cs env left e p → Offends ds (env_as r env) left e q → q ≡ p

-- ---- where nothing is declared, in any two tables: the second judgement holds in its table and in each longer one, as what typing answers does

-- one tree, but for the numbers that types have
pub record IsOneTree (after after2 : Env) (t t2 : TExpr) (o o2 : Operand) : Type 0 where
  pub numbers : ℕ → ℕ
  pub differ : TellsApart numbers
  pub declares : after2 ≡ env_as numbers after
  pub operand : o2 ≡ operand_as numbers o
  pub tree : IsTreeAs numbers t t2

abbrev pub OneTree : Type 0
OneTree = (cs ds : List ClType) (left : Bool) (e : Expr) (after after2 : Env) (t t2 : TExpr) (o o2 : Operand) → AreTypes cs → AreTypes ds → Types cs nothing left e after t o → From ds (λ more. Types more nothing left e after2 t2 o2) → IsOneTree after after2 t t2 o o2

-- no expression is typed in one table and has an offence in another
abbrev pub NeverBoth : Type 0
NeverBoth = (cs ds : List ClType) (left : Bool) (e : Expr) (after : Env) (t : TExpr) (o : Operand) (p : Offence) → AreTypes cs → AreTypes ds → Types cs nothing left e after t o → From ds (λ more. Offends more nothing left e p) → ⊥

abbrev pub NeverTyped : Type 0
NeverTyped = (cs ds : List ClType) (left : Bool) (e : Expr) (after : Env) (t : TExpr) (o : Operand) (p : Offence) → AreTypes cs → AreTypes ds → Offends cs nothing left e p → From ds (λ more. Types more nothing left e after t o) → ⊥

abbrev pub OneOffence : Type 0
OneOffence = (cs ds : List ClType) (left : Bool) (e : Expr) (p q : Offence) → AreTypes cs → AreTypes ds → Offends cs nothing left e p → From ds (λ more. Offends more nothing left e q) → q ≡ p
