-- When lists have what the declarations round a place declare; and that a tree is typed by them.
use Rattle.std.specs.Prelude.{◌≡◌, ℕ, true, List, [], ◌∷◌, Some, slice_get}
use Rattle.cl_tree.specs.declared.expression.TExpr.{TExpr}
use Rattle.cl_tree.specs.declared.expression.TNode.TheViews.{out-TExpr}
use Rattle.cl_tree.specs.Facts.{Callee, Lists, place, named, variable, facts_of}
use Rattle.cl_rules.specs.declared.rule.Operand.{Operand}
use Rattle.cl_scope.specs.declared.scope.Declared.{Declared}
use Rattle.cl_scope.specs.declared.scope.DeclaredKind.{DeclaredKind}
use Rattle.cl_scope.specs.declared.scope.DeclaredKind.TheVariants as kind
use Rattle.cl_scope.specs.declared.scope.Signature.{Signature}
use Rattle.cl_scope.specs.Names.{Env, find, find_function}
use Rattle.cl_make.specs.Ready.{IsReadyOperand}

-- what is declared stands by its number in the list of its kind, in its space and with its type, or with that of an array of as many elements as it has by then
abbrev pub StandsAs : Lists → Declared → DeclaredKind → Type 0
StandsAs l d (kind.Param k) = named d.ty (slice_get l.params k) ≡ Some (place d.ty d.space)
StandsAs l d (kind.Var k) = variable l d.ty (slice_get l.vars k) ≡ Some (place d.ty d.space)
StandsAs l d (kind.Constant k) = named d.ty (slice_get l.constants k) ≡ Some (place d.ty d.space)
StandsAs l d kind.Typedef = Unit {0}
StandsAs l d kind.Tag = Unit {0}

abbrev pub callee_of : Signature → Callee
callee_of s = record { params = s.params; result = s.result; kernel = s.kernel }

-- a function that is declared here and has a body stands by its number too
pub record Agrees (l : Lists) (env : Env) : Type 0 where
  pub names : (name : List ℕ) (d : Declared) → find env name ≡ Some d → StandsAs l d d.kind
  pub functions : (name : List ℕ) (s : Signature) → find_function env name ≡ Some s → s.body ≡ true → slice_get l.functions s.number ≡ Some (callee_of s)

-- ---- trees

-- a tree is what its parent takes it for
pub record IsTypedAs (l : Lists) (t : TExpr) (o : Operand) : Type 0 where
  pub facts : facts_of t l ≡ Some o.facts
  pub root : (out-TExpr t).ty ≡ o.facts.ty
  pub ready : IsReadyOperand l.types o

abbrev pub AreTypedAs : Lists → List TExpr → List Operand → Type 0
AreTypedAs l [] [] = Unit {0}
AreTypedAs l (t ∷ ts) (o ∷ os) = IsTypedAs l t o × AreTypedAs l ts os
AreTypedAs l [] (o ∷ os) = ⊥
AreTypedAs l (t ∷ ts) [] = ⊥
