-- Conditions, and statements that stand alone.
use Rattle.std.proofs.Common.{◌≡◌, ℕ, nat_eq, nat_lt, Bool, true, false, ◌&&◌, if◌then◌else◌, List, Option, Some, None, Result, Ok, Err, refl, sym, ap, subst}
use Rattle.std.specs.Prelude.{IfOk, IfErr}
use Rattle.clv_place.specs.declared.place.Place.{Place}
use Rattle.clv_place.specs.declared.stop.Stop.{Stop}
use Rattle.clv_place.specs.declared.stop.Stop.TheVariants.{Out, NoMemory}
use Rattle.cl_types.specs.declared.types.ClType.{ClType}
use Rattle.cl_types.specs.declared.types.TypeId.{TypeId}
use Rattle.cl_types.specs.Table.{IsTable}
use Rattle.cl_builtins.specs.declared.kind.Gentype.{Gentype}
use Rattle.cl_builtins.specs.Kinds.{int, is_gentype}
use Rattle.cl_builtins.specs.Found.{IsGrown, IsKnown}
use Rattle.cl_builtins.proofs.Growth.{grown_twice}
use Rattle.cl_ast.specs.declared.expression.Expr.{Expr}
use Rattle.cl_ast.specs.declared.statement.Stmt.{Stmt}
use Rattle.cl_ast.specs.declared.statement.StmtNode.TheVariants as node
use Rattle.cl_ast.specs.declared.statement.StmtNode.TheViews.{out-Stmt}
use Rattle.cl_tree.specs.declared.expression.TExpr.{TExpr}
use Rattle.cl_tree.specs.declared.shape.Shape.{Shape}
use Rattle.cl_tree.specs.declared.shape.Shape.TheVariants as shape
use Rattle.cl_tree.specs.declared.statement.TStmt.{TStmt}
use Rattle.cl_tree.specs.declared.statement.TStmtNode.TheVariants as tnode
use Rattle.cl_tree.specs.Shapes.{shape_of, is_number, promoted}
use Rattle.cl_rules.specs.declared.rule.Operand.{Operand}
use Rattle.cl_rules.specs.declared.rule.Want.TheVariants as want
use Rattle.cl_rules.specs.Operands.{first_broken, type_of}
use Rattle.cl_scope.specs.Names.{Env}
use Rattle.cl_scope.specs.Scopes.{IsKnownEnv}
use Rattle.cl_make.specs.declared.typed.Typed.{Typed}
use Rattle.cl_make.specs.Answered.{IsConvertedOf, IsNumberOf}
use Rattle.cl_make.specs.Ready.{IsReady, IsReadyOperand}
use Rattle.cl_make.specs.Wanted.{target}
use Rattle.cl_make.proofs.Growing.{FitsTable, known_fits, shape_stays}
use Rattle.cl_make.proofs.Stays.{env_stays}
use Rattle.cl_type_expr.specs.Typing.{IsTypedAs, StopsIn}
use Rattle.cl_type_expr.specs.Offences.{at}
use Rattle.cl_typing.specs.declared.label.Tested.{Tested}
use Rattle.cl_typing.specs.declared.setting.Setting.{Setting}
use Rattle.cl_typing.specs.Answers.{MayBeIs, MayBeStops, ForConditionIs, AloneIs, AloneStops}
use Rattle.cl_typing.specs.Settings.{state, IsTStmt}
use Rattle.cl_typing.specs.Statements.{tested_type, tested_first, return_tests, return_tests_of, MayBeTyped, IsForCondition, MayBeOffends, left_out, written, condition_missing, condition_given, in_written, expression, in_expression, return, return_value, in_return, no_return, no_return_value}
use Rattle.cl_typing.proofs.Blocks.{is_stmt}

-- ---- expressions that may be missing

pub may_be_some : (cs : List ClType) (env after : Env) (o : Option Expr) (e : Expr) (r : Typed) → o ≡ Some e → IsTypedAs cs env false e after r → MayBeIs cs env o after (Some r.tree)
may_be_some cs env after o e r some h = record {
  operand = Some r.operand;
  types = λ more m. subst (λ z. MayBeTyped more env z after (Some r.tree) (Some r.operand)) (sym some) (written env after e r.tree r.operand (h.types more m));
  known = h.known;
}

pub may_be_none : (cs : List ClType) (env : Env) (o : Option Expr) → o ≡ None → IsKnownEnv cs env → MayBeIs cs env o env None
may_be_none cs env o none k = record {
  operand = None;
  types = λ more m. subst (λ z. MayBeTyped more env z env None None) (sym none) (left_out env);
  known = k;
}

pub may_be_out : (cs : List ClType) (env : Env) (o : Option Expr) (e : Expr) (x : Stop) → o ≡ Some e → StopsIn cs env false e x → MayBeStops cs env o x
may_be_out cs env o e NoMemory some h = tt
may_be_out cs env o e (Out p) some h = λ more m. subst (λ z. MayBeOffends more env z p) (sym some) (in_written env e p (h more m))

pub for_given : (cs : List ClType) (place : Place) (env after : Env) (o : Option Expr) (e : Expr) (r : Result Typed Stop) → o ≡ Some e → IfOk r (IsTypedAs cs env false e after) → IfOk r (ForConditionIs cs place env o after)
for_given cs place env after o e (Ok r) some h = record {
  types = λ more m. subst (λ z. IsForCondition more place env z after r.tree r.operand) (sym some) (condition_given env after e r.tree r.operand (h.types more m));
  known = h.known;
}
for_given cs place env after o e (Err x) some h = tt

pub for_given_out : (cs : List ClType) (env : Env) (o : Option Expr) (e : Expr) (r : Result Typed Stop) → o ≡ Some e → IfErr r (StopsIn cs env false e) → IfErr r (MayBeStops cs env o)
for_given_out cs env o e (Ok r) some h = tt
for_given_out cs env o e (Err x) some h = may_be_out cs env o e x some h

pub for_missing : (old cs : List ClType) (place : Place) (env : Env) (o : Option Expr) (r : Typed) → o ≡ None → IsGrown old cs → IsKnownEnv old env → IsNumberOf cs int 1 place r → ForConditionIs cs place env o env r
for_missing old cs place env o r none g k h = record {
  types = λ more m. subst (λ z. IsForCondition more place env z env r.tree r.operand) (sym none) (condition_missing env r.tree r.operand (h.number more m));
  known = env_stays old cs env g k;
}

-- ---- what is tested by a `switch`

fine_type : (cs : List ClType) (s : Shape) → FitsTable cs s → is_gentype (type_of s) ≡ true
fine_type cs shape.Void h = refl
fine_type cs shape.Bool h = refl
fine_type cs (shape.Integers t) h = h
fine_type cs (shape.Array elem len nested) h = refl
fine_type cs shape.Struct h = refl
fine_type cs (shape.Pointer space to readonly restricted) h = refl

fine_if : (b : Bool) (t u : Gentype) → is_gentype t ≡ true → is_gentype u ≡ true → is_gentype (if b then t else u) ≡ true
fine_if true t u h k = h
fine_if false t u h k = k

fine_tested : (s : Shape) → is_gentype (type_of s) ≡ true → is_gentype (tested_type s) ≡ true
fine_tested s h = fine_if (is_number s) (promoted (type_of s)) int (fine_if (nat_eq (type_of s).count 1 && nat_lt (type_of s).bits 32) int (type_of s) refl h) refl

pub tested_fine : (cs : List ClType) (o : Operand) → IsTable cs → IsReadyOperand cs o → is_gentype (tested_type o.shape) ≡ true
tested_fine cs o b h = fine_tested o.shape (subst (λ s. is_gentype (type_of s) ≡ true) (sym h.shape) (fine_type cs (shape_of cs o.facts.ty) (known_fits cs o.facts.ty b h.known)))

pub first_fine : (cs : List ClType) (r : Typed) (k : Tested) → IsTable cs → IsReady cs r → k ≡ tested_first r.operand.shape → is_gentype k.of ≡ true
first_fine cs r k b h is = subst (λ z. is_gentype z.of ≡ true) (sym is) (tested_fine cs r.operand b h.operand)

-- ---- an expression as a statement

pub expression_typed : (cs : List ClType) (p : Setting) (env after : Env) (s : Stmt) (e : Expr) (r : Typed) (t : TStmt) → (out-Stmt s).node ≡ node.Expr e → IsTypedAs cs env false e after r → IsTStmt t (out-Stmt s).place (tnode.Expr r.tree) → AloneIs cs p env s after t
expression_typed cs p env after s e r t is h tree = record {
  is = λ more m vars. expression p (state env vars) s (out-Stmt s).place e after r.tree r.operand t (is_stmt s (node.Expr e) is) (h.types more m) tree;
  known = h.known;
}

pub expression_out : (cs : List ClType) (p : Setting) (env : Env) (s : Stmt) (e : Expr) (x : Stop) → (out-Stmt s).node ≡ node.Expr e → StopsIn cs env false e x → AloneStops cs p env s x
expression_out cs p env s e NoMemory is h = tt
expression_out cs p env s e (Out o) is h = λ more m vars. in_expression p (state env vars) s (out-Stmt s).place e o (is_stmt s (node.Expr e) is) (h more m)

-- ---- `return`

target_stays : (old new : List ClType) (t : TypeId) → IsTable old → IsGrown old new → IsKnown old t → target new t ≡ target old t
target_stays old new t b g k = ap (λ z. record { ty = t; shape = z }) (shape_stays old new t b g k)

module _ (cs : List ClType) (p : Setting) (s : Stmt) (b : IsTable cs) (k : IsKnown cs p.result) where
  tests_stay : (more : List ClType) (o : Option Operand) (c : Option ℕ) → IsGrown cs more → first_broken (return_tests_of (target cs p.result) o) ≡ c → first_broken (return_tests more p.result o) ≡ c
  tests_stay more o c m h = subst (λ z. first_broken (return_tests_of z o) ≡ c) (sym (target_stays cs more p.result b m k)) h

  pub return_typed : (env : Env) (t : TStmt) → (out-Stmt s).node ≡ node.Return None → IsKnownEnv cs env → first_broken (return_tests_of (target cs p.result) None) ≡ None → IsTStmt t (out-Stmt s).place (tnode.Return None) → AloneIs cs p env s env t
  return_typed env t is known fits tree = record {
    is = λ more m vars. return p (state env vars) s (out-Stmt s).place t (is_stmt s (node.Return None) is) (tests_stay more None None m fits) tree;
    known = known;
  }

  pub return_out : (env : Env) (code : ℕ) → (out-Stmt s).node ≡ node.Return None → first_broken (return_tests_of (target cs p.result) None) ≡ Some code → AloneStops cs p env s (Out (at code (out-Stmt s).place))
  return_out env code is broken = λ more m vars. no_return p (state env vars) s (out-Stmt s).place code (is_stmt s (node.Return None) is) (tests_stay more None (Some code) m broken)

  module _ (env after : Env) (e : Expr) (r : Typed) (is : (out-Stmt s).node ≡ node.Return (Some e)) (typed : IsTypedAs cs env false e after r) where
    pub value_returned : (new : List ClType) (u : TExpr) (t : TStmt) → IsGrown cs new → first_broken (return_tests_of (target cs p.result) (Some r.operand)) ≡ None → IsConvertedOf new (want.Type p.result) r.tree u → IsTStmt t (out-Stmt s).place (tnode.Return (Some u)) → AloneIs new p env s after t
    value_returned new u t g fits converts tree = record {
      is = λ more m vars. let w = grown_twice cs new more g m in
          return_value p (state env vars) s (out-Stmt s).place e after r.tree u r.operand t (is_stmt s (node.Return (Some e)) is) (typed.types more w) (tests_stay more (Some r.operand) None w fits) (converts.converts more m) tree;
      known = env_stays cs new after g typed.known;
    }

    pub value_refused : (code : ℕ) → first_broken (return_tests_of (target cs p.result) (Some r.operand)) ≡ Some code → AloneStops cs p env s (Out (at code (out-Stmt s).place))
    value_refused code broken = λ more m vars.
        no_return_value p (state env vars) s (out-Stmt s).place e after r.tree r.operand code (is_stmt s (node.Return (Some e)) is) (typed.types more m) (tests_stay more (Some r.operand) (Some code) m broken)

pub return_expr_out : (cs : List ClType) (p : Setting) (env : Env) (s : Stmt) (e : Expr) (x : Stop) → (out-Stmt s).node ≡ node.Return (Some e) → StopsIn cs env false e x → AloneStops cs p env s x
return_expr_out cs p env s e NoMemory is h = tt
return_expr_out cs p env s e (Out o) is h = λ more m vars. in_return p (state env vars) s (out-Stmt s).place e o (is_stmt s (node.Return (Some e)) is) (h more m)
