-- `for`, part by part.
use Rattle.std.proofs.Common.{◌≡◌, List, Option, sym, ◌∙◌, subst}
use Rattle.std.specs.Global.{Vec}
use Rattle.clv_place.specs.declared.stop.Offence.{Offence}
use Rattle.clv_place.specs.declared.stop.Stop.{Stop}
use Rattle.clv_place.specs.declared.stop.Stop.TheVariants.{Out, NoMemory}
use Rattle.cl_types.specs.declared.types.ClType.{ClType}
use Rattle.cl_builtins.specs.Found.{IsGrown}
use Rattle.cl_builtins.proofs.Growth.{grown_twice}
use Rattle.cl_ast.specs.declared.expression.Expr.{Expr}
use Rattle.cl_ast.specs.declared.statement.Stmt.{Stmt}
use Rattle.cl_ast.specs.declared.statement.StmtNode.TheVariants as node
use Rattle.cl_ast.specs.declared.statement.StmtNode.TheViews.{out-Stmt}
use Rattle.cl_tree.specs.declared.expression.TExpr.{TExpr}
use Rattle.cl_tree.specs.declared.statement.TStmt.{TStmt}
use Rattle.cl_tree.specs.declared.statement.TStmtNode.TheVariants as tnode
use Rattle.cl_tree.specs.declared.unit.Variable.{Variable}
use Rattle.cl_scope.specs.Names.{Env, entered}
use Rattle.cl_scope.specs.Scopes.{IsKnownEnv}
use Rattle.cl_make.specs.declared.typed.Typed.{Typed}
use Rattle.cl_make.proofs.Stays.{from_now}
use Rattle.cl_typing.specs.declared.setting.Setting.{Setting}
use Rattle.cl_typing.specs.Answers.{MayBeIs, MayBeStops, ForConditionIs, ConditionIs, ConditionStops, StmtIsTyped, StmtStops, ItemsAreTyped, ItemsStop, ArmsAreTyped, ArmsStop}
use Rattle.cl_typing.specs.Settings.{state, inside, in_loop, IsTStmt}
use Rattle.cl_typing.specs.Statements.{MayBeTyped, IsForCondition, ItemsAre, StmtIs, ArmsAre, ItemsOffend, StmtOffends, ForOffends, for_loop, in_for, in_declaration, in_first, in_condition, in_next, in_body, no_for}
use Rattle.cl_typing.proofs.OuterStatements.{may_be_typed_outer, is_for_condition_outer, items_are_outer, arms_are_outer}
use Rattle.cl_typing.proofs.Blocks.{Scoped, behind_known, is_stmt}

module _ (p : Setting) (n0 ne : Env) (v0 : List Variable) (s : Stmt) (decl body : Vec Stmt) (first cond next : Option Expr) (is : (out-Stmt s).node ≡ node.For decl first cond next body) (enters : ne ≡ entered n0) where
  whole : (more : List ClType) (o : Offence) → ForOffends more p (out-Stmt s).place (state (entered n0) v0) decl.items first cond next body.items o → StmtOffends more p (state n0 v0) s o
  whole more o h = in_for p (state n0 v0) s (out-Stmt s).place decl body first cond next o (is_stmt s (node.For decl first cond next body) is) h

  pub for_declaration_out : (c1 : List ClType) (x : Stop) → ItemsStop c1 (inside p) (state ne v0) decl.items x → StmtStops c1 p (state n0 v0) s x
  for_declaration_out c1 NoMemory h = tt
  for_declaration_out c1 (Out o) h = λ more m. whole more o
      (in_declaration p (out-Stmt s).place (state (entered n0) v0) decl.items body.items first cond next o (subst (λ z. ItemsOffend more (inside p) (state z v0) decl.items o) enters (h more m)))

  module _ (c1 : List ClType) (nd : Env) (v1 : List Variable) (ds : Vec TStmt) (declared : ItemsAreTyped c1 (inside p) (state ne v0) decl.items (state nd v1) ds.items) where
    for_items : (more : List ClType) → IsGrown c1 more → ItemsAre more (inside p) (state (entered n0) v0) decl.items (state nd v1) ds.items
    for_items more m = subst (λ z. ItemsAre more (inside p) (state z v0) decl.items (state nd v1) ds.items) enters (declared.items more m)

    pub for_first_out : (c2 : List ClType) → IsGrown c1 c2 → (x : Stop) → MayBeStops c2 nd first x → StmtStops c2 p (state n0 v0) s x
    for_first_out c2 g NoMemory h = tt
    for_first_out c2 g (Out o) h = λ more m. whole more o
        (in_first p (out-Stmt s).place (state (entered n0) v0) (state nd v1) decl.items body.items first cond next ds.items o (for_items more (grown_twice c1 c2 more g m)) (h more m))

    module _ (c2 : List ClType) (g2 : IsGrown c1 c2) (na : Env) (t1 : Option TExpr) (one : MayBeIs c2 nd first na t1) where
      pub for_condition_out : (c3 : List ClType) → IsGrown c2 c3 → (x : Stop) → MayBeStops c3 na cond x → StmtStops c3 p (state n0 v0) s x
      for_condition_out c3 g NoMemory h = tt
      for_condition_out c3 g (Out o) h = λ more m. whole more o
          (in_condition p (out-Stmt s).place (state (entered n0) v0) (state nd v1) decl.items body.items first cond next ds.items na t1 one.operand o (for_items more (grown_twice c1 c2 more g2 (grown_twice c2 c3 more g m))) (one.types more (grown_twice c2 c3 more g m)) (h more m))

      module _ (c3 : List ClType) (g3 : IsGrown c2 c3) (nb : Env) (r : Typed) (two : ForConditionIs c3 (out-Stmt s).place na cond nb r) where
        pub for_next_out : (c4 : List ClType) → IsGrown c3 c4 → (x : Stop) → MayBeStops c4 nb next x → StmtStops c4 p (state n0 v0) s x
        for_next_out c4 g NoMemory h = tt
        for_next_out c4 g (Out o) h = λ more m. let k3 = grown_twice c3 c4 more g m in let k2 = grown_twice c2 c3 more g3 k3 in whole more o
            (in_next p (out-Stmt s).place (state (entered n0) v0) (state nd v1) decl.items body.items first cond next ds.items na nb t1 one.operand r.tree r.operand o (for_items more (grown_twice c1 c2 more g2 k2)) (one.types more k2) (two.types more k3) (h more m))

        module _ (c4 : List ClType) (g4 : IsGrown c3 c4) (nc : Env) (t3 : Option TExpr) (three : MayBeIs c4 nb next nc t3) where
          pub for_body_out : (c5 : List ClType) → IsGrown c4 c5 → (x : Stop) → ArmsStop c5 (in_loop p) (state nc v1) body.items x → StmtStops c5 p (state n0 v0) s x
          for_body_out c5 g NoMemory h = tt
          for_body_out c5 g (Out o) h = λ more m. let k4 = grown_twice c4 c5 more g m in let k3 = grown_twice c3 c4 more g4 k4 in let k2 = grown_twice c2 c3 more g3 k3 in whole more o
              (in_body p (out-Stmt s).place (state (entered n0) v0) (state nd v1) decl.items body.items first cond next ds.items na nb nc t1 t3 one.operand three.operand r.tree r.operand o (for_items more (grown_twice c1 c2 more g2 k2)) (one.types more k2) (two.types more k3) (three.types more k4) (h more m))

          module _ (c5 : List ClType) (g5 : IsGrown c4 c5) (nz : Env) (v2 : List Variable) (ts : Vec TStmt) (arms : ArmsAreTyped c5 (in_loop p) (state nc v1) body.items (state nz v2) ts.items) where
            pub for_broken : (x : Stop) → ConditionStops r (out-Stmt s).place x → StmtStops c5 p (state n0 v0) s x
            for_broken NoMemory h = tt
            for_broken (Out o) h = λ more m. let k4 = grown_twice c4 c5 more g5 m in let k3 = grown_twice c3 c4 more g4 k4 in let k2 = grown_twice c2 c3 more g3 k3 in
                subst (StmtOffends more p (state n0 v0) s) (sym h.is) (whole more _
                (no_for p (out-Stmt s).place (state (entered n0) v0) (state nd v1) (state nz v2) decl.items body.items first cond next ds.items ts.items na nb nc t1 t3 one.operand three.operand r.tree r.operand (for_items more (grown_twice c1 c2 more g2 k2)) (one.types more k2) (two.types more k3) (three.types more k4) (arms.arms more m) h.holds))

            for_outer : nz.outer ≡ ne.outer
            for_outer =
                arms_are_outer c5 (in_loop p) (state nc v1) body.items (state nz v2) ts.items (from_now c5 (λ more. ArmsAre more (in_loop p) (state nc v1) body.items (state nz v2) ts.items) arms.arms)
                ∙ may_be_typed_outer c4 nb next nc t3 three.operand (from_now c4 (λ more. MayBeTyped more nb next nc t3 three.operand) three.types)
                ∙ is_for_condition_outer c3 (out-Stmt s).place na cond nb r.tree r.operand (from_now c3 (λ more. IsForCondition more (out-Stmt s).place na cond nb r.tree r.operand) two.types)
                ∙ may_be_typed_outer c2 nd first na t1 one.operand (from_now c2 (λ more. MayBeTyped more nd first na t1 one.operand) one.types)
                ∙ items_are_outer c1 (inside p) (state ne v0) decl.items (state nd v1) ds.items (from_now c1 (λ more. ItemsAre more (inside p) (state ne v0) decl.items (state nd v1) ds.items) declared.items)

            pub for_typed : (old : List ClType) (n1 : Env) (u : TExpr) (t : TStmt) → IsGrown old c5 → Scoped n0 ne nz n1 → IsKnownEnv old n0 → ConditionIs r u → IsTStmt t (out-Stmt s).place (tnode.For ds t1 u t3 ts) → StmtIsTyped c5 p (state n0 v0) s (state n1 v2) t
            for_typed old n1 u t h sc k c tree = record {
              is = λ more m. let k4 = grown_twice c4 c5 more g5 m in let k3 = grown_twice c3 c4 more g4 k4 in let k2 = grown_twice c2 c3 more g3 k3 in
                  subst (λ z. StmtIs more p (state n0 v0) s (state z v2) t) (sym (sc.leaves for_outer))
                  (for_loop p (state n0 v0) (state nd v1) (state nz v2) s (out-Stmt s).place decl body first cond next na nb nc t1 one.operand r.tree r.operand t3 three.operand ds ts t (is_stmt s (node.For decl first cond next body) is)
                  (for_items more (grown_twice c1 c2 more g2 k2)) (one.types more k2) (two.types more k3) (three.types more k4) (arms.arms more m) c.fits
                  (subst (λ z. IsTStmt t (out-Stmt s).place (tnode.For ds t1 z t3 ts)) c.is tree));
              known = behind_known old c5 n0 ne nz n1 h sc for_outer k arms.known;
            }
