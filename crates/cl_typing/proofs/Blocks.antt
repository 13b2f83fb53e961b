-- Statements that are blocks: what stands in them is left behind.
use Rattle.std.proofs.Common.{◌≡◌, ℕ, false, List, [], ◌∷◌, ◌++◌, length, refl, sym, ap, ◌∙◌, subst}
use Rattle.std.specs.Global.{Vec}
use Rattle.clv_place.specs.declared.stop.Stop.{Stop}
use Rattle.clv_place.specs.declared.stop.Stop.TheVariants.{Out, NoMemory}
use Rattle.cl_types.specs.declared.types.ClType.{ClType}
use Rattle.cl_builtins.specs.Found.{IsGrown}
use Rattle.cl_builtins.proofs.Growth.{grown_twice}
use Rattle.cl_ast.specs.declared.expression.Expr.{Expr}
use Rattle.cl_ast.specs.declared.statement.Stmt.{Stmt}
use Rattle.cl_ast.specs.declared.statement.StmtNode.{StmtNode}
use Rattle.cl_ast.specs.declared.statement.StmtNode.TheVariants as node
use Rattle.cl_ast.specs.declared.statement.StmtNode.TheViews.{out-Stmt}
use Rattle.cl_tree.specs.declared.expression.TExpr.{TExpr}
use Rattle.cl_tree.specs.declared.statement.TStmt.{TStmt}
use Rattle.cl_tree.specs.declared.statement.TStmtNode.TheVariants as tnode
use Rattle.cl_tree.specs.declared.unit.Variable.{Variable}
use Rattle.cl_scope.specs.Names.{Env, entered, left_behind, IsLeft}
use Rattle.cl_scope.specs.declared.scope.Declared.{Declared}
use Rattle.cl_scope.specs.Scopes.{AreKnownIn, IsKnownEnv}
use Rattle.cl_make.specs.declared.typed.Typed.{Typed}
use Rattle.cl_make.proofs.Stays.{from_now, env_stays}
use Rattle.cl_type_expr.specs.Expressions.{Types}
use Rattle.cl_type_expr.specs.Offences.{Offends, at}
use Rattle.cl_type_expr.specs.Syntax.{IsStmt}
use Rattle.cl_type_expr.specs.Typing.{IsTypedAs, StopsIn}
use Rattle.cl_typing.specs.declared.setting.Setting.{Setting}
use Rattle.cl_typing.specs.Answers.{ConditionIs, ConditionStops, StmtIsTyped, StmtStops, ItemsAreTyped, ItemsStop, ArmsAreTyped, ArmsStop}
use Rattle.cl_typing.specs.Settings.{state, inside, in_loop, IsTStmt}
use Rattle.cl_typing.specs.Statements.{ItemsAre, StmtIs, ArmsAre, ItemsOffend, StmtOffends, ArmsOffend, block, choice, while_loop, do_loop, in_block, in_test, in_arms, no_test, in_while, in_while_body, no_while, in_do_body, in_do, no_do}
use Rattle.cl_typing.proofs.Outer.{types_outer}
use Rattle.cl_typing.proofs.OuterStatements.{items_are_outer, arms_are_outer}

-- ---- a block, entered and left

pub record Scoped (before within inner behind : Env) : Type 0 where
  pub enters : within ≡ entered before
  pub leaves : inner.outer ≡ within.outer → behind ≡ left_behind before inner

pub scoped : (before within inner behind : Env) (mark : ℕ) → within ≡ entered before → mark ≡ length before.outer → IsLeft inner mark behind → Scoped before within inner behind
scoped before within inner behind mark e m left = record {
  enters = e;
  leaves = λ outer. left before (outer ∙ ap (λ z. z.outer) e) m;
}

all_known_in : (cs : List ClType) (ds es : List Declared) → AreKnownIn cs ds → AreKnownIn cs es → AreKnownIn cs (ds ++ es)
all_known_in cs [] es h k = k
all_known_in cs (d ∷ ds) es h k = (h.0, all_known_in cs ds es h.1 k)

pub entered_known : (cs : List ClType) (before within : Env) → within ≡ entered before → IsKnownEnv cs before → IsKnownEnv cs within
entered_known cs before within e k = subst (IsKnownEnv cs) (sym e) (record { outer = all_known_in cs before.inner before.outer k.inner k.outer; inner = tt; functions = k.functions })

left_known : (cs : List ClType) (before inner : Env) → IsKnownEnv cs before → IsKnownEnv cs inner → IsKnownEnv cs (left_behind before inner)
left_known cs before inner k i = record { outer = k.outer; inner = k.inner; functions = i.functions }

pub behind_known : (old new : List ClType) (before within inner behind : Env) → IsGrown old new → Scoped before within inner behind → inner.outer ≡ within.outer → IsKnownEnv old before → IsKnownEnv new inner → IsKnownEnv new behind
behind_known old new before within inner behind g s outer k i = subst (IsKnownEnv new) (sym (s.leaves outer)) (left_known new before inner (env_stays old new before g k) i)

pub is_stmt : (s : Stmt) (n : StmtNode) → (out-Stmt s).node ≡ n → IsStmt s (out-Stmt s).place n
is_stmt s n is = record { at = refl; is = is }

-- ---- a block

module _ (old new : List ClType) (p : Setting) (n0 ne ni n1 : Env) (v0 v1 : List Variable) (s : Stmt) (items : Vec Stmt) (is : (out-Stmt s).node ≡ node.Block items) where
  pub block_typed : (ts : Vec TStmt) (t : TStmt) → IsGrown old new → Scoped n0 ne ni n1 → IsKnownEnv old n0 → ItemsAreTyped new (inside p) (state ne v0) items.items (state ni v1) ts.items → IsTStmt t (out-Stmt s).place (tnode.Block ts) → StmtIsTyped new p (state n0 v0) s (state n1 v1) t
  block_typed ts t g sc k h tree =
      let outer : ni.outer ≡ ne.outer = items_are_outer new (inside p) (state ne v0) items.items (state ni v1) ts.items (from_now new (λ more. ItemsAre more (inside p) (state ne v0) items.items (state ni v1) ts.items) h.items) in
      record {
        is = λ more m. subst (λ z. StmtIs more p (state n0 v0) s (state z v1) t) (sym (sc.leaves outer))
            (block p (state n0 v0) (state ni v1) s (out-Stmt s).place items ts t (is_stmt s (node.Block items) is)
            (subst (λ z. ItemsAre more (inside p) (state z v0) items.items (state ni v1) ts.items) sc.enters (h.items more m)) tree);
        known = behind_known old new n0 ne ni n1 g sc outer k h.known;
      }

  pub block_out : (x : Stop) → ne ≡ entered n0 → ItemsStop new (inside p) (state ne v0) items.items x → StmtStops new p (state n0 v0) s x
  block_out NoMemory e h = tt
  block_out (Out o) e h = λ more m. in_block p (state n0 v0) s (out-Stmt s).place items o (is_stmt s (node.Block items) is)
      (subst (λ z. ItemsOffend more (inside p) (state z v0) items.items o) e (h more m))

-- ---- `if`

-- the first table is the one behind the condition, the second the one behind the arms
module _ (old mid new : List ClType) (p : Setting) (n0 ne nx : Env) (v0 : List Variable) (s : Stmt) (e : Expr) (all : Vec Stmt) (is : (out-Stmt s).node ≡ node.If e all) (enters : ne ≡ entered n0) where
  pub choice_test_out : (x : Stop) → StopsIn mid ne false e x → StmtStops mid p (state n0 v0) s x
  choice_test_out NoMemory h = tt
  choice_test_out (Out o) h = λ more m. in_test p (state n0 v0) s (out-Stmt s).place e all o (is_stmt s (node.If e all) is) (subst (λ z. Offends more z false e o) enters (h more m))

  module _ (r : Typed) (typed : IsTypedAs mid ne false e nx r) (g : IsGrown mid new) where
    choice_types : (more : List ClType) → IsGrown new more → Types more (entered n0) false e nx r.tree r.operand
    choice_types more m = subst (λ z. Types more z false e nx r.tree r.operand) enters (typed.types more (grown_twice mid new more g m))

    pub choice_arms_out : (x : Stop) → ArmsStop new (inside p) (state nx v0) all.items x → StmtStops new p (state n0 v0) s x
    choice_arms_out NoMemory h = tt
    choice_arms_out (Out o) h = λ more m. in_arms p (state n0 v0) s (out-Stmt s).place e all nx r.tree r.operand o (is_stmt s (node.If e all) is) (choice_types more m) (h more m)

    module _ (na n1 : Env) (v1 : List Variable) (ts : Vec TStmt) (arms : ArmsAreTyped new (inside p) (state nx v0) all.items (state na v1) ts.items) where
      pub choice_broken : (x : Stop) → ConditionStops r (out-Stmt s).place x → StmtStops new p (state n0 v0) s x
      choice_broken NoMemory h = tt
      choice_broken (Out o) h = λ more m. subst (StmtOffends more p (state n0 v0) s) (sym h.is)
          (no_test p (state n0 v0) (state na v1) s (out-Stmt s).place e all nx r.tree r.operand ts.items (is_stmt s (node.If e all) is) (choice_types more m) (arms.arms more m) h.holds)

      choice_outer : na.outer ≡ ne.outer
      choice_outer =
          arms_are_outer new (inside p) (state nx v0) all.items (state na v1) ts.items (from_now new (λ more. ArmsAre more (inside p) (state nx v0) all.items (state na v1) ts.items) arms.arms)
          ∙ types_outer mid ne false e nx r.tree r.operand (from_now mid (λ more. Types more ne false e nx r.tree r.operand) typed.types)

      pub choice_typed : (u : TExpr) (t : TStmt) → IsGrown old new → Scoped n0 ne na n1 → IsKnownEnv old n0 → ConditionIs r u → IsTStmt t (out-Stmt s).place (tnode.If u ts) → StmtIsTyped new p (state n0 v0) s (state n1 v1) t
      choice_typed u t h sc k c tree = record {
        is = λ more m. subst (λ z. StmtIs more p (state n0 v0) s (state z v1) t) (sym (sc.leaves choice_outer))
            (choice p (state n0 v0) (state na v1) s (out-Stmt s).place e all nx r.tree r.operand ts t (is_stmt s (node.If e all) is) (choice_types more m) (arms.arms more m) c.fits
            (subst (λ z. IsTStmt t (out-Stmt s).place (tnode.If z ts)) c.is tree));
        known = behind_known old new n0 ne na n1 h sc choice_outer k arms.known;
      }

-- ---- `while`

module _ (old mid new : List ClType) (p : Setting) (n0 ne nx : Env) (v0 : List Variable) (s : Stmt) (e : Expr) (all : Vec Stmt) (is : (out-Stmt s).node ≡ node.While e all) (enters : ne ≡ entered n0) where
  pub while_test_out : (x : Stop) → StopsIn mid ne false e x → StmtStops mid p (state n0 v0) s x
  while_test_out NoMemory h = tt
  while_test_out (Out o) h = λ more m. in_while p (state n0 v0) s (out-Stmt s).place e all o (is_stmt s (node.While e all) is) (subst (λ z. Offends more z false e o) enters (h more m))

  module _ (r : Typed) (typed : IsTypedAs mid ne false e nx r) (g : IsGrown mid new) where
    while_types : (more : List ClType) → IsGrown new more → Types more (entered n0) false e nx r.tree r.operand
    while_types more m = subst (λ z. Types more z false e nx r.tree r.operand) enters (typed.types more (grown_twice mid new more g m))

    pub while_body_out : (x : Stop) → ArmsStop new (in_loop p) (state nx v0) all.items x → StmtStops new p (state n0 v0) s x
    while_body_out NoMemory h = tt
    while_body_out (Out o) h = λ more m. in_while_body p (state n0 v0) s (out-Stmt s).place e all nx r.tree r.operand o (is_stmt s (node.While e all) is) (while_types more m) (h more m)

    module _ (na n1 : Env) (v1 : List Variable) (ts : Vec TStmt) (arms : ArmsAreTyped new (in_loop p) (state nx v0) all.items (state na v1) ts.items) where
      pub while_broken : (x : Stop) → ConditionStops r (out-Stmt s).place x → StmtStops new p (state n0 v0) s x
      while_broken NoMemory h = tt
      while_broken (Out o) h = λ more m. subst (StmtOffends more p (state n0 v0) s) (sym h.is)
          (no_while p (state n0 v0) (state na v1) s (out-Stmt s).place e all nx r.tree r.operand ts.items (is_stmt s (node.While e all) is) (while_types more m) (arms.arms more m) h.holds)

      while_outer : na.outer ≡ ne.outer
      while_outer =
          arms_are_outer new (in_loop p) (state nx v0) all.items (state na v1) ts.items (from_now new (λ more. ArmsAre more (in_loop p) (state nx v0) all.items (state na v1) ts.items) arms.arms)
          ∙ types_outer mid ne false e nx r.tree r.operand (from_now mid (λ more. Types more ne false e nx r.tree r.operand) typed.types)

      pub while_typed : (u : TExpr) (t : TStmt) → IsGrown old new → Scoped n0 ne na n1 → IsKnownEnv old n0 → ConditionIs r u → IsTStmt t (out-Stmt s).place (tnode.While u ts) → StmtIsTyped new p (state n0 v0) s (state n1 v1) t
      while_typed u t h sc k c tree = record {
        is = λ more m. subst (λ z. StmtIs more p (state n0 v0) s (state z v1) t) (sym (sc.leaves while_outer))
            (while_loop p (state n0 v0) (state na v1) s (out-Stmt s).place e all nx r.tree r.operand ts t (is_stmt s (node.While e all) is) (while_types more m) (arms.arms more m) c.fits
            (subst (λ z. IsTStmt t (out-Stmt s).place (tnode.While z ts)) c.is tree));
        known = behind_known old new n0 ne na n1 h sc while_outer k arms.known;
      }

-- ---- `do`

-- the first table is the one behind the body, the second the one behind the condition
module _ (old mid new : List ClType) (p : Setting) (n0 ne : Env) (v0 : List Variable) (s : Stmt) (e : Expr) (all : Vec Stmt) (is : (out-Stmt s).node ≡ node.Do all e) (enters : ne ≡ entered n0) where
  pub do_body_out : (x : Stop) → ArmsStop mid (in_loop p) (state ne v0) all.items x → StmtStops mid p (state n0 v0) s x
  do_body_out NoMemory h = tt
  do_body_out (Out o) h = λ more m. in_do_body p (state n0 v0) s (out-Stmt s).place e all o (is_stmt s (node.Do all e) is) (subst (λ z. ArmsOffend more (in_loop p) (state z v0) all.items o) enters (h more m))

  module _ (na : Env) (v1 : List Variable) (ts : Vec TStmt) (arms : ArmsAreTyped mid (in_loop p) (state ne v0) all.items (state na v1) ts.items) (g : IsGrown mid new) where
    do_arms : (more : List ClType) → IsGrown new more → ArmsAre more (in_loop p) (state (entered n0) v0) all.items (state na v1) ts.items
    do_arms more m = subst (λ z. ArmsAre more (in_loop p) (state z v0) all.items (state na v1) ts.items) enters (arms.arms more (grown_twice mid new more g m))

    pub do_test_out : (x : Stop) → StopsIn new na false e x → StmtStops new p (state n0 v0) s x
    do_test_out NoMemory h = tt
    do_test_out (Out o) h = λ more m. in_do p (state n0 v0) (state na v1) s (out-Stmt s).place e all ts.items o (is_stmt s (node.Do all e) is) (do_arms more m) (h more m)

    module _ (nx n1 : Env) (r : Typed) (typed : IsTypedAs new na false e nx r) where
      pub do_broken : (x : Stop) → ConditionStops r (out-Stmt s).place x → StmtStops new p (state n0 v0) s x
      do_broken NoMemory h = tt
      do_broken (Out o) h = λ more m. subst (StmtOffends more p (state n0 v0) s) (sym h.is)
          (no_do p (state n0 v0) (state na v1) s (out-Stmt s).place e all ts.items nx r.tree r.operand (is_stmt s (node.Do all e) is) (do_arms more m) (typed.types more m) h.holds)

      do_outer : nx.outer ≡ ne.outer
      do_outer =
          types_outer new na false e nx r.tree r.operand (from_now new (λ more. Types more na false e nx r.tree r.operand) typed.types)
          ∙ arms_are_outer mid (in_loop p) (state ne v0) all.items (state na v1) ts.items (from_now mid (λ more. ArmsAre more (in_loop p) (state ne v0) all.items (state na v1) ts.items) arms.arms)

      pub do_typed : (u : TExpr) (t : TStmt) → IsGrown old new → Scoped n0 ne nx n1 → IsKnownEnv old n0 → ConditionIs r u → IsTStmt t (out-Stmt s).place (tnode.Do ts u) → StmtIsTyped new p (state n0 v0) s (state n1 v1) t
      do_typed u t h sc k c tree = record {
        is = λ more m. subst (λ z. StmtIs more p (state n0 v0) s (state z v1) t) (sym (sc.leaves do_outer))
            (do_loop p (state n0 v0) (state na v1) s (out-Stmt s).place e all nx r.tree r.operand ts t (is_stmt s (node.Do all e) is) (do_arms more m) (typed.types more m) c.fits
            (subst (λ z. IsTStmt t (out-Stmt s).place (tnode.Do ts z)) c.is tree));
        known = behind_known old new n0 ne nx n1 h sc do_outer k typed.known;
      }
