-- A `for` placed.
use Rattle.std.proofs.Common.{◌≡◌, ℕ, Option, List, ap, ◌∙◌}
use Rattle.cl_types.specs.declared.types.ClType.{ClType}
use Rattle.cl_tree.specs.declared.statement.TStmt.{TStmt}
use Rattle.cl_tree.specs.declared.statement.TStmtNode.{TStmtNode}
use Rattle.cl_tree.specs.declared.statement.Section.{Section as TSection}
use Rattle.cl_tree.specs.declared.statement.TStmtNode.TheOpen.{TStmtNode-F}
use Rattle.cl_tree.specs.declared.statement.TStmtNode.TheViews.{roll-TStmtNode, out-TStmt}
use Rattle.cl_tree.specs.declared.statement.TStmtNode.TheFolds.{map-TStmtNode, fold-TStmtNode, fold-roll-TStmtNode, fold_out-TStmt}
use Rattle.cl_tree.specs.declared.unit.Variable.{Variable}
use Rattle.cl_meaning.specs.Code.{Expr, Stmt, Stmts, For, Placed, SectionAt, loop_body, node_over, section_over, stmt_over}
use Rattle.cl_meaning.specs.Views.{IsPair, placed, section_at}

abbrev node_placed : List ClType → List Variable → TStmtNode → Placed
node_placed cs vars = fold-TStmtNode Placed (ℕ → SectionAt) Placed (node_over cs vars) (section_over cs vars) (stmt_over cs vars)

-- a statement by its layer, the parts of which are placed
pub placed_by : (cs : List ClType) (vars : List Variable) (s : TStmt) (y : TStmtNode-F TStmtNode TSection TStmt) (n : ℕ) → (out-TStmt s).node ≡ roll-TStmtNode y → placed cs vars s n ≡ node_over cs vars (map-TStmtNode TStmtNode TSection TStmt Placed (ℕ → SectionAt) Placed (node_placed cs vars) (section_at cs vars) (placed cs vars) y) n
placed_by cs vars s y n is =
    ap (λ f. f n) (fold_out-TStmt Placed (ℕ → SectionAt) Placed (node_over cs vars) (section_over cs vars) (stmt_over cs vars) s)
    ∙ ap (λ z. node_placed cs vars z n) is
    ∙ ap (λ f. f n) (fold-roll-TStmtNode Placed (ℕ → SectionAt) Placed (node_over cs vars) (section_over cs vars) (stmt_over cs vars) y)

-- a `for` of parts that are placed one behind another
abbrev pub for_over : (ℕ → Stmts × ℕ) → (ℕ → Option Expr × ℕ) → (ℕ → Expr × ℕ) → (ℕ → Option Expr × ℕ) → (ℕ → Stmts × ℕ) → ℕ → Stmt × ℕ
for_over declarations_at first_at test_at next_at body_at n =
    let declarations = declarations_at n in
    let first = first_at declarations.1 in
    let test = test_at first.1 in
    let next = next_at test.1 in
    let body = body_at next.1 in
    (For declarations.0 first.0 test.0 next.0 (loop_body body.0), body.1)

pub for_placed : (declarations_at : ℕ → Stmts × ℕ) (first_at : ℕ → Option Expr × ℕ) (test_at : ℕ → Expr × ℕ) (next_at : ℕ → Option Expr × ℕ) (body_at : ℕ → Stmts × ℕ) (n n1 n2 n3 n4 m : ℕ) (declarations : Stmts) (first : Option Expr) (test : Expr) (next : Option Expr) (body looped : Stmts) → IsPair declarations n1 (declarations_at n) → IsPair first n2 (first_at n1) → IsPair test n3 (test_at n2) → IsPair next n4 (next_at n3) → IsPair body m (body_at n4) → looped ≡ loop_body body → IsPair (For declarations first test next looped) m (for_over declarations_at first_at test_at next_at body_at n)
for_placed declarations_at first_at test_at next_at body_at n n1 n2 n3 n4 m declarations first test next body looped d f t x b l =
    let second = f.1 ∙ ap (λ k. (first_at k).1) d.1 in
    let third = t.1 ∙ ap (λ k. (test_at k).1) second in
    let fourth = x.1 ∙ ap (λ k. (next_at k).1) third in
    let first_is = f.0 ∙ ap (λ k. (first_at k).0) d.1 in
    let test_is = t.0 ∙ ap (λ k. (test_at k).0) second in
    let next_is = x.0 ∙ ap (λ k. (next_at k).0) third in
    let body_is = l ∙ ap loop_body (b.0 ∙ ap (λ k. (body_at k).0) fourth) in
    (λ i. For (d.0 i) (first_is i) (test_is i) (next_is i) (body_is i), b.1 ∙ ap (λ k. (body_at k).1) fourth)
