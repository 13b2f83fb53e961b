-- A typed statement ends its list exactly where its text does.
use Rattle.std.proofs.Common.{◌≡◌, ℕ, Bool, true, false, ◌||◌, List, [], ◌∷◌, ◌++◌, map, Option, Some, None, refl, sym, ap, ◌∙◌}
use Rattle.std.specs.Global.{Vec}
use Rattle.std.proofs.lemmas.Bool.{or_parts}
use Rattle.cl_types.specs.declared.types.ClType.{ClType}
use Rattle.cl_ast.specs.declared.declaration.InitDeclor.{InitDeclor}
use Rattle.cl_ast.specs.declared.expression.Expr.{Expr}
use Rattle.cl_ast.specs.declared.expression.Spec.{Spec}
use Rattle.cl_ast.specs.declared.statement.Group.{Group}
use Rattle.cl_ast.specs.declared.statement.Stmt.{Stmt}
use Rattle.cl_ast.specs.declared.statement.StmtNode.TheVariants as node
use Rattle.cl_ast.specs.declared.statement.StmtNode.TheVariants.{rolls-Decl, rolls-Expr, rolls-While, rolls-Do, rolls-For, rolls-Switch, rolls-Break, rolls-Continue, rolls-Return, rolls-Empty}
use Rattle.cl_ast.specs.declared.statement.StmtNode.TheOpen as layer
use Rattle.cl_ast.specs.declared.statement.StmtNode.TheFolds.{fold-roll-StmtNode}
use Rattle.cl_tree.specs.declared.expression.TExpr.{TExpr}
use Rattle.cl_tree.specs.declared.statement.TStmt.{TStmt}
use Rattle.cl_tree.specs.declared.statement.TStmtNode.{TStmtNode}
use Rattle.cl_tree.specs.declared.statement.Section.{Section}
use Rattle.cl_tree.specs.declared.statement.TStmtNode.TheVariants as tnode
use Rattle.cl_tree.specs.declared.statement.TStmtNode.TheVariants.{rolls-Block as rolls_block, rolls-Decl as rolls_decl, rolls-Expr as rolls_expr, rolls-If as rolls_if, rolls-While as rolls_while, rolls-Do as rolls_do, rolls-For as rolls_for, rolls-Switch as rolls_switch, rolls-Break as rolls_break, rolls-Continue as rolls_continue, rolls-Return as rolls_return, rolls-Empty as rolls_empty}
use Rattle.cl_tree.specs.declared.statement.TStmtNode.TheOpen as tlayer
use Rattle.cl_tree.specs.declared.statement.TStmtNode.TheViews.{out-TStmt}
use Rattle.cl_tree.specs.declared.statement.TStmtNode.TheFolds.{fold-TStmtNode, fold-roll-TStmtNode, fold_out-TStmt}
use Rattle.cl_tree.specs.Statements.{Tested, SectionTested, some_ends, two_end, node_step, section_step, stmt_step, tested}
use Rattle.cl_rules.specs.declared.rule.Qualified.{Qualified}
use Rattle.cl_typing.specs.declared.setting.Setting.{Setting}
use Rattle.cl_typing.specs.Settings.{State}
use Rattle.cl_typing.specs.Statements.{node_ends, group_ends, stmt_ends, ends, list_ends, AreVariables, no_variable, more_variables, ItemsAre, no_item, declaration_item, statement_item, StmtIs, block, expression, choice, while_loop, do_loop, for_loop, switch, break, continue, return, return_value, empty, ArmsAre, no_arm, more_arms, declaration_arm}
use Rattle.cl_typing.specs.Statements as text
use Rattle.cl_typing.proofs.Endings.{node_end, ends_at, block_ends, if_end}

-- ---- a typed node

abbrev node_tested : TStmtNode → Tested
node_tested = fold-TStmtNode Tested SectionTested Tested node_step section_step stmt_step

abbrev tree_ends : TStmt → Bool
tree_ends t = (tested t).ends

tested_at : (t : TStmt) (n : TStmtNode) → (out-TStmt t).node ≡ n → tested t ≡ node_tested n
tested_at t n is = fold_out-TStmt Tested SectionTested Tested node_step section_step stmt_step t ∙ ap node_tested is

block_tested : (ts : Vec TStmt) → (node_tested (tnode.Block ts)).ends ≡ some_ends (map tested ts.items)
block_tested ts = ap (λ x. x.ends) (ap node_tested (sym (rolls_block ts)) ∙ fold-roll-TStmtNode Tested SectionTested Tested node_step section_step stmt_step (tlayer.Block ts))

decl_tested : (k : ℕ) (i : Option TExpr) → (node_tested (tnode.Decl k i)).ends ≡ false
decl_tested k i = ap (λ x. x.ends) (ap node_tested (sym (rolls_decl k i)) ∙ fold-roll-TStmtNode Tested SectionTested Tested node_step section_step stmt_step (tlayer.Decl k i))

expr_tested : (e : TExpr) → (node_tested (tnode.Expr e)).ends ≡ false
expr_tested e = ap (λ x. x.ends) (ap node_tested (sym (rolls_expr e)) ∙ fold-roll-TStmtNode Tested SectionTested Tested node_step section_step stmt_step (tlayer.Expr e))

if_tested : (e : TExpr) (ts : Vec TStmt) → (node_tested (tnode.If e ts)).ends ≡ two_end (map tested ts.items)
if_tested e ts = ap (λ x. x.ends) (ap node_tested (sym (rolls_if e ts)) ∙ fold-roll-TStmtNode Tested SectionTested Tested node_step section_step stmt_step (tlayer.If e ts))

while_tested : (e : TExpr) (ts : Vec TStmt) → (node_tested (tnode.While e ts)).ends ≡ false
while_tested e ts = ap (λ x. x.ends) (ap node_tested (sym (rolls_while e ts)) ∙ fold-roll-TStmtNode Tested SectionTested Tested node_step section_step stmt_step (tlayer.While e ts))

do_tested : (ts : Vec TStmt) (e : TExpr) → (node_tested (tnode.Do ts e)).ends ≡ false
do_tested ts e = ap (λ x. x.ends) (ap node_tested (sym (rolls_do ts e)) ∙ fold-roll-TStmtNode Tested SectionTested Tested node_step section_step stmt_step (tlayer.Do ts e))

for_tested : (ds : Vec TStmt) (a : Option TExpr) (e : TExpr) (b : Option TExpr) (ts : Vec TStmt) → (node_tested (tnode.For ds a e b ts)).ends ≡ false
for_tested ds a e b ts = ap (λ x. x.ends) (ap node_tested (sym (rolls_for ds a e b ts)) ∙ fold-roll-TStmtNode Tested SectionTested Tested node_step section_step stmt_step (tlayer.For ds a e b ts))

switch_tested : (e : TExpr) (ss : Vec Section) → (node_tested (tnode.Switch e ss)).ends ≡ false
switch_tested e ss = ap (λ x. x.ends) (ap node_tested (sym (rolls_switch e ss)) ∙ fold-roll-TStmtNode Tested SectionTested Tested node_step section_step stmt_step (tlayer.Switch e ss))

break_tested : (node_tested tnode.Break).ends ≡ true
break_tested = ap (λ x. x.ends) (ap node_tested (sym rolls_break) ∙ fold-roll-TStmtNode Tested SectionTested Tested node_step section_step stmt_step tlayer.Break)

continue_tested : (node_tested tnode.Continue).ends ≡ true
continue_tested = ap (λ x. x.ends) (ap node_tested (sym rolls_continue) ∙ fold-roll-TStmtNode Tested SectionTested Tested node_step section_step stmt_step tlayer.Continue)

return_tested : (e : Option TExpr) → (node_tested (tnode.Return e)).ends ≡ true
return_tested e = ap (λ x. x.ends) (ap node_tested (sym (rolls_return e)) ∙ fold-roll-TStmtNode Tested SectionTested Tested node_step section_step stmt_step (tlayer.Return e))

empty_tested : (node_tested tnode.Empty).ends ≡ false
empty_tested = ap (λ x. x.ends) (ap node_tested (sym rolls_empty) ∙ fold-roll-TStmtNode Tested SectionTested Tested node_step section_step stmt_step tlayer.Empty)

-- ---- a node of the text that is no block and no `if`

decl_end : (spec : Spec) (items : Vec InitDeclor) → node_end (node.Decl spec items) ≡ false
decl_end spec items = ap node_end (sym (rolls-Decl spec items)) ∙ fold-roll-StmtNode Bool Bool Bool node_ends group_ends stmt_ends (layer.Decl spec items)

expr_end : (e : Expr) → node_end (node.Expr e) ≡ false
expr_end e = ap node_end (sym (rolls-Expr e)) ∙ fold-roll-StmtNode Bool Bool Bool node_ends group_ends stmt_ends (layer.Expr e)

while_end : (e : Expr) (ss : Vec Stmt) → node_end (node.While e ss) ≡ false
while_end e ss = ap node_end (sym (rolls-While e ss)) ∙ fold-roll-StmtNode Bool Bool Bool node_ends group_ends stmt_ends (layer.While e ss)

do_end : (ss : Vec Stmt) (e : Expr) → node_end (node.Do ss e) ≡ false
do_end ss e = ap node_end (sym (rolls-Do ss e)) ∙ fold-roll-StmtNode Bool Bool Bool node_ends group_ends stmt_ends (layer.Do ss e)

for_end : (ds : Vec Stmt) (a b c : Option Expr) (ss : Vec Stmt) → node_end (node.For ds a b c ss) ≡ false
for_end ds a b c ss = ap node_end (sym (rolls-For ds a b c ss)) ∙ fold-roll-StmtNode Bool Bool Bool node_ends group_ends stmt_ends (layer.For ds a b c ss)

switch_end : (e : Expr) (gs : Vec Group) → node_end (node.Switch e gs) ≡ false
switch_end e gs = ap node_end (sym (rolls-Switch e gs)) ∙ fold-roll-StmtNode Bool Bool Bool node_ends group_ends stmt_ends (layer.Switch e gs)

break_end : node_end node.Break ≡ true
break_end = ap node_end (sym rolls-Break) ∙ fold-roll-StmtNode Bool Bool Bool node_ends group_ends stmt_ends layer.Break

continue_end : node_end node.Continue ≡ true
continue_end = ap node_end (sym rolls-Continue) ∙ fold-roll-StmtNode Bool Bool Bool node_ends group_ends stmt_ends layer.Continue

return_end : (e : Option Expr) → node_end (node.Return e) ≡ true
return_end e = ap node_end (sym (rolls-Return e)) ∙ fold-roll-StmtNode Bool Bool Bool node_ends group_ends stmt_ends (layer.Return e)

empty_end : node_end node.Empty ≡ false
empty_end = ap node_end (sym rolls-Empty) ∙ fold-roll-StmtNode Bool Bool Bool node_ends group_ends stmt_ends layer.Empty

-- ---- statements

or_false : (b : Bool) → b ≡ (b || false)
or_false true = refl
or_false false = refl

ends_append : (ts us : List TStmt) → some_ends (map tested ts) ≡ false → some_ends (map tested (ts ++ us)) ≡ some_ends (map tested us)
ends_append [] us h = refl
ends_append (t ∷ ts) us h =
    let k = or_parts (tree_ends t) (some_ends (map tested ts)) h in
    ap (λ x. x || some_ends (map tested (ts ++ us))) k.0 ∙ ends_append ts us k.1

variables_never_end : (cs : List ClType) (p : Setting) (st : State) (q : Qualified) (ds : List InitDeclor) (after : State) (ts : List TStmt) → AreVariables cs p st q ds after ts → some_ends (map tested ts) ≡ false
variables_never_end cs p _ _ _ _ _ (no_variable st q) = refl
variables_never_end cs p _ _ _ _ _ (more_variables st after q d ds env name place ty own t s ss h0 h1 h2) =
    ap (λ x. x || some_ends (map tested ss)) (ap (λ x. x.ends) (tested_at s _ h1.is) ∙ decl_tested _ t) ∙ variables_never_end cs p _ _ _ _ _ h2

two_of : (ts : List TStmt) → two_end (map tested ts) ≡ text.two_end (map tree_ends ts)
two_of [] = refl
two_of (t ∷ []) = refl
two_of (t ∷ u ∷ []) = refl
two_of (t ∷ u ∷ v ∷ ts) = refl

mutual
  pub items_end : (cs : List ClType) (p : Setting) (st : State) (ss : List Stmt) (after : State) (ts : List TStmt) → ItemsAre cs p st ss after ts → some_ends (map tested ts) ≡ list_ends ss
  items_end cs _ _ _ _ _ (no_item p st) = refl
  items_end cs _ _ _ _ _ (declaration_item p st typed middle after s ss place spec items env q ts us h0 h1 h2 h3) =
      ends_append ts us (variables_never_end cs p _ _ _ _ _ h2) ∙ items_end cs p _ _ _ _ h3 ∙ ap (λ b. b || list_ends ss) (sym (ends_at s ∙ ap node_end h0.is ∙ decl_end spec items))
  items_end cs _ _ _ _ _ (statement_item p st middle after s ss t ts h0 h1) = (λ i. stmt_end cs p _ _ _ _ h0 i || items_end cs p _ _ _ _ h1 i)

  pub stmt_end : (cs : List ClType) (p : Setting) (st : State) (s : Stmt) (after : State) (t : TStmt) → StmtIs cs p st s after t → tree_ends t ≡ ends s
  stmt_end cs _ _ _ _ _ (block p st after s place items ts t h0 h1 h2) = ap (λ x. x.ends) (tested_at t _ h2.is) ∙ block_tested ts ∙ items_end cs _ _ _ _ _ h1 ∙ block_ends s items h0.is
  stmt_end cs _ _ _ _ _ (expression p st s place e env u o t h0 h1 h2) = ap (λ x. x.ends) (tested_at t _ h2.is) ∙ expr_tested u ∙ sym (ends_at s ∙ ap node_end h0.is ∙ expr_end e)
  stmt_end cs _ _ _ _ _ (choice p st after s place e arms env u o ts t h0 h1 h2 h3 h4) =
      ap (λ x. x.ends) (tested_at t _ h4.is) ∙ if_tested u ts ∙ two_of ts.items ∙ ap text.two_end (arms_are_ends cs _ _ _ _ _ h2) ∙ sym (ends_at s ∙ ap node_end h0.is ∙ if_end e arms)
  stmt_end cs _ _ _ _ _ (while_loop p st after s place e body env u o ts t h0 h1 h2 h3 h4) = ap (λ x. x.ends) (tested_at t _ h4.is) ∙ while_tested u ts ∙ sym (ends_at s ∙ ap node_end h0.is ∙ while_end e body)
  stmt_end cs _ _ _ _ _ (do_loop p st middle s place e body env u o ts t h0 h1 h2 h3 h4) = ap (λ x. x.ends) (tested_at t _ h4.is) ∙ do_tested ts u ∙ sym (ends_at s ∙ ap node_end h0.is ∙ do_end body e)
  stmt_end cs _ _ _ _ _ (for_loop p st declared after s place decl body first cond next a b c t1 o1 u o t3 o3 ds ts t h0 h1 h2 h3 h4 h5 h6 h7) =
      ap (λ x. x.ends) (tested_at t _ h7.is) ∙ for_tested ds t1 u t3 ts ∙ sym (ends_at s ∙ ap node_end h0.is ∙ for_end decl first cond next body)
  stmt_end cs _ _ _ _ _ (switch p st after s place e groups env u v o sections t h0 h1 h2 h3 h4 h5) = ap (λ x. x.ends) (tested_at t _ h5.is) ∙ switch_tested v sections ∙ sym (ends_at s ∙ ap node_end h0.is ∙ switch_end e groups)
  stmt_end cs _ _ _ _ _ (break p st s place t h0 h1 h2) = ap (λ x. x.ends) (tested_at t _ h2.is) ∙ break_tested ∙ sym (ends_at s ∙ ap node_end h0.is ∙ break_end)
  stmt_end cs _ _ _ _ _ (continue p st s place t h0 h1 h2) = ap (λ x. x.ends) (tested_at t _ h2.is) ∙ continue_tested ∙ sym (ends_at s ∙ ap node_end h0.is ∙ continue_end)
  stmt_end cs _ _ _ _ _ (return p st s place t h0 h1 h2) = ap (λ x. x.ends) (tested_at t _ h2.is) ∙ return_tested None ∙ sym (ends_at s ∙ ap node_end h0.is ∙ return_end None)
  stmt_end cs _ _ _ _ _ (return_value p st s place e env u v o t h0 h1 h2 h3 h4) = ap (λ x. x.ends) (tested_at t _ h4.is) ∙ return_tested (Some v) ∙ sym (ends_at s ∙ ap node_end h0.is ∙ return_end (Some e))
  stmt_end cs _ _ _ _ _ (empty p st s place t h0 h1) = ap (λ x. x.ends) (tested_at t _ h1.is) ∙ empty_tested ∙ sym (ends_at s ∙ ap node_end h0.is ∙ empty_end)

  arms_are_ends : (cs : List ClType) (p : Setting) (st : State) (ss : List Stmt) (after : State) (ts : List TStmt) → ArmsAre cs p st ss after ts → map tree_ends ts ≡ map ends ss
  arms_are_ends cs _ _ _ _ _ (no_arm p st) = refl
  arms_are_ends cs _ _ _ _ _ (more_arms p st middle after s ss t ts h0 h1) = (λ i. stmt_end cs _ _ _ _ _ h0 i ∷ arms_are_ends cs _ _ _ _ _ h1 i)
  arms_are_ends cs _ _ _ _ _ (declaration_arm p st middle after s ss place spec items us t ts h0 h1 h2 h3) =
      (λ i. (ap (λ x. x.ends) (tested_at t _ h2.is) ∙ block_tested us ∙ items_end cs _ _ _ _ _ h1 ∙ sym (or_false (ends s))) i ∷ arms_are_ends cs _ _ _ _ _ h3 i)
