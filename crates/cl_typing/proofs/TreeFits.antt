-- Whether a typed statement stands as it may, node by node.
use Rattle.std.proofs.Common.{◌≡◌, ℕ, true, ◌&&◌, map, Option, sym, ap, ◌∙◌, slice_get}
use Rattle.std.specs.Global.{Vec}
use Rattle.cl_tree.specs.declared.expression.TExpr.{TExpr}
use Rattle.cl_tree.specs.declared.statement.TStmt.{TStmt}
use Rattle.cl_tree.specs.declared.statement.TStmtNode.{TStmtNode}
use Rattle.cl_tree.specs.declared.statement.Section.{Section}
use Rattle.cl_tree.specs.declared.statement.TStmtNode.TheVariants as tnode
use Rattle.cl_tree.specs.declared.statement.TStmtNode.TheVariants.{rolls-Block, rolls-Decl, rolls-Expr, rolls-If, rolls-While, rolls-Do, rolls-For, rolls-Switch, rolls-Break, rolls-Continue, rolls-Return, rolls-Empty}
use Rattle.cl_tree.specs.declared.statement.TStmtNode.TheOpen as layer
use Rattle.cl_tree.specs.declared.statement.TStmtNode.TheViews.{out-TStmt, out-Section}
use Rattle.cl_tree.specs.declared.statement.TStmtNode.TheFolds.{fold-TStmtNode, fold-Section, fold-roll-TStmtNode, fold_out-TStmt, fold_out-Section}
use Rattle.cl_tree.specs.Statements.{Frame, Tested, SectionTested, in_loop, all_fit, some_ends, is_typed, may_be_typed, is_condition, returns, declares, type_of, switches_at, node_step, section_step, stmt_step, tested}

abbrev tested_node : TStmtNode → Tested
tested_node = fold-TStmtNode Tested SectionTested Tested node_step section_step stmt_step

abbrev pub tested_section : Section → SectionTested
tested_section = fold-Section Tested SectionTested Tested node_step section_step stmt_step

pub section_is : (s : Section) → tested_section s ≡ record { labels = (out-Section s).labels.items; ends = some_ends (map tested (out-Section s).body.items); fits = λ f. all_fit f (map tested (out-Section s).body.items) }
section_is s = fold_out-Section Tested SectionTested Tested node_step section_step stmt_step s

module _ (t : TStmt) (f : Frame) where
  at_node : (n : TStmtNode) → (out-TStmt t).node ≡ n → (tested t).fits f ≡ (tested_node n).fits f
  at_node n is = ap (λ x. x.fits f) (fold_out-TStmt Tested SectionTested Tested node_step section_step stmt_step t ∙ ap tested_node is)

  pub block_fits : (ts : Vec TStmt) → (out-TStmt t).node ≡ tnode.Block ts → (tested t).fits f ≡ all_fit f (map tested ts.items)
  block_fits ts is = at_node (tnode.Block ts) is ∙ ap (λ x. x.fits f) (ap tested_node (sym (rolls-Block ts)) ∙ fold-roll-TStmtNode Tested SectionTested Tested node_step section_step stmt_step (layer.Block ts))

  pub decl_fits : (k : ℕ) (i : Option TExpr) → (out-TStmt t).node ≡ tnode.Decl k i → (tested t).fits f ≡ declares f.lists (slice_get f.lists.vars k) i
  decl_fits k i is = at_node (tnode.Decl k i) is ∙ ap (λ x. x.fits f) (ap tested_node (sym (rolls-Decl k i)) ∙ fold-roll-TStmtNode Tested SectionTested Tested node_step section_step stmt_step (layer.Decl k i))

  pub expr_fits : (e : TExpr) → (out-TStmt t).node ≡ tnode.Expr e → (tested t).fits f ≡ is_typed f.lists e
  expr_fits e is = at_node (tnode.Expr e) is ∙ ap (λ x. x.fits f) (ap tested_node (sym (rolls-Expr e)) ∙ fold-roll-TStmtNode Tested SectionTested Tested node_step section_step stmt_step (layer.Expr e))

  pub if_fits : (e : TExpr) (ts : Vec TStmt) → (out-TStmt t).node ≡ tnode.If e ts → (tested t).fits f ≡ (is_condition f.lists e && all_fit f (map tested ts.items))
  if_fits e ts is = at_node (tnode.If e ts) is ∙ ap (λ x. x.fits f) (ap tested_node (sym (rolls-If e ts)) ∙ fold-roll-TStmtNode Tested SectionTested Tested node_step section_step stmt_step (layer.If e ts))

  pub while_fits : (e : TExpr) (ts : Vec TStmt) → (out-TStmt t).node ≡ tnode.While e ts → (tested t).fits f ≡ (is_condition f.lists e && all_fit (in_loop f) (map tested ts.items))
  while_fits e ts is = at_node (tnode.While e ts) is ∙ ap (λ x. x.fits f) (ap tested_node (sym (rolls-While e ts)) ∙ fold-roll-TStmtNode Tested SectionTested Tested node_step section_step stmt_step (layer.While e ts))

  pub do_fits : (ts : Vec TStmt) (e : TExpr) → (out-TStmt t).node ≡ tnode.Do ts e → (tested t).fits f ≡ (is_condition f.lists e && all_fit (in_loop f) (map tested ts.items))
  do_fits ts e is = at_node (tnode.Do ts e) is ∙ ap (λ x. x.fits f) (ap tested_node (sym (rolls-Do ts e)) ∙ fold-roll-TStmtNode Tested SectionTested Tested node_step section_step stmt_step (layer.Do ts e))

  pub for_fits : (ds : Vec TStmt) (a : Option TExpr) (e : TExpr) (b : Option TExpr) (ts : Vec TStmt) → (out-TStmt t).node ≡ tnode.For ds a e b ts → (tested t).fits f ≡ (all_fit f (map tested ds.items) && may_be_typed f.lists a && is_condition f.lists e && may_be_typed f.lists b && all_fit (in_loop f) (map tested ts.items))
  for_fits ds a e b ts is = at_node (tnode.For ds a e b ts) is ∙ ap (λ x. x.fits f) (ap tested_node (sym (rolls-For ds a e b ts)) ∙ fold-roll-TStmtNode Tested SectionTested Tested node_step section_step stmt_step (layer.For ds a e b ts))

  pub switch_fits : (e : TExpr) (ss : Vec Section) → (out-TStmt t).node ≡ tnode.Switch e ss → (tested t).fits f ≡ switches_at f (type_of f.lists e) (map tested_section ss.items)
  switch_fits e ss is = at_node (tnode.Switch e ss) is ∙ ap (λ x. x.fits f) (ap tested_node (sym (rolls-Switch e ss)) ∙ fold-roll-TStmtNode Tested SectionTested Tested node_step section_step stmt_step (layer.Switch e ss))

  pub break_fits : (out-TStmt t).node ≡ tnode.Break → (tested t).fits f ≡ f.breaks
  break_fits is = at_node tnode.Break is ∙ ap (λ x. x.fits f) (ap tested_node (sym rolls-Break) ∙ fold-roll-TStmtNode Tested SectionTested Tested node_step section_step stmt_step layer.Break)

  pub continue_fits : (out-TStmt t).node ≡ tnode.Continue → (tested t).fits f ≡ f.continues
  continue_fits is = at_node tnode.Continue is ∙ ap (λ x. x.fits f) (ap tested_node (sym rolls-Continue) ∙ fold-roll-TStmtNode Tested SectionTested Tested node_step section_step stmt_step layer.Continue)

  pub return_fits : (e : Option TExpr) → (out-TStmt t).node ≡ tnode.Return e → (tested t).fits f ≡ returns f e
  return_fits e is = at_node (tnode.Return e) is ∙ ap (λ x. x.fits f) (ap tested_node (sym (rolls-Return e)) ∙ fold-roll-TStmtNode Tested SectionTested Tested node_step section_step stmt_step (layer.Return e))

  pub empty_fits : (out-TStmt t).node ≡ tnode.Empty → (tested t).fits f ≡ true
  empty_fits is = at_node tnode.Empty is ∙ ap (λ x. x.fits f) (ap tested_node (sym rolls-Empty) ∙ fold-roll-TStmtNode Tested SectionTested Tested node_step section_step stmt_step layer.Empty)
