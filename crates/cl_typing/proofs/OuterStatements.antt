-- Statements leave the blocks round theirs as they are.
use Rattle.std.proofs.Common.{◌≡◌, Bool, List, Option, refl, ◌∙◌}
use Rattle.clv_place.specs.declared.place.Place.{Place}
use Rattle.cl_types.specs.declared.types.ClType.{ClType}
use Rattle.cl_ast.specs.declared.declaration.InitDeclor.{InitDeclor}
use Rattle.cl_ast.specs.declared.expression.Expr.{Expr}
use Rattle.cl_ast.specs.declared.statement.Group.{Group}
use Rattle.cl_ast.specs.declared.statement.Label.{Label}
use Rattle.cl_ast.specs.declared.statement.Stmt.{Stmt}
use Rattle.cl_tree.specs.declared.expression.TExpr.{TExpr}
use Rattle.cl_tree.specs.declared.statement.Section.{Section}
use Rattle.cl_tree.specs.declared.statement.TStmt.{TStmt}
use Rattle.cl_rules.specs.declared.rule.Operand.{Operand}
use Rattle.cl_rules.specs.declared.rule.Qualified.{Qualified}
use Rattle.cl_scope.specs.Names.{Env}
use Rattle.cl_typing.specs.declared.label.Tested.{Tested}
use Rattle.cl_typing.specs.declared.setting.Setting.{Setting}
use Rattle.cl_typing.specs.Settings.{State}
use Rattle.cl_typing.specs.Statements.{MayBeTyped, IsForCondition, LabelsAre, AreVariables, ItemsAre, StmtIs, ArmsAre, SectionsAre, condition_given, condition_missing, left_out, written, case_label, default_label, no_label, more_variables, no_variable, block, break, choice, continue, declaration_arm, declaration_item, do_loop, empty, expression, for_loop, more_arms, more_sections, no_arm, no_item, no_section, return, return_value, statement_item, switch, while_loop}
use Rattle.cl_typing.proofs.Outer.{types_outer, is_specified_outer, is_variable_outer}

pub may_be_typed_outer : (cs : List ClType) (i0 : Env) (i1 : Option Expr) (i2 : Env) (i3 : Option TExpr) (i4 : Option Operand) → MayBeTyped cs i0 i1 i2 i3 i4 → i2.outer ≡ i0.outer
may_be_typed_outer cs _ _ _ _ _ (left_out p0) = refl
may_be_typed_outer cs _ _ _ _ _ (written p0 p1 p2 p3 p4 h0) = types_outer cs _ _ _ _ _ _ h0

pub is_for_condition_outer : (cs : List ClType) (place : Place) (i0 : Env) (i1 : Option Expr) (i2 : Env) (i3 : TExpr) (i4 : Operand) → IsForCondition cs place i0 i1 i2 i3 i4 → i2.outer ≡ i0.outer
is_for_condition_outer cs place _ _ _ _ _ (condition_missing p0 p1 p2 h0) = refl
is_for_condition_outer cs place _ _ _ _ _ (condition_given p0 p1 p2 p3 p4 h0) = types_outer cs _ _ _ _ _ _ h0

pub labels_are_outer : (cs : List ClType) (i0 : Bool) (i1 : Tested) (i2 : Env) (i3 : List Label) (i4 : Tested) (i5 : Env) (i6 : List (Option TExpr)) → LabelsAre cs i0 i1 i2 i3 i4 i5 i6 → i5.outer ≡ i2.outer
labels_are_outer cs _ _ _ _ _ _ _ (no_label p0 p1 p2) = refl
labels_are_outer cs _ _ _ _ _ _ _ (case_label p0 p1 p2 p3 p4 p5 p6 p7 p8 p9 p10 p11 p12 h0 h1 h2 h3 h4 h5) = labels_are_outer cs _ _ _ _ _ _ _ h5 ∙ types_outer cs _ _ _ _ _ _ h1
labels_are_outer cs _ _ _ _ _ _ _ (default_label p0 p1 p2 p3 p4 p5 p6 p7 h0 h1 h2) = labels_are_outer cs _ _ _ _ _ _ _ h2

pub are_variables_outer : (cs : List ClType) (p : Setting) (i0 : State) (i1 : Qualified) (i2 : List InitDeclor) (i3 : State) (i4 : List TStmt) → AreVariables cs p i0 i1 i2 i3 i4 → i3.env.outer ≡ i0.env.outer
are_variables_outer cs p _ _ _ _ _ (no_variable p0 p1) = refl
are_variables_outer cs p _ _ _ _ _ (more_variables p0 p1 p2 p3 p4 p5 p6 p7 p8 p9 p10 p11 p12 h0 h1 h2) = are_variables_outer cs p _ _ _ _ _ h2 ∙ is_variable_outer cs _ _ _ _ _ _ _ _ _ _ _ _ h0

mutual
  pub items_are_outer : (cs : List ClType) (i0 : Setting) (i1 : State) (i2 : List Stmt) (i3 : State) (i4 : List TStmt) → ItemsAre cs i0 i1 i2 i3 i4 → i3.env.outer ≡ i1.env.outer
  items_are_outer cs _ _ _ _ _ (no_item p0 p1) = refl
  items_are_outer cs _ _ _ _ _ (declaration_item p0 p1 p2 p3 p4 p5 p6 p7 p8 p9 p10 p11 p12 p13 h0 h1 h2 h3) = items_are_outer cs _ _ _ _ _ h3 ∙ are_variables_outer cs p0 _ _ _ _ _ h2 ∙ is_specified_outer cs _ _ _ _ h1
  items_are_outer cs _ _ _ _ _ (statement_item p0 p1 p2 p3 p4 p5 p6 p7 h0 h1) = items_are_outer cs _ _ _ _ _ h1 ∙ stmt_is_outer cs _ _ _ _ _ h0

  pub stmt_is_outer : (cs : List ClType) (i0 : Setting) (i1 : State) (i2 : Stmt) (i3 : State) (i4 : TStmt) → StmtIs cs i0 i1 i2 i3 i4 → i3.env.outer ≡ i1.env.outer
  stmt_is_outer cs _ _ _ _ _ (block p0 p1 p2 p3 p4 p5 p6 p7 h0 h1 h2) = refl
  stmt_is_outer cs _ _ _ _ _ (expression p0 p1 p2 p3 p4 p5 p6 p7 p8 h0 h1 h2) = types_outer cs _ _ _ _ _ _ h1
  stmt_is_outer cs _ _ _ _ _ (choice p0 p1 p2 p3 p4 p5 p6 p7 p8 p9 p10 p11 h0 h1 h2 h3 h4) = refl
  stmt_is_outer cs _ _ _ _ _ (while_loop p0 p1 p2 p3 p4 p5 p6 p7 p8 p9 p10 p11 h0 h1 h2 h3 h4) = refl
  stmt_is_outer cs _ _ _ _ _ (do_loop p0 p1 p2 p3 p4 p5 p6 p7 p8 p9 p10 p11 h0 h1 h2 h3 h4) = refl
  stmt_is_outer cs _ _ _ _ _ (for_loop p0 p1 p2 p3 p4 p5 p6 p7 p8 p9 p10 p11 p12 p13 p14 p15 p16 p17 p18 p19 p20 p21 p22 h0 h1 h2 h3 h4 h5 h6 h7) = refl
  stmt_is_outer cs _ _ _ _ _ (switch p0 p1 p2 p3 p4 p5 p6 p7 p8 p9 p10 p11 p12 h0 h1 h2 h3 h4 h5) = refl
  stmt_is_outer cs _ _ _ _ _ (break p0 p1 p2 p3 p4 h0 h1 h2) = refl
  stmt_is_outer cs _ _ _ _ _ (continue p0 p1 p2 p3 p4 h0 h1 h2) = refl
  stmt_is_outer cs _ _ _ _ _ (return p0 p1 p2 p3 p4 h0 h1 h2) = refl
  stmt_is_outer cs _ _ _ _ _ (return_value p0 p1 p2 p3 p4 p5 p6 p7 p8 p9 h0 h1 h2 h3 h4) = types_outer cs _ _ _ _ _ _ h1
  stmt_is_outer cs _ _ _ _ _ (empty p0 p1 p2 p3 p4 h0 h1) = refl

  pub arms_are_outer : (cs : List ClType) (i0 : Setting) (i1 : State) (i2 : List Stmt) (i3 : State) (i4 : List TStmt) → ArmsAre cs i0 i1 i2 i3 i4 → i3.env.outer ≡ i1.env.outer
  arms_are_outer cs _ _ _ _ _ (no_arm p0 p1) = refl
  arms_are_outer cs _ _ _ _ _ (more_arms p0 p1 p2 p3 p4 p5 p6 p7 h0 h1) = arms_are_outer cs _ _ _ _ _ h1
  arms_are_outer cs _ _ _ _ _ (declaration_arm p0 p1 p2 p3 p4 p5 p6 p7 p8 p9 p10 p11 h0 h1 h2 h3) = arms_are_outer cs _ _ _ _ _ h3

  pub sections_are_outer : (cs : List ClType) (i0 : Setting) (i1 : Tested) (i2 : State) (i3 : List Group) (i4 : State) (i5 : List Section) → SectionsAre cs i0 i1 i2 i3 i4 i5 → i4.env.outer ≡ i2.env.outer
  sections_are_outer cs _ _ _ _ _ _ (no_section p0 p1 p2) = refl
  sections_are_outer cs _ _ _ _ _ _ (more_sections p0 p1 p2 p3 p4 p5 p6 p7 p8 p9 p10 p11 p12 p13 p14 h0 h1 h2 h3 h4) = sections_are_outer cs _ _ _ _ _ _ h4 ∙ items_are_outer cs _ _ _ _ _ h2 ∙ labels_are_outer cs _ _ _ _ _ _ _ h1
