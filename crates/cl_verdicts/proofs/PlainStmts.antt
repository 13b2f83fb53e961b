-- Statements that say the same are typed alike.
use Rattle.std.proofs.Common.{◌≡◌, Bool, List, [], Option, Some, None, refl, sym, ap, ◌∙◌, subst}
use Rattle.clv_place.specs.declared.place.Place.{Place}
use Rattle.cl_types.specs.declared.types.ClType.{ClType}
use Rattle.cl_ast.specs.declared.declaration.InitDeclor.{InitDeclor}
use Rattle.cl_ast.specs.declared.expression.Expr.{Expr}
use Rattle.cl_ast.specs.declared.statement.Group.{Group}
use Rattle.cl_ast.specs.declared.statement.Label.{Label}
use Rattle.cl_ast.specs.declared.statement.Stmt.{Stmt}
use Rattle.cl_ast.specs.declared.statement.StmtNode.TheVariants as node
use Rattle.cl_tree.specs.declared.expression.TExpr.{TExpr}
use Rattle.cl_tree.specs.declared.statement.TStmt.{TStmt}
use Rattle.cl_tree.specs.declared.statement.Section.{Section}
use Rattle.cl_rules.specs.declared.rule.Operand.{Operand}
use Rattle.cl_rules.specs.declared.rule.Qualified.{Qualified}
use Rattle.cl_scope.specs.Names.{Env}
use Rattle.cl_typing.specs.declared.label.Tested.{Tested}
use Rattle.cl_typing.specs.declared.setting.Setting.{Setting}
use Rattle.cl_typing.specs.Settings.{State}
use Rattle.cl_typing.specs.Statements.{behind_section, MayBeTyped, left_out, written, IsForCondition, condition_missing, condition_given, AreVariables, no_variable, more_variables, ItemsAre, no_item, declaration_item, statement_item, StmtIs, block, expression, choice, while_loop, do_loop, for_loop, switch, break, continue, return, return_value, empty, ArmsAre, no_arm, more_arms, declaration_arm, SectionsAre, no_section, more_sections, LabelsAre, no_label, case_label, default_label}
use Rattle.cl_plain.specs.Plain.{plain_expr, plain_declared, plain_label, plain_stmt, plain_group}
use Rattle.cl_verdicts.proofs.PlainAlike.{Alike, nothing, each, MayBeAlike, both_missing, both_given}
use Rattle.cl_verdicts.proofs.PlainExpressions.{types_plain, specified_plain}
use Rattle.cl_verdicts.proofs.PlainVariables.{variable_plain}
use Rattle.cl_verdicts.proofs.PlainStmtParts.{block_as, declaration_as, expression_as, choice_as, while_as, do_as, for_as, switch_as, break_as, continue_as, empty_as, return_as, group_as, label_same}
use Rattle.cl_verdicts.proofs.PlainStmtEnds.{list_ends_same, falls_same}

-- the value of a label
pub value_given : (v : Option Expr) (e : Expr) → MayBeAlike plain_expr v (Some e) → (f : Expr) × (v ≡ Some f) × (plain_expr f ≡ plain_expr e)
value_given _ _ (both_given f e p) = (f, refl, p)

pub value_missing : (v : Option Expr) → MayBeAlike plain_expr v None → v ≡ None
value_missing _ both_missing = refl

module _ (cs : List ClType) where
  pub may_be_typed_plain : (env : Env) (e : Option Expr) (after : Env) (t : Option TExpr) (o : Option Operand) → MayBeTyped cs env e after t o → (f : Option Expr) → MayBeAlike plain_expr f e → MayBeTyped cs env f after t o
  may_be_typed_plain _ _ _ _ _ (left_out env) _ both_missing = left_out env
  may_be_typed_plain _ _ _ _ _ (written env after e t o h0) _ (both_given f _ p) = written env after f t o (types_plain cs _ _ _ _ _ _ h0 f p)

  pub condition_plain : (place : Place) (env : Env) (e : Option Expr) (after : Env) (t : TExpr) (o : Operand) → IsForCondition cs place env e after t o → (f : Option Expr) → MayBeAlike plain_expr f e → IsForCondition cs place env f after t o
  condition_plain place _ _ _ _ _ (condition_missing env t o h0) _ both_missing = condition_missing env t o h0
  condition_plain place _ _ _ _ _ (condition_given env after e t o h0) _ (both_given f _ p) = condition_given env after f t o (types_plain cs _ _ _ _ _ _ h0 f p)

  pub variables_plain : (p : Setting) (st : State) (q : Qualified) (ds : List InitDeclor) (after : State) (ts : List TStmt) → AreVariables cs p st q ds after ts → (fs : List InitDeclor) → Alike plain_declared fs ds → AreVariables cs p st q fs after ts
  variables_plain p _ _ _ _ _ (no_variable st q) _ nothing = no_variable st q
  variables_plain p _ _ _ _ _ (more_variables st after q d ds env name place ty own t s ss h0 h1 h2) _ (each f _ fs _ a rest) =
      more_variables st after q f fs env name place ty own t s ss (variable_plain cs _ _ _ _ _ _ _ _ _ _ _ _ h0 f a) h1 (variables_plain p _ _ _ _ _ h2 fs rest)

  pub labels_plain : (falls : Bool) (k : Tested) (env : Env) (ls : List Label) (j : Tested) (after : Env) (ts : List (Option TExpr)) → LabelsAre cs falls k env ls j after ts → (fs : List Label) → Alike plain_label fs ls → LabelsAre cs falls k env fs j after ts
  labels_plain _ _ _ _ _ _ _ (no_label falls k env) _ nothing = no_label falls k env
  labels_plain _ _ _ _ _ _ _ (case_label falls k j env middle after l ls e t u o ts h0 h1 h2 h3 h4 h5) _ (each f _ fs _ a rest) =
      let v = value_given f.value e (subst (λ x. MayBeAlike plain_expr f.value x) h0 (label_same l f a)) in
      case_label falls k j env middle after f fs v.0 t u o ts v.1 (types_plain cs _ _ _ _ _ _ h1 v.0 v.2) h2 h3 h4 (labels_plain _ _ _ _ _ _ _ h5 fs rest)
  labels_plain _ _ _ _ _ _ _ (default_label falls k j env after l ls ts h0 h1 h2) _ (each f _ fs _ a rest) =
      default_label falls k j env after f fs ts (value_missing f.value (subst (λ x. MayBeAlike plain_expr f.value x) h0 (label_same l f a))) h1 (labels_plain _ _ _ _ _ _ _ h2 fs rest)

  mutual
    pub items_plain : (p : Setting) (st : State) (ss : List Stmt) (after : State) (ts : List TStmt) → ItemsAre cs p st ss after ts → (fs : List Stmt) → Alike plain_stmt fs ss → ItemsAre cs p st fs after ts
    items_plain _ _ _ _ _ (no_item p st) _ nothing = no_item p st
    items_plain _ _ _ _ _ (declaration_item p st typed middle after s ss place spec items env q ts us h0 h1 h2 h3) _ (each f _ fs _ a rest) =
        let d = declaration_as s f a place spec items h0 in
        declaration_item p st typed middle after f fs place d.words d.all env q ts us d.is (specified_plain cs _ _ _ _ h1 d.words d.words_same) (variables_plain p _ _ _ _ _ h2 _ d.same) (items_plain _ _ _ _ _ h3 fs rest)
    items_plain _ _ _ _ _ (statement_item p st middle after s ss t ts h0 h1) _ (each f _ fs _ a rest) =
        statement_item p st middle after f fs t ts (stmt_plain _ _ _ _ _ h0 f a) (items_plain _ _ _ _ _ h1 fs rest)

    pub stmt_plain : (p : Setting) (st : State) (s : Stmt) (after : State) (t : TStmt) → StmtIs cs p st s after t → (f : Stmt) → plain_stmt f ≡ plain_stmt s → StmtIs cs p st f after t
    stmt_plain _ _ _ _ _ (block p st after s place items ts t h0 h1 h2) f a =
        let d = block_as s f a place items h0 in
        block p st after f place d.all ts t d.is (items_plain _ _ _ _ _ h1 _ d.same) h2
    stmt_plain _ _ _ _ _ (expression p st s place e env u o t h0 h1 h2) f a =
        let d = expression_as s f a place e h0 in
        expression p st f place d.of env u o t d.is (types_plain cs _ _ _ _ _ _ h1 d.of d.same) h2
    stmt_plain _ _ _ _ _ (choice p st after s place e arms env u o ts t h0 h1 h2 h3 h4) f a =
        let d = choice_as s f a place e arms h0 in
        choice p st after f place d.of d.all env u o ts t d.is (types_plain cs _ _ _ _ _ _ h1 d.of d.of_same) (arms_plain _ _ _ _ _ h2 _ d.same) h3 h4
    stmt_plain _ _ _ _ _ (while_loop p st after s place e body env u o ts t h0 h1 h2 h3 h4) f a =
        let d = while_as s f a place e body h0 in
        while_loop p st after f place d.of d.all env u o ts t d.is (types_plain cs _ _ _ _ _ _ h1 d.of d.of_same) (arms_plain _ _ _ _ _ h2 _ d.same) h3 h4
    stmt_plain _ _ _ _ _ (do_loop p st middle s place e body env u o ts t h0 h1 h2 h3 h4) f a =
        let d = do_as s f a place body e h0 in
        do_loop p st middle f place d.of d.all env u o ts t d.is (arms_plain _ _ _ _ _ h1 _ d.same) (types_plain cs _ _ _ _ _ _ h2 d.of d.of_same) h3 h4
    stmt_plain _ _ _ _ _ (for_loop p st declared after s place decl body first cond next a b c t1 o1 u o t3 o3 ds ts t h0 h1 h2 h3 h4 h5 h6 h7) f x =
        let d = for_as s f x place decl first cond next body h0 in
        for_loop p st declared after f place d.declared d.all d.begin d.test d.step a b c t1 o1 u o t3 o3 ds ts t d.is (items_plain _ _ _ _ _ h1 _ d.declared_same)
        (may_be_typed_plain _ _ _ _ _ h2 _ d.begin_same) (condition_plain _ _ _ _ _ _ h3 _ d.test_same) (may_be_typed_plain _ _ _ _ _ h4 _ d.step_same) (arms_plain _ _ _ _ _ h5 _ d.same) h6 h7
    stmt_plain _ _ _ _ _ (switch p st after s place e groups env u v o sections t h0 h1 h2 h3 h4 h5) f a =
        let d = switch_as s f a place e groups h0 in
        switch p st after f place d.of d.all env u v o sections t d.is (types_plain cs _ _ _ _ _ _ h1 d.of d.of_same) (sections_plain _ _ _ _ _ _ h2 _ d.same) h3 h4 h5
    stmt_plain _ _ _ _ _ (break p st s place t h0 h1 h2) f a = break p st f place t (break_as s f a place h0) h1 h2
    stmt_plain _ _ _ _ _ (continue p st s place t h0 h1 h2) f a = continue p st f place t (continue_as s f a place h0) h1 h2
    stmt_plain _ _ _ _ _ (return p st s place t h0 h1 h2) f a =
        let d = return_as s f a place None h0 in
        return p st f place t (record { at = d.is.at; is = d.is.is ∙ ap node.Return (value_missing d.of d.same) }) h1 h2
    stmt_plain _ _ _ _ _ (return_value p st s place e env u v o t h0 h1 h2 h3 h4) f a =
        let d = return_as s f a place (Some e) h0 in
        let g = value_given d.of e d.same in
        return_value p st f place g.0 env u v o t (record { at = d.is.at; is = d.is.is ∙ ap node.Return g.1 }) (types_plain cs _ _ _ _ _ _ h1 g.0 g.2) h2 h3 h4
    stmt_plain _ _ _ _ _ (empty p st s place t h0 h1) f a = empty p st f place t (empty_as s f a place h0) h1

    pub arms_plain : (p : Setting) (st : State) (ss : List Stmt) (after : State) (ts : List TStmt) → ArmsAre cs p st ss after ts → (fs : List Stmt) → Alike plain_stmt fs ss → ArmsAre cs p st fs after ts
    arms_plain _ _ _ _ _ (no_arm p st) _ nothing = no_arm p st
    arms_plain _ _ _ _ _ (more_arms p st middle after s ss t ts h0 h1) _ (each f _ fs _ a rest) =
        more_arms p st middle after f fs t ts (stmt_plain _ _ _ _ _ h0 f a) (arms_plain _ _ _ _ _ h1 fs rest)
    arms_plain _ _ _ _ _ (declaration_arm p st middle after s ss place spec items us t ts h0 h1 h2 h3) _ (each f _ fs _ a rest) =
        let d = declaration_as s f a place spec items h0 in
        declaration_arm p st middle after f fs place d.words d.all us t ts d.is (items_plain _ _ _ _ _ h1 _ (each f s [] [] a nothing)) h2 (arms_plain _ _ _ _ _ h3 fs rest)

    pub sections_plain : (p : Setting) (k : Tested) (st : State) (gs : List Group) (after : State) (ss : List Section) → SectionsAre cs p k st gs after ss → (fs : List Group) → Alike plain_group fs gs → SectionsAre cs p k st fs after ss
    sections_plain _ _ _ _ _ _ (no_section p k st) _ nothing = no_section p k st
    sections_plain _ _ _ _ _ _ (more_sections p k j st middle after g gs labels body env ls ts s ss h0 h1 h2 h3 h4) _ (each f _ fs _ a rest) =
        let d = group_as g f a labels body h0 in
        more_sections p k j st middle after f fs d.names d.all env ls ts s ss d.is
        (subst (λ b. LabelsAre cs b k st.env d.names j env ls) (sym (falls_same k d.all body fs gs d.same rest)) (labels_plain _ _ _ _ _ _ _ h1 _ d.names_same))
        (items_plain _ _ _ _ _ h2 _ d.same) h3
        (subst (λ b. SectionsAre cs p (behind_section b j) middle fs after ss) (sym (list_ends_same d.all body d.same)) (sections_plain _ _ _ _ _ _ h4 fs rest))
