-- Statements that say the same have the same first offences.
use Rattle.std.proofs.Common.{◌≡◌, Bool, List, [], ◌∷◌, Option, Some, None, sym, ap, ◌∙◌, subst}
use Rattle.clv_place.specs.declared.place.Place.{Place}
use Rattle.clv_place.specs.declared.stop.Offence.{Offence}
use Rattle.cl_types.specs.declared.types.ClType.{ClType}
use Rattle.cl_ast.specs.declared.declaration.InitDeclor.{InitDeclor}
use Rattle.cl_ast.specs.declared.expression.Expr.{Expr}
use Rattle.cl_ast.specs.declared.statement.Group.{Group}
use Rattle.cl_ast.specs.declared.statement.Label.{Label}
use Rattle.cl_ast.specs.declared.statement.Stmt.{Stmt}
use Rattle.cl_ast.specs.declared.statement.StmtNode.TheVariants as node
use Rattle.cl_rules.specs.declared.rule.Qualified.{Qualified}
use Rattle.cl_scope.specs.Names.{Env}
use Rattle.cl_type_expr.specs.Offences.{at}
use Rattle.cl_typing.specs.declared.label.Tested.{Tested}
use Rattle.cl_typing.specs.declared.setting.Setting.{Setting}
use Rattle.cl_typing.specs.Settings.{State}
use Rattle.cl_typing.specs.Statements.{behind_section, MayBeOffends, in_written, SomeVariableOffends, this_variable, later_variable, ItemsOffend, in_words, in_variables, in_statement, behind_declaration, behind_statement, StmtOffends, in_block, in_expression, in_test, in_arms, no_test, in_while, in_while_body, no_while, in_do_body, in_do, no_do, in_for, in_switch_value, in_sections, bad_switch, no_break, no_continue, in_return, no_return, no_return_value, ForOffends, in_declaration, in_first, in_condition, in_next, in_body, no_for, ArmsOffend, in_arm, in_declaration_arm, behind_declaration_arm, behind_arm, SectionsOffend, in_labels, in_section_items, after_section, LabelsOffend, in_case, case_divides, no_case_value, no_default, behind_case, behind_default, LabelsAre}
use Rattle.cl_plain.specs.Plain.{plain_expr, plain_declared, plain_label, plain_stmt, plain_group}
use Rattle.cl_verdicts.proofs.PlainAlike.{Alike, nothing, each, MayBeAlike, both_given}
use Rattle.cl_verdicts.proofs.PlainExpressions.{types_plain, specified_plain, offends_plain, words_offend_plain}
use Rattle.cl_verdicts.proofs.PlainVariables.{variable_plain, variable_offends_plain}
use Rattle.cl_verdicts.proofs.PlainStmtParts.{block_as, declaration_as, expression_as, choice_as, while_as, do_as, for_as, switch_as, break_as, continue_as, return_as, group_as, label_same, label_place_same}
use Rattle.cl_verdicts.proofs.PlainStmtEnds.{list_ends_same, falls_same}
use Rattle.cl_verdicts.proofs.PlainStmts.{value_given, value_missing, may_be_typed_plain, condition_plain, variables_plain, labels_plain, items_plain, stmt_plain, arms_plain, sections_plain}

module _ (cs : List ClType) where
  pub may_be_offends_plain : (env : Env) (e : Option Expr) (o : Offence) → MayBeOffends cs env e o → (f : Option Expr) → MayBeAlike plain_expr f e → MayBeOffends cs env f o
  may_be_offends_plain _ _ _ (in_written env e o h0) _ (both_given f _ p) = in_written env f o (offends_plain cs _ _ _ _ h0 f p)

  pub some_variable_plain : (p : Setting) (st : State) (q : Qualified) (ds : List InitDeclor) (o : Offence) → SomeVariableOffends cs p st q ds o → (fs : List InitDeclor) → Alike plain_declared fs ds → SomeVariableOffends cs p st q fs o
  some_variable_plain p _ _ _ _ (this_variable st q d ds o h0) _ (each f _ fs _ a rest) = this_variable st q f fs o (variable_offends_plain cs _ _ _ _ _ _ _ h0 f a)
  some_variable_plain p _ _ _ _ (later_variable st q d ds env name place ty own t o h0 h1) _ (each f _ fs _ a rest) =
      later_variable st q f fs env name place ty own t o (variable_plain cs _ _ _ _ _ _ _ _ _ _ _ _ h0 f a) (some_variable_plain p _ _ _ _ h1 fs rest)

  pub labels_offend_plain : (falls : Bool) (k : Tested) (env : Env) (ls : List Label) (o : Offence) → LabelsOffend cs falls k env ls o → (fs : List Label) → Alike plain_label fs ls → LabelsOffend cs falls k env fs o
  labels_offend_plain _ _ _ _ _ (in_case falls k env l ls e o h0 h1) _ (each f _ fs _ a rest) =
      let v = value_given f.value e (subst (λ x. MayBeAlike plain_expr f.value x) h0 (label_same l f a)) in
      in_case falls k env f fs v.0 o v.1 (offends_plain cs _ _ _ _ h1 v.0 v.2)
  labels_offend_plain _ _ _ _ _ (case_divides falls k env middle l ls e t q p h0 h1 h2) _ (each f _ fs _ a rest) =
      let v = value_given f.value e (subst (λ x. MayBeAlike plain_expr f.value x) h0 (label_same l f a)) in
      case_divides falls k env middle f fs v.0 t q p v.1 (types_plain cs _ _ _ _ _ _ h1 v.0 v.2) h2
  labels_offend_plain _ _ _ _ _ (no_case_value falls k env middle l ls e t q code h0 h1 h2 h3) _ (each f _ fs _ a rest) =
      let v = value_given f.value e (subst (λ x. MayBeAlike plain_expr f.value x) h0 (label_same l f a)) in
      subst (λ p. LabelsOffend cs falls k env (f ∷ fs) (at code p)) (label_place_same l f a) (no_case_value falls k env middle f fs v.0 t q code v.1 (types_plain cs _ _ _ _ _ _ h1 v.0 v.2) h2 h3)
  labels_offend_plain _ _ _ _ _ (no_default falls k env l ls code h0 h1) _ (each f _ fs _ a rest) =
      subst (λ p. LabelsOffend cs falls k env (f ∷ fs) (at code p)) (label_place_same l f a)
      (no_default falls k env f fs code (value_missing f.value (subst (λ x. MayBeAlike plain_expr f.value x) h0 (label_same l f a))) h1)
  labels_offend_plain _ _ _ _ _ (behind_case falls k env middle l ls e t q o h0 h1 h2 h3 h4) _ (each f _ fs _ a rest) =
      let v = value_given f.value e (subst (λ x. MayBeAlike plain_expr f.value x) h0 (label_same l f a)) in
      behind_case falls k env middle f fs v.0 t q o v.1 (types_plain cs _ _ _ _ _ _ h1 v.0 v.2) h2 h3 (labels_offend_plain _ _ _ _ _ h4 fs rest)
  labels_offend_plain _ _ _ _ _ (behind_default falls k env l ls o h0 h1 h2) _ (each f _ fs _ a rest) =
      behind_default falls k env f fs o (value_missing f.value (subst (λ x. MayBeAlike plain_expr f.value x) h0 (label_same l f a))) h1 (labels_offend_plain _ _ _ _ _ h2 fs rest)

  mutual
    pub items_offend_plain : (p : Setting) (st : State) (ss : List Stmt) (o : Offence) → ItemsOffend cs p st ss o → (fs : List Stmt) → Alike plain_stmt fs ss → ItemsOffend cs p st fs o
    items_offend_plain _ _ _ _ (in_words p st s ss place spec items o h0 h1) _ (each f _ fs _ a rest) =
        let d = declaration_as s f a place spec items h0 in
        in_words p st f fs place d.words d.all o d.is (words_offend_plain cs _ _ _ h1 d.words d.words_same)
    items_offend_plain _ _ _ _ (in_variables p st s ss place spec items env q o h0 h1 h2) _ (each f _ fs _ a rest) =
        let d = declaration_as s f a place spec items h0 in
        in_variables p st f fs place d.words d.all env q o d.is (specified_plain cs _ _ _ _ h1 d.words d.words_same) (some_variable_plain p _ _ _ _ h2 _ d.same)
    items_offend_plain _ _ _ _ (in_statement p st s ss o h0) _ (each f _ fs _ a rest) = in_statement p st f fs o (stmt_offends_plain _ _ _ _ h0 f a)
    items_offend_plain _ _ _ _ (behind_declaration p st middle s ss place spec items env q ts o h0 h1 h2 h3) _ (each f _ fs _ a rest) =
        let d = declaration_as s f a place spec items h0 in
        behind_declaration p st middle f fs place d.words d.all env q ts o d.is (specified_plain cs _ _ _ _ h1 d.words d.words_same) (variables_plain cs p _ _ _ _ _ h2 _ d.same) (items_offend_plain _ _ _ _ h3 fs rest)
    items_offend_plain _ _ _ _ (behind_statement p st middle s ss t o h0 h1) _ (each f _ fs _ a rest) =
        behind_statement p st middle f fs t o (stmt_plain cs _ _ _ _ _ h0 f a) (items_offend_plain _ _ _ _ h1 fs rest)

    pub stmt_offends_plain : (p : Setting) (st : State) (s : Stmt) (o : Offence) → StmtOffends cs p st s o → (f : Stmt) → plain_stmt f ≡ plain_stmt s → StmtOffends cs p st f o
    stmt_offends_plain _ _ _ _ (in_block p st s place items o h0 h1) f a =
        let d = block_as s f a place items h0 in
        in_block p st f place d.all o d.is (items_offend_plain _ _ _ _ h1 _ d.same)
    stmt_offends_plain _ _ _ _ (in_expression p st s place e o h0 h1) f a =
        let d = expression_as s f a place e h0 in
        in_expression p st f place d.of o d.is (offends_plain cs _ _ _ _ h1 d.of d.same)
    stmt_offends_plain _ _ _ _ (in_test p st s place e arms o h0 h1) f a =
        let d = choice_as s f a place e arms h0 in
        in_test p st f place d.of d.all o d.is (offends_plain cs _ _ _ _ h1 d.of d.of_same)
    stmt_offends_plain _ _ _ _ (in_arms p st s place e arms env u q o h0 h1 h2) f a =
        let d = choice_as s f a place e arms h0 in
        in_arms p st f place d.of d.all env u q o d.is (types_plain cs _ _ _ _ _ _ h1 d.of d.of_same) (arms_offend_plain _ _ _ _ h2 _ d.same)
    stmt_offends_plain _ _ _ _ (no_test p st after s place e arms env u q ts h0 h1 h2 h3) f a =
        let d = choice_as s f a place e arms h0 in
        no_test p st after f place d.of d.all env u q ts d.is (types_plain cs _ _ _ _ _ _ h1 d.of d.of_same) (arms_plain cs _ _ _ _ _ h2 _ d.same) h3
    stmt_offends_plain _ _ _ _ (in_while p st s place e body o h0 h1) f a =
        let d = while_as s f a place e body h0 in
        in_while p st f place d.of d.all o d.is (offends_plain cs _ _ _ _ h1 d.of d.of_same)
    stmt_offends_plain _ _ _ _ (in_while_body p st s place e body env u q o h0 h1 h2) f a =
        let d = while_as s f a place e body h0 in
        in_while_body p st f place d.of d.all env u q o d.is (types_plain cs _ _ _ _ _ _ h1 d.of d.of_same) (arms_offend_plain _ _ _ _ h2 _ d.same)
    stmt_offends_plain _ _ _ _ (no_while p st after s place e body env u q ts h0 h1 h2 h3) f a =
        let d = while_as s f a place e body h0 in
        no_while p st after f place d.of d.all env u q ts d.is (types_plain cs _ _ _ _ _ _ h1 d.of d.of_same) (arms_plain cs _ _ _ _ _ h2 _ d.same) h3
    stmt_offends_plain _ _ _ _ (in_do_body p st s place e body o h0 h1) f a =
        let d = do_as s f a place body e h0 in
        in_do_body p st f place d.of d.all o d.is (arms_offend_plain _ _ _ _ h1 _ d.same)
    stmt_offends_plain _ _ _ _ (in_do p st middle s place e body ts o h0 h1 h2) f a =
        let d = do_as s f a place body e h0 in
        in_do p st middle f place d.of d.all ts o d.is (arms_plain cs _ _ _ _ _ h1 _ d.same) (offends_plain cs _ _ _ _ h2 d.of d.of_same)
    stmt_offends_plain _ _ _ _ (no_do p st middle s place e body ts env u q h0 h1 h2 h3) f a =
        let d = do_as s f a place body e h0 in
        no_do p st middle f place d.of d.all ts env u q d.is (arms_plain cs _ _ _ _ _ h1 _ d.same) (types_plain cs _ _ _ _ _ _ h2 d.of d.of_same) h3
    stmt_offends_plain _ _ _ _ (in_for p st s place decl body first cond next o h0 h1) f a =
        let d = for_as s f a place decl first cond next body h0 in
        in_for p st f place d.declared d.all d.begin d.test d.step o d.is (for_offends_plain _ _ _ _ _ _ _ _ _ h1 _ d.declared_same _ d.begin_same _ d.test_same _ d.step_same _ d.same)
    stmt_offends_plain _ _ _ _ (in_switch_value p st s place e groups o h0 h1) f a =
        let d = switch_as s f a place e groups h0 in
        in_switch_value p st f place d.of d.all o d.is (offends_plain cs _ _ _ _ h1 d.of d.of_same)
    stmt_offends_plain _ _ _ _ (in_sections p st s place e groups env u q o h0 h1 h2) f a =
        let d = switch_as s f a place e groups h0 in
        in_sections p st f place d.of d.all env u q o d.is (types_plain cs _ _ _ _ _ _ h1 d.of d.of_same) (sections_offend_plain _ _ _ _ _ h2 _ d.same)
    stmt_offends_plain _ _ _ _ (bad_switch p st after s place e groups env u q sections h0 h1 h2 h3) f a =
        let d = switch_as s f a place e groups h0 in
        bad_switch p st after f place d.of d.all env u q sections d.is (types_plain cs _ _ _ _ _ _ h1 d.of d.of_same) (sections_plain cs _ _ _ _ _ _ h2 _ d.same) h3
    stmt_offends_plain _ _ _ _ (no_break p st s place h0 h1) f a = no_break p st f place (break_as s f a place h0) h1
    stmt_offends_plain _ _ _ _ (no_continue p st s place h0 h1) f a = no_continue p st f place (continue_as s f a place h0) h1
    stmt_offends_plain _ _ _ _ (in_return p st s place e o h0 h1) f a =
        let d = return_as s f a place (Some e) h0 in
        let g = value_given d.of e d.same in
        in_return p st f place g.0 o (record { at = d.is.at; is = d.is.is ∙ ap node.Return g.1 }) (offends_plain cs _ _ _ _ h1 g.0 g.2)
    stmt_offends_plain _ _ _ _ (no_return p st s place code h0 h1) f a =
        let d = return_as s f a place None h0 in
        no_return p st f place code (record { at = d.is.at; is = d.is.is ∙ ap node.Return (value_missing d.of d.same) }) h1
    stmt_offends_plain _ _ _ _ (no_return_value p st s place e env u q code h0 h1 h2) f a =
        let d = return_as s f a place (Some e) h0 in
        let g = value_given d.of e d.same in
        no_return_value p st f place g.0 env u q code (record { at = d.is.at; is = d.is.is ∙ ap node.Return g.1 }) (types_plain cs _ _ _ _ _ _ h1 g.0 g.2) h2

    pub for_offends_plain : (p : Setting) (place : Place) (st : State) (decl : List Stmt) (first cond next : Option Expr) (body : List Stmt) (o : Offence) → ForOffends cs p place st decl first cond next body o
        → (decl2 : List Stmt) → Alike plain_stmt decl2 decl → (first2 : Option Expr) → MayBeAlike plain_expr first2 first → (cond2 : Option Expr) → MayBeAlike plain_expr cond2 cond → (next2 : Option Expr) → MayBeAlike plain_expr next2 next → (body2 : List Stmt) → Alike plain_stmt body2 body
        → ForOffends cs p place st decl2 first2 cond2 next2 body2 o
    for_offends_plain _ _ _ _ _ _ _ _ _ (in_declaration p place st decl body first cond next o h0) decl2 x first2 e1 cond2 e2 next2 e3 body2 y =
        in_declaration p place st decl2 body2 first2 cond2 next2 o (items_offend_plain _ _ _ _ h0 decl2 x)
    for_offends_plain _ _ _ _ _ _ _ _ _ (in_first p place st declared decl body first cond next ds o h0 h1) decl2 x first2 e1 cond2 e2 next2 e3 body2 y =
        in_first p place st declared decl2 body2 first2 cond2 next2 ds o (items_plain cs _ _ _ _ _ h0 decl2 x) (may_be_offends_plain _ _ _ h1 first2 e1)
    for_offends_plain _ _ _ _ _ _ _ _ _ (in_condition p place st declared decl body first cond next ds a t1 o1 o h0 h1 h2) decl2 x first2 e1 cond2 e2 next2 e3 body2 y =
        in_condition p place st declared decl2 body2 first2 cond2 next2 ds a t1 o1 o (items_plain cs _ _ _ _ _ h0 decl2 x) (may_be_typed_plain cs _ _ _ _ _ h1 first2 e1) (may_be_offends_plain _ _ _ h2 cond2 e2)
    for_offends_plain _ _ _ _ _ _ _ _ _ (in_next p place st declared decl body first cond next ds a b t1 o1 u q o h0 h1 h2 h3) decl2 x first2 e1 cond2 e2 next2 e3 body2 y =
        in_next p place st declared decl2 body2 first2 cond2 next2 ds a b t1 o1 u q o (items_plain cs _ _ _ _ _ h0 decl2 x) (may_be_typed_plain cs _ _ _ _ _ h1 first2 e1) (condition_plain cs _ _ _ _ _ _ h2 cond2 e2) (may_be_offends_plain _ _ _ h3 next2 e3)
    for_offends_plain _ _ _ _ _ _ _ _ _ (in_body p place st declared decl body first cond next ds a b c t1 t3 o1 o3 u q o h0 h1 h2 h3 h4) decl2 x first2 e1 cond2 e2 next2 e3 body2 y =
        in_body p place st declared decl2 body2 first2 cond2 next2 ds a b c t1 t3 o1 o3 u q o (items_plain cs _ _ _ _ _ h0 decl2 x) (may_be_typed_plain cs _ _ _ _ _ h1 first2 e1) (condition_plain cs _ _ _ _ _ _ h2 cond2 e2)
        (may_be_typed_plain cs _ _ _ _ _ h3 next2 e3) (arms_offend_plain _ _ _ _ h4 body2 y)
    for_offends_plain _ _ _ _ _ _ _ _ _ (no_for p place st declared after decl body first cond next ds ts a b c t1 t3 o1 o3 u q h0 h1 h2 h3 h4 h5) decl2 x first2 e1 cond2 e2 next2 e3 body2 y =
        no_for p place st declared after decl2 body2 first2 cond2 next2 ds ts a b c t1 t3 o1 o3 u q (items_plain cs _ _ _ _ _ h0 decl2 x) (may_be_typed_plain cs _ _ _ _ _ h1 first2 e1) (condition_plain cs _ _ _ _ _ _ h2 cond2 e2)
        (may_be_typed_plain cs _ _ _ _ _ h3 next2 e3) (arms_plain cs _ _ _ _ _ h4 body2 y) h5

    pub arms_offend_plain : (p : Setting) (st : State) (ss : List Stmt) (o : Offence) → ArmsOffend cs p st ss o → (fs : List Stmt) → Alike plain_stmt fs ss → ArmsOffend cs p st fs o
    arms_offend_plain _ _ _ _ (in_arm p st s ss o h0) _ (each f _ fs _ a rest) = in_arm p st f fs o (stmt_offends_plain _ _ _ _ h0 f a)
    arms_offend_plain _ _ _ _ (in_declaration_arm p st s ss place spec items o h0 h1) _ (each f _ fs _ a rest) =
        let d = declaration_as s f a place spec items h0 in
        in_declaration_arm p st f fs place d.words d.all o d.is (items_offend_plain _ _ _ _ h1 _ (each f s [] [] a nothing))
    arms_offend_plain _ _ _ _ (behind_declaration_arm p st middle s ss place spec items us o h0 h1 h2) _ (each f _ fs _ a rest) =
        let d = declaration_as s f a place spec items h0 in
        behind_declaration_arm p st middle f fs place d.words d.all us o d.is (items_plain cs _ _ _ _ _ h1 _ (each f s [] [] a nothing)) (arms_offend_plain _ _ _ _ h2 fs rest)
    arms_offend_plain _ _ _ _ (behind_arm p st middle s ss t o h0 h1) _ (each f _ fs _ a rest) =
        behind_arm p st middle f fs t o (stmt_plain cs _ _ _ _ _ h0 f a) (arms_offend_plain _ _ _ _ h1 fs rest)

    pub sections_offend_plain : (p : Setting) (k : Tested) (st : State) (gs : List Group) (o : Offence) → SectionsOffend cs p k st gs o → (fs : List Group) → Alike plain_group fs gs → SectionsOffend cs p k st fs o
    sections_offend_plain _ _ _ _ _ (in_labels p k st g gs labels body o h0 h1) _ (each f _ fs _ a rest) =
        let d = group_as g f a labels body h0 in
        in_labels p k st f fs d.names d.all o d.is (subst (λ b. LabelsOffend cs b k st.env d.names o) (sym (falls_same k d.all body fs gs d.same rest)) (labels_offend_plain _ _ _ _ _ h1 _ d.names_same))
    sections_offend_plain _ _ _ _ _ (in_section_items p k j st g gs labels body env ls o h0 h1 h2) _ (each f _ fs _ a rest) =
        let d = group_as g f a labels body h0 in
        in_section_items p k j st f fs d.names d.all env ls o d.is
        (subst (λ b. LabelsAre cs b k st.env d.names j env ls) (sym (falls_same k d.all body fs gs d.same rest)) (labels_plain cs _ _ _ _ _ _ _ h1 _ d.names_same))
        (items_offend_plain _ _ _ _ h2 _ d.same)
    sections_offend_plain _ _ _ _ _ (after_section p k j st middle g gs labels body env ls ts o h0 h1 h2 h3) _ (each f _ fs _ a rest) =
        let d = group_as g f a labels body h0 in
        after_section p k j st middle f fs d.names d.all env ls ts o d.is
        (subst (λ b. LabelsAre cs b k st.env d.names j env ls) (sym (falls_same k d.all body fs gs d.same rest)) (labels_plain cs _ _ _ _ _ _ _ h1 _ d.names_same))
        (items_plain cs _ _ _ _ _ h2 _ d.same)
        (subst (λ b. SectionsOffend cs p (behind_section b j) middle fs o) (sym (list_ends_same d.all body d.same)) (sections_offend_plain _ _ _ _ _ h3 fs rest))
