-- Statements, their parts and lists of them have one verdict.
use Rattle.std.specs.Global.{Vec}
use Rattle.std.proofs.Common.{◌≡◌, ℕ, List, [], ◌∷◌, ap, ◌∙◌, Bool, true, false, not, ◌⊎◌, inl, inr, Option, Some, None}
use Rattle.clv_place.specs.declared.place.Place.{Place}
use Rattle.clv_place.specs.declared.stop.Offence.{Offence}
use Rattle.cl_types.specs.declared.types.ClType.{ClType}
use Rattle.cl_types.specs.Table.{AreBuilt}
use Rattle.cl_ast.specs.declared.declaration.InitDeclor.{InitDeclor}
use Rattle.cl_ast.specs.declared.expression.Expr.{Expr}
use Rattle.cl_ast.specs.declared.expression.Spec.{Spec}
use Rattle.cl_ast.specs.declared.statement.Stmt.{Stmt}
use Rattle.cl_ast.specs.declared.statement.Group.{Group}
use Rattle.cl_ast.specs.declared.statement.StmtNode.TheVariants as node
use Rattle.cl_ast.specs.declared.statement.StmtNode.TheOpen as layer
use Rattle.cl_tree.specs.declared.expression.TExpr.{TExpr}
use Rattle.cl_tree.specs.declared.statement.TStmt.{TStmt}
use Rattle.cl_tree.specs.declared.statement.Section.{Section}
use Rattle.cl_rules.specs.declared.rule.Operand.{Operand}
use Rattle.cl_rules.specs.declared.rule.Qualified.{Qualified}
use Rattle.cl_rules.specs.Operands.{first_broken}
use Rattle.cl_scope.specs.Names.{Env}
use Rattle.cl_type_expr.specs.Expressions.{Types, IsSpecified}
use Rattle.cl_type_expr.specs.Offences.{at, Offends, WordsOffend}
use Rattle.cl_type_expr.specs.Syntax.{IsStmt}
use Rattle.cl_typing.specs.declared.label.Tested.{Tested}
use Rattle.cl_typing.specs.declared.setting.Setting.{Setting}
use Rattle.cl_typing.specs.Settings.{State, with_env, entering, leaving, inside, in_loop, in_switch}
use Rattle.cl_typing.specs.Statements.{list_ends, no_condition, no_switch, return_tests, tested_first, behind_section, falls, AreVariables, SomeVariableOffends, ItemsAre, no_item, declaration_item, statement_item, StmtIs, block, expression, choice, while_loop, do_loop, for_loop, switch, break, continue, return, return_value, empty, ArmsAre, no_arm, more_arms, declaration_arm, SectionsAre, no_section, more_sections, ItemsOffend, in_words, in_variables, in_statement, behind_declaration, behind_statement, StmtOffends, in_block, in_expression, in_test, in_arms, no_test, in_while, in_while_body, no_while, in_do_body, in_do, no_do, in_for, in_switch_value, in_sections, bad_switch, no_break, no_continue, in_return, no_return, no_return_value, ForOffends, in_declaration, in_first, in_condition, in_next, in_body, no_for, ArmsOffend, in_arm, in_declaration_arm, behind_declaration_arm, behind_arm, SectionsOffend, in_labels, in_section_items, after_section}
use Rattle.cl_renaming.specs.Renaming.{IsRenaming, AreTypes}
use Rattle.cl_verdicts.proofs.States.{setting_as, state_as, inside_same, in_loop_same, in_switch_same, env_same, entering_same, leaving_same, with_env_same}
use Rattle.cl_verdicts.proofs.StatementLayers.{block_layer, expr_layer, if_layer, while_layer, do_layer, for_layer, switch_layer, break_layer, continue_layer, return_layer, empty_layer}
use Rattle.cl_verdicts.proofs.StatementOutcomes.{Outcome, gives, stops, Agree, code_if, no_offence, an_offence, no_code, a_code, gives_then, stops_then, given, broken}
use Rattle.cl_verdicts.proofs.StatementParts.{Typing, ExprComes, TypingSame, EnvSame, WordsAgree, ConditionSame, StateSame, typed_one, expr_off_one, specified_one, words_off_one, may_be_one, may_be_off_one, condition_one, condition_off_one, variables_one, variables_off_one}
use Rattle.cl_verdicts.proofs.StatementTests.{no_condition_same, no_switch_same, tested_first_same, no_return_same, return_same}
use Rattle.cl_verdicts.proofs.StatementLabels.{LabelsSame, labels_one, labels_off_one}
use Rattle.cl_verdicts.proofs.StatementViews.{ItemsCome, StmtComes, ArmsCome, SectionsCome, ItemComes, Tests, FitsReturn, ForBy, stmt_viewed, no_statement, decl_viewed, items_viewed, arms_viewed, no_section_viewed, section_viewed}

two : {A B R : Type 0} → A ⊎ B → (A → R) → (B → R) → R
two (inl a) f g = f a
two (inr b) f g = g b

-- ---- tests in both tables

module _ (r : ℕ → ℕ) (place : Place) (w : Outcome State) where
  tests_given : (a a2 : Bool) (code : ℕ) (after after2 : State) → a2 ≡ a → a ≡ false → StateSame r after after2 → Tests a2 code place after2 w → Agree (StateSame r) (gives after) w
  tests_given a a2 code after after2 s h m n = given (StateSame r) (gives after) w (gives after2) m (n.pass (no_offence (code_if a2 code) place (no_code a2 code (s ∙ h))))

  tests_broken : (a a2 : Bool) (code : ℕ) (after2 : State) → a2 ≡ a → a ≡ true → Tests a2 code place after2 w → Agree (StateSame r) (stops (at code place)) w
  tests_broken a a2 code after2 s h n = broken (StateSame r) (at code place) w (n.fail (at code place) (an_offence (code_if a2 code) code place (a_code a2 code (s ∙ h))))

  return_given : (xs ys : List (ℕ × Bool)) (after after2 : State) → ys ≡ xs → first_broken xs ≡ None → StateSame r after after2 → FitsReturn ys place after2 w → Agree (StateSame r) (gives after) w
  return_given xs ys after after2 s h m n = given (StateSame r) (gives after) w (gives after2) m (n.pass (no_offence (first_broken ys) place (ap first_broken s ∙ h)))

  return_broken : (xs ys : List (ℕ × Bool)) (code : ℕ) (after2 : State) → ys ≡ xs → first_broken xs ≡ Some code → FitsReturn ys place after2 w → Agree (StateSame r) (stops (at code place)) w
  return_broken xs ys code after2 s h n = broken (StateSame r) (at code place) w (n.fail (at code place) (an_offence (first_broken ys) code place (ap first_broken s ∙ h)))

module _ (cs ds : List ClType) (r : ℕ → ℕ) (e : IsRenaming cs ds r) (bc : AreBuilt [] cs) (b : AreTypes ds) where
  -- ---- declarations

  module _ (p p2 : Setting) (st st2 : State) (s : Stmt) (place : Place) (spec : Spec) (items : Vec InitDeclor) (h : IsStmt s place (node.Decl spec items)) (f : p2 ≡ setting_as r p) (g : st2 ≡ state_as r st) where
    declared_one : (env : Env) (q : Qualified) (middle : State) (ts : List TStmt) → IsSpecified cs st.env spec env q → AreVariables cs p (with_env env st) q items.items middle ts → (y : Outcome State) → ItemComes ds p2 st2 s y → Agree (StateSame r) (gives middle) y
    declared_one env q middle ts h1 h2 y k =
        gives_then (WordsAgree r) (StateSame r) (env, q) (gives middle) y (decl_viewed ds p2 st2 s y place spec items h k) (specified_one cs ds r e bc b st.env st2.env spec env q (env_same r st st2 g) h1)
        (λ z m n. variables_one cs ds r e bc b p _ _ _ _ _ h2 p2 (with_env z.0 st2) z.1 f (with_env_same r env z.0 st st2 m.0 g) m.1 y n)

    declared_words_one : (o : Offence) → WordsOffend cs st.env spec o → (y : Outcome State) → ItemComes ds p2 st2 s y → Agree (StateSame r) (stops o) y
    declared_words_one o h1 y k = stops_then (WordsAgree r) (StateSame r) o y (decl_viewed ds p2 st2 s y place spec items h k) (words_off_one cs ds r e bc b st.env st2.env spec o (env_same r st st2 g) h1)

    declared_variables_one : (env : Env) (q : Qualified) (o : Offence) → IsSpecified cs st.env spec env q → SomeVariableOffends cs p (with_env env st) q items.items o → (y : Outcome State) → ItemComes ds p2 st2 s y → Agree (StateSame r) (stops o) y
    declared_variables_one env q o h1 h2 y k =
        gives_then (WordsAgree r) (StateSame r) (env, q) (stops o) y (decl_viewed ds p2 st2 s y place spec items h k) (specified_one cs ds r e bc b st.env st2.env spec env q (env_same r st st2 g) h1)
        (λ z m n. variables_off_one cs ds r e bc b p _ _ _ _ h2 p2 (with_env z.0 st2) z.1 f (with_env_same r env z.0 st st2 m.0 g) m.1 y n)

  -- ---- expressions in a block of their own

  module _ (st st2 : State) (x : Expr) (g : st2 ≡ state_as r st) where
    entered_typed : (env : Env) (u : TExpr) (o : Operand) → Types cs (entering st).env false x env u o → (y : Outcome Typing) → ExprComes ds (entering st2).env x y → Agree (TypingSame r) (gives (env, u, o)) y
    entered_typed env u o h = typed_one cs ds r e bc b (entering st).env (entering st2).env x env u o (env_same r (entering st) (entering st2) (entering_same r st st2 g)) h

    entered_off : (o : Offence) → Offends cs (entering st).env false x o → (y : Outcome Typing) → ExprComes ds (entering st2).env x y → Agree (TypingSame r) (stops o) y
    entered_off o h = expr_off_one cs ds r e bc b (entering st).env (entering st2).env x o (env_same r (entering st) (entering st2) (entering_same r st st2 g)) h

  -- ---- what is typed in the one table

  mutual
    pub items_one : (i0 : Setting) (i1 : State) (i2 : List Stmt) (i3 : State) (i4 : List TStmt) → ItemsAre cs i0 i1 i2 i3 i4 → (p2 : Setting) (st2 : State) → p2 ≡ setting_as r i0 → st2 ≡ state_as r i1 → (w : Outcome State) → ItemsCome ds p2 st2 i2 w → Agree (StateSame r) (gives i3) w
    items_one _ _ _ _ _ (no_item p st) p2 st2 f g w c =
        given (StateSame r) (gives st) w (gives st2) g (items_viewed ds p2 st2 [] w c)
    items_one _ _ _ _ _ (declaration_item p st typed middle after s ss place spec items env q ts us h0 h1 h2 h3) p2 st2 f g w c =
        gives_then (StateSame r) (StateSame r) middle (gives after) w (items_viewed ds p2 st2 (s ∷ ss) w c) (declared_one p p2 st st2 s place spec items h0 f g env q middle ts h1 h2)
        (λ z m n. items_one _ _ _ _ _ h3 p2 z f m w n)
    items_one _ _ _ _ _ (statement_item p st middle after s ss t ts h0 h1) p2 st2 f g w c =
        gives_then (StateSame r) (StateSame r) middle (gives after) w (items_viewed ds p2 st2 (s ∷ ss) w c)
        (λ y k. two k (λ d. no_statement cs p st s (gives middle) d.place d.spec d.items d.is (t, h0)) (λ x. stmt_one _ _ _ _ _ h0 p2 st2 f g y x))
        (λ z m n. items_one _ _ _ _ _ h1 p2 z f m w n)

    pub stmt_one : (i0 : Setting) (i1 : State) (i2 : Stmt) (i3 : State) (i4 : TStmt) → StmtIs cs i0 i1 i2 i3 i4 → (p2 : Setting) (st2 : State) → p2 ≡ setting_as r i0 → st2 ≡ state_as r i1 → (w : Outcome State) → StmtComes ds p2 st2 i2 w → Agree (StateSame r) (gives i3) w
    stmt_one _ _ _ _ _ (block p st after s place items ts t h0 h1 h2) p2 st2 f g w c =
        gives_then (StateSame r) (StateSame r) after (gives (leaving st after)) w (stmt_viewed ds p2 st2 s w place (node.Block items) (layer.Block items) h0 (block_layer items) c)
        (items_one _ _ _ _ _ h1 (inside p2) (entering st2) (inside_same r p p2 f) (entering_same r st st2 g))
        (λ z m k. given (StateSame r) (gives (leaving st after)) w (gives (leaving st2 z)) (leaving_same r st st2 after z g m) k)
    stmt_one _ _ _ _ _ (expression p st s place x env u o t h0 h1 h2) p2 st2 f g w c =
        gives_then (TypingSame r) (StateSame r) (env, u, o) (gives (with_env env st)) w (stmt_viewed ds p2 st2 s w place (node.Expr x) (layer.Expr x) h0 (expr_layer x) c) (typed_one cs ds r e bc b st.env st2.env x env u o (env_same r st st2 g) h1)
        (λ z m k. given (StateSame r) (gives (with_env env st)) w (gives (with_env z.0 st2)) (with_env_same r env z.0 st st2 m.0 g) k)
    stmt_one _ _ _ _ _ (choice p st after s place x arms env u o ts t h0 h1 h2 h3 h4) p2 st2 f g w c =
        gives_then (TypingSame r) (StateSame r) (env, u, o) (gives (leaving st after)) w (stmt_viewed ds p2 st2 s w place (node.If x arms) (layer.If x arms) h0 (if_layer x arms) c) (entered_typed st st2 x g env u o h1)
        (λ z m k. gives_then (StateSame r) (StateSame r) after (gives (leaving st after)) w k (arms_one _ _ _ _ _ h2 (inside p2) (with_env z.0 st2) (inside_same r p p2 f) (with_env_same r env z.0 st st2 m.0 g))
        (λ y m2 k2. tests_given r place w (no_condition o) (no_condition z.2) 318 (leaving st after) (leaving st2 y) (no_condition_same r o z.2 m.1) h3 (leaving_same r st st2 after y g m2) k2))
    stmt_one _ _ _ _ _ (while_loop p st after s place x body env u o ts t h0 h1 h2 h3 h4) p2 st2 f g w c =
        gives_then (TypingSame r) (StateSame r) (env, u, o) (gives (leaving st after)) w (stmt_viewed ds p2 st2 s w place (node.While x body) (layer.While x body) h0 (while_layer x body) c) (entered_typed st st2 x g env u o h1)
        (λ z m k. gives_then (StateSame r) (StateSame r) after (gives (leaving st after)) w k (arms_one _ _ _ _ _ h2 (in_loop p2) (with_env z.0 st2) (in_loop_same r p p2 f) (with_env_same r env z.0 st st2 m.0 g))
        (λ y m2 k2. tests_given r place w (no_condition o) (no_condition z.2) 318 (leaving st after) (leaving st2 y) (no_condition_same r o z.2 m.1) h3 (leaving_same r st st2 after y g m2) k2))
    stmt_one _ _ _ _ _ (do_loop p st middle s place x body env u o ts t h0 h1 h2 h3 h4) p2 st2 f g w c =
        gives_then (StateSame r) (StateSame r) middle (gives (leaving st (with_env env middle))) w (stmt_viewed ds p2 st2 s w place (node.Do body x) (layer.Do body x) h0 (do_layer body x) c)
        (arms_one _ _ _ _ _ h1 (in_loop p2) (entering st2) (in_loop_same r p p2 f) (entering_same r st st2 g))
        (λ y m2 k2. gives_then (TypingSame r) (StateSame r) (env, u, o) (gives (leaving st (with_env env middle))) w k2 (typed_one cs ds r e bc b middle.env y.env x env u o (env_same r middle y m2) h2)
        (λ z m k. tests_given r place w (no_condition o) (no_condition z.2) 318 (leaving st (with_env env middle)) (leaving st2 (with_env z.0 y)) (no_condition_same r o z.2 m.1) h3 (leaving_same r st st2 (with_env env middle) (with_env z.0 y) g (with_env_same r env z.0 middle y m.0 m2)) k))
    stmt_one _ _ _ _ _ (for_loop p st declared after s place decl body first cond next a1 b1 c1 t1 o1 u o t3 o3 us ts t h0 h1 h2 h3 h4 h5 h6 h7) p2 st2 f g w c =
        let v : Outcome State = gives (leaving st after) in
        gives_then (StateSame r) (StateSame r) declared v w (stmt_viewed ds p2 st2 s w place (node.For decl first cond next body) (layer.For decl first cond next body) h0 (for_layer decl first cond next body) c) (items_one _ _ _ _ _ h1 (inside p2) (entering st2) (inside_same r p p2 f) (entering_same r st st2 g))
        (λ d m k. gives_then (EnvSame r) (StateSame r) a1 v w k (may_be_one cs ds r e bc b _ _ _ _ _ h2 d.env (env_same r declared d m))
        (λ a2 m2 k2. gives_then (ConditionSame r) (StateSame r) (b1, o) v w k2 (condition_one cs ds r e bc b place _ _ _ _ _ h3 a2 m2)
        (λ z m3 k3. gives_then (EnvSame r) (StateSame r) c1 v w k3 (may_be_one cs ds r e bc b _ _ _ _ _ h4 z.0 m3.0)
        (λ c2 m4 k4. gives_then (StateSame r) (StateSame r) after v w k4 (arms_one _ _ _ _ _ h5 (in_loop p2) (with_env c2 d) (in_loop_same r p p2 f) (with_env_same r c1 c2 declared d m4 m))
        (λ y m5 k5. tests_given r place w (no_condition o) (no_condition z.1) 318 (leaving st after) (leaving st2 y) (no_condition_same r o z.1 m3.1) h6 (leaving_same r st st2 after y g m5) k5)))))
    stmt_one _ _ _ _ _ (switch p st after s place x groups env u v o sections t h0 h1 h2 h3 h4 h5) p2 st2 f g w c =
        gives_then (TypingSame r) (StateSame r) (env, u, o) (gives (leaving st after)) w (stmt_viewed ds p2 st2 s w place (node.Switch x groups) (layer.Switch x groups) h0 (switch_layer x groups) c) (entered_typed st st2 x g env u o h1)
        (λ z m k. gives_then (StateSame r) (StateSame r) after (gives (leaving st after)) w k (sections_one _ _ _ _ _ _ h2 (in_switch p2) (tested_first z.2.shape) (with_env z.0 (entering st2)) (in_switch_same r p p2 f) (tested_first_same r o z.2 m.1) (with_env_same r env z.0 (entering st) (entering st2) m.0 (entering_same r st st2 g)))
        (λ y m2 k2. tests_given r place w (no_switch o.shape) (no_switch z.2.shape) 318 (leaving st after) (leaving st2 y) (no_switch_same r o z.2 m.1) h3 (leaving_same r st st2 after y g m2) k2))
    stmt_one _ _ _ _ _ (break p st s place t h0 h1 h2) p2 st2 f g w c =
        tests_given r place w (not p.breaks) (not p2.breaks) 319 st st2 (ap (λ z. not z.breaks) f) (ap not h1) g (stmt_viewed ds p2 st2 s w place node.Break layer.Break h0 break_layer c)
    stmt_one _ _ _ _ _ (continue p st s place t h0 h1 h2) p2 st2 f g w c =
        tests_given r place w (not p.continues) (not p2.continues) 319 st st2 (ap (λ z. not z.continues) f) (ap not h1) g (stmt_viewed ds p2 st2 s w place node.Continue layer.Continue h0 continue_layer c)
    stmt_one _ _ _ _ _ (return p st s place t h0 h1 h2) p2 st2 f g w c =
        return_given r place w (return_tests cs p.result None) (return_tests ds p2.result None) st st2 (no_return_same cs ds r e p p2 f) h1 g (stmt_viewed ds p2 st2 s w place (node.Return None) (layer.Return None) h0 (return_layer None) c)
    stmt_one _ _ _ _ _ (return_value p st s place x env u v o t h0 h1 h2 h3 h4) p2 st2 f g w c =
        gives_then (TypingSame r) (StateSame r) (env, u, o) (gives (with_env env st)) w (stmt_viewed ds p2 st2 s w place (node.Return (Some x)) (layer.Return (Some x)) h0 (return_layer (Some x)) c) (typed_one cs ds r e bc b st.env st2.env x env u o (env_same r st st2 g) h1)
        (λ z m k. return_given r place w (return_tests cs p.result (Some o)) (return_tests ds p2.result (Some z.2)) (with_env env st) (with_env z.0 st2) (return_same cs ds r e p p2 o z.2 f m.1) h2 (with_env_same r env z.0 st st2 m.0 g) k)
    stmt_one _ _ _ _ _ (empty p st s place t h0 h1) p2 st2 f g w c =
        given (StateSame r) (gives st) w (gives st2) g (stmt_viewed ds p2 st2 s w place node.Empty layer.Empty h0 empty_layer c)

    pub arms_one : (i0 : Setting) (i1 : State) (i2 : List Stmt) (i3 : State) (i4 : List TStmt) → ArmsAre cs i0 i1 i2 i3 i4 → (p2 : Setting) (st2 : State) → p2 ≡ setting_as r i0 → st2 ≡ state_as r i1 → (w : Outcome State) → ArmsCome ds p2 st2 i2 w → Agree (StateSame r) (gives i3) w
    arms_one _ _ _ _ _ (no_arm p st) p2 st2 f g w c =
        given (StateSame r) (gives st) w (gives st2) g (arms_viewed ds p2 st2 [] w c)
    arms_one _ _ _ _ _ (more_arms p st middle after s ss t ts h0 h1) p2 st2 f g w c =
        gives_then (StateSame r) (StateSame r) middle (gives after) w (arms_viewed ds p2 st2 (s ∷ ss) w c)
        (λ y k. two k (λ d. no_statement cs p (entering st) s (gives middle) d.place d.spec d.items d.is (t, h0)) (λ x. stmt_one _ _ _ _ _ h0 p2 (entering st2) f (entering_same r st st2 g) y x))
        (λ z m k. arms_one _ _ _ _ _ h1 p2 (leaving st2 z) f (leaving_same r st st2 middle z g m) w k)
    arms_one _ _ _ _ _ (declaration_arm p st middle after s ss place spec items us t ts h0 h1 h2 h3) p2 st2 f g w c =
        gives_then (StateSame r) (StateSame r) middle (gives after) w (arms_viewed ds p2 st2 (s ∷ ss) w c)
        (λ y k. two k (λ d. items_one _ _ _ _ _ h1 p2 (entering st2) f (entering_same r st st2 g) y d.judged) (λ x. no_statement ds p2 (entering st2) s y place spec items h0 x))
        (λ z m k. arms_one _ _ _ _ _ h3 p2 (leaving st2 z) f (leaving_same r st st2 middle z g m) w k)

    pub sections_one : (i0 : Setting) (i1 : Tested) (i2 : State) (i3 : List Group) (i4 : State) (i5 : List Section) → SectionsAre cs i0 i1 i2 i3 i4 i5 → (p2 : Setting) (k2 : Tested) (st2 : State) → p2 ≡ setting_as r i0 → k2 ≡ i1 → st2 ≡ state_as r i2 → (w : Outcome State) → SectionsCome ds p2 k2 st2 i3 w → Agree (StateSame r) (gives i4) w
    sections_one _ _ _ _ _ _ (no_section p k st) p2 k2 st2 f l g w c =
        given (StateSame r) (gives st) w (gives st2) g (no_section_viewed ds p2 k2 st2 w c)
    sections_one _ _ _ _ _ _ (more_sections p k j st middle after x gs labels body env ls ts s ss h0 h1 h2 h3 h4) p2 k2 st2 f l g w c =
        gives_then (LabelsSame r) (StateSame r) (j, env) (gives after) w (section_viewed ds p2 k2 st2 x gs w labels body h0 c) (labels_one cs ds r e bc b _ _ _ _ _ _ _ h1 (falls k2 body gs) k2 st2.env (ap (λ z. falls z body gs) l) l (env_same r st st2 g))
        (λ z m n. gives_then (StateSame r) (StateSame r) middle (gives after) w n (items_one _ _ _ _ _ h2 p2 (with_env z.1 st2) f (with_env_same r env z.1 st st2 m.1 g))
        (λ y m2 n2. sections_one _ _ _ _ _ _ h4 p2 (behind_section (list_ends body) z.0) y f (ap (behind_section (list_ends body)) m.0) m2 w n2))

  -- ---- what has an offence in the one table

  mutual
    pub items_off_one : (i0 : Setting) (i1 : State) (i2 : List Stmt) (i3 : Offence) → ItemsOffend cs i0 i1 i2 i3 → (p2 : Setting) (st2 : State) → p2 ≡ setting_as r i0 → st2 ≡ state_as r i1 → (w : Outcome State) → ItemsCome ds p2 st2 i2 w → Agree (StateSame r) (stops i3) w
    items_off_one _ _ _ _ (in_words p st s ss place spec items o h0 h1) p2 st2 f g w c =
        stops_then (StateSame r) (StateSame r) o w (items_viewed ds p2 st2 (s ∷ ss) w c) (declared_words_one p p2 st st2 s place spec items h0 f g o h1)
    items_off_one _ _ _ _ (in_variables p st s ss place spec items env q o h0 h1 h2) p2 st2 f g w c =
        stops_then (StateSame r) (StateSame r) o w (items_viewed ds p2 st2 (s ∷ ss) w c) (declared_variables_one p p2 st st2 s place spec items h0 f g env q o h1 h2)
    items_off_one _ _ _ _ (in_statement p st s ss o h0) p2 st2 f g w c =
        stops_then (StateSame r) (StateSame r) o w (items_viewed ds p2 st2 (s ∷ ss) w c)
        (λ y k. two k (λ d. no_statement cs p st s (stops o) d.place d.spec d.items d.is h0) (λ x. stmt_off_one _ _ _ _ h0 p2 st2 f g y x))
    items_off_one _ _ _ _ (behind_declaration p st middle s ss place spec items env q ts o h0 h1 h2 h3) p2 st2 f g w c =
        gives_then (StateSame r) (StateSame r) middle (stops o) w (items_viewed ds p2 st2 (s ∷ ss) w c) (declared_one p p2 st st2 s place spec items h0 f g env q middle ts h1 h2)
        (λ z m n. items_off_one _ _ _ _ h3 p2 z f m w n)
    items_off_one _ _ _ _ (behind_statement p st middle s ss t o h0 h1) p2 st2 f g w c =
        gives_then (StateSame r) (StateSame r) middle (stops o) w (items_viewed ds p2 st2 (s ∷ ss) w c)
        (λ y k. two k (λ d. no_statement cs p st s (gives middle) d.place d.spec d.items d.is (t, h0)) (λ x. stmt_one _ _ _ _ _ h0 p2 st2 f g y x))
        (λ z m n. items_off_one _ _ _ _ h1 p2 z f m w n)

    pub stmt_off_one : (i0 : Setting) (i1 : State) (i2 : Stmt) (i3 : Offence) → StmtOffends cs i0 i1 i2 i3 → (p2 : Setting) (st2 : State) → p2 ≡ setting_as r i0 → st2 ≡ state_as r i1 → (w : Outcome State) → StmtComes ds p2 st2 i2 w → Agree (StateSame r) (stops i3) w
    stmt_off_one _ _ _ _ (in_block p st s place items o h0 h1) p2 st2 f g w c =
        stops_then (StateSame r) (StateSame r) o w (stmt_viewed ds p2 st2 s w place (node.Block items) (layer.Block items) h0 (block_layer items) c) (items_off_one _ _ _ _ h1 (inside p2) (entering st2) (inside_same r p p2 f) (entering_same r st st2 g))
    stmt_off_one _ _ _ _ (in_expression p st s place x o h0 h1) p2 st2 f g w c =
        stops_then (TypingSame r) (StateSame r) o w (stmt_viewed ds p2 st2 s w place (node.Expr x) (layer.Expr x) h0 (expr_layer x) c) (expr_off_one cs ds r e bc b st.env st2.env x o (env_same r st st2 g) h1)
    stmt_off_one _ _ _ _ (in_test p st s place x arms o h0 h1) p2 st2 f g w c =
        stops_then (TypingSame r) (StateSame r) o w (stmt_viewed ds p2 st2 s w place (node.If x arms) (layer.If x arms) h0 (if_layer x arms) c) (entered_off st st2 x g o h1)
    stmt_off_one _ _ _ _ (in_arms p st s place x arms env u q o h0 h1 h2) p2 st2 f g w c =
        gives_then (TypingSame r) (StateSame r) (env, u, q) (stops o) w (stmt_viewed ds p2 st2 s w place (node.If x arms) (layer.If x arms) h0 (if_layer x arms) c) (entered_typed st st2 x g env u q h1)
        (λ z m k. stops_then (StateSame r) (StateSame r) o w k (arms_off_one _ _ _ _ h2 (inside p2) (with_env z.0 st2) (inside_same r p p2 f) (with_env_same r env z.0 st st2 m.0 g)))
    stmt_off_one _ _ _ _ (no_test p st after s place x arms env u q ts h0 h1 h2 h3) p2 st2 f g w c =
        gives_then (TypingSame r) (StateSame r) (env, u, q) (stops (at 318 place)) w (stmt_viewed ds p2 st2 s w place (node.If x arms) (layer.If x arms) h0 (if_layer x arms) c) (entered_typed st st2 x g env u q h1)
        (λ z m k. gives_then (StateSame r) (StateSame r) after (stops (at 318 place)) w k (arms_one _ _ _ _ _ h2 (inside p2) (with_env z.0 st2) (inside_same r p p2 f) (with_env_same r env z.0 st st2 m.0 g))
        (λ y m2 k2. tests_broken r place w (no_condition q) (no_condition z.2) 318 (leaving st2 y) (no_condition_same r q z.2 m.1) h3 k2))
    stmt_off_one _ _ _ _ (in_while p st s place x body o h0 h1) p2 st2 f g w c =
        stops_then (TypingSame r) (StateSame r) o w (stmt_viewed ds p2 st2 s w place (node.While x body) (layer.While x body) h0 (while_layer x body) c) (entered_off st st2 x g o h1)
    stmt_off_one _ _ _ _ (in_while_body p st s place x body env u q o h0 h1 h2) p2 st2 f g w c =
        gives_then (TypingSame r) (StateSame r) (env, u, q) (stops o) w (stmt_viewed ds p2 st2 s w place (node.While x body) (layer.While x body) h0 (while_layer x body) c) (entered_typed st st2 x g env u q h1)
        (λ z m k. stops_then (StateSame r) (StateSame r) o w k (arms_off_one _ _ _ _ h2 (in_loop p2) (with_env z.0 st2) (in_loop_same r p p2 f) (with_env_same r env z.0 st st2 m.0 g)))
    stmt_off_one _ _ _ _ (no_while p st after s place x body env u q ts h0 h1 h2 h3) p2 st2 f g w c =
        gives_then (TypingSame r) (StateSame r) (env, u, q) (stops (at 318 place)) w (stmt_viewed ds p2 st2 s w place (node.While x body) (layer.While x body) h0 (while_layer x body) c) (entered_typed st st2 x g env u q h1)
        (λ z m k. gives_then (StateSame r) (StateSame r) after (stops (at 318 place)) w k (arms_one _ _ _ _ _ h2 (in_loop p2) (with_env z.0 st2) (in_loop_same r p p2 f) (with_env_same r env z.0 st st2 m.0 g))
        (λ y m2 k2. tests_broken r place w (no_condition q) (no_condition z.2) 318 (leaving st2 y) (no_condition_same r q z.2 m.1) h3 k2))
    stmt_off_one _ _ _ _ (in_do_body p st s place x body o h0 h1) p2 st2 f g w c =
        stops_then (StateSame r) (StateSame r) o w (stmt_viewed ds p2 st2 s w place (node.Do body x) (layer.Do body x) h0 (do_layer body x) c) (arms_off_one _ _ _ _ h1 (in_loop p2) (entering st2) (in_loop_same r p p2 f) (entering_same r st st2 g))
    stmt_off_one _ _ _ _ (in_do p st middle s place x body ts o h0 h1 h2) p2 st2 f g w c =
        gives_then (StateSame r) (StateSame r) middle (stops o) w (stmt_viewed ds p2 st2 s w place (node.Do body x) (layer.Do body x) h0 (do_layer body x) c) (arms_one _ _ _ _ _ h1 (in_loop p2) (entering st2) (in_loop_same r p p2 f) (entering_same r st st2 g))
        (λ y m2 k2. stops_then (TypingSame r) (StateSame r) o w k2 (expr_off_one cs ds r e bc b middle.env y.env x o (env_same r middle y m2) h2))
    stmt_off_one _ _ _ _ (no_do p st middle s place x body ts env u q h0 h1 h2 h3) p2 st2 f g w c =
        gives_then (StateSame r) (StateSame r) middle (stops (at 318 place)) w (stmt_viewed ds p2 st2 s w place (node.Do body x) (layer.Do body x) h0 (do_layer body x) c) (arms_one _ _ _ _ _ h1 (in_loop p2) (entering st2) (in_loop_same r p p2 f) (entering_same r st st2 g))
        (λ y m2 k2. gives_then (TypingSame r) (StateSame r) (env, u, q) (stops (at 318 place)) w k2 (typed_one cs ds r e bc b middle.env y.env x env u q (env_same r middle y m2) h2)
        (λ z m k. tests_broken r place w (no_condition q) (no_condition z.2) 318 (leaving st2 (with_env z.0 y)) (no_condition_same r q z.2 m.1) h3 k))
    stmt_off_one _ _ _ _ (in_for p st s place decl body first cond next o h0 h1) p2 st2 f g w c =
        for_off_one _ _ _ _ _ _ _ _ _ h1 p2 st2 (entering st2) f (entering_same r st st2 g) w (stmt_viewed ds p2 st2 s w place (node.For decl first cond next body) (layer.For decl first cond next body) h0 (for_layer decl first cond next body) c)
    stmt_off_one _ _ _ _ (in_switch_value p st s place x groups o h0 h1) p2 st2 f g w c =
        stops_then (TypingSame r) (StateSame r) o w (stmt_viewed ds p2 st2 s w place (node.Switch x groups) (layer.Switch x groups) h0 (switch_layer x groups) c) (entered_off st st2 x g o h1)
    stmt_off_one _ _ _ _ (in_sections p st s place x groups env u q o h0 h1 h2) p2 st2 f g w c =
        gives_then (TypingSame r) (StateSame r) (env, u, q) (stops o) w (stmt_viewed ds p2 st2 s w place (node.Switch x groups) (layer.Switch x groups) h0 (switch_layer x groups) c) (entered_typed st st2 x g env u q h1)
        (λ z m k. stops_then (StateSame r) (StateSame r) o w k (sections_off_one _ _ _ _ _ h2 (in_switch p2) (tested_first z.2.shape) (with_env z.0 (entering st2)) (in_switch_same r p p2 f) (tested_first_same r q z.2 m.1) (with_env_same r env z.0 (entering st) (entering st2) m.0 (entering_same r st st2 g))))
    stmt_off_one _ _ _ _ (bad_switch p st after s place x groups env u q sections h0 h1 h2 h3) p2 st2 f g w c =
        gives_then (TypingSame r) (StateSame r) (env, u, q) (stops (at 318 place)) w (stmt_viewed ds p2 st2 s w place (node.Switch x groups) (layer.Switch x groups) h0 (switch_layer x groups) c) (entered_typed st st2 x g env u q h1)
        (λ z m k. gives_then (StateSame r) (StateSame r) after (stops (at 318 place)) w k (sections_one _ _ _ _ _ _ h2 (in_switch p2) (tested_first z.2.shape) (with_env z.0 (entering st2)) (in_switch_same r p p2 f) (tested_first_same r q z.2 m.1) (with_env_same r env z.0 (entering st) (entering st2) m.0 (entering_same r st st2 g)))
        (λ y m2 k2. tests_broken r place w (no_switch q.shape) (no_switch z.2.shape) 318 (leaving st2 y) (no_switch_same r q z.2 m.1) h3 k2))
    stmt_off_one _ _ _ _ (no_break p st s place h0 h1) p2 st2 f g w c =
        tests_broken r place w (not p.breaks) (not p2.breaks) 319 st2 (ap (λ z. not z.breaks) f) (ap not h1) (stmt_viewed ds p2 st2 s w place node.Break layer.Break h0 break_layer c)
    stmt_off_one _ _ _ _ (no_continue p st s place h0 h1) p2 st2 f g w c =
        tests_broken r place w (not p.continues) (not p2.continues) 319 st2 (ap (λ z. not z.continues) f) (ap not h1) (stmt_viewed ds p2 st2 s w place node.Continue layer.Continue h0 continue_layer c)
    stmt_off_one _ _ _ _ (in_return p st s place x o h0 h1) p2 st2 f g w c =
        stops_then (TypingSame r) (StateSame r) o w (stmt_viewed ds p2 st2 s w place (node.Return (Some x)) (layer.Return (Some x)) h0 (return_layer (Some x)) c) (expr_off_one cs ds r e bc b st.env st2.env x o (env_same r st st2 g) h1)
    stmt_off_one _ _ _ _ (no_return p st s place code h0 h1) p2 st2 f g w c =
        return_broken r place w (return_tests cs p.result None) (return_tests ds p2.result None) code st2 (no_return_same cs ds r e p p2 f) h1 (stmt_viewed ds p2 st2 s w place (node.Return None) (layer.Return None) h0 (return_layer None) c)
    stmt_off_one _ _ _ _ (no_return_value p st s place x env u q code h0 h1 h2) p2 st2 f g w c =
        gives_then (TypingSame r) (StateSame r) (env, u, q) (stops (at code place)) w (stmt_viewed ds p2 st2 s w place (node.Return (Some x)) (layer.Return (Some x)) h0 (return_layer (Some x)) c) (typed_one cs ds r e bc b st.env st2.env x env u q (env_same r st st2 g) h1)
        (λ z m k. return_broken r place w (return_tests cs p.result (Some q)) (return_tests ds p2.result (Some z.2)) code (with_env z.0 st2) (return_same cs ds r e p p2 q z.2 f m.1) h2 k)

    pub for_off_one : (i0 : Setting) (i1 : Place) (i2 : State) (i3 : List Stmt) (i4 i5 i6 : Option Expr) (i7 : List Stmt) (i8 : Offence) → ForOffends cs i0 i1 i2 i3 i4 i5 i6 i7 i8 → (p2 : Setting) (outer2 st2 : State) → p2 ≡ setting_as r i0 → st2 ≡ state_as r i2 → (w : Outcome State) → ForBy ds p2 i1 outer2 st2 i3 i4 i5 i6 i7 w → Agree (StateSame r) (stops i8) w
    for_off_one _ _ _ _ _ _ _ _ _ (in_declaration p place st decl body first cond next o h0) p2 outer2 st2 f g w c =
        stops_then (StateSame r) (StateSame r) o w c (items_off_one _ _ _ _ h0 (inside p2) st2 (inside_same r p p2 f) g)
    for_off_one _ _ _ _ _ _ _ _ _ (in_first p place st declared decl body first cond next us o h0 h1) p2 outer2 st2 f g w c =
        gives_then (StateSame r) (StateSame r) declared (stops o) w c (items_one _ _ _ _ _ h0 (inside p2) st2 (inside_same r p p2 f) g)
        (λ d m k. stops_then (EnvSame r) (StateSame r) o w k (may_be_off_one cs ds r e bc b _ _ _ h1 d.env (env_same r declared d m)))
    for_off_one _ _ _ _ _ _ _ _ _ (in_condition p place st declared decl body first cond next us a1 t1 o1 o h0 h1 h2) p2 outer2 st2 f g w c =
        gives_then (StateSame r) (StateSame r) declared (stops o) w c (items_one _ _ _ _ _ h0 (inside p2) st2 (inside_same r p p2 f) g)
        (λ d m k. gives_then (EnvSame r) (StateSame r) a1 (stops o) w k (may_be_one cs ds r e bc b _ _ _ _ _ h1 d.env (env_same r declared d m))
        (λ a2 m2 k2. stops_then (ConditionSame r) (StateSame r) o w k2 (condition_off_one cs ds r e bc b place _ _ _ h2 a2 m2)))
    for_off_one _ _ _ _ _ _ _ _ _ (in_next p place st declared decl body first cond next us a1 b1 t1 o1 u q o h0 h1 h2 h3) p2 outer2 st2 f g w c =
        gives_then (StateSame r) (StateSame r) declared (stops o) w c (items_one _ _ _ _ _ h0 (inside p2) st2 (inside_same r p p2 f) g)
        (λ d m k. gives_then (EnvSame r) (StateSame r) a1 (stops o) w k (may_be_one cs ds r e bc b _ _ _ _ _ h1 d.env (env_same r declared d m))
        (λ a2 m2 k2. gives_then (ConditionSame r) (StateSame r) (b1, q) (stops o) w k2 (condition_one cs ds r e bc b place _ _ _ _ _ h2 a2 m2)
        (λ z m3 k3. stops_then (EnvSame r) (StateSame r) o w k3 (may_be_off_one cs ds r e bc b _ _ _ h3 z.0 m3.0))))
    for_off_one _ _ _ _ _ _ _ _ _ (in_body p place st declared decl body first cond next us a1 b1 c1 t1 t3 o1 o3 u q o h0 h1 h2 h3 h4) p2 outer2 st2 f g w c =
        gives_then (StateSame r) (StateSame r) declared (stops o) w c (items_one _ _ _ _ _ h0 (inside p2) st2 (inside_same r p p2 f) g)
        (λ d m k. gives_then (EnvSame r) (StateSame r) a1 (stops o) w k (may_be_one cs ds r e bc b _ _ _ _ _ h1 d.env (env_same r declared d m))
        (λ a2 m2 k2. gives_then (ConditionSame r) (StateSame r) (b1, q) (stops o) w k2 (condition_one cs ds r e bc b place _ _ _ _ _ h2 a2 m2)
        (λ z m3 k3. gives_then (EnvSame r) (StateSame r) c1 (stops o) w k3 (may_be_one cs ds r e bc b _ _ _ _ _ h3 z.0 m3.0)
        (λ c2 m4 k4. stops_then (StateSame r) (StateSame r) o w k4 (arms_off_one _ _ _ _ h4 (in_loop p2) (with_env c2 d) (in_loop_same r p p2 f) (with_env_same r c1 c2 declared d m4 m))))))
    for_off_one _ _ _ _ _ _ _ _ _ (no_for p place st declared after decl body first cond next us ts a1 b1 c1 t1 t3 o1 o3 u q h0 h1 h2 h3 h4 h5) p2 outer2 st2 f g w c =
        gives_then (StateSame r) (StateSame r) declared (stops (at 318 place)) w c (items_one _ _ _ _ _ h0 (inside p2) st2 (inside_same r p p2 f) g)
        (λ d m k. gives_then (EnvSame r) (StateSame r) a1 (stops (at 318 place)) w k (may_be_one cs ds r e bc b _ _ _ _ _ h1 d.env (env_same r declared d m))
        (λ a2 m2 k2. gives_then (ConditionSame r) (StateSame r) (b1, q) (stops (at 318 place)) w k2 (condition_one cs ds r e bc b place _ _ _ _ _ h2 a2 m2)
        (λ z m3 k3. gives_then (EnvSame r) (StateSame r) c1 (stops (at 318 place)) w k3 (may_be_one cs ds r e bc b _ _ _ _ _ h3 z.0 m3.0)
        (λ c2 m4 k4. gives_then (StateSame r) (StateSame r) after (stops (at 318 place)) w k4 (arms_one _ _ _ _ _ h4 (in_loop p2) (with_env c2 d) (in_loop_same r p p2 f) (with_env_same r c1 c2 declared d m4 m))
        (λ y m5 k5. tests_broken r place w (no_condition q) (no_condition z.1) 318 (leaving outer2 y) (no_condition_same r q z.1 m3.1) h5 k5)))))

    pub arms_off_one : (i0 : Setting) (i1 : State) (i2 : List Stmt) (i3 : Offence) → ArmsOffend cs i0 i1 i2 i3 → (p2 : Setting) (st2 : State) → p2 ≡ setting_as r i0 → st2 ≡ state_as r i1 → (w : Outcome State) → ArmsCome ds p2 st2 i2 w → Agree (StateSame r) (stops i3) w
    arms_off_one _ _ _ _ (in_arm p st s ss o h0) p2 st2 f g w c =
        stops_then (StateSame r) (StateSame r) o w (arms_viewed ds p2 st2 (s ∷ ss) w c)
        (λ y k. two k (λ d. no_statement cs p (entering st) s (stops o) d.place d.spec d.items d.is h0) (λ x. stmt_off_one _ _ _ _ h0 p2 (entering st2) f (entering_same r st st2 g) y x))
    arms_off_one _ _ _ _ (in_declaration_arm p st s ss place spec items o h0 h1) p2 st2 f g w c =
        stops_then (StateSame r) (StateSame r) o w (arms_viewed ds p2 st2 (s ∷ ss) w c)
        (λ y k. two k (λ d. items_off_one _ _ _ _ h1 p2 (entering st2) f (entering_same r st st2 g) y d.judged) (λ x. no_statement ds p2 (entering st2) s y place spec items h0 x))
    arms_off_one _ _ _ _ (behind_declaration_arm p st middle s ss place spec items us o h0 h1 h2) p2 st2 f g w c =
        gives_then (StateSame r) (StateSame r) middle (stops o) w (arms_viewed ds p2 st2 (s ∷ ss) w c)
        (λ y k. two k (λ d. items_one _ _ _ _ _ h1 p2 (entering st2) f (entering_same r st st2 g) y d.judged) (λ x. no_statement ds p2 (entering st2) s y place spec items h0 x))
        (λ z m k. arms_off_one _ _ _ _ h2 p2 (leaving st2 z) f (leaving_same r st st2 middle z g m) w k)
    arms_off_one _ _ _ _ (behind_arm p st middle s ss t o h0 h1) p2 st2 f g w c =
        gives_then (StateSame r) (StateSame r) middle (stops o) w (arms_viewed ds p2 st2 (s ∷ ss) w c)
        (λ y k. two k (λ d. no_statement cs p (entering st) s (gives middle) d.place d.spec d.items d.is (t, h0)) (λ x. stmt_one _ _ _ _ _ h0 p2 (entering st2) f (entering_same r st st2 g) y x))
        (λ z m k. arms_off_one _ _ _ _ h1 p2 (leaving st2 z) f (leaving_same r st st2 middle z g m) w k)

    pub sections_off_one : (i0 : Setting) (i1 : Tested) (i2 : State) (i3 : List Group) (i4 : Offence) → SectionsOffend cs i0 i1 i2 i3 i4 → (p2 : Setting) (k2 : Tested) (st2 : State) → p2 ≡ setting_as r i0 → k2 ≡ i1 → st2 ≡ state_as r i2 → (w : Outcome State) → SectionsCome ds p2 k2 st2 i3 w → Agree (StateSame r) (stops i4) w
    sections_off_one _ _ _ _ _ (in_labels p k st x gs labels body o h0 h1) p2 k2 st2 f l g w c =
        stops_then (LabelsSame r) (StateSame r) o w (section_viewed ds p2 k2 st2 x gs w labels body h0 c) (labels_off_one cs ds r e bc b _ _ _ _ _ h1 (falls k2 body gs) k2 st2.env (ap (λ z. falls z body gs) l) l (env_same r st st2 g))
    sections_off_one _ _ _ _ _ (in_section_items p k j st x gs labels body env ls o h0 h1 h2) p2 k2 st2 f l g w c =
        gives_then (LabelsSame r) (StateSame r) (j, env) (stops o) w (section_viewed ds p2 k2 st2 x gs w labels body h0 c) (labels_one cs ds r e bc b _ _ _ _ _ _ _ h1 (falls k2 body gs) k2 st2.env (ap (λ z. falls z body gs) l) l (env_same r st st2 g))
        (λ z m n. stops_then (StateSame r) (StateSame r) o w n (items_off_one _ _ _ _ h2 p2 (with_env z.1 st2) f (with_env_same r env z.1 st st2 m.1 g)))
    sections_off_one _ _ _ _ _ (after_section p k j st middle x gs labels body env ls ts o h0 h1 h2 h3) p2 k2 st2 f l g w c =
        gives_then (LabelsSame r) (StateSame r) (j, env) (stops o) w (section_viewed ds p2 k2 st2 x gs w labels body h0 c) (labels_one cs ds r e bc b _ _ _ _ _ _ _ h1 (falls k2 body gs) k2 st2.env (ap (λ z. falls z body gs) l) l (env_same r st st2 g))
        (λ z m n. gives_then (StateSame r) (StateSame r) middle (stops o) w n (items_one _ _ _ _ _ h2 p2 (with_env z.1 st2) f (with_env_same r env z.1 st st2 m.1 g))
        (λ y m2 n2. sections_off_one _ _ _ _ _ h3 p2 (behind_section (list_ends body) z.0) y f (ap (behind_section (list_ends body)) m.0) m2 w n2))
