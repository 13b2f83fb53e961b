-- What a judgement of a statement or of a list says, by the node that the statement has and by the list's form.
use Rattle.std.specs.Global.{Vec}
use Rattle.std.proofs.Common.{◌≡◌, ℕ, List, [], ◌∷◌, refl, sym, ap, ◌∙◌, subst, Bool, true, false, not, ◌⊎◌, inl, inr, Option, Some, None}
use Rattle.clv_place.specs.declared.place.Place.{Place}
use Rattle.clv_place.specs.declared.stop.Offence.{Offence}
use Rattle.cl_types.specs.declared.types.ClType.{ClType}
use Rattle.cl_ast.specs.declared.declaration.InitDeclor.{InitDeclor}
use Rattle.cl_ast.specs.declared.expression.Expr.{Expr}
use Rattle.cl_ast.specs.declared.expression.Spec.{Spec}
use Rattle.cl_ast.specs.declared.statement.Stmt.{Stmt}
use Rattle.cl_ast.specs.declared.statement.Group.{Group}
use Rattle.cl_ast.specs.declared.statement.Label.{Label}
use Rattle.cl_ast.specs.declared.statement.StmtNode.{StmtNode}
use Rattle.cl_ast.specs.declared.statement.StmtNode.TheVariants as node
use Rattle.cl_ast.specs.declared.statement.StmtNode.TheOpen as layer
use Rattle.cl_ast.specs.declared.statement.StmtNode.TheViews.{out-Stmt, out-Group}
use Rattle.cl_tree.specs.declared.statement.TStmt.{TStmt}
use Rattle.cl_tree.specs.declared.statement.Section.{Section}
use Rattle.cl_rules.specs.Operands.{first_broken}
use Rattle.cl_type_expr.specs.Offences.{at}
use Rattle.cl_type_expr.specs.Syntax.{IsStmt, IsGroup}
use Rattle.cl_typing.specs.declared.label.Tested.{Tested}
use Rattle.cl_typing.specs.declared.setting.Setting.{Setting}
use Rattle.cl_typing.specs.Settings.{State, with_env, entering, leaving, inside, in_loop, in_switch}
use Rattle.cl_typing.specs.Statements.{list_ends, no_condition, no_switch, return_tests, tested_first, behind_section, falls, ItemsAre, no_item, declaration_item, statement_item, StmtIs, block, expression, choice, while_loop, do_loop, for_loop, switch, break, continue, return, return_value, empty, ArmsAre, no_arm, more_arms, declaration_arm, SectionsAre, no_section, more_sections, ItemsOffend, in_words, in_variables, in_statement, behind_declaration, behind_statement, StmtOffends, in_block, in_expression, in_test, in_arms, no_test, in_while, in_while_body, no_while, in_do_body, in_do, no_do, in_for, in_switch_value, in_sections, bad_switch, no_break, no_continue, in_return, no_return, no_return_value, ForOffends, in_declaration, in_first, in_condition, in_next, in_body, no_for, ArmsOffend, in_arm, in_declaration_arm, behind_declaration_arm, behind_arm, SectionsOffend, in_labels, in_section_items, after_section}
use Rattle.cl_verdicts.proofs.StatementLayers.{Layer, layer_of, block_layer, decl_layer, expr_layer, if_layer, while_layer, do_layer, for_layer, switch_layer, break_layer, continue_layer, return_layer, empty_layer}
use Rattle.cl_verdicts.proofs.StatementOutcomes.{Outcome, gives, stops, code_if, offence_at, Unless, no_offence, an_offence, no_code, a_code, First, behind, stopped, passes, fails}
use Rattle.cl_verdicts.proofs.StatementParts.{ExprComes, WordsCome, MayBeComes, ConditionComes, VariablesCome}
use Rattle.cl_verdicts.proofs.StatementLabels.{LabelsCome}

-- ---- what statements come to

abbrev pub ItemsCome : List ClType → Setting → State → List Stmt → Outcome State → Type 0
ItemsCome cs p st ss (gives after) = (ts : List TStmt) × ItemsAre cs p st ss after ts
ItemsCome cs p st ss (stops o) = ItemsOffend cs p st ss o

abbrev pub StmtComes : List ClType → Setting → State → Stmt → Outcome State → Type 0
StmtComes cs p st s (gives after) = (t : TStmt) × StmtIs cs p st s after t
StmtComes cs p st s (stops o) = StmtOffends cs p st s o

abbrev pub ArmsCome : List ClType → Setting → State → List Stmt → Outcome State → Type 0
ArmsCome cs p st ss (gives after) = (ts : List TStmt) × ArmsAre cs p st ss after ts
ArmsCome cs p st ss (stops o) = ArmsOffend cs p st ss o

abbrev pub SectionsCome : List ClType → Setting → Tested → State → List Group → Outcome State → Type 0
SectionsCome cs p k st gs (gives after) = (ss : List Section) × SectionsAre cs p k st gs after ss
SectionsCome cs p k st gs (stops o) = SectionsOffend cs p k st gs o

-- ---- one statement

-- a test with a code of its own, and the state behind it
abbrev pub Tests : Bool → ℕ → Place → State → Outcome State → Type 0
Tests wrong code place after v = Unless (offence_at (code_if wrong code) place) (λ w. w ≡ gives after) v

abbrev pub FitsReturn : List (ℕ × Bool) → Place → State → Outcome State → Type 0
FitsReturn tests place after v = Unless (offence_at (first_broken tests) place) (λ w. w ≡ gives after) v

-- the parts of `for`, and the state behind the whole
abbrev pub ForBy : List ClType → Setting → Place → State → State → List Stmt → Option Expr → Option Expr → Option Expr → List Stmt → Outcome State → Type 0
ForBy cs p place outer st decl first cond next body v =
    First (ItemsCome cs (inside p) st decl)
    (λ declared v1. First (MayBeComes cs declared.env first)
    (λ a v2. First (ConditionComes cs place a cond)
    (λ c v3. First (MayBeComes cs c.0 next)
    (λ n v4. First (ArmsCome cs (in_loop p) (with_env n declared) body)
    (λ after v5. Tests (no_condition c.1) 318 place (leaving outer after) v5) v4) v3) v2) v1) v

abbrev pub StmtBy : List ClType → Setting → State → Place → Layer → Outcome State → Type 0
StmtBy cs p st place (layer.Block items) v = First (ItemsCome cs (inside p) (entering st) items.items) (λ after w. w ≡ gives (leaving st after)) v
StmtBy cs p st place (layer.Decl spec items) v = ⊥
StmtBy cs p st place (layer.Expr e) v = First (ExprComes cs st.env e) (λ a w. w ≡ gives (with_env a.0 st)) v
StmtBy cs p st place (layer.If e arms) v =
    First (ExprComes cs (entering st).env e) (λ a w. First (ArmsCome cs (inside p) (with_env a.0 st) arms.items) (λ after x. Tests (no_condition a.2) 318 place (leaving st after) x) w) v
StmtBy cs p st place (layer.While e body) v =
    First (ExprComes cs (entering st).env e) (λ a w. First (ArmsCome cs (in_loop p) (with_env a.0 st) body.items) (λ after x. Tests (no_condition a.2) 318 place (leaving st after) x) w) v
StmtBy cs p st place (layer.Do body e) v =
    First (ArmsCome cs (in_loop p) (entering st) body.items) (λ middle w. First (ExprComes cs middle.env e) (λ a x. Tests (no_condition a.2) 318 place (leaving st (with_env a.0 middle)) x) w) v
StmtBy cs p st place (layer.For decl first cond next body) v = ForBy cs p place st (entering st) decl.items first cond next body.items v
StmtBy cs p st place (layer.Switch e groups) v =
    First (ExprComes cs (entering st).env e)
    (λ a w. First (SectionsCome cs (in_switch p) (tested_first a.2.shape) (with_env a.0 (entering st)) groups.items) (λ after x. Tests (no_switch a.2.shape) 318 place (leaving st after) x) w) v
StmtBy cs p st place layer.Break v = Tests (not p.breaks) 319 place st v
StmtBy cs p st place layer.Continue v = Tests (not p.continues) 319 place st v
StmtBy cs p st place (layer.Return None) v = FitsReturn (return_tests cs p.result None) place st v
StmtBy cs p st place (layer.Return (Some e)) v = First (ExprComes cs st.env e) (λ a w. FitsReturn (return_tests cs p.result (Some a.2)) place (with_env a.0 st) w) v
StmtBy cs p st place layer.Empty v = v ≡ gives st

module _ (cs : List ClType) (p : Setting) (st : State) (s : Stmt) (v : Outcome State) (place : Place) (n : StmtNode) (l : Layer) (h : IsStmt s place n) (g : layer_of n ≡ l) where
  to_own : StmtBy cs p st place l v → StmtBy cs p st (out-Stmt s).place (layer_of (out-Stmt s).node) v
  to_own x = subst (λ z. StmtBy cs p st z (layer_of (out-Stmt s).node) v) (sym h.at) (subst (λ z. StmtBy cs p st place z v) (sym (ap layer_of h.is ∙ g)) x)

  from_own : StmtBy cs p st (out-Stmt s).place (layer_of (out-Stmt s).node) v → StmtBy cs p st place l v
  from_own x = subst (λ z. StmtBy cs p st z l v) h.at (subst (λ z. StmtBy cs p st (out-Stmt s).place z v) (ap layer_of h.is ∙ g) x)

right : {after : State} (b : Bool) (code : ℕ) (place : Place) → b ≡ false → Tests b code place after (gives after)
right b code place h = passes (no_offence (code_if b code) place (no_code b code h)) refl

wrong : {after : State} (b : Bool) (code : ℕ) (place : Place) → b ≡ true → Tests b code place after (stops (at code place))
wrong b code place h = fails (at code place) (an_offence (code_if b code) code place (a_code b code h))

stmt_view : (cs : List ClType) (i0 : Setting) (i1 : State) (i2 : Stmt) (i3 : State) (i4 : TStmt) → StmtIs cs i0 i1 i2 i3 i4 → StmtBy cs i0 i1 (out-Stmt i2).place (layer_of (out-Stmt i2).node) (gives i3)
stmt_view cs _ _ _ _ _ (block p st after s place items ts t h0 h1 h2) =
    to_own cs p st s (gives (leaving st after)) place (node.Block items) (layer.Block items) h0 (block_layer items) (behind after (gives (leaving st after)) (ts.items, h1) refl)
stmt_view cs _ _ _ _ _ (expression p st s place e env u o t h0 h1 h2) =
    to_own cs p st s (gives (with_env env st)) place (node.Expr e) (layer.Expr e) h0 (expr_layer e) (behind (env, u, o) (gives (with_env env st)) h1 refl)
stmt_view cs _ _ _ _ _ (choice p st after s place e arms env u o ts t h0 h1 h2 h3 h4) =
    to_own cs p st s (gives (leaving st after)) place (node.If e arms) (layer.If e arms) h0 (if_layer e arms)
    (behind (env, u, o) (gives (leaving st after)) h1 (behind after (gives (leaving st after)) (ts.items, h2) (right (no_condition o) 318 place h3)))
stmt_view cs _ _ _ _ _ (while_loop p st after s place e body env u o ts t h0 h1 h2 h3 h4) =
    to_own cs p st s (gives (leaving st after)) place (node.While e body) (layer.While e body) h0 (while_layer e body)
    (behind (env, u, o) (gives (leaving st after)) h1 (behind after (gives (leaving st after)) (ts.items, h2) (right (no_condition o) 318 place h3)))
stmt_view cs _ _ _ _ _ (do_loop p st middle s place e body env u o ts t h0 h1 h2 h3 h4) =
    to_own cs p st s (gives (leaving st (with_env env middle))) place (node.Do body e) (layer.Do body e) h0 (do_layer body e)
    (behind middle (gives (leaving st (with_env env middle))) (ts.items, h1) (behind (env, u, o) (gives (leaving st (with_env env middle))) h2 (right (no_condition o) 318 place h3)))
stmt_view cs _ _ _ _ _ (for_loop p st declared after s place decl body first cond next a b c t1 o1 u o t3 o3 ds ts t h0 h1 h2 h3 h4 h5 h6 h7) =
    let v : Outcome State = gives (leaving st after) in
    to_own cs p st s v place (node.For decl first cond next body) (layer.For decl first cond next body) h0 (for_layer decl first cond next body)
    (behind declared v (ds.items, h1) (behind a v (t1, o1, h2) (behind (b, o) v (u, h3) (behind c v (t3, o3, h4) (behind after v (ts.items, h5) (right (no_condition o) 318 place h6))))))
stmt_view cs _ _ _ _ _ (switch p st after s place e groups env u v o sections t h0 h1 h2 h3 h4 h5) =
    to_own cs p st s (gives (leaving st after)) place (node.Switch e groups) (layer.Switch e groups) h0 (switch_layer e groups)
    (behind (env, u, o) (gives (leaving st after)) h1 (behind after (gives (leaving st after)) (sections.items, h2) (right (no_switch o.shape) 318 place h3)))
stmt_view cs _ _ _ _ _ (break p st s place t h0 h1 h2) = to_own cs p st s (gives st) place node.Break layer.Break h0 break_layer (right (not p.breaks) 319 place (ap not h1))
stmt_view cs _ _ _ _ _ (continue p st s place t h0 h1 h2) = to_own cs p st s (gives st) place node.Continue layer.Continue h0 continue_layer (right (not p.continues) 319 place (ap not h1))
stmt_view cs _ _ _ _ _ (return p st s place t h0 h1 h2) =
    to_own cs p st s (gives st) place (node.Return None) (layer.Return None) h0 (return_layer None) (passes (no_offence (first_broken (return_tests cs p.result None)) place h1) refl)
stmt_view cs _ _ _ _ _ (return_value p st s place e env u v o t h0 h1 h2 h3 h4) =
    to_own cs p st s (gives (with_env env st)) place (node.Return (Some e)) (layer.Return (Some e)) h0 (return_layer (Some e))
    (behind (env, u, o) (gives (with_env env st)) h1 (passes (no_offence (first_broken (return_tests cs p.result (Some o))) place h2) refl))
stmt_view cs _ _ _ _ _ (empty p st s place t h0 h1) = to_own cs p st s (gives st) place node.Empty layer.Empty h0 empty_layer refl

for_view : (cs : List ClType) (outer : State) (i0 : Setting) (i1 : Place) (i2 : State) (i3 : List Stmt) (i4 i5 i6 : Option Expr) (i7 : List Stmt) (i8 : Offence) → ForOffends cs i0 i1 i2 i3 i4 i5 i6 i7 i8 → ForBy cs i0 i1 outer i2 i3 i4 i5 i6 i7 (stops i8)
for_view cs outer _ _ _ _ _ _ _ _ _ (in_declaration p place st decl body first cond next o h0) = stopped o h0
for_view cs outer _ _ _ _ _ _ _ _ _ (in_first p place st declared decl body first cond next ds o h0 h1) = behind declared (stops o) (ds, h0) (stopped o h1)
for_view cs outer _ _ _ _ _ _ _ _ _ (in_condition p place st declared decl body first cond next ds a t1 o1 o h0 h1 h2) =
    behind declared (stops o) (ds, h0) (behind a (stops o) (t1, o1, h1) (stopped o h2))
for_view cs outer _ _ _ _ _ _ _ _ _ (in_next p place st declared decl body first cond next ds a b t1 o1 u q o h0 h1 h2 h3) =
    behind declared (stops o) (ds, h0) (behind a (stops o) (t1, o1, h1) (behind (b, q) (stops o) (u, h2) (stopped o h3)))
for_view cs outer _ _ _ _ _ _ _ _ _ (in_body p place st declared decl body first cond next ds a b c t1 t3 o1 o3 u q o h0 h1 h2 h3 h4) =
    behind declared (stops o) (ds, h0) (behind a (stops o) (t1, o1, h1) (behind (b, q) (stops o) (u, h2) (behind c (stops o) (t3, o3, h3) (stopped o h4))))
for_view cs outer _ _ _ _ _ _ _ _ _ (no_for p place st declared after decl body first cond next ds ts a b c t1 t3 o1 o3 u q h0 h1 h2 h3 h4 h5) =
    let v : Outcome State = stops (at 318 place) in
    behind declared v (ds, h0) (behind a v (t1, o1, h1) (behind (b, q) v (u, h2) (behind c v (t3, o3, h3) (behind after v (ts, h4) (wrong (no_condition q) 318 place h5)))))

stmt_off_view : (cs : List ClType) (i0 : Setting) (i1 : State) (i2 : Stmt) (i3 : Offence) → StmtOffends cs i0 i1 i2 i3 → StmtBy cs i0 i1 (out-Stmt i2).place (layer_of (out-Stmt i2).node) (stops i3)
stmt_off_view cs _ _ _ _ (in_block p st s place items o h0 h1) = to_own cs p st s (stops o) place (node.Block items) (layer.Block items) h0 (block_layer items) (stopped o h1)
stmt_off_view cs _ _ _ _ (in_expression p st s place e o h0 h1) = to_own cs p st s (stops o) place (node.Expr e) (layer.Expr e) h0 (expr_layer e) (stopped o h1)
stmt_off_view cs _ _ _ _ (in_test p st s place e arms o h0 h1) = to_own cs p st s (stops o) place (node.If e arms) (layer.If e arms) h0 (if_layer e arms) (stopped o h1)
stmt_off_view cs _ _ _ _ (in_arms p st s place e arms env u q o h0 h1 h2) =
    to_own cs p st s (stops o) place (node.If e arms) (layer.If e arms) h0 (if_layer e arms) (behind (env, u, q) (stops o) h1 (stopped o h2))
stmt_off_view cs _ _ _ _ (no_test p st after s place e arms env u q ts h0 h1 h2 h3) =
    to_own cs p st s (stops (at 318 place)) place (node.If e arms) (layer.If e arms) h0 (if_layer e arms)
    (behind (env, u, q) (stops (at 318 place)) h1 (behind after (stops (at 318 place)) (ts, h2) (wrong (no_condition q) 318 place h3)))
stmt_off_view cs _ _ _ _ (in_while p st s place e body o h0 h1) = to_own cs p st s (stops o) place (node.While e body) (layer.While e body) h0 (while_layer e body) (stopped o h1)
stmt_off_view cs _ _ _ _ (in_while_body p st s place e body env u q o h0 h1 h2) =
    to_own cs p st s (stops o) place (node.While e body) (layer.While e body) h0 (while_layer e body) (behind (env, u, q) (stops o) h1 (stopped o h2))
stmt_off_view cs _ _ _ _ (no_while p st after s place e body env u q ts h0 h1 h2 h3) =
    to_own cs p st s (stops (at 318 place)) place (node.While e body) (layer.While e body) h0 (while_layer e body)
    (behind (env, u, q) (stops (at 318 place)) h1 (behind after (stops (at 318 place)) (ts, h2) (wrong (no_condition q) 318 place h3)))
stmt_off_view cs _ _ _ _ (in_do_body p st s place e body o h0 h1) = to_own cs p st s (stops o) place (node.Do body e) (layer.Do body e) h0 (do_layer body e) (stopped o h1)
stmt_off_view cs _ _ _ _ (in_do p st middle s place e body ts o h0 h1 h2) =
    to_own cs p st s (stops o) place (node.Do body e) (layer.Do body e) h0 (do_layer body e) (behind middle (stops o) (ts, h1) (stopped o h2))
stmt_off_view cs _ _ _ _ (no_do p st middle s place e body ts env u q h0 h1 h2 h3) =
    to_own cs p st s (stops (at 318 place)) place (node.Do body e) (layer.Do body e) h0 (do_layer body e)
    (behind middle (stops (at 318 place)) (ts, h1) (behind (env, u, q) (stops (at 318 place)) h2 (wrong (no_condition q) 318 place h3)))
stmt_off_view cs _ _ _ _ (in_for p st s place decl body first cond next o h0 h1) =
    to_own cs p st s (stops o) place (node.For decl first cond next body) (layer.For decl first cond next body) h0 (for_layer decl first cond next body) (for_view cs st _ _ _ _ _ _ _ _ _ h1)
stmt_off_view cs _ _ _ _ (in_switch_value p st s place e groups o h0 h1) = to_own cs p st s (stops o) place (node.Switch e groups) (layer.Switch e groups) h0 (switch_layer e groups) (stopped o h1)
stmt_off_view cs _ _ _ _ (in_sections p st s place e groups env u q o h0 h1 h2) =
    to_own cs p st s (stops o) place (node.Switch e groups) (layer.Switch e groups) h0 (switch_layer e groups) (behind (env, u, q) (stops o) h1 (stopped o h2))
stmt_off_view cs _ _ _ _ (bad_switch p st after s place e groups env u q sections h0 h1 h2 h3) =
    to_own cs p st s (stops (at 318 place)) place (node.Switch e groups) (layer.Switch e groups) h0 (switch_layer e groups)
    (behind (env, u, q) (stops (at 318 place)) h1 (behind after (stops (at 318 place)) (sections, h2) (wrong (no_switch q.shape) 318 place h3)))
stmt_off_view cs _ _ _ _ (no_break p st s place h0 h1) = to_own cs p st s (stops (at 319 place)) place node.Break layer.Break h0 break_layer (wrong (not p.breaks) 319 place (ap not h1))
stmt_off_view cs _ _ _ _ (no_continue p st s place h0 h1) = to_own cs p st s (stops (at 319 place)) place node.Continue layer.Continue h0 continue_layer (wrong (not p.continues) 319 place (ap not h1))
stmt_off_view cs _ _ _ _ (in_return p st s place e o h0 h1) = to_own cs p st s (stops o) place (node.Return (Some e)) (layer.Return (Some e)) h0 (return_layer (Some e)) (stopped o h1)
stmt_off_view cs _ _ _ _ (no_return p st s place code h0 h1) =
    to_own cs p st s (stops (at code place)) place (node.Return None) (layer.Return None) h0 (return_layer None) (fails (at code place) (an_offence (first_broken (return_tests cs p.result None)) code place h1))
stmt_off_view cs _ _ _ _ (no_return_value p st s place e env u q code h0 h1 h2) =
    to_own cs p st s (stops (at code place)) place (node.Return (Some e)) (layer.Return (Some e)) h0 (return_layer (Some e))
    (behind (env, u, q) (stops (at code place)) h1 (fails (at code place) (an_offence (first_broken (return_tests cs p.result (Some q))) code place h2)))

own_viewed : (cs : List ClType) (p : Setting) (st : State) (s : Stmt) (v : Outcome State) → StmtComes cs p st s v → StmtBy cs p st (out-Stmt s).place (layer_of (out-Stmt s).node) v
own_viewed cs p st s (gives after) c = stmt_view cs p st s after c.0 c.1
own_viewed cs p st s (stops o) c = stmt_off_view cs p st s o c

pub stmt_viewed : (cs : List ClType) (p : Setting) (st : State) (s : Stmt) (v : Outcome State) (place : Place) (n : StmtNode) (l : Layer) → IsStmt s place n → layer_of n ≡ l → StmtComes cs p st s v → StmtBy cs p st place l v
stmt_viewed cs p st s v place n l h g c = from_own cs p st s v place n l h g (own_viewed cs p st s v c)

-- a declaration is judged as one of a list
pub no_statement : {A : Type 0} (cs : List ClType) (p : Setting) (st : State) (s : Stmt) (v : Outcome State) (place : Place) (spec : Spec) (items : Vec InitDeclor) → IsStmt s place (node.Decl spec items) → StmtComes cs p st s v → A
no_statement cs p st s v place spec items h c = absurd (stmt_viewed cs p st s v place (node.Decl spec items) (layer.Decl spec items) h (decl_layer spec items) c)

-- ---- lists of statements

abbrev pub DeclBy : List ClType → Setting → State → Spec → List InitDeclor → Outcome State → Type 0
DeclBy cs p st spec items v = First (WordsCome cs st.env spec) (λ a w. VariablesCome cs p (with_env a.0 st) a.1 items w) v

pub record DeclComes (cs : List ClType) (p : Setting) (st : State) (s : Stmt) (v : Outcome State) : Type 0 where
  pub place : Place
  pub spec : Spec
  pub items : Vec InitDeclor
  pub is : IsStmt s place (node.Decl spec items)
  pub judged : DeclBy cs p st spec items.items v

abbrev pub ItemComes : List ClType → Setting → State → Stmt → Outcome State → Type 0
ItemComes cs p st s v = DeclComes cs p st s v ⊎ StmtComes cs p st s v

abbrev declares : Spec → Vec InitDeclor → Layer
declares spec items = layer.Decl spec items

-- a declaration is judged by its own words and names
module _ (s : Stmt) (place place2 : Place) (spec spec2 : Spec) (items items2 : Vec InitDeclor) (h : IsStmt s place (node.Decl spec items)) (k : IsStmt s place2 (node.Decl spec2 items2)) where
  decls_same : declares spec2 items2 ≡ declares spec items
  decls_same = sym (decl_layer spec2 items2) ∙ ap layer_of (sym k.is ∙ h.is) ∙ decl_layer spec items

  spec_same : spec2 ≡ spec
  spec_same = let f : declares spec2 items2 ≡ declares spec items = decls_same in cc

  names_same : items2 ≡ items
  names_same = let f : declares spec2 items2 ≡ declares spec items = decls_same in cc

pub decl_viewed : (cs : List ClType) (p : Setting) (st : State) (s : Stmt) (v : Outcome State) (place : Place) (spec : Spec) (items : Vec InitDeclor) → IsStmt s place (node.Decl spec items) → ItemComes cs p st s v → DeclBy cs p st spec items.items v
decl_viewed cs p st s v place spec items h (inl k) =
    subst (λ z. DeclBy cs p st z items.items v) (spec_same s place k.place spec k.spec items k.items h k.is)
    (subst (λ z. DeclBy cs p st k.spec z.items v) (names_same s place k.place spec k.spec items k.items h k.is) k.judged)
decl_viewed cs p st s v place spec items h (inr k) = no_statement cs p st s v place spec items h k

abbrev pub ItemsBy : List ClType → Setting → State → List Stmt → Outcome State → Type 0
ItemsBy cs p st [] v = v ≡ gives st
ItemsBy cs p st (s ∷ ss) v = First (ItemComes cs p st s) (λ middle w. ItemsCome cs p middle ss w) v

items_view : (cs : List ClType) (i0 : Setting) (i1 : State) (i2 : List Stmt) (i3 : State) (i4 : List TStmt) → ItemsAre cs i0 i1 i2 i3 i4 → ItemsBy cs i0 i1 i2 (gives i3)
items_view cs _ _ _ _ _ (no_item p st) = refl
items_view cs _ _ _ _ _ (declaration_item p st typed middle after s ss place spec items env q ts us h0 h1 h2 h3) =
    behind middle (gives after) (inl (record { place = place; spec = spec; items = items; is = h0; judged = behind (env, q) (gives middle) h1 (ts, h2) })) (us, h3)
items_view cs _ _ _ _ _ (statement_item p st middle after s ss t ts h0 h1) = behind middle (gives after) (inr (t, h0)) (ts, h1)

items_off_view : (cs : List ClType) (i0 : Setting) (i1 : State) (i2 : List Stmt) (i3 : Offence) → ItemsOffend cs i0 i1 i2 i3 → ItemsBy cs i0 i1 i2 (stops i3)
items_off_view cs _ _ _ _ (in_words p st s ss place spec items o h0 h1) = stopped o (inl (record { place = place; spec = spec; items = items; is = h0; judged = stopped o h1 }))
items_off_view cs _ _ _ _ (in_variables p st s ss place spec items env q o h0 h1 h2) = stopped o (inl (record { place = place; spec = spec; items = items; is = h0; judged = behind (env, q) (stops o) h1 h2 }))
items_off_view cs _ _ _ _ (in_statement p st s ss o h0) = stopped o (inr h0)
items_off_view cs _ _ _ _ (behind_declaration p st middle s ss place spec items env q ts o h0 h1 h2 h3) =
    behind middle (stops o) (inl (record { place = place; spec = spec; items = items; is = h0; judged = behind (env, q) (gives middle) h1 (ts, h2) })) h3
items_off_view cs _ _ _ _ (behind_statement p st middle s ss t o h0 h1) = behind middle (stops o) (inr (t, h0)) h1

pub items_viewed : (cs : List ClType) (p : Setting) (st : State) (ss : List Stmt) (v : Outcome State) → ItemsCome cs p st ss v → ItemsBy cs p st ss v
items_viewed cs p st ss (gives after) c = items_view cs p st ss after c.0 c.1
items_viewed cs p st ss (stops o) c = items_off_view cs p st ss o c

-- ---- statements that are parts

pub record DeclArmComes (cs : List ClType) (p : Setting) (st : State) (s : Stmt) (v : Outcome State) : Type 0 where
  pub place : Place
  pub spec : Spec
  pub items : Vec InitDeclor
  pub is : IsStmt s place (node.Decl spec items)
  pub judged : ItemsCome cs p (entering st) (s ∷ []) v

-- inside of a block of its own
abbrev pub ArmComes : List ClType → Setting → State → Stmt → Outcome State → Type 0
ArmComes cs p st s v = DeclArmComes cs p st s v ⊎ StmtComes cs p (entering st) s v

abbrev pub ArmsBy : List ClType → Setting → State → List Stmt → Outcome State → Type 0
ArmsBy cs p st [] v = v ≡ gives st
ArmsBy cs p st (s ∷ ss) v = First (ArmComes cs p st s) (λ middle w. ArmsCome cs p (leaving st middle) ss w) v

arms_view : (cs : List ClType) (i0 : Setting) (i1 : State) (i2 : List Stmt) (i3 : State) (i4 : List TStmt) → ArmsAre cs i0 i1 i2 i3 i4 → ArmsBy cs i0 i1 i2 (gives i3)
arms_view cs _ _ _ _ _ (no_arm p st) = refl
arms_view cs _ _ _ _ _ (more_arms p st middle after s ss t ts h0 h1) = behind middle (gives after) (inr (t, h0)) (ts, h1)
arms_view cs _ _ _ _ _ (declaration_arm p st middle after s ss place spec items us t ts h0 h1 h2 h3) =
    behind middle (gives after) (inl (record { place = place; spec = spec; items = items; is = h0; judged = (us.items, h1) })) (ts, h3)

arms_off_view : (cs : List ClType) (i0 : Setting) (i1 : State) (i2 : List Stmt) (i3 : Offence) → ArmsOffend cs i0 i1 i2 i3 → ArmsBy cs i0 i1 i2 (stops i3)
arms_off_view cs _ _ _ _ (in_arm p st s ss o h0) = stopped o (inr h0)
arms_off_view cs _ _ _ _ (in_declaration_arm p st s ss place spec items o h0 h1) = stopped o (inl (record { place = place; spec = spec; items = items; is = h0; judged = h1 }))
arms_off_view cs _ _ _ _ (behind_declaration_arm p st middle s ss place spec items us o h0 h1 h2) =
    behind middle (stops o) (inl (record { place = place; spec = spec; items = items; is = h0; judged = (us, h1) })) h2
arms_off_view cs _ _ _ _ (behind_arm p st middle s ss t o h0 h1) = behind middle (stops o) (inr (t, h0)) h1

pub arms_viewed : (cs : List ClType) (p : Setting) (st : State) (ss : List Stmt) (v : Outcome State) → ArmsCome cs p st ss v → ArmsBy cs p st ss v
arms_viewed cs p st ss (gives after) c = arms_view cs p st ss after c.0 c.1
arms_viewed cs p st ss (stops o) c = arms_off_view cs p st ss o c

-- ---- sections

abbrev pub SectionBy : List ClType → Setting → Tested → State → List Label → List Stmt → List Group → Outcome State → Type 0
SectionBy cs p k st labels body gs v =
    First (LabelsCome cs (falls k body gs) k st.env labels)
    (λ a w. First (ItemsCome cs p (with_env a.1 st) body) (λ middle x. SectionsCome cs p (behind_section (list_ends body) a.0) middle gs x) w) v

abbrev pub SectionsBy : List ClType → Setting → Tested → State → List Group → Outcome State → Type 0
SectionsBy cs p k st [] v = v ≡ gives st
SectionsBy cs p k st (g ∷ gs) v = SectionBy cs p k st (out-Group g).labels.items (out-Group g).body.items gs v

module _ (cs : List ClType) (p : Setting) (k : Tested) (st : State) (g : Group) (gs : List Group) (v : Outcome State) (labels : List Label) (body : List Stmt) (h : IsGroup g labels body) where
  to_section : SectionBy cs p k st labels body gs v → SectionsBy cs p k st (g ∷ gs) v
  to_section x = subst (λ z. SectionBy cs p k st z (out-Group g).body.items gs v) (sym h.under) (subst (λ z. SectionBy cs p k st labels z gs v) (sym h.has) x)

  from_section : SectionsBy cs p k st (g ∷ gs) v → SectionBy cs p k st labels body gs v
  from_section x = subst (λ z. SectionBy cs p k st z body gs v) h.under (subst (λ z. SectionBy cs p k st (out-Group g).labels.items z gs v) h.has x)

sections_view : (cs : List ClType) (i0 : Setting) (i1 : Tested) (i2 : State) (i3 : List Group) (i4 : State) (i5 : List Section) → SectionsAre cs i0 i1 i2 i3 i4 i5 → SectionsBy cs i0 i1 i2 i3 (gives i4)
sections_view cs _ _ _ _ _ _ (no_section p k st) = refl
sections_view cs _ _ _ _ _ _ (more_sections p k j st middle after g gs labels body env ls ts s ss h0 h1 h2 h3 h4) =
    to_section cs p k st g gs (gives after) labels body h0 (behind (j, env) (gives after) (ls, h1) (behind middle (gives after) (ts, h2) (ss, h4)))

sections_off_view : (cs : List ClType) (i0 : Setting) (i1 : Tested) (i2 : State) (i3 : List Group) (i4 : Offence) → SectionsOffend cs i0 i1 i2 i3 i4 → SectionsBy cs i0 i1 i2 i3 (stops i4)
sections_off_view cs _ _ _ _ _ (in_labels p k st g gs labels body o h0 h1) = to_section cs p k st g gs (stops o) labels body h0 (stopped o h1)
sections_off_view cs _ _ _ _ _ (in_section_items p k j st g gs labels body env ls o h0 h1 h2) = to_section cs p k st g gs (stops o) labels body h0 (behind (j, env) (stops o) (ls, h1) (stopped o h2))
sections_off_view cs _ _ _ _ _ (after_section p k j st middle g gs labels body env ls ts o h0 h1 h2 h3) =
    to_section cs p k st g gs (stops o) labels body h0 (behind (j, env) (stops o) (ls, h1) (behind middle (stops o) (ts, h2) h3))

all_sections_viewed : (cs : List ClType) (p : Setting) (k : Tested) (st : State) (gs : List Group) (v : Outcome State) → SectionsCome cs p k st gs v → SectionsBy cs p k st gs v
all_sections_viewed cs p k st gs (gives after) c = sections_view cs p k st gs after c.0 c.1
all_sections_viewed cs p k st gs (stops o) c = sections_off_view cs p k st gs o c

pub no_section_viewed : (cs : List ClType) (p : Setting) (k : Tested) (st : State) (v : Outcome State) → SectionsCome cs p k st [] v → v ≡ gives st
no_section_viewed cs p k st v c = all_sections_viewed cs p k st [] v c

pub section_viewed : (cs : List ClType) (p : Setting) (k : Tested) (st : State) (g : Group) (gs : List Group) (v : Outcome State) (labels : List Label) (body : List Stmt) → IsGroup g labels body → SectionsCome cs p k st (g ∷ gs) v → SectionBy cs p k st labels body gs v
section_viewed cs p k st g gs v labels body h c = from_section cs p k st g gs v labels body h (all_sections_viewed cs p k st (g ∷ gs) v c)
