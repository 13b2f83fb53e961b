-- Statements declare no function, and a function's variables grow at their end.
use Rattle.std.proofs.Common.{◌≡◌, ℕ, zero, suc, Bool, true≢false, List, [], ◌∷◌, ◌++◌, length, Option, Some, None, refl, sym, ap, ◌∙◌, slice_get}
use Rattle.std.specs.Prelude.{is_some}
use Rattle.clv_place.specs.declared.place.Place.{Place}
use Rattle.cl_types.specs.declared.types.ClType.{ClType}
use Rattle.cl_ast.specs.declared.declaration.InitDeclor.{InitDeclor}
use Rattle.cl_ast.specs.declared.expression.Expr.{Expr}
use Rattle.cl_ast.specs.declared.statement.Group.{Group}
use Rattle.cl_ast.specs.declared.statement.Label.{Label}
use Rattle.cl_ast.specs.declared.statement.Stmt.{Stmt}
use Rattle.cl_tree.specs.declared.expression.TExpr.{TExpr}
use Rattle.cl_tree.specs.declared.statement.Section.{Section}
use Rattle.cl_tree.specs.declared.statement.TStmt.{TStmt}
use Rattle.cl_tree.specs.declared.unit.Variable.{Variable}
use Rattle.cl_rules.specs.declared.rule.Operand.{Operand}
use Rattle.cl_rules.specs.declared.rule.Qualified.{Qualified}
use Rattle.cl_scope.specs.Names.{Env}
use Rattle.cl_typing.specs.declared.label.Tested.{Tested}
use Rattle.cl_typing.specs.declared.setting.Setting.{Setting}
use Rattle.cl_typing.specs.Settings.{State, state, entering, leaving}
use Rattle.cl_typing.specs.Statements.{MayBeTyped, IsForCondition, LabelsAre, AreVariables, ItemsAre, StmtIs, ArmsAre, SectionsAre, and_variable, condition_given, condition_missing, left_out, written, case_label, default_label, no_label, more_variables, no_variable, block, break, choice, continue, declaration_arm, declaration_item, do_loop, empty, expression, for_loop, more_arms, more_sections, no_arm, no_item, no_section, return, return_value, statement_item, switch, while_loop}
use Rattle.cl_typing.proofs.FunctionsKept.{types_functions, is_specified_functions, is_variable_functions}

pub record Goes (st after : State) : Type 0 where
  pub functions : after.env.functions ≡ st.env.functions
  pub vars : (k : ℕ) (v : Variable) → slice_get st.vars k ≡ Some v → slice_get after.vars k ≡ Some v

-- ---- variables stay where they are

no_some : {A : Type 0} {B : Type 0} (v : A) → None ≡ Some v → B
no_some v e = absurd (true≢false (sym (ap is_some e)))

pub get_before : {A : Type 0} (xs ys : List A) (k : ℕ) (v : A) → slice_get xs k ≡ Some v → slice_get (xs ++ ys) k ≡ Some v
get_before [] ys k v e = no_some v e
get_before (x ∷ xs) ys zero v e = e
get_before (x ∷ xs) ys (suc k) v e = get_before xs ys k v e

pub get_here : {A : Type 0} (xs : List A) (v : A) → slice_get (xs ++ v ∷ []) (length xs) ≡ Some v
get_here [] v = refl
get_here (x ∷ xs) v = get_here xs v

-- ---- steps

here : (st : State) → Goes st st
here st = record { functions = refl; vars = λ k v e. e }

on : (a b c : State) → Goes a b → Goes b c → Goes a c
on a b c g h = record { functions = h.functions ∙ g.functions; vars = λ k v e. h.vars k v (g.vars k v e) }

from_env : (st : State) (env : Env) (after : State) → env.functions ≡ st.env.functions → Goes (state env st.vars) after → Goes st after
from_env st env after e g = record { functions = g.functions ∙ e; vars = g.vars }

to_env : (st middle : State) (env : Env) → env.functions ≡ middle.env.functions → Goes st middle → Goes st (state env middle.vars)
to_env st middle env e g = record { functions = e ∙ g.functions; vars = g.vars }

left : (st after : State) → Goes (entering st) after → Goes st (leaving st after)
left st after g = record { functions = g.functions; vars = g.vars }

-- ---- below statements

module _ (cs : List ClType) where
  pub may_be_functions : (env : Env) (e : Option Expr) (after : Env) (t : Option TExpr) (o : Option Operand) → MayBeTyped cs env e after t o → after.functions ≡ env.functions
  may_be_functions _ _ _ _ _ (left_out env) = refl
  may_be_functions _ _ _ _ _ (written env after e t o h) = types_functions cs _ _ _ _ _ _ h

  for_functions : (place : Place) (env : Env) (e : Option Expr) (after : Env) (t : TExpr) (o : Operand) → IsForCondition cs place env e after t o → after.functions ≡ env.functions
  for_functions place _ _ _ _ _ (condition_missing env t o h) = refl
  for_functions place _ _ _ _ _ (condition_given env after e t o h) = types_functions cs _ _ _ _ _ _ h

  labels_functions : (falls : Bool) (k : Tested) (env : Env) (ls : List Label) (j : Tested) (after : Env) (ts : List (Option TExpr)) → LabelsAre cs falls k env ls j after ts → after.functions ≡ env.functions
  labels_functions _ _ _ _ _ _ _ (no_label falls k env) = refl
  labels_functions _ _ _ _ _ _ _ (case_label falls k j env middle after l ls e t u o ts h0 h1 h2 h3 h4 h5) = labels_functions _ _ _ _ _ _ _ h5 ∙ types_functions cs _ _ _ _ _ _ h1
  labels_functions _ _ _ _ _ _ _ (default_label falls k j env after l ls ts h0 h1 h2) = labels_functions _ _ _ _ _ _ _ h2

  pub variables_go : (p : Setting) (st : State) (q : Qualified) (ds : List InitDeclor) (after : State) (ts : List TStmt) → AreVariables cs p st q ds after ts → Goes st after
  variables_go p _ _ _ _ _ (no_variable st q) = here st
  variables_go p _ _ _ _ _ (more_variables st after q d ds env name place ty own t s ss h0 h1 h2) =
      let v : Variable = record { name = name; ty = ty; space = own; place = place } in
      on st (and_variable env v st) after (record { functions = is_variable_functions cs _ _ _ _ _ _ _ _ _ _ _ _ h0; vars = λ k x e. get_before st.vars (v ∷ []) k x e }) (variables_go p _ _ _ _ _ h2)

  -- ---- statements

  mutual
    pub items_go : (p : Setting) (st : State) (ss : List Stmt) (after : State) (ts : List TStmt) → ItemsAre cs p st ss after ts → Goes st after
    items_go _ _ _ _ _ (no_item p st) = here st
    items_go _ _ _ _ _ (declaration_item p st typed middle after s ss place spec items env q ts us h0 h1 h2 h3) =
        on st middle after (from_env st env middle (is_specified_functions cs _ _ _ _ h1) (variables_go p _ _ _ _ _ h2)) (items_go _ _ _ _ _ h3)
    items_go _ _ _ _ _ (statement_item p st middle after s ss t ts h0 h1) = on st middle after (stmt_go _ _ _ _ _ h0) (items_go _ _ _ _ _ h1)

    pub stmt_go : (p : Setting) (st : State) (s : Stmt) (after : State) (t : TStmt) → StmtIs cs p st s after t → Goes st after
    stmt_go _ _ _ _ _ (block p st after s place items ts t h0 h1 h2) = left st after (items_go _ _ _ _ _ h1)
    stmt_go _ _ _ _ _ (expression p st s place e env u o t h0 h1 h2) = to_env st st env (types_functions cs _ _ _ _ _ _ h1) (here st)
    stmt_go _ _ _ _ _ (choice p st after s place e arms env u o ts t h0 h1 h2 h3 h4) = left st after (from_env (entering st) env after (types_functions cs _ _ _ _ _ _ h1) (arms_go _ _ _ _ _ h2))
    stmt_go _ _ _ _ _ (while_loop p st after s place e body env u o ts t h0 h1 h2 h3 h4) = left st after (from_env (entering st) env after (types_functions cs _ _ _ _ _ _ h1) (arms_go _ _ _ _ _ h2))
    stmt_go _ _ _ _ _ (do_loop p st middle s place e body env u o ts t h0 h1 h2 h3 h4) = left st (state env middle.vars) (to_env (entering st) middle env (types_functions cs _ _ _ _ _ _ h2) (arms_go _ _ _ _ _ h1))
    stmt_go _ _ _ _ _ (for_loop p st declared after s place decl body first cond next a b c t1 o1 u o t3 o3 ds ts t h0 h1 h2 h3 h4 h5 h6 h7) =
        left st after
        (on (entering st) declared after (items_go _ _ _ _ _ h1)
        (from_env declared c after (may_be_functions _ _ _ _ _ h4 ∙ for_functions place _ _ _ _ _ h3 ∙ may_be_functions _ _ _ _ _ h2) (arms_go _ _ _ _ _ h5)))
    stmt_go _ _ _ _ _ (switch p st after s place e groups env u v o sections t h0 h1 h2 h3 h4 h5) = left st after (from_env (entering st) env after (types_functions cs _ _ _ _ _ _ h1) (sections_go _ _ _ _ _ _ h2))
    stmt_go _ _ _ _ _ (break p st s place t h0 h1 h2) = here st
    stmt_go _ _ _ _ _ (continue p st s place t h0 h1 h2) = here st
    stmt_go _ _ _ _ _ (return p st s place t h0 h1 h2) = here st
    stmt_go _ _ _ _ _ (return_value p st s place e env u v o t h0 h1 h2 h3 h4) = to_env st st env (types_functions cs _ _ _ _ _ _ h1) (here st)
    stmt_go _ _ _ _ _ (empty p st s place t h0 h1) = here st

    pub arms_go : (p : Setting) (st : State) (ss : List Stmt) (after : State) (ts : List TStmt) → ArmsAre cs p st ss after ts → Goes st after
    arms_go _ _ _ _ _ (no_arm p st) = here st
    arms_go _ _ _ _ _ (more_arms p st middle after s ss t ts h0 h1) = on st (leaving st middle) after (left st middle (stmt_go _ _ _ _ _ h0)) (arms_go _ _ _ _ _ h1)
    arms_go _ _ _ _ _ (declaration_arm p st middle after s ss place spec items us t ts h0 h1 h2 h3) = on st (leaving st middle) after (left st middle (items_go _ _ _ _ _ h1)) (arms_go _ _ _ _ _ h3)

    pub sections_go : (p : Setting) (k : Tested) (st : State) (gs : List Group) (after : State) (ss : List Section) → SectionsAre cs p k st gs after ss → Goes st after
    sections_go _ _ _ _ _ _ (no_section p k st) = here st
    sections_go _ _ _ _ _ _ (more_sections p k j st middle after g gs labels body env ls ts s ss h0 h1 h2 h3 h4) =
        on st middle after (from_env st env middle (labels_functions _ _ _ _ _ _ _ h1) (items_go _ _ _ _ _ h2)) (sections_go _ _ _ _ _ _ h4)
