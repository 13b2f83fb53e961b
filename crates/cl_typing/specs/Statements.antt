-- The typing rules of statements (C99, 6.8): which typed tree a statement has, and its first offence. A loop, an `if` and a `switch` are
-- blocks, and so is each statement in them.
use Rattle.std.specs.Global.{Vec}
use Rattle.std.specs.Prelude.{◌≡◌, ℕ, nat_eq, nat_lt, ◌&&◌, ◌||◌, not, Bool, true, false, if◌then◌else◌, List, [], ◌∷◌, ◌++◌, length, Option, Some, None}
use Rattle.clv_place.specs.declared.place.Place.{Place}
use Rattle.clv_place.specs.declared.stop.Offence.{Offence}
use Rattle.cl_types.specs.declared.types.ClType.{ClType}
use Rattle.cl_types.specs.declared.types.TypeId.{TypeId}
use Rattle.cl_types.specs.declared.space.Space.{Space}
use Rattle.cl_ast.specs.declared.declaration.InitDeclor.{InitDeclor}
use Rattle.cl_ast.specs.declared.expression.Expr.{Expr}
use Rattle.cl_ast.specs.declared.expression.Spec.{Spec}
use Rattle.cl_ast.specs.declared.statement.Stmt.{Stmt}
use Rattle.cl_ast.specs.declared.statement.StmtNode.TheVariants as node
use Rattle.cl_ast.specs.declared.statement.Group.{Group}
use Rattle.cl_ast.specs.declared.statement.Label.{Label}
use Rattle.cl_ast.specs.declared.statement.StmtNode.TheOpen.{Stmt-F, StmtNode-F, Group-F, Block, If, Break, Continue, Return}
use Rattle.cl_ast.specs.declared.statement.StmtNode.TheFolds.{fold-Stmt}
use Rattle.cl_builtins.specs.declared.kind.Gentype.{Gentype}
use Rattle.cl_builtins.specs.Kinds.{int}
use Rattle.cl_tree.specs.declared.expression.TExpr.{TExpr}
use Rattle.cl_tree.specs.declared.statement.TStmt.{TStmt}
use Rattle.cl_tree.specs.declared.statement.TStmtNode.TheVariants as tnode
use Rattle.cl_tree.specs.declared.statement.Section.{Section}
use Rattle.cl_tree.specs.declared.unit.Variable.{Variable}
use Rattle.cl_tree.specs.declared.shape.Shape.{Shape}
use Rattle.cl_tree.specs.declared.shape.Shape.TheVariants as shape
use Rattle.cl_tree.specs.Constants.{constancy_of, divides, number_of, number_to}
use Rattle.cl_tree.specs.Shapes.{is_number, is_void, promoted}
use Rattle.cl_rules.specs.declared.rule.Operand.{Operand}
use Rattle.cl_rules.specs.declared.rule.Qualified.{Qualified}
use Rattle.cl_rules.specs.declared.rule.Target.{Target}
use Rattle.cl_rules.specs.declared.rule.Want.TheVariants as want
use Rattle.cl_scope.specs.declared.scope.DeclaredKind.TheVariants as kind
use Rattle.cl_scope.specs.Names.{Env}
use Rattle.cl_rules.specs.Operands.{first_broken, type_of, no_value, no_pointer}
use Rattle.cl_make.specs.Building.{IsConverted, IsNumber}
use Rattle.cl_make.specs.Wanted.{target}
use Rattle.cl_type_expr.specs.Expressions.{Types, IsSpecified}
use Rattle.cl_type_expr.specs.Offences.{at, Offends, WordsOffend}
use Rattle.cl_type_expr.specs.Syntax.{IsStmt, IsGroup}
use Rattle.cl_variables.specs.Answers.{again_at}
use Rattle.cl_variables.specs.Declarations.{IsVariable, VariableOffends}
use Rattle.cl_typing.specs.declared.label.Tested.{Tested}
use Rattle.cl_typing.specs.declared.setting.Setting.{Setting}
use Rattle.cl_typing.specs.Settings.{State, state, with_env, entering, leaving, inside, in_loop, in_switch, IsTStmt, IsSection}

-- ---- which statements end a list

abbrev pub some_ends : List Bool → Bool
some_ends [] = false
some_ends (b ∷ bs) = b || some_ends bs

abbrev pub two_end : List Bool → Bool
two_end (a ∷ b ∷ []) = a && b
two_end _ = false

abbrev pub node_ends : StmtNode-F Bool Bool Bool → Bool
node_ends (Block items) = some_ends items.items
node_ends (If cond arms) = two_end arms.items
node_ends Break = true
node_ends Continue = true
node_ends (Return e) = true
node_ends _ = false

abbrev pub group_ends : Group-F Bool Bool Bool → Bool
group_ends g = some_ends g.body.items

abbrev pub stmt_ends : Stmt-F Bool Bool Bool → Bool
stmt_ends s = s.node

-- `return`, `break` or `continue`, a block that holds an ending statement, or an `if` with two ending arms
abbrev pub ends : Stmt → Bool
ends = fold-Stmt Bool Bool Bool node_ends group_ends stmt_ends

abbrev pub list_ends : List Stmt → Bool
list_ends [] = false
list_ends (s ∷ ss) = ends s || list_ends ss

-- ---- rules

-- 318: a condition that is no number
abbrev pub no_condition : Operand → Bool
no_condition o = not (is_number o.shape)

-- 318: what is tested by a `switch` is no integer of at most 32 bits
abbrev pub tested_type : Shape → Gentype
tested_type s = if is_number s then promoted (type_of s) else int

abbrev pub no_switch : Shape → Bool
no_switch s = not (is_number s) || nat_lt 32 (tested_type s).bits

-- 311 and 333: the value doesn't convert to the function's result; 323: one in a function that gives void, or none elsewhere
abbrev pub return_tests_of : Target → Option Operand → List (ℕ × Bool)
return_tests_of t None = (323, not (is_void t.shape)) ∷ []
return_tests_of t (Some o) = if is_void t.shape then (323, true) ∷ [] else (311, no_value o t) ∷ (333, no_pointer o t) ∷ []

abbrev pub return_tests : List ClType → TypeId → Option Operand → List (ℕ × Bool)
return_tests cs result o = return_tests_of (target cs result) o

-- 311: a case value that is no number; 320: one that isn't constant, or stands there already. Values count as they are converted.
abbrev pub case_in : Shape → Gentype → Option ℕ → Option ℕ
case_in s g None = None
case_in s g (Some n) = Some (number_to s (shape.Integers g) n)

abbrev pub case_of : List ClType → Gentype → Operand → TExpr → Option ℕ
case_of cs g o t = case_in o.shape g (number_of cs t)

abbrev pub is_among : ℕ → List ℕ → Bool
is_among n [] = false
is_among n (m ∷ ms) = nat_eq n m || is_among n ms

abbrev pub no_case : Option ℕ → List ℕ → Bool
no_case None seen = true
no_case (Some n) seen = is_among n seen

abbrev pub case_tests : List ClType → Operand → Option ℕ → List ℕ → List (ℕ × Bool)
case_tests cs o n seen = (311, not (is_number o.shape)) ∷ (320, no_case n seen) ∷ []

-- 321: a second default; 322: one before the last section that doesn't stand between sections that end
abbrev pub default_tests : Bool → Bool → List (ℕ × Bool)
default_tests again falls = (321, again) ∷ (322, falls) ∷ []

-- What the sections of a `switch` know of what is tested, and of the sections before.
abbrev pub tested_first : Shape → Tested
tested_first s = record { of = tested_type s; seen = []; has_default = false; before = true }

abbrev pub and_seen : Option ℕ → Tested → Tested
and_seen None k = k
and_seen (Some n) k = record k { seen = k.seen ++ n ∷ [] }

abbrev pub and_default : Tested → Tested
and_default k = record k { has_default = true }

abbrev pub behind_section : Bool → Tested → Tested
behind_section ends k = record k { before = ends }

abbrev pub is_last : List Group → Bool
is_last [] = true
is_last (g ∷ gs) = false

abbrev pub falls_at : Bool → Bool → Bool → Bool
falls_at last ends before = not last && not (ends && before)

abbrev pub falls : Tested → List Stmt → List Group → Bool
falls k body rest = falls_at (is_last rest) (list_ends body) k.before

-- ---- typed statements

pub data MayBeTyped (cs : List ClType) : Env → Option Expr → Env → Option TExpr → Option Operand → Type 0 where
  left_out : (env : Env) → MayBeTyped cs env None env None None
  written : (env after : Env) (e : Expr) (t : TExpr) (o : Operand) → Types cs env false e after t o → MayBeTyped cs env (Some e) after (Some t) (Some o)

-- the condition of `for` is 1 where it is missing
pub data IsForCondition (cs : List ClType) (place : Place) : Env → Option Expr → Env → TExpr → Operand → Type 0 where
  condition_missing : (env : Env) (t : TExpr) (o : Operand) → IsNumber cs int 1 place t o → IsForCondition cs place env None env t o
  condition_given : (env after : Env) (e : Expr) (t : TExpr) (o : Operand) → Types cs env false e after t o → IsForCondition cs place env (Some e) after t o

-- one variable more
abbrev pub and_variable : Env → Variable → State → State
and_variable env v st = state env (st.vars ++ v ∷ [])

-- variables of one type, each of which is a statement
pub data AreVariables (cs : List ClType) (p : Setting) : State → Qualified → List InitDeclor → State → List TStmt → Type 0 where
  no_variable : (st : State) (q : Qualified) → AreVariables cs p st q [] st []
  more_variables : (st after : State) (q : Qualified) (d : InitDeclor) (ds : List InitDeclor) (env : Env) (name : List ℕ) (place : Place) (ty : TypeId) (own : Space) (t : Option TExpr) (s : TStmt) (ss : List TStmt) → IsVariable cs p.variables (kind.Var (length st.vars)) (again_at p.variables) st.env q d env name place ty own t → IsTStmt s place (tnode.Decl (length st.vars) t) → AreVariables cs p (and_variable env (record { name = name; ty = ty; space = own; place = place }) st) q ds after ss → AreVariables cs p st q (d ∷ ds) after (s ∷ ss)

mutual
  -- statements and declarations of a list, one after another
  pub data ItemsAre (cs : List ClType) : Setting → State → List Stmt → State → List TStmt → Type 0 where
    no_item : (p : Setting) (st : State) → ItemsAre cs p st [] st []
    declaration_item : (p : Setting) (st typed middle after : State) (s : Stmt) (ss : List Stmt) (place : Place) (spec : Spec) (items : Vec InitDeclor) (env : Env) (q : Qualified) (ts us : List TStmt) → IsStmt s place (node.Decl spec items) → IsSpecified cs st.env spec env q → AreVariables cs p (with_env env st) q items.items middle ts → ItemsAre cs p middle ss after us → ItemsAre cs p st (s ∷ ss) after (ts ++ us)
    statement_item : (p : Setting) (st middle after : State) (s : Stmt) (ss : List Stmt) (t : TStmt) (ts : List TStmt) → StmtIs cs p st s middle t → ItemsAre cs p middle ss after ts → ItemsAre cs p st (s ∷ ss) after (t ∷ ts)

  -- a statement that isn't a declaration
  pub data StmtIs (cs : List ClType) : Setting → State → Stmt → State → TStmt → Type 0 where
    block : (p : Setting) (st after : State) (s : Stmt) (place : Place) (items : Vec Stmt) (ts : Vec TStmt) (t : TStmt) → IsStmt s place (node.Block items) → ItemsAre cs (inside p) (entering st) items.items after ts.items → IsTStmt t place (tnode.Block ts) → StmtIs cs p st s (leaving st after) t
    expression : (p : Setting) (st : State) (s : Stmt) (place : Place) (e : Expr) (env : Env) (u : TExpr) (o : Operand) (t : TStmt) → IsStmt s place (node.Expr e) → Types cs st.env false e env u o → IsTStmt t place (tnode.Expr u) → StmtIs cs p st s (with_env env st) t
    choice : (p : Setting) (st after : State) (s : Stmt) (place : Place) (e : Expr) (arms : Vec Stmt) (env : Env) (u : TExpr) (o : Operand) (ts : Vec TStmt) (t : TStmt) → IsStmt s place (node.If e arms) → Types cs (entering st).env false e env u o → ArmsAre cs (inside p) (with_env env st) arms.items after ts.items → no_condition o ≡ false → IsTStmt t place (tnode.If u ts) → StmtIs cs p st s (leaving st after) t
    while_loop : (p : Setting) (st after : State) (s : Stmt) (place : Place) (e : Expr) (body : Vec Stmt) (env : Env) (u : TExpr) (o : Operand) (ts : Vec TStmt) (t : TStmt) → IsStmt s place (node.While e body) → Types cs (entering st).env false e env u o → ArmsAre cs (in_loop p) (with_env env st) body.items after ts.items → no_condition o ≡ false → IsTStmt t place (tnode.While u ts) → StmtIs cs p st s (leaving st after) t
    do_loop : (p : Setting) (st middle : State) (s : Stmt) (place : Place) (e : Expr) (body : Vec Stmt) (env : Env) (u : TExpr) (o : Operand) (ts : Vec TStmt) (t : TStmt) → IsStmt s place (node.Do body e) → ArmsAre cs (in_loop p) (entering st) body.items middle ts.items → Types cs middle.env false e env u o → no_condition o ≡ false → IsTStmt t place (tnode.Do ts u) → StmtIs cs p st s (leaving st (with_env env middle)) t
    for_loop : (p : Setting) (st declared after : State) (s : Stmt) (place : Place) (decl body : Vec Stmt) (first cond next : Option Expr) (a b c : Env) (t1 : Option TExpr) (o1 : Option Operand) (u : TExpr) (o : Operand) (t3 : Option TExpr) (o3 : Option Operand) (ds ts : Vec TStmt) (t : TStmt) → IsStmt s place (node.For decl first cond next body) → ItemsAre cs (inside p) (entering st) decl.items declared ds.items → MayBeTyped cs declared.env first a t1 o1 → IsForCondition cs place a cond b u o → MayBeTyped cs b next c t3 o3 → ArmsAre cs (in_loop p) (with_env c declared) body.items after ts.items → no_condition o ≡ false → IsTStmt t place (tnode.For ds t1 u t3 ts) → StmtIs cs p st s (leaving st after) t
    switch : (p : Setting) (st after : State) (s : Stmt) (place : Place) (e : Expr) (groups : Vec Group) (env : Env) (u v : TExpr) (o : Operand) (sections : Vec Section) (t : TStmt) → IsStmt s place (node.Switch e groups) → Types cs (entering st).env false e env u o → SectionsAre cs (in_switch p) (tested_first o.shape) (with_env env (entering st)) groups.items after sections.items → no_switch o.shape ≡ false → IsConverted cs (want.Of (shape.Integers (tested_type o.shape))) u v → IsTStmt t place (tnode.Switch v sections) → StmtIs cs p st s (leaving st after) t
    break : (p : Setting) (st : State) (s : Stmt) (place : Place) (t : TStmt) → IsStmt s place node.Break → p.breaks ≡ true → IsTStmt t place tnode.Break → StmtIs cs p st s st t
    continue : (p : Setting) (st : State) (s : Stmt) (place : Place) (t : TStmt) → IsStmt s place node.Continue → p.continues ≡ true → IsTStmt t place tnode.Continue → StmtIs cs p st s st t
    return : (p : Setting) (st : State) (s : Stmt) (place : Place) (t : TStmt) → IsStmt s place (node.Return None) → first_broken (return_tests cs p.result None) ≡ None → IsTStmt t place (tnode.Return None) → StmtIs cs p st s st t
    return_value : (p : Setting) (st : State) (s : Stmt) (place : Place) (e : Expr) (env : Env) (u v : TExpr) (o : Operand) (t : TStmt) → IsStmt s place (node.Return (Some e)) → Types cs st.env false e env u o → first_broken (return_tests cs p.result (Some o)) ≡ None → IsConverted cs (want.Type p.result) u v → IsTStmt t place (tnode.Return (Some v)) → StmtIs cs p st s (with_env env st) t
    empty : (p : Setting) (st : State) (s : Stmt) (place : Place) (t : TStmt) → IsStmt s place node.Empty → IsTStmt t place tnode.Empty → StmtIs cs p st s st t

  -- statements that are parts of another one, each a block
  pub data ArmsAre (cs : List ClType) : Setting → State → List Stmt → State → List TStmt → Type 0 where
    no_arm : (p : Setting) (st : State) → ArmsAre cs p st [] st []
    more_arms : (p : Setting) (st middle after : State) (s : Stmt) (ss : List Stmt) (t : TStmt) (ts : List TStmt) → StmtIs cs p (entering st) s middle t → ArmsAre cs p (leaving st middle) ss after ts → ArmsAre cs p st (s ∷ ss) after (t ∷ ts)
    -- a declaration, which stands there in no text, would be a block
    declaration_arm : (p : Setting) (st middle after : State) (s : Stmt) (ss : List Stmt) (place : Place) (spec : Spec) (items : Vec InitDeclor) (us : Vec TStmt) (t : TStmt) (ts : List TStmt) → IsStmt s place (node.Decl spec items) → ItemsAre cs p (entering st) (s ∷ []) middle us.items → IsTStmt t place (tnode.Block us) → ArmsAre cs p (leaving st middle) ss after ts → ArmsAre cs p st (s ∷ ss) after (t ∷ ts)

  -- the sections of a `switch`, which are one block
  pub data SectionsAre (cs : List ClType) : Setting → Tested → State → List Group → State → List Section → Type 0 where
    no_section : (p : Setting) (k : Tested) (st : State) → SectionsAre cs p k st [] st []
    more_sections : (p : Setting) (k j : Tested) (st middle after : State) (g : Group) (gs : List Group) (labels : List Label) (body : List Stmt) (env : Env) (ls : List (Option TExpr)) (ts : List TStmt) (s : Section) (ss : List Section) → IsGroup g labels body → LabelsAre cs (falls k body gs) k st.env labels j env ls → ItemsAre cs p (with_env env st) body middle ts → IsSection s ls ts → SectionsAre cs p (behind_section (list_ends body) j) middle gs after ss → SectionsAre cs p k st (g ∷ gs) after (s ∷ ss)

  -- labels of one section, where a default would fall through or not
  pub data LabelsAre (cs : List ClType) : Bool → Tested → Env → List Label → Tested → Env → List (Option TExpr) → Type 0 where
    no_label : (falls : Bool) (k : Tested) (env : Env) → LabelsAre cs falls k env [] k env []
    case_label : (falls : Bool) (k j : Tested) (env middle after : Env) (l : Label) (ls : List Label) (e : Expr) (t u : TExpr) (o : Operand) (ts : List (Option TExpr)) → l.value ≡ Some e → Types cs env false e middle t o → divides (constancy_of cs t) ≡ None → first_broken (case_tests cs o (case_of cs k.of o t) k.seen) ≡ None → IsConverted cs (want.Of (shape.Integers k.of)) t u → LabelsAre cs falls (and_seen (case_of cs k.of o t) k) middle ls j after ts → LabelsAre cs falls k env (l ∷ ls) j after (Some u ∷ ts)
    default_label : (falls : Bool) (k j : Tested) (env after : Env) (l : Label) (ls : List Label) (ts : List (Option TExpr)) → l.value ≡ None → first_broken (default_tests k.has_default falls) ≡ None → LabelsAre cs falls (and_default k) env ls j after ts → LabelsAre cs falls k env (l ∷ ls) j after (None ∷ ts)

-- ---- the first offence

pub data MayBeOffends (cs : List ClType) : Env → Option Expr → Offence → Type 0 where
  in_written : (env : Env) (e : Expr) (o : Offence) → Offends cs env false e o → MayBeOffends cs env (Some e) o

pub data SomeVariableOffends (cs : List ClType) (p : Setting) : State → Qualified → List InitDeclor → Offence → Type 0 where
  this_variable : (st : State) (q : Qualified) (d : InitDeclor) (ds : List InitDeclor) (o : Offence) → VariableOffends cs p.variables (kind.Var (length st.vars)) (again_at p.variables) st.env q d o → SomeVariableOffends cs p st q (d ∷ ds) o
  later_variable : (st : State) (q : Qualified) (d : InitDeclor) (ds : List InitDeclor) (env : Env) (name : List ℕ) (place : Place) (ty : TypeId) (own : Space) (t : Option TExpr) (o : Offence) → IsVariable cs p.variables (kind.Var (length st.vars)) (again_at p.variables) st.env q d env name place ty own t → SomeVariableOffends cs p (and_variable env (record { name = name; ty = ty; space = own; place = place }) st) q ds o → SomeVariableOffends cs p st q (d ∷ ds) o

mutual
  pub data ItemsOffend (cs : List ClType) : Setting → State → List Stmt → Offence → Type 0 where
    in_words : (p : Setting) (st : State) (s : Stmt) (ss : List Stmt) (place : Place) (spec : Spec) (items : Vec InitDeclor) (o : Offence) → IsStmt s place (node.Decl spec items) → WordsOffend cs st.env spec o → ItemsOffend cs p st (s ∷ ss) o
    in_variables : (p : Setting) (st : State) (s : Stmt) (ss : List Stmt) (place : Place) (spec : Spec) (items : Vec InitDeclor) (env : Env) (q : Qualified) (o : Offence) → IsStmt s place (node.Decl spec items) → IsSpecified cs st.env spec env q → SomeVariableOffends cs p (with_env env st) q items.items o → ItemsOffend cs p st (s ∷ ss) o
    in_statement : (p : Setting) (st : State) (s : Stmt) (ss : List Stmt) (o : Offence) → StmtOffends cs p st s o → ItemsOffend cs p st (s ∷ ss) o
    behind_declaration : (p : Setting) (st middle : State) (s : Stmt) (ss : List Stmt) (place : Place) (spec : Spec) (items : Vec InitDeclor) (env : Env) (q : Qualified) (ts : List TStmt) (o : Offence) → IsStmt s place (node.Decl spec items) → IsSpecified cs st.env spec env q → AreVariables cs p (with_env env st) q items.items middle ts → ItemsOffend cs p middle ss o → ItemsOffend cs p st (s ∷ ss) o
    behind_statement : (p : Setting) (st middle : State) (s : Stmt) (ss : List Stmt) (t : TStmt) (o : Offence) → StmtIs cs p st s middle t → ItemsOffend cs p middle ss o → ItemsOffend cs p st (s ∷ ss) o

  pub data StmtOffends (cs : List ClType) : Setting → State → Stmt → Offence → Type 0 where
    in_block : (p : Setting) (st : State) (s : Stmt) (place : Place) (items : Vec Stmt) (o : Offence) → IsStmt s place (node.Block items) → ItemsOffend cs (inside p) (entering st) items.items o → StmtOffends cs p st s o
    in_expression : (p : Setting) (st : State) (s : Stmt) (place : Place) (e : Expr) (o : Offence) → IsStmt s place (node.Expr e) → Offends cs st.env false e o → StmtOffends cs p st s o
    in_test : (p : Setting) (st : State) (s : Stmt) (place : Place) (e : Expr) (arms : Vec Stmt) (o : Offence) → IsStmt s place (node.If e arms) → Offends cs (entering st).env false e o → StmtOffends cs p st s o
    in_arms : (p : Setting) (st : State) (s : Stmt) (place : Place) (e : Expr) (arms : Vec Stmt) (env : Env) (u : TExpr) (q : Operand) (o : Offence) → IsStmt s place (node.If e arms) → Types cs (entering st).env false e env u q → ArmsOffend cs (inside p) (with_env env st) arms.items o → StmtOffends cs p st s o
    -- 318: the condition of `if`
    no_test : (p : Setting) (st after : State) (s : Stmt) (place : Place) (e : Expr) (arms : Vec Stmt) (env : Env) (u : TExpr) (q : Operand) (ts : List TStmt) → IsStmt s place (node.If e arms) → Types cs (entering st).env false e env u q → ArmsAre cs (inside p) (with_env env st) arms.items after ts → no_condition q ≡ true → StmtOffends cs p st s (at 318 place)
    in_while : (p : Setting) (st : State) (s : Stmt) (place : Place) (e : Expr) (body : Vec Stmt) (o : Offence) → IsStmt s place (node.While e body) → Offends cs (entering st).env false e o → StmtOffends cs p st s o
    in_while_body : (p : Setting) (st : State) (s : Stmt) (place : Place) (e : Expr) (body : Vec Stmt) (env : Env) (u : TExpr) (q : Operand) (o : Offence) → IsStmt s place (node.While e body) → Types cs (entering st).env false e env u q → ArmsOffend cs (in_loop p) (with_env env st) body.items o → StmtOffends cs p st s o
    -- 318: of `while`
    no_while : (p : Setting) (st after : State) (s : Stmt) (place : Place) (e : Expr) (body : Vec Stmt) (env : Env) (u : TExpr) (q : Operand) (ts : List TStmt) → IsStmt s place (node.While e body) → Types cs (entering st).env false e env u q → ArmsAre cs (in_loop p) (with_env env st) body.items after ts → no_condition q ≡ true → StmtOffends cs p st s (at 318 place)
    in_do_body : (p : Setting) (st : State) (s : Stmt) (place : Place) (e : Expr) (body : Vec Stmt) (o : Offence) → IsStmt s place (node.Do body e) → ArmsOffend cs (in_loop p) (entering st) body.items o → StmtOffends cs p st s o
    in_do : (p : Setting) (st middle : State) (s : Stmt) (place : Place) (e : Expr) (body : Vec Stmt) (ts : List TStmt) (o : Offence) → IsStmt s place (node.Do body e) → ArmsAre cs (in_loop p) (entering st) body.items middle ts → Offends cs middle.env false e o → StmtOffends cs p st s o
    -- 318: of `do`
    no_do : (p : Setting) (st middle : State) (s : Stmt) (place : Place) (e : Expr) (body : Vec Stmt) (ts : List TStmt) (env : Env) (u : TExpr) (q : Operand) → IsStmt s place (node.Do body e) → ArmsAre cs (in_loop p) (entering st) body.items middle ts → Types cs middle.env false e env u q → no_condition q ≡ true → StmtOffends cs p st s (at 318 place)
    in_for : (p : Setting) (st : State) (s : Stmt) (place : Place) (decl body : Vec Stmt) (first cond next : Option Expr) (o : Offence) → IsStmt s place (node.For decl first cond next body) → ForOffends cs p place (entering st) decl.items first cond next body.items o → StmtOffends cs p st s o
    in_switch_value : (p : Setting) (st : State) (s : Stmt) (place : Place) (e : Expr) (groups : Vec Group) (o : Offence) → IsStmt s place (node.Switch e groups) → Offends cs (entering st).env false e o → StmtOffends cs p st s o
    in_sections : (p : Setting) (st : State) (s : Stmt) (place : Place) (e : Expr) (groups : Vec Group) (env : Env) (u : TExpr) (q : Operand) (o : Offence) → IsStmt s place (node.Switch e groups) → Types cs (entering st).env false e env u q → SectionsOffend cs (in_switch p) (tested_first q.shape) (with_env env (entering st)) groups.items o → StmtOffends cs p st s o
    -- 318: what is tested by `switch`
    bad_switch : (p : Setting) (st after : State) (s : Stmt) (place : Place) (e : Expr) (groups : Vec Group) (env : Env) (u : TExpr) (q : Operand) (sections : List Section) → IsStmt s place (node.Switch e groups) → Types cs (entering st).env false e env u q → SectionsAre cs (in_switch p) (tested_first q.shape) (with_env env (entering st)) groups.items after sections → no_switch q.shape ≡ true → StmtOffends cs p st s (at 318 place)
    -- 319: `break` and `continue` outside of what they leave
    no_break : (p : Setting) (st : State) (s : Stmt) (place : Place) → IsStmt s place node.Break → p.breaks ≡ false → StmtOffends cs p st s (at 319 place)
    no_continue : (p : Setting) (st : State) (s : Stmt) (place : Place) → IsStmt s place node.Continue → p.continues ≡ false → StmtOffends cs p st s (at 319 place)
    in_return : (p : Setting) (st : State) (s : Stmt) (place : Place) (e : Expr) (o : Offence) → IsStmt s place (node.Return (Some e)) → Offends cs st.env false e o → StmtOffends cs p st s o
    -- 311, 323, 333: `return`
    no_return : (p : Setting) (st : State) (s : Stmt) (place : Place) (code : ℕ) → IsStmt s place (node.Return None) → first_broken (return_tests cs p.result None) ≡ Some code → StmtOffends cs p st s (at code place)
    no_return_value : (p : Setting) (st : State) (s : Stmt) (place : Place) (e : Expr) (env : Env) (u : TExpr) (q : Operand) (code : ℕ) → IsStmt s place (node.Return (Some e)) → Types cs st.env false e env u q → first_broken (return_tests cs p.result (Some q)) ≡ Some code → StmtOffends cs p st s (at code place)

  pub data ForOffends (cs : List ClType) : Setting → Place → State → List Stmt → Option Expr → Option Expr → Option Expr → List Stmt → Offence → Type 0 where
    in_declaration : (p : Setting) (place : Place) (st : State) (decl body : List Stmt) (first cond next : Option Expr) (o : Offence) → ItemsOffend cs (inside p) st decl o → ForOffends cs p place st decl first cond next body o
    in_first : (p : Setting) (place : Place) (st declared : State) (decl body : List Stmt) (first cond next : Option Expr) (ds : List TStmt) (o : Offence) → ItemsAre cs (inside p) st decl declared ds → MayBeOffends cs declared.env first o → ForOffends cs p place st decl first cond next body o
    in_condition : (p : Setting) (place : Place) (st declared : State) (decl body : List Stmt) (first cond next : Option Expr) (ds : List TStmt) (a : Env) (t1 : Option TExpr) (o1 : Option Operand) (o : Offence) → ItemsAre cs (inside p) st decl declared ds → MayBeTyped cs declared.env first a t1 o1 → MayBeOffends cs a cond o → ForOffends cs p place st decl first cond next body o
    in_next : (p : Setting) (place : Place) (st declared : State) (decl body : List Stmt) (first cond next : Option Expr) (ds : List TStmt) (a b : Env) (t1 : Option TExpr) (o1 : Option Operand) (u : TExpr) (q : Operand) (o : Offence) → ItemsAre cs (inside p) st decl declared ds → MayBeTyped cs declared.env first a t1 o1 → IsForCondition cs place a cond b u q → MayBeOffends cs b next o → ForOffends cs p place st decl first cond next body o
    in_body : (p : Setting) (place : Place) (st declared : State) (decl body : List Stmt) (first cond next : Option Expr) (ds : List TStmt) (a b c : Env) (t1 t3 : Option TExpr) (o1 o3 : Option Operand) (u : TExpr) (q : Operand) (o : Offence) → ItemsAre cs (inside p) st decl declared ds → MayBeTyped cs declared.env first a t1 o1 → IsForCondition cs place a cond b u q → MayBeTyped cs b next c t3 o3 → ArmsOffend cs (in_loop p) (with_env c declared) body o → ForOffends cs p place st decl first cond next body o
    -- 318: of `for`
    no_for : (p : Setting) (place : Place) (st declared after : State) (decl body : List Stmt) (first cond next : Option Expr) (ds ts : List TStmt) (a b c : Env) (t1 t3 : Option TExpr) (o1 o3 : Option Operand) (u : TExpr) (q : Operand) → ItemsAre cs (inside p) st decl declared ds → MayBeTyped cs declared.env first a t1 o1 → IsForCondition cs place a cond b u q → MayBeTyped cs b next c t3 o3 → ArmsAre cs (in_loop p) (with_env c declared) body after ts → no_condition q ≡ true → ForOffends cs p place st decl first cond next body (at 318 place)

  pub data ArmsOffend (cs : List ClType) : Setting → State → List Stmt → Offence → Type 0 where
    in_arm : (p : Setting) (st : State) (s : Stmt) (ss : List Stmt) (o : Offence) → StmtOffends cs p (entering st) s o → ArmsOffend cs p st (s ∷ ss) o
    in_declaration_arm : (p : Setting) (st : State) (s : Stmt) (ss : List Stmt) (place : Place) (spec : Spec) (items : Vec InitDeclor) (o : Offence) → IsStmt s place (node.Decl spec items) → ItemsOffend cs p (entering st) (s ∷ []) o → ArmsOffend cs p st (s ∷ ss) o
    behind_declaration_arm : (p : Setting) (st middle : State) (s : Stmt) (ss : List Stmt) (place : Place) (spec : Spec) (items : Vec InitDeclor) (us : List TStmt) (o : Offence) → IsStmt s place (node.Decl spec items) → ItemsAre cs p (entering st) (s ∷ []) middle us → ArmsOffend cs p (leaving st middle) ss o → ArmsOffend cs p st (s ∷ ss) o
    behind_arm : (p : Setting) (st middle : State) (s : Stmt) (ss : List Stmt) (t : TStmt) (o : Offence) → StmtIs cs p (entering st) s middle t → ArmsOffend cs p (leaving st middle) ss o → ArmsOffend cs p st (s ∷ ss) o

  pub data SectionsOffend (cs : List ClType) : Setting → Tested → State → List Group → Offence → Type 0 where
    in_labels : (p : Setting) (k : Tested) (st : State) (g : Group) (gs : List Group) (labels : List Label) (body : List Stmt) (o : Offence) → IsGroup g labels body → LabelsOffend cs (falls k body gs) k st.env labels o → SectionsOffend cs p k st (g ∷ gs) o
    in_section_items : (p : Setting) (k j : Tested) (st : State) (g : Group) (gs : List Group) (labels : List Label) (body : List Stmt) (env : Env) (ls : List (Option TExpr)) (o : Offence) → IsGroup g labels body → LabelsAre cs (falls k body gs) k st.env labels j env ls → ItemsOffend cs p (with_env env st) body o → SectionsOffend cs p k st (g ∷ gs) o
    after_section : (p : Setting) (k j : Tested) (st middle : State) (g : Group) (gs : List Group) (labels : List Label) (body : List Stmt) (env : Env) (ls : List (Option TExpr)) (ts : List TStmt) (o : Offence) → IsGroup g labels body → LabelsAre cs (falls k body gs) k st.env labels j env ls → ItemsAre cs p (with_env env st) body middle ts → SectionsOffend cs p (behind_section (list_ends body) j) middle gs o → SectionsOffend cs p k st (g ∷ gs) o

  pub data LabelsOffend (cs : List ClType) : Bool → Tested → Env → List Label → Offence → Type 0 where
    in_case : (falls : Bool) (k : Tested) (env : Env) (l : Label) (ls : List Label) (e : Expr) (o : Offence) → l.value ≡ Some e → Offends cs env false e o → LabelsOffend cs falls k env (l ∷ ls) o
    -- 334: a case value divides by zero or out of range
    case_divides : (falls : Bool) (k : Tested) (env middle : Env) (l : Label) (ls : List Label) (e : Expr) (t : TExpr) (q : Operand) (p : Place) → l.value ≡ Some e → Types cs env false e middle t q → divides (constancy_of cs t) ≡ Some p → LabelsOffend cs falls k env (l ∷ ls) (at 334 p)
    -- 311, 320: a case value
    no_case_value : (falls : Bool) (k : Tested) (env middle : Env) (l : Label) (ls : List Label) (e : Expr) (t : TExpr) (q : Operand) (code : ℕ) → l.value ≡ Some e → Types cs env false e middle t q → divides (constancy_of cs t) ≡ None → first_broken (case_tests cs q (case_of cs k.of q t) k.seen) ≡ Some code → LabelsOffend cs falls k env (l ∷ ls) (at code l.place)
    -- 321, 322: a default
    no_default : (falls : Bool) (k : Tested) (env : Env) (l : Label) (ls : List Label) (code : ℕ) → l.value ≡ None → first_broken (default_tests k.has_default falls) ≡ Some code → LabelsOffend cs falls k env (l ∷ ls) (at code l.place)
    behind_case : (falls : Bool) (k : Tested) (env middle : Env) (l : Label) (ls : List Label) (e : Expr) (t : TExpr) (q : Operand) (o : Offence) → l.value ≡ Some e → Types cs env false e middle t q → divides (constancy_of cs t) ≡ None → first_broken (case_tests cs q (case_of cs k.of q t) k.seen) ≡ None → LabelsOffend cs falls (and_seen (case_of cs k.of q t) k) middle ls o → LabelsOffend cs falls k env (l ∷ ls) o
    behind_default : (falls : Bool) (k : Tested) (env : Env) (l : Label) (ls : List Label) (o : Offence) → l.value ≡ None → first_broken (default_tests k.has_default falls) ≡ None → LabelsOffend cs falls (and_default k) env ls o → LabelsOffend cs falls k env (l ∷ ls) o
