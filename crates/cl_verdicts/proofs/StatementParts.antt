-- The parts of statements that aren't statements have one verdict: expressions, those that may be missing, words of types, and variables.
use Rattle.std.proofs.Common.{◌≡◌, ℕ, List, [], ◌∷◌, length, refl, ap, subst, false, Option, Some, None}
use Rattle.clv_place.specs.declared.place.Place.{Place}
use Rattle.clv_place.specs.declared.stop.Offence.{Offence}
use Rattle.cl_types.specs.declared.types.ClType.{ClType}
use Rattle.cl_types.specs.Table.{AreBuilt}
use Rattle.cl_ast.specs.declared.declaration.InitDeclor.{InitDeclor}
use Rattle.cl_ast.specs.declared.expression.Expr.{Expr}
use Rattle.cl_ast.specs.declared.expression.Spec.{Spec}
use Rattle.cl_builtins.specs.Kinds.{int}
use Rattle.cl_tree.specs.declared.expression.TExpr.{TExpr}
use Rattle.cl_tree.specs.declared.statement.TStmt.{TStmt}
use Rattle.cl_tree.specs.declared.unit.Variable.{Variable}
use Rattle.cl_rules.specs.declared.rule.Operand.{Operand}
use Rattle.cl_rules.specs.declared.rule.Qualified.{Qualified}
use Rattle.cl_scope.specs.declared.scope.DeclaredKind.{DeclaredKind}
use Rattle.cl_scope.specs.declared.scope.DeclaredKind.TheVariants as kind
use Rattle.cl_scope.specs.Names.{Env}
use Rattle.cl_make.specs.Building.{IsNumber}
use Rattle.cl_type_expr.specs.Expressions.{Types, IsSpecified}
use Rattle.cl_type_expr.specs.Offences.{Offends, WordsOffend}
use Rattle.cl_variables.specs.declared.declaring.Where.{Where}
use Rattle.cl_variables.specs.Answers.{again_at}
use Rattle.cl_variables.specs.Declarations.{IsVariable, VariableOffends}
use Rattle.cl_typing.specs.declared.setting.Setting.{Setting}
use Rattle.cl_typing.specs.Settings.{State}
use Rattle.cl_typing.specs.Statements.{and_variable, MayBeTyped, left_out, written, IsForCondition, condition_missing, condition_given, AreVariables, no_variable, more_variables, MayBeOffends, in_written, SomeVariableOffends, this_variable, later_variable}
use Rattle.cl_renaming.specs.Renaming.{operand_as, qualified_as, env_as, IsRenaming, AreTypes}
use Rattle.cl_renaming.proofs.Nodes.{number_one}
use Rattle.cl_renaming.proofs.Agreement.{Same, types_same, is_specified_same}
use Rattle.cl_renaming.proofs.Excluded.{typed_no_offence, words_no_offence}
use Rattle.cl_renaming.proofs.Excluding.{offence_no_type, offence_no_words}
use Rattle.cl_renaming.proofs.OneOffence.{offences_one, words_one}
use Rattle.cl_verdicts.proofs.States.{variable_as, setting_as, state_as, env_same, count_same, and_variable_same}
use Rattle.cl_verdicts.proofs.StatementOutcomes.{Outcome, gives, stops, Agree, First, behind, stopped, gives_then, stops_then, given}
use Rattle.cl_verdicts.proofs.VariableVerdict.{variable_same, variable_no_offence, offence_no_variable, variable_offences_one}

-- ---- what the parts come to

abbrev pub Typing : Type 0
Typing = Env × TExpr × Operand

abbrev pub ExprComes : List ClType → Env → Expr → Outcome Typing → Type 0
ExprComes cs env e (gives a) = Types cs env false e a.0 a.1 a.2
ExprComes cs env e (stops o) = Offends cs env false e o

abbrev pub WordsCome : List ClType → Env → Spec → Outcome (Env × Qualified) → Type 0
WordsCome cs env s (gives a) = IsSpecified cs env s a.0 a.1
WordsCome cs env s (stops o) = WordsOffend cs env s o

abbrev pub MayBeComes : List ClType → Env → Option Expr → Outcome Env → Type 0
MayBeComes cs env e (gives after) = (t : Option TExpr) × (o : Option Operand) × MayBeTyped cs env e after t o
MayBeComes cs env e (stops o) = MayBeOffends cs env e o

abbrev pub ConditionComes : List ClType → Place → Env → Option Expr → Outcome (Env × Operand) → Type 0
ConditionComes cs place env e (gives a) = (t : TExpr) × IsForCondition cs place env e a.0 t a.1
ConditionComes cs place env e (stops o) = MayBeOffends cs env e o

abbrev pub VariableComes : List ClType → Where → DeclaredKind → Env → Qualified → InitDeclor → Outcome (Env × Variable) → Type 0
VariableComes cs w k env q d (gives a) = (t : Option TExpr) × IsVariable cs w k (again_at w) env q d a.0 a.1.name a.1.place a.1.ty a.1.space t
VariableComes cs w k env q d (stops o) = VariableOffends cs w k (again_at w) env q d o

abbrev pub VariablesCome : List ClType → Setting → State → Qualified → List InitDeclor → Outcome State → Type 0
VariablesCome cs p st q ds (gives after) = (ts : List TStmt) × AreVariables cs p st q ds after ts
VariablesCome cs p st q ds (stops o) = SomeVariableOffends cs p st q ds o

-- ---- views

abbrev pub MayBeBy : List ClType → Env → Option Expr → Outcome Env → Type 0
MayBeBy cs env None v = v ≡ gives env
MayBeBy cs env (Some e) v = First (ExprComes cs env e) (λ a w. w ≡ gives a.0) v

may_be_typed_view : (cs : List ClType) (i0 : Env) (i1 : Option Expr) (i2 : Env) (i3 : Option TExpr) (i4 : Option Operand) → MayBeTyped cs i0 i1 i2 i3 i4 → MayBeBy cs i0 i1 (gives i2)
may_be_typed_view cs _ _ _ _ _ (left_out env) = refl
may_be_typed_view cs _ _ _ _ _ (written env after e t o h0) = behind (after, t, o) (gives after) h0 refl

may_be_off_view : (cs : List ClType) (i0 : Env) (i1 : Option Expr) (i2 : Offence) → MayBeOffends cs i0 i1 i2 → MayBeBy cs i0 i1 (stops i2)
may_be_off_view cs _ _ _ (in_written env e o h0) = stopped o h0

pub may_be_viewed : (cs : List ClType) (env : Env) (e : Option Expr) (v : Outcome Env) → MayBeComes cs env e v → MayBeBy cs env e v
may_be_viewed cs env e (gives after) c = may_be_typed_view cs env e after c.0 c.1 c.2
may_be_viewed cs env e (stops o) c = may_be_off_view cs env e o c

record MissingCondition (cs : List ClType) (place : Place) (env : Env) (v : Outcome (Env × Operand)) : Type 0 where
  tree : TExpr
  operand : Operand
  number : IsNumber cs int 1 place tree operand
  is : v ≡ gives (env, operand)

abbrev ConditionBy : List ClType → Place → Env → Option Expr → Outcome (Env × Operand) → Type 0
ConditionBy cs place env None v = MissingCondition cs place env v
ConditionBy cs place env (Some e) v = First (ExprComes cs env e) (λ a w. w ≡ gives (a.0, a.2)) v

condition_view : (cs : List ClType) (place : Place) (i0 : Env) (i1 : Option Expr) (i2 : Env) (i3 : TExpr) (i4 : Operand) → IsForCondition cs place i0 i1 i2 i3 i4 → ConditionBy cs place i0 i1 (gives (i2, i4))
condition_view cs place _ _ _ _ _ (condition_missing env t o h0) = record { tree = t; operand = o; number = h0; is = refl }
condition_view cs place _ _ _ _ _ (condition_given env after e t o h0) = behind (after, t, o) (gives (after, o)) h0 refl

condition_off_view : (cs : List ClType) (place : Place) (i0 : Env) (i1 : Option Expr) (i2 : Offence) → MayBeOffends cs i0 i1 i2 → ConditionBy cs place i0 i1 (stops i2)
condition_off_view cs place _ _ _ (in_written env e o h0) = stopped o h0

condition_viewed : (cs : List ClType) (place : Place) (env : Env) (e : Option Expr) (v : Outcome (Env × Operand)) → ConditionComes cs place env e v → ConditionBy cs place env e v
condition_viewed cs place env e (gives a) c = condition_view cs place env e a.0 c.0 a.1 c.1
condition_viewed cs place env e (stops o) c = condition_off_view cs place env e o c

abbrev VariablesBy : List ClType → Setting → State → Qualified → List InitDeclor → Outcome State → Type 0
VariablesBy cs p st q [] v = v ≡ gives st
VariablesBy cs p st q (d ∷ ds) v = First (VariableComes cs p.variables (kind.Var (length st.vars)) st.env q d) (λ a w. VariablesCome cs p (and_variable a.0 a.1 st) q ds w) v

variables_view : (cs : List ClType) (p : Setting) (i0 : State) (i1 : Qualified) (i2 : List InitDeclor) (i3 : State) (i4 : List TStmt) → AreVariables cs p i0 i1 i2 i3 i4 → VariablesBy cs p i0 i1 i2 (gives i3)
variables_view cs p _ _ _ _ _ (no_variable st q) = refl
variables_view cs p _ _ _ _ _ (more_variables st after q d ds env name place ty own t s ss h0 h1 h2) =
    behind (env, record { name = name; ty = ty; space = own; place = place }) (gives after) (t, h0) (ss, h2)

variables_off_view : (cs : List ClType) (p : Setting) (i0 : State) (i1 : Qualified) (i2 : List InitDeclor) (i3 : Offence) → SomeVariableOffends cs p i0 i1 i2 i3 → VariablesBy cs p i0 i1 i2 (stops i3)
variables_off_view cs p _ _ _ _ (this_variable st q d ds o h0) = stopped o h0
variables_off_view cs p _ _ _ _ (later_variable st q d ds env name place ty own t o h0 h1) = behind (env, record { name = name; ty = ty; space = own; place = place }) (stops o) (t, h0) h1

variables_viewed : (cs : List ClType) (p : Setting) (st : State) (q : Qualified) (ds : List InitDeclor) (v : Outcome State) → VariablesCome cs p st q ds v → VariablesBy cs p st q ds v
variables_viewed cs p st q ds (gives after) c = variables_view cs p st q ds after c.0 c.1
variables_viewed cs p st q ds (stops o) c = variables_off_view cs p st q ds o c

-- ---- agreement

abbrev pub TypingSame : (ℕ → ℕ) → Typing → Typing → Type 0
TypingSame r a b = Same r a.0 b.0 a.1 b.1 a.2 b.2

abbrev pub EnvSame : (ℕ → ℕ) → Env → Env → Type 0
EnvSame r a b = b ≡ env_as r a

abbrev pub WordsAgree : (ℕ → ℕ) → Env × Qualified → Env × Qualified → Type 0
WordsAgree r a b = (b.0 ≡ env_as r a.0) × (b.1 ≡ qualified_as r a.1)

abbrev pub ConditionSame : (ℕ → ℕ) → Env × Operand → Env × Operand → Type 0
ConditionSame r a b = (b.0 ≡ env_as r a.0) × (b.1 ≡ operand_as r a.1)

abbrev VariableSame : (ℕ → ℕ) → Env × Variable → Env × Variable → Type 0
VariableSame r a b = (b.0 ≡ env_as r a.0) × (b.1 ≡ variable_as r a.1)

abbrev pub StateSame : (ℕ → ℕ) → State → State → Type 0
StateSame r a b = b ≡ state_as r a

module _ (cs ds : List ClType) (r : ℕ → ℕ) (e : IsRenaming cs ds r) (bc : AreBuilt [] cs) (b : AreTypes ds) where
  pub typed_one : (env env2 : Env) (x : Expr) (after : Env) (t : TExpr) (o : Operand) → env2 ≡ env_as r env → Types cs env false x after t o → (y : Outcome Typing) → ExprComes ds env2 x y → Agree (TypingSame r) (gives (after, t, o)) y
  typed_one env env2 x after t o f h (gives z) k = types_same cs ds r e bc b _ _ _ _ _ _ h env2 z.0 z.1 z.2 f k
  typed_one env env2 x after t o f h (stops p) k = typed_no_offence cs ds r e bc b _ _ _ _ k env after t o f h

  pub expr_off_one : (env env2 : Env) (x : Expr) (o : Offence) → env2 ≡ env_as r env → Offends cs env false x o → (y : Outcome Typing) → ExprComes ds env2 x y → Agree (TypingSame r) (stops o) y
  expr_off_one env env2 x o f h (gives z) k = offence_no_type cs ds r e bc b _ _ _ _ h env2 z.0 z.1 z.2 f k
  expr_off_one env env2 x o f h (stops p) k = offences_one cs ds r e bc b _ _ _ _ h env2 p f k

  pub specified_one : (env env2 : Env) (s : Spec) (after : Env) (q : Qualified) → env2 ≡ env_as r env → IsSpecified cs env s after q → (y : Outcome (Env × Qualified)) → WordsCome ds env2 s y → Agree (WordsAgree r) (gives (after, q)) y
  specified_one env env2 s after q f h (gives z) k = is_specified_same cs ds r e bc b _ _ _ _ h env2 z.0 z.1 f k
  specified_one env env2 s after q f h (stops p) k = words_no_offence cs ds r e bc b _ _ _ k env after q f h

  pub words_off_one : (env env2 : Env) (s : Spec) (o : Offence) → env2 ≡ env_as r env → WordsOffend cs env s o → (y : Outcome (Env × Qualified)) → WordsCome ds env2 s y → Agree (WordsAgree r) (stops o) y
  words_off_one env env2 s o f h (gives z) k = offence_no_words cs ds r e bc b _ _ _ h env2 z.0 z.1 f k
  words_off_one env env2 s o f h (stops p) k = words_one cs ds r e bc b _ _ _ h env2 p f k

  pub may_be_one : (i0 : Env) (i1 : Option Expr) (i2 : Env) (i3 : Option TExpr) (i4 : Option Operand) → MayBeTyped cs i0 i1 i2 i3 i4 → (env2 : Env) → env2 ≡ env_as r i0 → (y : Outcome Env) → MayBeComes ds env2 i1 y → Agree (EnvSame r) (gives i2) y
  may_be_one _ _ _ _ _ (left_out env) env2 f y c = given (EnvSame r) (gives env) y (gives env2) f (may_be_viewed ds env2 None y c)
  may_be_one _ _ _ _ _ (written env after x t o h0) env2 f y c =
      gives_then (TypingSame r) (EnvSame r) (after, t, o) (gives after) y (may_be_viewed ds env2 (Some x) y c) (typed_one env env2 x after t o f h0) (λ z s q. given (EnvSame r) (gives after) y (gives z.0) s.0 q)

  pub may_be_off_one : (i0 : Env) (i1 : Option Expr) (i2 : Offence) → MayBeOffends cs i0 i1 i2 → (env2 : Env) → env2 ≡ env_as r i0 → (y : Outcome Env) → MayBeComes ds env2 i1 y → Agree (EnvSame r) (stops i2) y
  may_be_off_one _ _ _ (in_written env x o h0) env2 f y c = stops_then (TypingSame r) (EnvSame r) o y (may_be_viewed ds env2 (Some x) y c) (expr_off_one env env2 x o f h0)

  pub condition_one : (place : Place) (i0 : Env) (i1 : Option Expr) (i2 : Env) (i3 : TExpr) (i4 : Operand) → IsForCondition cs place i0 i1 i2 i3 i4 → (env2 : Env) → env2 ≡ env_as r i0 → (y : Outcome (Env × Operand)) → ConditionComes ds place env2 i1 y → Agree (ConditionSame r) (gives (i2, i4)) y
  condition_one place _ _ _ _ _ (condition_missing env t o h0) env2 f y c =
      let k = condition_viewed ds place env2 None y c in
      given (ConditionSame r) (gives (env, o)) y (gives (env2, k.operand)) (f, (number_one cs ds r e b int 1 1 place t k.tree o k.operand refl h0 k.number).0) k.is
  condition_one place _ _ _ _ _ (condition_given env after x t o h0) env2 f y c =
      gives_then (TypingSame r) (ConditionSame r) (after, t, o) (gives (after, o)) y (condition_viewed ds place env2 (Some x) y c) (typed_one env env2 x after t o f h0)
      (λ z s q. given (ConditionSame r) (gives (after, o)) y (gives (z.0, z.2)) (s.0, s.1) q)

  pub condition_off_one : (place : Place) (i0 : Env) (i1 : Option Expr) (i2 : Offence) → MayBeOffends cs i0 i1 i2 → (env2 : Env) → env2 ≡ env_as r i0 → (y : Outcome (Env × Operand)) → ConditionComes ds place env2 i1 y → Agree (ConditionSame r) (stops i2) y
  condition_off_one place _ _ _ (in_written env x o h0) env2 f y c = stops_then (TypingSame r) (ConditionSame r) o y (condition_viewed ds place env2 (Some x) y c) (expr_off_one env env2 x o f h0)

  -- ---- variables

  module _ (w w2 : Where) (k k2 : DeclaredKind) (env env2 : Env) (q q2 : Qualified) (d : InitDeclor) (f : w2 ≡ w) (g : k2 ≡ k) (h : env2 ≡ env_as r env) (l : q2 ≡ qualified_as r q) where
    here : (y : Outcome (Env × Variable)) → VariableComes ds w2 k2 env2 q2 d y → VariableComes ds w k env2 q2 d y
    here y c = subst (λ z. VariableComes ds w z env2 q2 d y) g (subst (λ z. VariableComes ds z k2 env2 q2 d y) f c)

    variable_one : (after : Env) (v : Variable) (t : Option TExpr) → IsVariable cs w k (again_at w) env q d after v.name v.place v.ty v.space t → (y : Outcome (Env × Variable)) → VariableComes ds w2 k2 env2 q2 d y → Agree (VariableSame r) (gives (after, v)) y
    variable_one after v t x y c = by y (here y c)
      where
        by : (y : Outcome (Env × Variable)) → VariableComes ds w k env2 q2 d y → Agree (VariableSame r) (gives (after, v)) y
        by (gives z) n =
            let a = variable_same cs ds r e bc b w k env q d after v.name v.place v.ty v.space t x env2 q2 z.0 z.1.name z.1.place z.1.ty z.1.space n.0 h l n.1 in
            (a.0, λ i. record { name = a.1 i; ty = a.3 i; space = a.4 i; place = a.2 i })
        by (stops p) n = variable_no_offence cs ds r e bc b w k env2 q2 d p n env q after v.name v.place v.ty v.space t h l x

    variable_off_one : (o : Offence) → VariableOffends cs w k (again_at w) env q d o → (y : Outcome (Env × Variable)) → VariableComes ds w2 k2 env2 q2 d y → Agree (VariableSame r) (stops o) y
    variable_off_one o x y c = by y (here y c)
      where
        by : (y : Outcome (Env × Variable)) → VariableComes ds w k env2 q2 d y → Agree (VariableSame r) (stops o) y
        by (gives z) n = offence_no_variable cs ds r e bc b w k env q d o x env2 q2 z.0 z.1.name z.1.place z.1.ty z.1.space n.0 h l n.1
        by (stops p) n = variable_offences_one cs ds r e bc b w k env q d o x env2 q2 p h l n

  pub variables_one : (p : Setting) (i0 : State) (i1 : Qualified) (i2 : List InitDeclor) (i3 : State) (i4 : List TStmt) → AreVariables cs p i0 i1 i2 i3 i4 → (p2 : Setting) (st2 : State) (q2 : Qualified) → p2 ≡ setting_as r p → st2 ≡ state_as r i0 → q2 ≡ qualified_as r i1 → (w : Outcome State) → VariablesCome ds p2 st2 q2 i2 w → Agree (StateSame r) (gives i3) w
  variables_one p _ _ _ _ _ (no_variable st q) p2 st2 q2 f g h w c = given (StateSame r) (gives st) w (gives st2) g (variables_viewed ds p2 st2 q2 [] w c)
  variables_one p _ _ _ _ _ (more_variables st after q d xs env name place ty own t s ss h0 h1 h2) p2 st2 q2 f g h w c =
      let v : Variable = record { name = name; ty = ty; space = own; place = place } in
      gives_then (VariableSame r) (StateSame r) (env, v) (gives after) w (variables_viewed ds p2 st2 q2 (d ∷ xs) w c)
      (variable_one p.variables p2.variables (kind.Var (length st.vars)) (kind.Var (length st2.vars)) st.env st2.env q q2 d (ap (λ z. z.variables) f) (ap kind.Var (count_same r st st2 g)) (env_same r st st2 g) h env v t h0)
      (λ z y n. variables_one p _ _ _ _ _ h2 p2 (and_variable z.0 z.1 st2) q2 f (and_variable_same r env z.0 v z.1 st st2 y.0 y.1 g) h w n)

  pub variables_off_one : (p : Setting) (i0 : State) (i1 : Qualified) (i2 : List InitDeclor) (i3 : Offence) → SomeVariableOffends cs p i0 i1 i2 i3 → (p2 : Setting) (st2 : State) (q2 : Qualified) → p2 ≡ setting_as r p → st2 ≡ state_as r i0 → q2 ≡ qualified_as r i1 → (w : Outcome State) → VariablesCome ds p2 st2 q2 i2 w → Agree (StateSame r) (stops i3) w
  variables_off_one p _ _ _ _ (this_variable st q d xs o h0) p2 st2 q2 f g h w c =
      stops_then (VariableSame r) (StateSame r) o w (variables_viewed ds p2 st2 q2 (d ∷ xs) w c)
      (variable_off_one p.variables p2.variables (kind.Var (length st.vars)) (kind.Var (length st2.vars)) st.env st2.env q q2 d (ap (λ z. z.variables) f) (ap kind.Var (count_same r st st2 g)) (env_same r st st2 g) h o h0)
  variables_off_one p _ _ _ _ (later_variable st q d xs env name place ty own t o h0 h1) p2 st2 q2 f g h w c =
      let v : Variable = record { name = name; ty = ty; space = own; place = place } in
      gives_then (VariableSame r) (StateSame r) (env, v) (stops o) w (variables_viewed ds p2 st2 q2 (d ∷ xs) w c)
      (variable_one p.variables p2.variables (kind.Var (length st.vars)) (kind.Var (length st2.vars)) st.env st2.env q q2 d (ap (λ z. z.variables) f) (ap kind.Var (count_same r st st2 g)) (env_same r st st2 g) h env v t h0)
      (λ z y n. variables_off_one p _ _ _ _ h1 p2 (and_variable z.0 z.1 st2) q2 f (and_variable_same r env z.0 v z.1 st st2 y.0 y.1 g) h w n)
