-- What the calls that type statements answer, each in the table that it leaves and in all that have more types.
use Rattle.std.specs.Global.{Vec}
use Rattle.std.specs.Prelude.{◌≡◌, ℕ, Bool, true, false, List, [], ◌∷◌, ◌++◌, Option, Some, None}
use Rattle.clv_place.specs.declared.place.Place.{Place}
use Rattle.clv_place.specs.declared.stop.Offence.{Offence}
use Rattle.clv_place.specs.declared.stop.Stop.{Stop}
use Rattle.clv_place.specs.declared.stop.Stop.TheVariants.{Out, NoMemory}
use Rattle.cl_types.specs.declared.types.ClType.{ClType}
use Rattle.cl_ast.specs.declared.declaration.InitDeclor.{InitDeclor}
use Rattle.cl_ast.specs.declared.expression.Expr.{Expr}
use Rattle.cl_ast.specs.declared.expression.Spec.{Spec}
use Rattle.cl_ast.specs.declared.statement.Group.{Group}
use Rattle.cl_ast.specs.declared.statement.Label.{Label}
use Rattle.cl_ast.specs.declared.statement.Stmt.{Stmt}
use Rattle.cl_ast.specs.declared.statement.StmtNode.{StmtNode}
use Rattle.cl_ast.specs.declared.statement.StmtNode.TheVariants as node
use Rattle.cl_builtins.specs.declared.kind.Gentype.{Gentype}
use Rattle.cl_tree.specs.declared.expression.TExpr.{TExpr}
use Rattle.cl_tree.specs.declared.shape.Shape.TheVariants as shape
use Rattle.cl_tree.specs.declared.statement.Section.{Section}
use Rattle.cl_tree.specs.declared.statement.TStmt.{TStmt}
use Rattle.cl_tree.specs.declared.statement.TStmtNode.{TStmtNode}
use Rattle.cl_tree.specs.declared.statement.TStmtNode.TheVariants as tnode
use Rattle.cl_tree.specs.declared.unit.Variable.{Variable}
use Rattle.cl_tree.specs.Constants.{constancy_of, divides}
use Rattle.cl_rules.specs.declared.rule.Operand.{Operand}
use Rattle.cl_rules.specs.declared.rule.Qualified.{Qualified}
use Rattle.cl_rules.specs.declared.rule.Want.TheVariants as want
use Rattle.cl_scope.specs.Names.{Env}
use Rattle.cl_scope.specs.Scopes.{IsKnownEnv}
use Rattle.cl_make.specs.declared.typed.Typed.{Typed}
use Rattle.cl_make.specs.Building.{IsConverted}
use Rattle.cl_make.specs.Ready.{From}
use Rattle.cl_type_expr.specs.Offences.{at}
use Rattle.cl_type_expr.specs.Syntax.{IsStmt}
use Rattle.cl_typing.specs.declared.label.Tested.{Tested}
use Rattle.cl_typing.specs.declared.setting.Setting.{Setting}
use Rattle.cl_typing.specs.Settings.{State, state, IsTStmt}
use Rattle.cl_typing.specs.Statements.{no_condition, no_switch, tested_type, case_of, is_last, MayBeTyped, IsForCondition, AreVariables, SomeVariableOffends, ItemsAre, StmtIs, ArmsAre, SectionsAre, LabelsAre, MayBeOffends, ItemsOffend, StmtOffends, ArmsOffend, SectionsOffend, LabelsOffend}

-- ---- below the cycle

-- an expression that may be missing
pub record MayBeIs (cs : List ClType) (env : Env) (e : Option Expr) (after : Env) (t : Option TExpr) : Type 0 where
  pub operand : Option Operand
  pub types : From cs (λ more. MayBeTyped more env e after t operand)
  pub known : IsKnownEnv cs after

abbrev pub MayBeStops : List ClType → Env → Option Expr → Stop → Type 0
MayBeStops cs env e (Out o) = From cs (λ more. MayBeOffends more env e o)
MayBeStops cs env e NoMemory = Unit {0}

pub record ForConditionIs (cs : List ClType) (place : Place) (env : Env) (e : Option Expr) (after : Env) (r : Typed) : Type 0 where
  pub types : From cs (λ more. IsForCondition more place env e after r.tree r.operand)
  pub known : IsKnownEnv cs after

-- the tree of a condition
pub record ConditionIs (r : Typed) (t : TExpr) : Type 0 where
  pub fits : no_condition r.operand ≡ false
  pub is : t ≡ r.tree

pub record IsBrokenAt (o : Offence) (code : ℕ) (place : Place) (broken : Bool) : Type 0 where
  pub is : o ≡ at code place
  pub holds : broken ≡ true

abbrev pub ConditionStops : Typed → Place → Stop → Type 0
ConditionStops r place (Out o) = IsBrokenAt o 318 place (no_condition r.operand)
ConditionStops r place NoMemory = Unit {0}

-- what is tested by a `switch`
pub record SwitchIs (cs : List ClType) (r : Typed) (t : TExpr) : Type 0 where
  pub fits : no_switch r.operand.shape ≡ false
  pub converts : From cs (λ more. IsConverted more (want.Of (shape.Integers (tested_type r.operand.shape))) r.tree t)

abbrev pub SwitchStops : Typed → Place → Stop → Type 0
SwitchStops r place (Out o) = IsBrokenAt o 318 place (no_switch r.operand.shape)
SwitchStops r place NoMemory = Unit {0}

-- a statement that declares no variable, whatever variables there are
pub record AloneIs (cs : List ClType) (p : Setting) (env : Env) (s : Stmt) (after : Env) (t : TStmt) : Type 0 where
  pub is : From cs (λ more. (vars : List Variable) → StmtIs more p (state env vars) s (state after vars) t)
  pub known : IsKnownEnv cs after

abbrev pub AloneStops : List ClType → Setting → Env → Stmt → Stop → Type 0
AloneStops cs p env s (Out o) = From cs (λ more. (vars : List Variable) → StmtOffends more p (state env vars) s o)
AloneStops cs p env s NoMemory = Unit {0}

-- a statement that leaves what it may leave
pub record LeavingIs (may : Bool) (place : Place) (n : TStmtNode) (t : TStmt) : Type 0 where
  pub allowed : may ≡ true
  pub is : IsTStmt t place n

abbrev pub LeavingStops : Bool → Place → Stop → Type 0
LeavingStops may place (Out o) = (o ≡ at 319 place) × (may ≡ false)
LeavingStops may place NoMemory = ⊥

-- ---- labels

pub record CaseValueIs (cs : List ClType) (of : Gentype) (r : Typed) (n : Option ℕ) : Type 0 where
  pub whole : From cs (λ more. divides (constancy_of more r.tree) ≡ None)
  pub is : From cs (λ more. n ≡ case_of more of r.operand r.tree)

abbrev pub CaseValueStops : List ClType → TExpr → Stop → Type 0
CaseValueStops cs t (Out o) = (o.code ≡ 334) × From cs (λ more. divides (constancy_of more t) ≡ Some o.place)
CaseValueStops cs t NoMemory = Unit {0}

-- a case before whatever labels are behind it
pub record CaseIs (cs : List ClType) (k : Tested) (env : Env) (e : Expr) (j : Tested) (after : Env) (t : TExpr) : Type 0 where
  pub labels : From cs (λ more. (falls : Bool) (l : Label) (ls : List Label) (end : Tested) (last : Env) (ts : List (Option TExpr)) → l.value ≡ Some e → LabelsAre more falls j after ls end last ts → LabelsAre more falls k env (l ∷ ls) end last (Some t ∷ ts))
  pub stops : From cs (λ more. (falls : Bool) (l : Label) (ls : List Label) (o : Offence) → l.value ≡ Some e → LabelsOffend more falls j after ls o → LabelsOffend more falls k env (l ∷ ls) o)
  pub type : j.of ≡ k.of
  pub known : IsKnownEnv cs after

abbrev pub CaseStops : List ClType → Tested → Env → Expr → Place → Stop → Type 0
CaseStops cs k env e place (Out o) = From cs (λ more. (falls : Bool) (l : Label) (ls : List Label) → l.value ≡ Some e → l.place ≡ place → LabelsOffend more falls k env (l ∷ ls) o)
CaseStops cs k env e place NoMemory = Unit {0}

-- a label before whatever labels are behind it
pub record LabelIs (cs : List ClType) (falls : Bool) (k : Tested) (env : Env) (l : Label) (j : Tested) (after : Env) (t : Option TExpr) : Type 0 where
  pub labels : From cs (λ more. (ls : List Label) (end : Tested) (last : Env) (ts : List (Option TExpr)) → LabelsAre more falls j after ls end last ts → LabelsAre more falls k env (l ∷ ls) end last (t ∷ ts))
  pub stops : From cs (λ more. (ls : List Label) (o : Offence) → LabelsOffend more falls j after ls o → LabelsOffend more falls k env (l ∷ ls) o)
  pub type : j.of ≡ k.of
  pub known : IsKnownEnv cs after

abbrev pub LabelStops : List ClType → Bool → Tested → Env → Label → Stop → Type 0
LabelStops cs falls k env l (Out o) = From cs (λ more. (ls : List Label) → LabelsOffend more falls k env (l ∷ ls) o)
LabelStops cs falls k env l NoMemory = Unit {0}

pub record LabelsAreTyped (cs : List ClType) (falls : Bool) (k : Tested) (env : Env) (ls : List Label) (j : Tested) (after : Env) (ts : List (Option TExpr)) : Type 0 where
  pub labels : From cs (λ more. LabelsAre more falls k env ls j after ts)
  pub type : j.of ≡ k.of
  pub known : IsKnownEnv cs after

abbrev pub LabelsStop : List ClType → Bool → Tested → Env → List Label → Stop → Type 0
LabelsStop cs falls k env ls (Out o) = From cs (λ more. LabelsOffend more falls k env ls o)
LabelsStop cs falls k env ls NoMemory = Unit {0}

-- ---- variables

-- a variable before whatever variables are behind it
pub record VariableIsTyped (cs : List ClType) (p : Setting) (st : State) (q : Qualified) (d : InitDeclor) (after : State) (t : TStmt) : Type 0 where
  pub variables : From cs (λ more. (ds : List InitDeclor) (last : State) (ts : List TStmt) → AreVariables more p after q ds last ts → AreVariables more p st q (d ∷ ds) last (t ∷ ts))
  pub stops : From cs (λ more. (ds : List InitDeclor) (o : Offence) → SomeVariableOffends more p after q ds o → SomeVariableOffends more p st q (d ∷ ds) o)
  pub known : IsKnownEnv cs after.env

abbrev pub VariableStopsAt : List ClType → Setting → State → Qualified → InitDeclor → Stop → Type 0
VariableStopsAt cs p st q d (Out o) = From cs (λ more. (ds : List InitDeclor) → SomeVariableOffends more p st q (d ∷ ds) o)
VariableStopsAt cs p st q d NoMemory = Unit {0}

-- variables behind other statements
pub record VariablesAre (cs : List ClType) (p : Setting) (st : State) (q : Qualified) (ds : List InitDeclor) (after : State) (old new : List TStmt) : Type 0 where
  pub trees : List TStmt
  pub added : new ≡ old ++ trees
  pub variables : From cs (λ more. AreVariables more p st q ds after trees)
  pub known : IsKnownEnv cs after.env

abbrev pub VariablesStop : List ClType → Setting → State → Qualified → List InitDeclor → Stop → Type 0
VariablesStop cs p st q ds (Out o) = From cs (λ more. SomeVariableOffends more p st q ds o)
VariablesStop cs p st q ds NoMemory = Unit {0}

-- ---- the cycle of statements

pub record IsNoDeclaration (n : StmtNode) : Type 0 where
  pub no_declaration : (spec : Spec) (items : Vec InitDeclor) → n ≡ node.Decl spec items → ⊥

pub record StmtIsTyped (cs : List ClType) (p : Setting) (st : State) (s : Stmt) (after : State) (t : TStmt) : Type 0 where
  pub is : From cs (λ more. StmtIs more p st s after t)
  pub known : IsKnownEnv cs after.env

abbrev pub StmtStops : List ClType → Setting → State → Stmt → Stop → Type 0
StmtStops cs p st s (Out o) = From cs (λ more. StmtOffends more p st s o)
StmtStops cs p st s NoMemory = Unit {0}

pub record ItemsAreTyped (cs : List ClType) (p : Setting) (st : State) (ss : List Stmt) (after : State) (ts : List TStmt) : Type 0 where
  pub items : From cs (λ more. ItemsAre more p st ss after ts)
  pub known : IsKnownEnv cs after.env

abbrev pub ItemsStop : List ClType → Setting → State → List Stmt → Stop → Type 0
ItemsStop cs p st ss (Out o) = From cs (λ more. ItemsOffend more p st ss o)
ItemsStop cs p st ss NoMemory = Unit {0}

-- an item before whatever items are behind it, and behind the trees of others
pub record ItemIs (cs : List ClType) (p : Setting) (st : State) (s : Stmt) (after : State) (old new : List TStmt) : Type 0 where
  pub trees : List TStmt
  pub added : new ≡ old ++ trees
  pub items : From cs (λ more. (ss : List Stmt) (last : State) (ts : List TStmt) → ItemsAre more p after ss last ts → ItemsAre more p st (s ∷ ss) last (trees ++ ts))
  pub stops : From cs (λ more. (ss : List Stmt) (o : Offence) → ItemsOffend more p after ss o → ItemsOffend more p st (s ∷ ss) o)
  pub known : IsKnownEnv cs after.env

abbrev pub ItemStops : List ClType → Setting → State → Stmt → Stop → Type 0
ItemStops cs p st s (Out o) = From cs (λ more. (ss : List Stmt) → ItemsOffend more p st (s ∷ ss) o)
ItemStops cs p st s NoMemory = Unit {0}

pub record ArmsAreTyped (cs : List ClType) (p : Setting) (st : State) (ss : List Stmt) (after : State) (ts : List TStmt) : Type 0 where
  pub arms : From cs (λ more. ArmsAre more p st ss after ts)
  pub known : IsKnownEnv cs after.env

abbrev pub ArmsStop : List ClType → Setting → State → List Stmt → Stop → Type 0
ArmsStop cs p st ss (Out o) = From cs (λ more. ArmsOffend more p st ss o)
ArmsStop cs p st ss NoMemory = Unit {0}

-- A statement, or a declaration, which would be a block.
pub data IsPart (cs : List ClType) (p : Setting) (st : State) (s : Stmt) (after : State) (t : TStmt) : Type 0 where
  a_statement : StmtIs cs p st s after t → IsPart cs p st s after t
  a_declaration : (place : Place) (spec : Spec) (items : Vec InitDeclor) (us : Vec TStmt) → IsStmt s place (node.Decl spec items) → ItemsAre cs p st (s ∷ []) after us.items → IsTStmt t place (tnode.Block us) → IsPart cs p st s after t

pub data PartOffends (cs : List ClType) (p : Setting) (st : State) (s : Stmt) (o : Offence) : Type 0 where
  of_statement : StmtOffends cs p st s o → PartOffends cs p st s o
  of_declaration : (place : Place) (spec : Spec) (items : Vec InitDeclor) → IsStmt s place (node.Decl spec items) → ItemsOffend cs p st (s ∷ []) o → PartOffends cs p st s o

pub record PartIs (cs : List ClType) (p : Setting) (st : State) (s : Stmt) (after : State) (t : TStmt) : Type 0 where
  pub part : From cs (λ more. IsPart more p st s after t)
  pub known : IsKnownEnv cs after.env

abbrev pub PartStops : List ClType → Setting → State → Stmt → Stop → Type 0
PartStops cs p st s (Out o) = From cs (λ more. PartOffends more p st s o)
PartStops cs p st s NoMemory = Unit {0}

-- an arm before whatever arms are behind it
pub record ArmIs (cs : List ClType) (p : Setting) (st : State) (s : Stmt) (after : State) (t : TStmt) : Type 0 where
  pub arms : From cs (λ more. (ss : List Stmt) (last : State) (ts : List TStmt) → ArmsAre more p after ss last ts → ArmsAre more p st (s ∷ ss) last (t ∷ ts))
  pub stops : From cs (λ more. (ss : List Stmt) (o : Offence) → ArmsOffend more p after ss o → ArmsOffend more p st (s ∷ ss) o)
  pub known : IsKnownEnv cs after.env

abbrev pub ArmStops : List ClType → Setting → State → Stmt → Stop → Type 0
ArmStops cs p st s (Out o) = From cs (λ more. (ss : List Stmt) → ArmsOffend more p st (s ∷ ss) o)
ArmStops cs p st s NoMemory = Unit {0}

pub record SectionsAreTyped (cs : List ClType) (p : Setting) (k : Tested) (st : State) (gs : List Group) (after : State) (ss : List Section) : Type 0 where
  pub sections : From cs (λ more. SectionsAre more p k st gs after ss)
  pub known : IsKnownEnv cs after.env

abbrev pub SectionsStop : List ClType → Setting → Tested → State → List Group → Stop → Type 0
SectionsStop cs p k st gs (Out o) = From cs (λ more. SectionsOffend more p k st gs o)
SectionsStop cs p k st gs NoMemory = Unit {0}

-- a section before whatever sections are behind it, if it is the last where it says so
pub record SectionIs (cs : List ClType) (p : Setting) (last : Bool) (k : Tested) (st : State) (g : Group) (j : Tested) (after : State) (s : Section) : Type 0 where
  pub sections : From cs (λ more. (gs : List Group) (end : State) (ss : List Section) → is_last gs ≡ last → SectionsAre more p j after gs end ss → SectionsAre more p k st (g ∷ gs) end (s ∷ ss))
  pub stops : From cs (λ more. (gs : List Group) (o : Offence) → is_last gs ≡ last → SectionsOffend more p j after gs o → SectionsOffend more p k st (g ∷ gs) o)
  pub type : j.of ≡ k.of
  pub known : IsKnownEnv cs after.env

abbrev pub SectionStops : List ClType → Setting → Bool → Tested → State → Group → Stop → Type 0
SectionStops cs p last k st g (Out o) = From cs (λ more. (gs : List Group) → is_last gs ≡ last → SectionsOffend more p k st (g ∷ gs) o)
SectionStops cs p last k st g NoMemory = Unit {0}
