-- What the calls that type what stands at file scope answer, each in the table that it leaves and in all that have more types.
use Rattle.std.specs.Prelude.{◌≡◌, ◌<◌, ℕ, Bool, List, [], ◌∷◌, length, Option, Some, None}
use Rattle.clv_place.specs.declared.place.Place.{Place}
use Rattle.clv_place.specs.declared.stop.Offence.{Offence}
use Rattle.clv_place.specs.declared.stop.Stop.{Stop}
use Rattle.clv_place.specs.declared.stop.Stop.TheVariants.{Out, NoMemory}
use Rattle.cl_types.specs.declared.types.ClType.{ClType}
use Rattle.cl_types.specs.declared.types.TypeId.{TypeId}
use Rattle.cl_ast.specs.declared.declaration.External.{External}
use Rattle.cl_ast.specs.declared.declaration.FWord.{FWord}
use Rattle.cl_ast.specs.declared.declaration.InitDeclor.{InitDeclor}
use Rattle.cl_ast.specs.declared.declaration.Param.{Param}
use Rattle.cl_ast.specs.declared.expression.Expr.{Expr}
use Rattle.cl_ast.specs.declared.expression.Spec.{Spec}
use Rattle.cl_builtins.specs.Found.{IsKnown, AreKnown}
use Rattle.cl_tree.specs.declared.expression.TExpr.{TExpr}
use Rattle.cl_tree.specs.declared.unit.Variable.{Variable}
use Rattle.cl_tree.specs.Units.{types_of}
use Rattle.cl_tree.specs.Constants.{constancy_of, divides, positive_of}
use Rattle.cl_rules.specs.declared.rule.Qualified.{Qualified}
use Rattle.cl_rules.specs.Operands.{first_broken}
use Rattle.cl_words.specs.declared.naming.Sketch.{Sketch}
use Rattle.cl_make.specs.Wanted.{IsDeclaredAs}
use Rattle.cl_ast.specs.declared.declaration.External.TheVariants as external
use Rattle.cl_ast.specs.declared.expression.Declor.{Declor}
use Rattle.cl_scope.specs.Names.{Env}
use Rattle.cl_scope.specs.Scopes.{IsKnownEnv}
use Rattle.cl_make.specs.Ready.{From}
use Rattle.cl_ast.specs.declared.statement.Stmt.{Stmt}
use Rattle.cl_tree.specs.declared.statement.TStmt.{TStmt}
use Rattle.cl_typing.specs.declared.head.Head.{Head}
use Rattle.cl_typing.specs.declared.setting.Setting.{Setting}
use Rattle.cl_typing.specs.Settings.{State}
use Rattle.cl_typing.specs.Statements.{ItemsOffend}
use Rattle.cl_typing.specs.Answers.{ItemsAreTyped}
use Rattle.cl_typing.specs.declared.unit_state.UnitState.{UnitState}
use Rattle.cl_typing.specs.Units.{with_env, typedef_tests, ConstantsAre, ConstantsOffend, SizesAre, SizesOffend, ParamsAre, ParamsOffend, IsHead, HeadOffends, IsBody, ConstantsDeclared, SomeConstantOffends, ExternalIs, ExternalOffends, UnitIs, SomeExternalOffends}

-- ---- required sizes

-- a positive constant, or none
pub record PositiveIs (cs : List ClType) (t : TExpr) (n : Option ℕ) : Type 0 where
  pub whole : From cs (λ more. divides (constancy_of more t) ≡ None)
  pub is : From cs (λ more. positive_of more t ≡ n)

abbrev pub PositiveStops : List ClType → TExpr → Stop → Type 0
PositiveStops cs t (Out o) = (o.code ≡ 334) × From cs (λ more. divides (constancy_of more t) ≡ Some o.place)
PositiveStops cs t NoMemory = Unit {0}

abbrev pub AreAbove0 : List (Option ℕ) → Type 0
AreAbove0 [] = Unit {0}
AreAbove0 (None ∷ ns) = AreAbove0 ns
AreAbove0 (Some n ∷ ns) = (0 < n) × AreAbove0 ns

pub record ConstantsAreTyped (cs : List ClType) (env : Env) (es : List Expr) (after : Env) (ns : List (Option ℕ)) : Type 0 where
  pub constants : From cs (λ more. ConstantsAre more env es after ns)
  pub positive : AreAbove0 ns
  pub known : IsKnownEnv cs after

abbrev pub ConstantsStop : List ClType → Env → List Expr → Stop → Type 0
ConstantsStop cs env es (Out o) = From cs (λ more. ConstantsOffend more env es o)
ConstantsStop cs env es NoMemory = Unit {0}

pub record SizesAreTyped (cs : List ClType) (env : Env) (given : Bool) (ws : List FWord) (after : Env) (size : Option (List ℕ)) : Type 0 where
  pub sizes : From cs (λ more. SizesAre more env given ws after size)
  pub known : IsKnownEnv cs after

abbrev pub SizesStop : List ClType → Env → Bool → List FWord → Stop → Type 0
SizesStop cs env given ws (Out o) = From cs (λ more. SizesOffend more env given ws o)
SizesStop cs env given ws NoMemory = Unit {0}

-- ---- parameters

-- a parameter before whatever parameters are behind it
pub record ParamIs (cs : List ClType) (kernel : Bool) (env : Env) (before : List Variable) (p : Param) (there : Env) (now : List Variable) : Type 0 where
  pub params : From cs (λ more. (ps : List Param) (after : Env) (all : List Variable) → ParamsAre more kernel there now ps after all → ParamsAre more kernel env before (p ∷ ps) after all)
  pub stops : From cs (λ more. (ps : List Param) (o : Offence) → ParamsOffend more kernel there now ps o → ParamsOffend more kernel env before (p ∷ ps) o)
  pub types : AreKnown cs (types_of before) → AreKnown cs (types_of now)
  pub known : IsKnownEnv cs there

abbrev pub ParamStops : List ClType → Bool → Env → List Variable → Param → Stop → Type 0
ParamStops cs kernel env before p (Out o) = From cs (λ more. (ps : List Param) → ParamsOffend more kernel env before (p ∷ ps) o)
ParamStops cs kernel env before p NoMemory = Unit {0}

pub record ParamsAreTyped (cs : List ClType) (kernel : Bool) (env : Env) (ps : List Param) (after : Env) (all : List Variable) : Type 0 where
  pub params : From cs (λ more. ParamsAre more kernel env [] ps after all)
  pub types : AreKnown cs (types_of all)
  pub known : IsKnownEnv cs after

abbrev pub ParamsStop : List ClType → Bool → Env → List Param → Stop → Type 0
ParamsStop cs kernel env ps (Out o) = From cs (λ more. ParamsOffend more kernel env [] ps o)
ParamsStop cs kernel env ps NoMemory = Unit {0}

-- ---- functions

-- The declarations in a function's head, whose parameters are in a block that isn't left yet.
pub record HeadIs (cs : List ClType) (bodies : List (List ℕ)) (u : UnitState) (words : List FWord) (spec : Spec) (name : List ℕ) (params : List Param) (body : Bool) (inner : Env) (h : Head) : Type 0 where
  pub typed : Env
  pub head : From cs (λ more. IsHead more bodies u words spec name params body typed inner h.q h.params h.size)
  pub mark : h.mark ≡ length typed.outer
  pub around : IsKnownEnv cs typed
  pub result : IsKnown cs h.q.ty
  pub known : IsKnownEnv cs inner

abbrev pub HeadStops : List ClType → UnitState → List FWord → Spec → List ℕ → Place → List Param → Bool → Stop → Type 0
HeadStops cs u words spec name place params body (Out o) = From cs (λ more. HeadOffends more u words spec name place params body o)
HeadStops cs u words spec name place params body NoMemory = Unit {0}

-- the statements of a body
pub record BodyIs (cs : List ClType) (p : Setting) (st : State) (s : Stmt) (after : State) (ts : List TStmt) : Type 0 where
  pub inside : List Stmt
  pub body : IsBody s inside
  pub items : ItemsAreTyped cs p st inside after ts

pub record SomeBodyOffends (cs : List ClType) (p : Setting) (st : State) (s : Stmt) (o : Offence) : Type 0 where
  pub inside : List Stmt
  pub body : IsBody s inside
  pub offends : From cs (λ more. ItemsOffend more p st inside o)

abbrev pub BodyStops : List ClType → Setting → State → Stmt → Stop → Type 0
BodyStops cs p st s (Out o) = SomeBodyOffends cs p st s o
BodyStops cs p st s NoMemory = Unit {0}

-- ---- constants

-- a constant before whatever constants are behind it
pub record ConstantIs (cs : List ClType) (q : Qualified) (u : UnitState) (d : InitDeclor) (after : UnitState) : Type 0 where
  pub constants : From cs (λ more. (ds : List InitDeclor) (last : UnitState) → ConstantsDeclared more after q ds last → ConstantsDeclared more u q (d ∷ ds) last)
  pub stops : From cs (λ more. (ds : List InitDeclor) (o : Offence) → SomeConstantOffends more after q ds o → SomeConstantOffends more u q (d ∷ ds) o)
  pub known : IsKnownEnv cs after.env

abbrev pub ConstantStops : List ClType → Qualified → UnitState → InitDeclor → Stop → Type 0
ConstantStops cs q u d (Out o) = From cs (λ more. (ds : List InitDeclor) → SomeConstantOffends more u q (d ∷ ds) o)
ConstantStops cs q u d NoMemory = Unit {0}

pub record ConstantsAreDeclared (cs : List ClType) (q : Qualified) (u : UnitState) (ds : List InitDeclor) (after : UnitState) : Type 0 where
  pub constants : From cs (λ more. ConstantsDeclared more u q ds after)
  pub known : IsKnownEnv cs after.env

abbrev pub ConstantsStopAt : List ClType → Qualified → UnitState → List InitDeclor → Stop → Type 0
ConstantsStopAt cs q u ds (Out o) = From cs (λ more. SomeConstantOffends more u q ds o)
ConstantsStopAt cs q u ds NoMemory = Unit {0}

-- ---- typedefs

-- the type of a typedef, or the code that it breaks
pub record TypedefIs (cs : List ClType) (again : Bool) (k : Sketch) (t : TypeId) : Type 0 where
  pub fits : From cs (λ more. first_broken (typedef_tests more again k) ≡ None)
  pub is : From cs (λ more. IsDeclaredAs more k 1 t)
  pub known : IsKnown cs t

abbrev pub TypedefStops : List ClType → Bool → Place → Sketch → Stop → Type 0
TypedefStops cs again place k (Out o) = (o.place ≡ place) × From cs (λ more. first_broken (typedef_tests more again k) ≡ Some o.code)
TypedefStops cs again place k NoMemory = Unit {0}

-- a typedef behind whatever stands at file scope with these declarations
pub record IsTypedef (cs : List ClType) (env : Env) (spec : Spec) (d : Declor) (after : Env) : Type 0 where
  pub is : From cs (λ more. (bodies : List (List ℕ)) (u : UnitState) → ExternalIs more bodies (with_env env u) (external.Typedef spec d) (with_env after u))
  pub known : IsKnownEnv cs after

abbrev pub TypedefOffends : List ClType → Env → Spec → Declor → Stop → Type 0
TypedefOffends cs env spec d (Out o) = From cs (λ more. (bodies : List (List ℕ)) (u : UnitState) → ExternalOffends more bodies (with_env env u) (external.Typedef spec d) o)
TypedefOffends cs env spec d NoMemory = Unit {0}

-- ---- what stands at file scope

pub record ExternalIsTyped (cs : List ClType) (bodies : List (List ℕ)) (u : UnitState) (e : External) (after : UnitState) : Type 0 where
  pub is : From cs (λ more. ExternalIs more bodies u e after)
  pub known : IsKnownEnv cs after.env

abbrev pub ExternalStops : List ClType → List (List ℕ) → UnitState → External → Stop → Type 0
ExternalStops cs bodies u e (Out o) = From cs (λ more. ExternalOffends more bodies u e o)
ExternalStops cs bodies u e NoMemory = Unit {0}

pub record UnitIsTyped (cs : List ClType) (bodies : List (List ℕ)) (u : UnitState) (es : List External) (after : UnitState) : Type 0 where
  pub is : From cs (λ more. UnitIs more bodies u es after)

abbrev pub UnitStops : List ClType → List (List ℕ) → UnitState → List External → Stop → Type 0
UnitStops cs bodies u es (Out o) = From cs (λ more. SomeExternalOffends more bodies u es o)
UnitStops cs bodies u es NoMemory = Unit {0}
