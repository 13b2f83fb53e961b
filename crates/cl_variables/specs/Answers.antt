-- What the calls answer, each in the table that it leaves and in all that have more types.
use Rattle.std.specs.Prelude.{◌≡◌, ℕ, ◌<◌, ◌≤◌, ◌||◌, Bool, true, false, List, [], ◌∷◌, length, drop, slice_get, Option, Some, None, is_some}
use Rattle.clv_place.specs.declared.place.Place.{Place}
use Rattle.clv_place.specs.declared.stop.Offence.{Offence}
use Rattle.clv_place.specs.declared.stop.Stop.{Stop}
use Rattle.clv_place.specs.declared.stop.Stop.TheVariants.{Out, NoMemory}
use Rattle.cl_types.specs.declared.types.ClType.{ClType}
use Rattle.cl_types.specs.declared.types.Member.{Member}
use Rattle.cl_types.specs.declared.types.TypeId.{TypeId}
use Rattle.cl_builtins.specs.Found.{IsKnown}
use Rattle.cl_ast.specs.declared.declaration.Init.{Init}
use Rattle.cl_ast.specs.declared.declaration.Init.TheVariants as init
use Rattle.cl_ast.specs.declared.declaration.InitDeclor.{InitDeclor}
use Rattle.cl_ast.specs.declared.expression.Base.TheViews.{out-Declor}
use Rattle.cl_ast.specs.declared.expression.Expr.{Expr}
use Rattle.cl_tree.specs.declared.shape.Shape.TheVariants as shape
use Rattle.cl_tree.specs.declared.expression.TExpr.{TExpr}
use Rattle.cl_tree.specs.Constants.{constancy_of, divides}
use Rattle.cl_tree.specs.Shapes.{shape_of, members_of}
use Rattle.cl_rules.specs.declared.rule.Head.TheVariants as head
use Rattle.cl_rules.specs.declared.rule.Qualified.{Qualified}
use Rattle.cl_rules.specs.declared.rule.Want.TheVariants as want
use Rattle.cl_rules.specs.Operands.{first_broken}
use Rattle.cl_scope.specs.declared.scope.DeclaredKind.{DeclaredKind}
use Rattle.cl_scope.specs.Names.{Env, is_declared, find_function}
use Rattle.cl_scope.specs.Scopes.{IsKnownEnv}
use Rattle.cl_words.specs.declared.naming.Sketch.{Sketch}
use Rattle.cl_words.specs.Words.{is_open, no_declared_type}
use Rattle.cl_make.specs.Building.{IsNode, IsConverted}
use Rattle.cl_make.specs.Ready.{From, IsReady}
use Rattle.cl_make.specs.Wanted.{IsDeclaredAs}
use Rattle.cl_type_expr.specs.Typing.{DeclaredIs}
use Rattle.cl_variables.specs.declared.filling.Filled.{Filled}
use Rattle.cl_variables.specs.declared.filling.Listed.{Listed}
use Rattle.cl_variables.specs.declared.initial.Initial.{Initial}
use Rattle.cl_variables.specs.declared.listing.Opened.{Opened}
use Rattle.cl_variables.specs.declared.tally.Tally.{Tally}
use Rattle.cl_variables.specs.declared.valued.Taken.{Taken}
use Rattle.cl_variables.specs.declared.valued.Valued.{Valued}
use Rattle.cl_variables.specs.declared.declaring.VariableRead.{VariableRead}
use Rattle.cl_variables.specs.declared.declaring.Where.{Where}
use Rattle.cl_variables.specs.declared.declaring.Where.TheVariants.{AtFileScope, InKernel, Inside}
use Rattle.cl_variables.specs.Bytes.{HasBytes}
use Rattle.cl_variables.specs.Declarations.{open_large, open_deep, name_tests, whole_tests, IsInitialised, InitOffends, IsVariable, VariableOffends}
use Rattle.cl_variables.specs.Initialisers.{only, tally_of, is_right, is_varying, some, IsValue, ValueOffends, FillsPart, FillsParts, FillsElements, FillsMembers, FillsBraces, IsList, FillsAll, AreSurplus, SurplusOffends, PartOffends, PartsOffend, ElementsOffend, MembersOffend, ListOffends, AllOffend, IsOpenList, OpenListOffends}

-- ---- values

pub record IsValued (cs : List ClType) (constant : Bool) (env : Env) (e : Expr) (after : Env) (v : Valued) : Type 0 where
  pub value : From cs (λ more. IsValue more constant env e after v.typed.tree v.typed.operand v.varies)
  pub ready : IsReady cs v.typed
  pub known : IsKnownEnv cs after

abbrev pub ValueStops : List ClType → Bool → Env → Expr → Stop → Type 0
ValueStops cs constant env e (Out o) = From cs (λ more. ValueOffends more constant env e o)
ValueStops cs constant env e NoMemory = Unit {0}

-- whether a typed expression that must be constant isn't
pub record VariesAs (cs : List ClType) (t : TExpr) (varies : Bool) : Type 0 where
  pub exact : From cs (λ more. divides (constancy_of more t) ≡ None)
  pub is : From cs (λ more. varies ≡ is_varying (constancy_of more t))

abbrev pub VaryingStops : List ClType → TExpr → Stop → Type 0
VaryingStops cs t (Out o) = (o.code ≡ 334) × From cs (λ more. divides (constancy_of more t) ≡ Some o.place)
VaryingStops cs t NoMemory = Unit {0}

-- A value that has been typed already, of which the declarations before it are those before the typing.
abbrev pub IsBegun : List ClType → Option Valued → Type 0
IsBegun cs None = Unit {0}
IsBegun cs (Some v) = IsReady cs v.typed

abbrev pub Begins : List ClType → Bool → Env → Env → Expr → Option Valued → Type 0
Begins cs constant env here e None = env ≡ here
Begins cs constant env here e (Some v) = IsValue cs constant env e here v.typed.tree v.typed.operand v.varies

-- the same of the first of items, which are braces where it is no value
abbrev pub BeginsAt : List ClType → Bool → Env → Env → List Init → Option Valued → Type 0
BeginsAt cs constant env here items None = env ≡ here
BeginsAt cs constant env here (init.Value e ∷ items) (Some v) = IsValue cs constant env e here v.typed.tree v.typed.operand v.varies
BeginsAt cs constant env here items (Some v) = ⊥

pub record IsNext (cs : List ClType) (constant : Bool) (here : Env) (first : Option Valued) (e : Expr) (after : Env) (v : Valued) : Type 0 where
  pub value : From cs (λ more. (env : Env) → Begins more constant env here e first → IsValue more constant env e after v.typed.tree v.typed.operand v.varies)
  pub ready : IsReady cs v.typed
  pub known : IsKnownEnv cs after

abbrev pub NextStops : List ClType → Bool → Env → Option Valued → Expr → Stop → Type 0
NextStops cs constant here first e (Out o) = From cs (λ more. (env : Env) → Begins more constant env here e first → ValueOffends more constant env e o)
NextStops cs constant here first e NoMemory = Unit {0}

-- a value as one of the type that is wanted: its tree exactly where it is right
abbrev pub IsTakenTree : List ClType → TypeId → TExpr → Bool → Option TExpr → Type 0
IsTakenTree cs ty t true None = ⊥
IsTakenTree cs ty t true (Some u) = IsConverted cs (want.Type ty) t u
IsTakenTree cs ty t false None = Unit {0}
IsTakenTree cs ty t false (Some u) = ⊥

pub record IsTaken (cs : List ClType) (ty : TypeId) (v : Valued) (r : Taken) : Type 0 where
  pub tally : From cs (λ more. r.tally ≡ tally_of more v.typed.operand ty v.varies)
  pub tree : From cs (λ more. IsTakenTree more ty v.typed.tree (is_right r.tally) r.tree)

-- ---- what items fill

abbrev pub trees_in : Option TExpr → List TExpr
trees_in None = []
trees_in (Some t) = t ∷ []

pub record IsOneFilled (tree : Option TExpr) (next : ℕ) (tally : Tally) (f : Filled) : Type 0 where
  pub trees : f.trees.items ≡ trees_in tree
  pub behind : f.next ≡ next
  pub wrong : f.tally ≡ tally

-- by one value
pub record IsWhole (cs : List ClType) (ty : TypeId) (v : Valued) (next : ℕ) (f : Filled) : Type 0 where
  pub tree : Option TExpr
  pub trees : f.trees.items ≡ trees_in tree
  pub wrong : From cs (λ more. f.tally ≡ tally_of more v.typed.operand ty v.varies)
  pub converts : From cs (λ more. IsTakenTree more ty v.typed.tree (is_right f.tally) tree)
  pub behind : f.next ≡ next

abbrev pub IsMemberAt : List Member → ℕ → TypeId → Type 0
IsMemberAt ms i t = (m : Member) × (slice_get ms i ≡ Some m) × (m.ty ≡ t)

-- what some items fill, by the declarations before them and behind
abbrev pub Filling : Type 1
Filling = List ClType → Env → List Init → Env → List Init → List TExpr → Tally → Type 0

-- Items from an index on fill this, of which the first may have been typed already.
pub record FillingIs (P : Filling) (cs : List ClType) (constant : Bool) (here : Env) (first : Option Valued) (items : List Init) (at : ℕ) (after : Env) (f : Filled) : Type 0 where
  pub fills : From cs (λ more. (env : Env) → BeginsAt more constant env here (drop at items) first → P more env (drop at items) after (drop f.next items) f.trees.items f.tally)
  pub moved : at < f.next
  pub low : f.next ≤ length items
  pub known : IsKnownEnv cs after

abbrev pub Breaking : Type 1
Breaking = List ClType → Env → List Init → Offence → Type 0

abbrev pub FillingStops : Breaking → List ClType → Bool → Env → Option Valued → List Init → ℕ → Stop → Type 0
FillingStops P cs constant here first items at (Out o) = From cs (λ more. (env : Env) → BeginsAt more constant env here (drop at items) first → P more env (drop at items) o)
FillingStops P cs constant here first items at NoMemory = Unit {0}

abbrev pub a_part : Bool → TypeId → Filling
a_part constant ty = λ cs env items after left ts tally. FillsPart cs constant env items ty after left ts tally

abbrev pub a_part_breaks : Bool → TypeId → Breaking
a_part_breaks constant ty = λ cs env items o. PartOffends cs constant env items ty o

abbrev pub PartIs : List ClType → Bool → Env → Option Valued → List Init → ℕ → TypeId → Env → Filled → Type 0
PartIs cs constant here first items at ty after f = FillingIs (a_part constant ty) cs constant here first items at after f

abbrev pub PartStops : List ClType → Bool → Env → Option Valued → List Init → ℕ → TypeId → Stop → Type 0
PartStops cs constant here first items at ty s = FillingStops (a_part_breaks constant ty) cs constant here first items at s

abbrev pub PartsAre : List ClType → Bool → Env → Option Valued → List Init → ℕ → TypeId → Env → Filled → Type 0
PartsAre cs constant here first items at ty after f = FillingIs (λ more env is last left ts tally. FillsParts more constant env is ty last left ts tally) cs constant here first items at after f

abbrev pub PartsStop : List ClType → Bool → Env → Option Valued → List Init → ℕ → TypeId → Stop → Type 0
PartsStop cs constant here first items at ty s = FillingStops (λ more env is o. PartsOffend more constant env is ty o) cs constant here first items at s

abbrev pub ElementsAre : List ClType → Bool → Env → Option Valued → List Init → ℕ → TypeId → ℕ → Env → Filled → Type 0
ElementsAre cs constant here first items at elem len after f = FillingIs (λ more env is last left ts tally. FillsElements more constant env is elem len last left ts tally) cs constant here first items at after f

abbrev pub ElementsStop : List ClType → Bool → Env → Option Valued → List Init → ℕ → TypeId → ℕ → Stop → Type 0
ElementsStop cs constant here first items at elem len s = FillingStops (λ more env is o. ElementsOffend more constant env is elem len o) cs constant here first items at s

abbrev pub MembersAre : List ClType → Bool → Env → Option Valued → List Init → ℕ → TypeId → Env → Filled → Type 0
MembersAre cs constant here first items at ty after f = FillingIs (λ more env is last left ts tally. FillsMembers more constant env is (members_of more ty) last left ts tally) cs constant here first items at after f

abbrev pub MembersStop : List ClType → Bool → Env → Option Valued → List Init → ℕ → TypeId → Stop → Type 0
MembersStop cs constant here first items at ty s = FillingStops (λ more env is o. MembersOffend more constant env is (members_of more ty) o) cs constant here first items at s

-- ---- lists

pub record BracesAre (cs : List ClType) (constant : Bool) (env : Env) (items : List Init) (ty : TypeId) (after : Env) (f : Filled) : Type 0 where
  pub fills : From cs (λ more. FillsBraces more constant env items ty after (drop f.next items) f.trees.items f.tally)
  pub low : f.next ≤ length items
  pub known : IsKnownEnv cs after

abbrev pub ListStops : List ClType → Bool → Env → Place → List Init → TypeId → Stop → Type 0
ListStops cs constant env place items ty (Out o) = From cs (λ more. ListOffends more constant env place items ty o)
ListStops cs constant env place items ty NoMemory = Unit {0}

abbrev pub BracesStop : List ClType → Bool → Env → Place → List Init → TypeId → Stop → Type 0
BracesStop cs constant env place items ty s = ListStops cs constant env place items ty s

pub record ListIs (cs : List ClType) (constant : Bool) (env : Env) (place : Place) (items : List Init) (ty : TypeId) (after : Env) (r : Listed) : Type 0 where
  pub is : From cs (λ more. IsList more constant env place items ty after r.tree r.varies)
  pub known : IsKnownEnv cs after

-- a value that is typed, and let go
pub record AloneIs (cs : List ClType) (constant : Bool) (env : Env) (e : Expr) (after : Env) : Type 0 where
  pub valued : Valued
  pub is : IsValued cs constant env e after valued

pub record SurplusIs (cs : List ClType) (constant : Bool) (env : Env) (items : List Init) (after : Env) : Type 0 where
  pub is : From cs (λ more. AreSurplus more constant env items after)
  pub known : IsKnownEnv cs after

abbrev pub SurplusStops : List ClType → Bool → Env → List Init → Stop → Type 0
SurplusStops cs constant env items (Out o) = From cs (λ more. SurplusOffends more constant env items o)
SurplusStops cs constant env items NoMemory = Unit {0}

-- all items, and how many elements they fill
pub record AllAre (cs : List ClType) (constant : Bool) (env : Env) (items : List Init) (elem : TypeId) (after : Env) (r : Filled × ℕ) : Type 0 where
  pub fills : From cs (λ more. FillsAll more constant env items elem r.1 after r.0.trees.items r.0.tally)
  pub some : some items ≡ true → 0 < r.1
  pub known : IsKnownEnv cs after

abbrev pub AllStop : List ClType → Bool → Env → List Init → TypeId → Stop → Type 0
AllStop cs constant env items elem (Out o) = From cs (λ more. AllOffend more constant env items elem o)
AllStop cs constant env items elem NoMemory = Unit {0}

pub record OpenListIs (cs : List ClType) (constant : Bool) (env : Env) (items : List Init) (elem : TypeId) (after : Env) (r : Opened) : Type 0 where
  pub is : From cs (λ more. IsOpenList more constant env items elem after r.count r.trees.items r.varies)
  pub some : 0 < r.count
  pub known : IsKnownEnv cs after

abbrev pub OpenListStops : List ClType → Bool → Env → Place → List Init → TypeId → Stop → Type 0
OpenListStops cs constant env place items elem (Out o) = From cs (λ more. OpenListOffends more constant env place items elem o)
OpenListStops cs constant env place items elem NoMemory = Unit {0}

-- ---- initialisers

abbrev pub IsElementOf : List ClType → TypeId → TypeId → Type 0
IsElementOf cs t elem = (len : ℕ) × (nested : Bool) × (shape_of cs t ≡ shape.Array elem len nested)

-- the array that a list of so many elements says, where it is within the limits
abbrev pub IsOpenedTree : List ClType → Place → Sketch → List TExpr → ℕ → Option TExpr → Type 0
IsOpenedTree cs place k ts n (Some t) = (ty : TypeId) × IsDeclaredAs cs k n ty × IsNode t ty place head.Fill ts
IsOpenedTree cs place k ts n None = (open_large cs k n || open_deep cs k n) ≡ true

pub record OpenedIs (cs : List ClType) (place : Place) (k : Sketch) (list : Opened) (r : Initial) : Type 0 where
  pub counted : r.count ≡ list.count
  pub wrong : r.tally ≡ only list.varies
  pub tree : From cs (λ more. IsOpenedTree more place k list.trees.items list.count r.tree)

abbrev pub OpenedStops : Stop → Type 0
OpenedStops (Out o) = ⊥
OpenedStops NoMemory = Unit {0}

pub record InitialIs (cs : List ClType) (constant : Bool) (env : Env) (i : Option Init) (k : Sketch) (ty : TypeId) (after : Env) (r : Initial) : Type 0 where
  pub is : From cs (λ more. IsInitialised more constant env i k ty after r.tree r.count r.tally)
  pub some : 0 < r.count
  pub one : is_open k.lengths ≡ false → r.count ≡ 1
  pub known : IsKnownEnv cs after

abbrev pub InitialStops : List ClType → Bool → Env → Option Init → Sketch → TypeId → Stop → Type 0
InitialStops cs constant env None k ty (Out o) = ⊥
InitialStops cs constant env (Some i) k ty (Out o) = From cs (λ more. InitOffends more constant env i k ty o)
InitialStops cs constant env i k ty NoMemory = Unit {0}

-- ---- declared variables

-- A name of file scope is declared by a variable, a type or a function; one of a block by a variable or a type.
abbrev pub is_taken : Env → List ℕ → Bool
is_taken env name = is_declared env name || is_some (find_function env name)

abbrev pub again_at : Where → Env → List ℕ → Bool
again_at AtFileScope = is_taken
again_at InKernel = is_declared
again_at Inside = is_declared

-- the type that a declared name has by itself
pub record NameIs (cs : List ClType) (w : Where) (again : Bool) (k : Sketch) (t : TypeId) : Type 0 where
  pub is : DeclaredIs cs k 1 t
  pub fits : From cs (λ more. first_broken (name_tests more w again k) ≡ None)
  pub element : no_declared_type k ≡ false

abbrev pub NameStops : List ClType → Where → Bool → Place → Sketch → Stop → Type 0
NameStops cs w again place k (Out o) = (o.place ≡ place) × From cs (λ more. first_broken (name_tests more w again k) ≡ Some o.code)
NameStops cs w again place k NoMemory = Unit {0}

-- and the one that it has with its initialiser
pub record WholeIs (cs : List ClType) (w : Where) (d : InitDeclor) (k : Sketch) (tally : Tally) (n : ℕ) (t : TypeId) : Type 0 where
  pub is : From cs (λ more. IsDeclaredAs more k n t)
  pub known : IsKnown cs t
  pub fits : From cs (λ more. first_broken (whole_tests more w k d.init tally n) ≡ None)

abbrev pub WholeStops : List ClType → Where → InitDeclor → Sketch → Tally → ℕ → Stop → Type 0
WholeStops cs w d k tally n (Out o) = (o.place ≡ (out-Declor d.name).place) × From cs (λ more. first_broken (whole_tests more w k d.init tally n) ≡ Some o.code)
WholeStops cs w d k tally n NoMemory = Unit {0}

pub record VariableIs (cs : List ClType) (w : Where) (kind : DeclaredKind) (env : Env) (q : Qualified) (d : InitDeclor) (after : Env) (r : VariableRead) : Type 0 where
  pub is : From cs (λ more. IsVariable more w kind (again_at w) env q d after r.variable.name r.variable.place r.variable.ty r.variable.space r.tree)
  pub known : IsKnownEnv cs after

abbrev pub VariableStops : List ClType → Where → DeclaredKind → Env → Qualified → InitDeclor → Stop → Type 0
VariableStops cs w kind env q d (Out o) = From cs (λ more. VariableOffends more w kind (again_at w) env q d o)
VariableStops cs w kind env q d NoMemory = Unit {0}

-- a tree of which the bytes, where it has any, are the same in each longer table
abbrev pub IsLasting : List ClType → TExpr → Type 0
IsLasting cs t = (bs : List ℕ) → HasBytes cs t bs → From cs (λ more. HasBytes more t bs)
