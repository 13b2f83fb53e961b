-- The typing rules of declared variables (C99, 6.7; OpenCL C 1.2, 6.5): of file scope and of functions.
use Rattle.std.specs.Global.{Vec}
use Rattle.std.specs.Prelude.{◌≡◌, ℕ, ◌&&◌, ◌||◌, not, Bool, true, false, List, [], ◌∷◌, Option, Some, None, is_some}
use Rattle.clv_place.specs.declared.place.Place.{Place}
use Rattle.clv_place.specs.declared.stop.Offence.{Offence}
use Rattle.cl_types.specs.declared.types.ClType.{ClType}
use Rattle.cl_types.specs.declared.types.TypeId.{TypeId}
use Rattle.cl_types.specs.declared.space.Space.{Space}
use Rattle.cl_types.specs.declared.space.Space.TheVariants as space
use Rattle.cl_ast.specs.declared.declaration.Init.{Init}
use Rattle.cl_ast.specs.declared.declaration.Init.TheVariants as init
use Rattle.cl_ast.specs.declared.declaration.InitDeclor.{InitDeclor}
use Rattle.cl_ast.specs.declared.expression.Expr.{Expr}
use Rattle.cl_ast.specs.declared.expression.Qual.{Qual}
use Rattle.cl_tree.specs.declared.expression.TExpr.{TExpr}
use Rattle.cl_tree.specs.declared.shape.Shape.TheVariants as shape
use Rattle.cl_tree.specs.Shapes.{shape_of, is_void}
use Rattle.cl_rules.specs.declared.rule.Head.TheVariants as head
use Rattle.cl_rules.specs.declared.rule.Operand.{Operand}
use Rattle.cl_rules.specs.declared.rule.Qualified.{Qualified}
use Rattle.cl_rules.specs.declared.rule.Want.TheVariants as want
use Rattle.cl_scope.specs.declared.scope.Declared.{Declared}
use Rattle.cl_scope.specs.declared.scope.DeclaredKind.{DeclaredKind}
use Rattle.cl_scope.specs.Names.{Env, declare}
use Rattle.cl_rules.specs.Operands.{first_broken}
use Rattle.cl_words.specs.declared.naming.Length.{Length}
use Rattle.cl_words.specs.declared.naming.Sketch.{Sketch}
use Rattle.cl_words.specs.Words.{sketch, is_open, some_wrong, no_declared_type, is_declared, is_no_element, declared_tree, is_large, is_deep}
use Rattle.cl_make.specs.Wanted.{IsDeclaredAs}
use Rattle.cl_make.specs.Building.{IsConverted, IsNode}
use Rattle.cl_type_expr.specs.Expressions.{AreLengths}
use Rattle.cl_type_expr.specs.Offences.{at, LengthOffends}
use Rattle.cl_type_expr.specs.Syntax.{IsDeclor}
use Rattle.cl_variables.specs.declared.declaring.Where.{Where}
use Rattle.cl_variables.specs.declared.declaring.Where.TheVariants.{AtFileScope, InKernel}
use Rattle.cl_variables.specs.declared.tally.Tally.{Tally}
use Rattle.cl_variables.specs.Initialisers.{clean, only, tally_of, is_right, IsValue, ValueOffends, IsList, ListOffends, IsOpenList, OpenListOffends}

-- ---- where variables may stand

abbrev pub space_at : Where → Option Space → Space
space_at AtFileScope s = space.Constant
space_at w None = space.Private
space_at w (Some s) = s

abbrev pub is_private : Space → Bool
is_private space.Private = true
is_private _ = false

abbrev pub is_local : Space → Bool
is_local space.Local = true
is_local _ = false

abbrev pub names_constant : Option Space → Bool
names_constant (Some space.Constant) = true
names_constant _ = false

-- 326: a constant has to name its address space; a variable of a function is private, or local at the outermost block of a kernel
abbrev pub no_space_at : Where → Option Space → Bool
no_space_at AtFileScope s = not (names_constant s)
no_space_at w None = false
no_space_at w (Some space.Private) = false
no_space_at InKernel (Some space.Local) = false
no_space_at w (Some s) = true

-- 303: no variable is void, and only a private one a bool or a pointer
abbrev pub no_type_at : Where → Sketch → Bool
no_type_at w k =
    no_declared_type k || is_declared is_void k
    || (not (is_private (space_at w k.space)) && is_declared is_no_element k)

-- The declared name alone: 302, 303, 304, 326, 501, 502.
abbrev pub name_tests_at : Where → Bool → Sketch → Bool → Bool → List (ℕ × Bool)
name_tests_at w again k large deep =
    (302, again) ∷ (303, no_type_at w k) ∷ (304, some_wrong k.lengths) ∷ (326, k.clash || no_space_at w k.space) ∷ (501, large) ∷ (502, deep) ∷ []

abbrev pub name_tests : List ClType → Where → Bool → Sketch → List (ℕ × Bool)
name_tests cs w again k = name_tests_at w again k (is_large (declared_tree cs k 1)) (is_deep (declared_tree cs k 1))

-- The name with its initialiser: 304: no list says the missing length; 311 and 333: a value of another type; 325: a constant without a
-- constant initialiser; 326: a local variable with one; 501, 502: the array that the list says.
abbrev pub is_braced : Option Init → Bool
is_braced None = false
is_braced (Some (init.Value e)) = false
is_braced (Some _) = true

abbrev pub is_file : Where → Bool
is_file AtFileScope = true
is_file _ = false

abbrev pub whole_tests_at : Where → Sketch → Option Init → Tally → Bool → Bool → List (ℕ × Bool)
whole_tests_at w k i tally large deep =
    (304, is_open k.lengths && not (is_braced i)) ∷ (311, tally.no_value) ∷ (325, is_file w && (not (is_some i) || tally.varies))
    ∷ (326, is_local (space_at w k.space) && is_some i) ∷ (333, tally.no_pointer) ∷ (501, large) ∷ (502, deep) ∷ []

abbrev pub open_large : List ClType → Sketch → ℕ → Bool
open_large cs k n = is_open k.lengths && is_large (declared_tree cs k n)

abbrev pub open_deep : List ClType → Sketch → ℕ → Bool
open_deep cs k n = is_open k.lengths && is_deep (declared_tree cs k n)

abbrev pub whole_tests : List ClType → Where → Sketch → Option Init → Tally → ℕ → List (ℕ × Bool)
whole_tests cs w k i tally n = whole_tests_at w k i tally (open_large cs k n) (open_deep cs k n)

-- ---- a declared name

-- what stands in scope from the declared name on, and from the end of its initialiser on
abbrev pub variable : Where → List ℕ → TypeId → Sketch → DeclaredKind → Bool → Declared
variable w name t k kind complete = record { name = name; ty = t; space = space_at w k.space; readonly = k.readonly; kind = kind; complete = complete }

-- An initialiser of what is declared so: its tree, where it is right; how many elements it says, and what is told at the name.
pub data IsInitialised (cs : List ClType) (constant : Bool) : Env → Option Init → Sketch → TypeId → Env → Option TExpr → ℕ → Tally → Type 0 where
  no_init : (env : Env) (k : Sketch) (ty : TypeId) → IsInitialised cs constant env None k ty env None 1 clean
  init_value : (env after : Env) (e : Expr) (k : Sketch) (ty : TypeId) (t u : TExpr) (o : Operand) (varies : Bool) (tally : Tally) → IsValue cs constant env e after t o varies → tally ≡ tally_of cs o ty varies → is_right tally ≡ true → IsConverted cs (want.Type ty) t u → IsInitialised cs constant env (Some (init.Value e)) k ty after (Some u) 1 tally
  init_wrong_value : (env after : Env) (e : Expr) (k : Sketch) (ty : TypeId) (t : TExpr) (o : Operand) (varies : Bool) (tally : Tally) → IsValue cs constant env e after t o varies → tally ≡ tally_of cs o ty varies → is_right tally ≡ false → IsInitialised cs constant env (Some (init.Value e)) k ty after None 1 tally
  init_list : (env after : Env) (place : Place) (items : Vec Init) (k : Sketch) (ty : TypeId) (t : TExpr) (varies : Bool) → is_open k.lengths ≡ false → IsList cs constant env place items.items ty after t varies → IsInitialised cs constant env (Some (init.Braces place items)) k ty after (Some t) 1 (only varies)
  -- the length is the number of elements that the list fills, where that is within the limits
  init_open_list : (env after : Env) (place : Place) (items : Vec Init) (k : Sketch) (ty elem whole : TypeId) (len n : ℕ) (nested : Bool) (ts : List TExpr) (t : TExpr) (varies : Bool) → is_open k.lengths ≡ true → shape_of cs ty ≡ shape.Array elem len nested → IsOpenList cs constant env items.items elem after n ts varies → IsDeclaredAs cs k n whole → IsNode t whole place head.Fill ts → IsInitialised cs constant env (Some (init.Braces place items)) k ty after (Some t) n (only varies)
  -- one that says too many elements
  init_over_list : (env after : Env) (place : Place) (items : Vec Init) (k : Sketch) (ty elem : TypeId) (len n : ℕ) (nested : Bool) (ts : List TExpr) (varies : Bool) → is_open k.lengths ≡ true → shape_of cs ty ≡ shape.Array elem len nested → IsOpenList cs constant env items.items elem after n ts varies → (open_large cs k n || open_deep cs k n) ≡ true → IsInitialised cs constant env (Some (init.Braces place items)) k ty after None n (only varies)

pub data InitOffends (cs : List ClType) (constant : Bool) : Env → Init → Sketch → TypeId → Offence → Type 0 where
  in_init_value : (env : Env) (e : Expr) (k : Sketch) (ty : TypeId) (o : Offence) → ValueOffends cs constant env e o → InitOffends cs constant env (init.Value e) k ty o
  in_init_list : (env : Env) (place : Place) (items : Vec Init) (k : Sketch) (ty : TypeId) (o : Offence) → is_open k.lengths ≡ false → ListOffends cs constant env place items.items ty o → InitOffends cs constant env (init.Braces place items) k ty o
  in_init_open_list : (env : Env) (place : Place) (items : Vec Init) (k : Sketch) (ty elem : TypeId) (len : ℕ) (nested : Bool) (o : Offence) → is_open k.lengths ≡ true → shape_of cs ty ≡ shape.Array elem len nested → OpenListOffends cs constant env place items.items elem o → InitOffends cs constant env (init.Braces place items) k ty o

-- A declared name with its initialiser, of what the kind says: its name, place, type, address space and tree. It is in scope from its own
-- end on, also in its initialiser, where an array whose length is missing is not complete.
pub record IsVariable (cs : List ClType) (w : Where) (kind : DeclaredKind) (again : Env → List ℕ → Bool) (env : Env) (q : Qualified) (d : InitDeclor) (after : Env) (name : List ℕ) (place : Place) (ty : TypeId) (own : Space) (t : Option TExpr) : Type 0 where
  pub star : Option (List Qual)
  pub es : List (Option Expr)
  pub ls : List Length
  pub is : IsDeclor d.name star name place es
  pub typed : Env
  pub lengths : AreLengths cs env true es typed ls
  pub fits : first_broken (name_tests cs w (again typed name) (sketch q star ls)) ≡ None
  pub first : TypeId
  pub of : IsDeclaredAs cs (sketch q star ls) 1 first
  pub behind : Env
  pub n : ℕ
  pub tally : Tally
  pub initialised : IsInitialised cs (is_file w) (declare (variable w name first (sketch q star ls) kind (not (is_open ls))) typed) d.init (sketch q star ls) first behind t n tally
  pub whole : first_broken (whole_tests cs w (sketch q star ls) d.init tally n) ≡ None
  pub gives : IsDeclaredAs cs (sketch q star ls) n ty
  pub in_space : own ≡ space_at w (sketch q star ls).space
  pub scope : after ≡ declare (variable w name ty (sketch q star ls) kind true) behind

pub data VariableOffends (cs : List ClType) (w : Where) (kind : DeclaredKind) (again : Env → List ℕ → Bool) : Env → Qualified → InitDeclor → Offence → Type 0 where
  in_lengths : (env : Env) (q : Qualified) (d : InitDeclor) (star : Option (List Qual)) (name : List ℕ) (place : Place) (es : List (Option Expr)) (o : Offence) → IsDeclor d.name star name place es → LengthOffends cs env true es o → VariableOffends cs w kind again env q d o
  -- 302, 303, 304, 326, 501, 502: the name
  broken_name : (env typed : Env) (q : Qualified) (d : InitDeclor) (star : Option (List Qual)) (name : List ℕ) (place : Place) (es : List (Option Expr)) (ls : List Length) (code : ℕ) → IsDeclor d.name star name place es → AreLengths cs env true es typed ls → first_broken (name_tests cs w (again typed name) (sketch q star ls)) ≡ Some code → VariableOffends cs w kind again env q d (at code place)
  in_init : (env typed : Env) (q : Qualified) (d : InitDeclor) (star : Option (List Qual)) (name : List ℕ) (place : Place) (es : List (Option Expr)) (ls : List Length) (first : TypeId) (i : Init) (o : Offence) → IsDeclor d.name star name place es → AreLengths cs env true es typed ls → first_broken (name_tests cs w (again typed name) (sketch q star ls)) ≡ None → IsDeclaredAs cs (sketch q star ls) 1 first → d.init ≡ Some i → InitOffends cs (is_file w) (declare (variable w name first (sketch q star ls) kind (not (is_open ls))) typed) i (sketch q star ls) first o → VariableOffends cs w kind again env q d o
  -- 304, 311, 325, 326, 333, 501, 502: the name with its initialiser
  broken_whole : (env typed behind : Env) (q : Qualified) (d : InitDeclor) (star : Option (List Qual)) (name : List ℕ) (place : Place) (es : List (Option Expr)) (ls : List Length) (first : TypeId) (t : Option TExpr) (n : ℕ) (tally : Tally) (code : ℕ) → IsDeclor d.name star name place es → AreLengths cs env true es typed ls → first_broken (name_tests cs w (again typed name) (sketch q star ls)) ≡ None → IsDeclaredAs cs (sketch q star ls) 1 first → IsInitialised cs (is_file w) (declare (variable w name first (sketch q star ls) kind (not (is_open ls))) typed) d.init (sketch q star ls) first behind t n tally → first_broken (whole_tests cs w (sketch q star ls) d.init tally n) ≡ Some code → VariableOffends cs w kind again env q d (at code place)
