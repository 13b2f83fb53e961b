-- The typing rules of units (C99, 6.9; OpenCL C 1.2, 6.7 and 6.8): the typed tree of a unit, or its first offence.
use Rattle.std.specs.Global.{Vec}
use Rattle.std.specs.Prelude.{◌≡◌, ℕ, ◌*◌, nat_eq, nat_le, ◌&&◌, ◌||◌, not, Bool, true, false, if◌then◌else◌, List, [], ◌∷◌, ◌++◌, length, map, Option, Some, None, is_some, slice_get}
use Rattle.clv_place.specs.declared.place.Place.{Place}
use Rattle.clv_place.specs.declared.stop.Offence.{Offence}
use Rattle.clv_place.specs.declared.stop.Stop.{Stop}
use Rattle.clv_place.specs.declared.stop.Stop.TheVariants.{Out, NoMemory}
use Rattle.cl_types.specs.declared.types.ClType.{ClType}
use Rattle.cl_types.specs.declared.types.TypeId.{TypeId}
use Rattle.cl_types.specs.declared.space.Space.{Space}
use Rattle.cl_types.specs.declared.space.Space.TheVariants as space
use Rattle.cl_types.specs.Table.{IsTable}
use Rattle.cl_ast.specs.declared.declaration.Ast.{Ast}
use Rattle.cl_ast.specs.declared.declaration.External.{External}
use Rattle.cl_ast.specs.declared.declaration.External.TheVariants as external
use Rattle.cl_ast.specs.declared.declaration.FWord.{FWord}
use Rattle.cl_ast.specs.declared.declaration.FWord.TheVariants as fword
use Rattle.cl_ast.specs.declared.declaration.InitDeclor.{InitDeclor}
use Rattle.cl_ast.specs.declared.declaration.Param.{Param}
use Rattle.cl_ast.specs.declared.expression.Declor.{Declor}
use Rattle.cl_ast.specs.declared.expression.Expr.{Expr}
use Rattle.cl_ast.specs.declared.expression.Qual.{Qual}
use Rattle.cl_ast.specs.declared.expression.Spec.{Spec}
use Rattle.cl_ast.specs.declared.statement.Stmt.{Stmt}
use Rattle.cl_ast.specs.declared.statement.StmtNode.TheVariants as node
use Rattle.cl_ast.specs.declared.statement.StmtNode.TheViews.{out-Stmt}
use Rattle.cl_tree.specs.declared.expression.TExpr.{TExpr}
use Rattle.cl_tree.specs.declared.statement.TStmt.{TStmt}
use Rattle.cl_tree.specs.declared.statement.TStmtNode.TheVariants as tnode
use Rattle.cl_tree.specs.declared.unit.Variable.{Variable}
use Rattle.cl_tree.specs.declared.unit.ConstantVar.{ConstantVar}
use Rattle.cl_tree.specs.declared.unit.Function.{Function}
use Rattle.cl_tree.specs.declared.tree.Tree.{Tree}
use Rattle.cl_tree.specs.declared.shape.Shape.{Shape}
use Rattle.cl_tree.specs.Constants.{constancy_of, divides, positive_of}
use Rattle.cl_tree.specs.Shapes.{same_type, is_void, is_array, is_pointer}
use Rattle.cl_tree.specs.Units.{has_kernel, types_of, is_kernel_param}
use Rattle.cl_rules.specs.declared.rule.Operand.{Operand}
use Rattle.cl_rules.specs.declared.rule.Qualified.{Qualified}
use Rattle.cl_scope.specs.declared.scope.Declared.{Declared}
use Rattle.cl_scope.specs.declared.scope.DeclaredKind.TheVariants as kind
use Rattle.cl_scope.specs.declared.scope.Signature.{Signature}
use Rattle.cl_scope.specs.Names.{Env, nothing, entered, left_behind, declare, declared_function, is_declared, find_function}
use Rattle.cl_rules.specs.Operands.{first_broken}
use Rattle.cl_words.specs.declared.naming.Length.{Length}
use Rattle.cl_words.specs.declared.naming.Sketch.{Sketch}
use Rattle.cl_words.specs.Words.{sketch, some_wrong, no_declared_type, declared_tree, is_large, is_deep}
use Rattle.cl_make.specs.Ready.{From}
use Rattle.cl_make.specs.Wanted.{IsDeclaredAs}
use Rattle.cl_type_expr.specs.Expressions.{Types, IsSpecified, AreLengths}
use Rattle.cl_type_expr.specs.Offences.{at, Offends, WordsOffend, LengthOffends}
use Rattle.cl_type_expr.specs.Syntax.{IsDeclor, IsStmt}
use Rattle.cl_variables.specs.declared.declaring.Where.TheVariants.{AtFileScope}
use Rattle.cl_variables.specs.Answers.{is_taken, again_at}
use Rattle.cl_variables.specs.Bytes.{HasBytes}
use Rattle.cl_variables.specs.Declarations.{IsVariable, VariableOffends}
use Rattle.cl_typing.specs.declared.unit_state.UnitState.{UnitState}
use Rattle.cl_typing.specs.Settings.{State, state, setting, IsTStmt}
use Rattle.cl_typing.specs.Statements.{ItemsAre, ItemsOffend}
use Rattle.cl_typing.specs.Positions.{position_of, and_name}

-- ---- functions that have a body, in the order in which the bodies stand

abbrev pub with_body : External → List (List ℕ) → List (List ℕ)
with_body (external.Function words spec name place params (Some b)) names = and_name name names
with_body _ names = names

abbrev pub bodies_behind : List (List ℕ) → List External → List (List ℕ)
bodies_behind names [] = names
bodies_behind names (e ∷ es) = bodies_behind (with_body e names) es

abbrev pub body_names : List External → List (List ℕ)
body_names es = bodies_behind [] es

abbrev pub number_or_0 : Option ℕ → ℕ
number_or_0 None = 0
number_or_0 (Some k) = k

-- ---- what stands so far

abbrev pub empty : UnitState
empty = record { env = nothing; constants = []; functions = []; defined = []; sized = []; sizes = [] }

abbrev pub with_env : Env → UnitState → UnitState
with_env env u = record u { env = env }

-- the size that a function requires
abbrev pub size_at : List (List ℕ) → Option ℕ → Option (List ℕ)
size_at sizes None = None
size_at sizes (Some i) = slice_get sizes i

abbrev pub size_for : List ℕ → UnitState → Option (List ℕ)
size_for name u = size_at u.sizes (position_of name u.sized)

abbrev pub and_size : List ℕ → Option (List ℕ) → UnitState → UnitState
and_size name None u = u
and_size name (Some size) u = record u { sized = and_name name u.sized; sizes = u.sizes ++ size ∷ [] }

abbrev pub is_made : List ℕ → UnitState → Bool
is_made name u = is_some (position_of name u.defined)

abbrev pub and_function : Function → UnitState → UnitState
and_function f u = record u { functions = u.functions ++ f ∷ []; defined = and_name f.name u.defined }

abbrev pub and_constant : Env → ConstantVar → UnitState → UnitState
and_constant env c u = record u { env = env; constants = u.constants ++ c ∷ [] }

-- ---- required sizes of groups

-- 328: a size that is given twice, or hasn't three positive constants with a product of at most 1,024
abbrev pub is_size : List (Option ℕ) → Bool
is_size (Some x ∷ Some y ∷ Some z ∷ []) = nat_le (x * y * z) 1024
is_size _ = false

abbrev pub size_of : List (Option ℕ) → List ℕ
size_of [] = []
size_of (None ∷ ns) = size_of ns
size_of (Some n ∷ ns) = n ∷ size_of ns

abbrev pub size_in : List (Option ℕ) → Option (List ℕ)
size_in ns = if is_size ns then Some (size_of ns) else None

abbrev pub size_tests : Bool → List (Option ℕ) → List (ℕ × Bool)
size_tests given ns = (328, given || not (is_size ns)) ∷ []

pub data ConstantsAre (cs : List ClType) : Env → List Expr → Env → List (Option ℕ) → Type 0 where
  no_constant : (env : Env) → ConstantsAre cs env [] env []
  more_constants : (env middle after : Env) (e : Expr) (es : List Expr) (t : TExpr) (o : Operand) (n : Option ℕ) (ns : List (Option ℕ)) → Types cs env false e middle t o → divides (constancy_of cs t) ≡ None → positive_of cs t ≡ n → ConstantsAre cs middle es after ns → ConstantsAre cs env (e ∷ es) after (n ∷ ns)

pub data ConstantsOffend (cs : List ClType) : Env → List Expr → Offence → Type 0 where
  in_constant : (env : Env) (e : Expr) (es : List Expr) (o : Offence) → Offends cs env false e o → ConstantsOffend cs env (e ∷ es) o
  -- 334
  constant_divides : (env middle : Env) (e : Expr) (es : List Expr) (t : TExpr) (q : Operand) (p : Place) → Types cs env false e middle t q → divides (constancy_of cs t) ≡ Some p → ConstantsOffend cs env (e ∷ es) (at 334 p)
  behind_constant : (env middle : Env) (e : Expr) (es : List Expr) (t : TExpr) (q : Operand) (o : Offence) → Types cs env false e middle t q → divides (constancy_of cs t) ≡ None → ConstantsOffend cs middle es o → ConstantsOffend cs env (e ∷ es) o

-- the words before a function that require a size; the others require none
abbrev pub requires : FWord → Bool
requires (fword.Required place args) = true
requires _ = false

pub data SizesAre (cs : List ClType) : Env → Bool → List FWord → Env → Option (List ℕ) → Type 0 where
  no_word : (env : Env) (given : Bool) → SizesAre cs env given [] env None
  other_word : (env after : Env) (given : Bool) (w : FWord) (ws : List FWord) (size : Option (List ℕ)) → requires w ≡ false → SizesAre cs env given ws after size → SizesAre cs env given (w ∷ ws) after size
  required : (env middle after : Env) (given : Bool) (place : Place) (args : Vec Expr) (ws : List FWord) (ns : List (Option ℕ)) → ConstantsAre cs env args.items middle ns → first_broken (size_tests given ns) ≡ None → SizesAre cs middle true ws after None → SizesAre cs env given (fword.Required place args ∷ ws) after (Some (size_of ns))

pub data SizesOffend (cs : List ClType) : Env → Bool → List FWord → Offence → Type 0 where
  in_arguments : (env : Env) (given : Bool) (place : Place) (args : Vec Expr) (ws : List FWord) (o : Offence) → ConstantsOffend cs env args.items o → SizesOffend cs env given (fword.Required place args ∷ ws) o
  -- 328
  no_size : (env middle : Env) (given : Bool) (place : Place) (args : Vec Expr) (ws : List FWord) (ns : List (Option ℕ)) (code : ℕ) → ConstantsAre cs env args.items middle ns → first_broken (size_tests given ns) ≡ Some code → SizesOffend cs env given (fword.Required place args ∷ ws) (at code place)
  behind_other : (env : Env) (given : Bool) (w : FWord) (ws : List FWord) (o : Offence) → requires w ≡ false → SizesOffend cs env given ws o → SizesOffend cs env given (w ∷ ws) o
  behind_required : (env middle : Env) (given : Bool) (place : Place) (args : Vec Expr) (ws : List FWord) (ns : List (Option ℕ)) (o : Offence) → ConstantsAre cs env args.items middle ns → first_broken (size_tests given ns) ≡ None → SizesOffend cs middle true ws o → SizesOffend cs env given (fword.Required place args ∷ ws) o

abbrev pub is_kernel_word : FWord → Bool
is_kernel_word fword.Kernel = true
is_kernel_word _ = false

abbrev pub is_kernel : List FWord → Bool
is_kernel [] = false
is_kernel (w ∷ ws) = is_kernel_word w || is_kernel ws

-- ---- parameters

abbrev pub has_space : Option Space → Bool
has_space None = false
has_space (Some space.Private) = false
has_space (Some s) = true

abbrev pub has_star : Option (List Qual) → Bool
has_star None = false
has_star (Some qs) = true

abbrev pub name_of : Option (List ℕ) → List ℕ
name_of None = []
name_of (Some name) = name

abbrev pub is_again : Env → Option (List ℕ) → Bool
is_again env None = false
is_again env (Some name) = is_declared env name

-- 302: the name again; 303: void or an array; 326: an address space of its own; 327: no kernel takes it; 504: the 33rd
abbrev pub param_tests_at : Bool → Bool → Bool → Bool → Sketch → ℕ → List (ℕ × Bool)
param_tests_at kernel again sized star k before =
    (302, again) ∷ (303, no_declared_type k || is_void k.shape || is_array k.shape) ∷ (326, k.clash || has_space k.space)
    ∷ (327, kernel && (not (is_kernel_param k.shape) || (sized && not star))) ∷ (504, nat_eq before 32) ∷ []

abbrev pub param_tests : Bool → Env → Qualified → Option (List Qual) → Option (List ℕ) → Sketch → ℕ → List (ℕ × Bool)
param_tests kernel env q star name k before = param_tests_at kernel (is_again env name) q.sized (has_star star) k before

abbrev pub param_of : Param → TypeId → Variable
param_of p t = record { name = name_of p.name; ty = t; space = space.Private; place = p.place }

abbrev pub param_named : Option (List ℕ) → TypeId → Sketch → ℕ → Env → Env
param_named None t k n env = env
param_named (Some name) t k n env = declare (record { name = name; ty = t; space = space.Private; readonly = k.readonly; kind = kind.Param n; complete = true }) env

pub data ParamsAre (cs : List ClType) (kernel : Bool) : Env → List Variable → List Param → Env → List Variable → Type 0 where
  no_param : (env : Env) (before : List Variable) → ParamsAre cs kernel env before [] env before
  more_params : (env typed after : Env) (before all : List Variable) (p : Param) (ps : List Param) (q : Qualified) (t : TypeId) → IsSpecified cs env p.spec typed q → first_broken (param_tests kernel typed q p.star p.name (sketch q p.star []) (length before)) ≡ None → IsDeclaredAs cs (sketch q p.star []) 1 t → ParamsAre cs kernel (param_named p.name t (sketch q p.star []) (length before) typed) (before ++ param_of p t ∷ []) ps after all → ParamsAre cs kernel env before (p ∷ ps) after all

pub data ParamsOffend (cs : List ClType) (kernel : Bool) : Env → List Variable → List Param → Offence → Type 0 where
  in_param_words : (env : Env) (before : List Variable) (p : Param) (ps : List Param) (o : Offence) → WordsOffend cs env p.spec o → ParamsOffend cs kernel env before (p ∷ ps) o
  -- 302, 303, 326, 327, 504
  broken_param : (env typed : Env) (before : List Variable) (p : Param) (ps : List Param) (q : Qualified) (code : ℕ) → IsSpecified cs env p.spec typed q → first_broken (param_tests kernel typed q p.star p.name (sketch q p.star []) (length before)) ≡ Some code → ParamsOffend cs kernel env before (p ∷ ps) (at code p.place)
  behind_param : (env typed : Env) (before : List Variable) (p : Param) (ps : List Param) (q : Qualified) (t : TypeId) (o : Offence) → IsSpecified cs env p.spec typed q → first_broken (param_tests kernel typed q p.star p.name (sketch q p.star []) (length before)) ≡ None → IsDeclaredAs cs (sketch q p.star []) 1 t → ParamsOffend cs kernel (param_named p.name t (sketch q p.star []) (length before) typed) (before ++ param_of p t ∷ []) ps o → ParamsOffend cs kernel env before (p ∷ ps) o

-- ---- functions

abbrev pub same_types : List TypeId → List TypeId → Bool
same_types [] [] = true
same_types (t ∷ ts) (u ∷ us) = same_type t u && same_types ts us
same_types _ _ = false

abbrev pub alike : Bool → Bool → Bool
alike true b = b
alike false b = not b

abbrev pub differs : Option Signature → List TypeId → TypeId → Bool → Bool
differs None params result kernel = false
differs (Some s) params result kernel = not (same_types s.params params && same_type s.result result && alike s.kernel kernel)

-- 302: a variable or a type has the name; 303: an array or a pointer as a result; 326: an address space of the result; 327: a kernel that
-- gives a value; 332: declared before with another type, or defined twice
abbrev pub function_tests_at : Shape → Bool → Bool → Bool → Bool → Bool → List (ℕ × Bool)
function_tests_at result taken spaced kernel differ again =
    (302, taken) ∷ (303, is_array result || is_pointer result) ∷ (326, spaced) ∷ (327, kernel && not (is_void result)) ∷ (332, differ || again) ∷ []

abbrev pub function_tests : UnitState → Env → Env → Bool → Bool → List ℕ → Qualified → List Variable → List (ℕ × Bool)
function_tests u typed behind kernel body name q params =
    function_tests_at q.shape (is_declared typed name) (is_some q.space) kernel (differs (find_function behind name) (types_of params) q.ty kernel) (body && is_made name u)

abbrev pub signature : List (List ℕ) → List ℕ → List TypeId → TypeId → Bool → Signature
signature bodies name params result kernel =
    record { number = number_or_0 (position_of name bodies); name = name; params = params; result = result; kernel = kernel; body = is_some (position_of name bodies) }

-- The declaration of a function: the declarations behind its words and type, those behind its parameters, the parameters, and its size.
pub record IsHead (cs : List ClType) (bodies : List (List ℕ)) (u : UnitState) (words : List FWord) (spec : Spec) (name : List ℕ) (params : List Param) (body : Bool) (typed inner : Env) (q : Qualified) (vars : List Variable) (size : Option (List ℕ)) : Type 0 where
  pub sized : Env
  pub sizes : SizesAre cs u.env (is_some (size_for name u)) words sized size
  pub result : IsSpecified cs sized spec typed q
  pub behind : Env
  pub takes : ParamsAre cs (is_kernel words) (entered typed) [] params behind vars
  pub fits : first_broken (function_tests u typed behind (is_kernel words) body name q vars) ≡ None
  pub scope : inner ≡ declared_function (signature bodies name (types_of vars) q.ty (is_kernel words)) behind

pub data HeadOffends (cs : List ClType) (u : UnitState) (words : List FWord) (spec : Spec) (name : List ℕ) (place : Place) (params : List Param) (body : Bool) : Offence → Type 0 where
  in_sizes : (o : Offence) → SizesOffend cs u.env (is_some (size_for name u)) words o → HeadOffends cs u words spec name place params body o
  in_result : (sized : Env) (size : Option (List ℕ)) (o : Offence) → SizesAre cs u.env (is_some (size_for name u)) words sized size → WordsOffend cs sized spec o → HeadOffends cs u words spec name place params body o
  in_params : (sized typed : Env) (size : Option (List ℕ)) (q : Qualified) (o : Offence) → SizesAre cs u.env (is_some (size_for name u)) words sized size → IsSpecified cs sized spec typed q → ParamsOffend cs (is_kernel words) (entered typed) [] params o → HeadOffends cs u words spec name place params body o
  -- 302, 303, 326, 327, 332
  no_function : (sized typed behind : Env) (size : Option (List ℕ)) (q : Qualified) (vars : List Variable) (code : ℕ) → SizesAre cs u.env (is_some (size_for name u)) words sized size → IsSpecified cs sized spec typed q → ParamsAre cs (is_kernel words) (entered typed) [] params behind vars → first_broken (function_tests u typed behind (is_kernel words) body name q vars) ≡ Some code → HeadOffends cs u words spec name place params body (at code place)

-- The statements of a body, which stand in the block of the parameters. Each body is a block; another statement would be the only one in it.
pub data IsBody : Stmt → List Stmt → Type 0 where
  block : (s : Stmt) (place : Place) (items : Vec Stmt) → IsStmt s place (node.Block items) → IsBody s items.items
  other : (s : Stmt) → ((place : Place) (items : Vec Stmt) → IsStmt s place (node.Block items) → ⊥) → IsBody s (s ∷ [])

-- ---- constants of the unit

abbrev pub constant_of : List ℕ → TypeId → Space → Place → List ℕ → ConstantVar
constant_of name ty own place bytes = record { variable = record { name = name; ty = ty; space = own; place = place }; bytes = bytes }

pub data ConstantsDeclared (cs : List ClType) : UnitState → Qualified → List InitDeclor → UnitState → Type 0 where
  none_declared : (u : UnitState) (q : Qualified) → ConstantsDeclared cs u q [] u
  one_declared : (u after : UnitState) (q : Qualified) (d : InitDeclor) (ds : List InitDeclor) (env : Env) (name : List ℕ) (place : Place) (ty : TypeId) (own : Space) (t : TExpr) (bytes : List ℕ) → IsVariable cs AtFileScope (kind.Constant (length u.constants)) (again_at AtFileScope) u.env q d env name place ty own (Some t) → HasBytes cs t bytes → ConstantsDeclared cs (and_constant env (constant_of name ty own place bytes) u) q ds after → ConstantsDeclared cs u q (d ∷ ds) after

pub data SomeConstantOffends (cs : List ClType) : UnitState → Qualified → List InitDeclor → Offence → Type 0 where
  this_constant : (u : UnitState) (q : Qualified) (d : InitDeclor) (ds : List InitDeclor) (o : Offence) → VariableOffends cs AtFileScope (kind.Constant (length u.constants)) (again_at AtFileScope) u.env q d o → SomeConstantOffends cs u q (d ∷ ds) o
  later_constant : (u : UnitState) (q : Qualified) (d : InitDeclor) (ds : List InitDeclor) (env : Env) (name : List ℕ) (place : Place) (ty : TypeId) (own : Space) (t : TExpr) (bytes : List ℕ) (o : Offence) → IsVariable cs AtFileScope (kind.Constant (length u.constants)) (again_at AtFileScope) u.env q d env name place ty own (Some t) → HasBytes cs t bytes → SomeConstantOffends cs (and_constant env (constant_of name ty own place bytes) u) q ds o → SomeConstantOffends cs u q (d ∷ ds) o

-- ---- typedefs

-- 302, 303: void, bool or a pointer as an element; 304; 326: two address spaces; 501, 502
abbrev pub typedef_tests_at : Bool → Sketch → Bool → Bool → List (ℕ × Bool)
typedef_tests_at again k large deep = (302, again) ∷ (303, no_declared_type k) ∷ (304, some_wrong k.lengths) ∷ (326, k.clash) ∷ (501, large) ∷ (502, deep) ∷ []

abbrev pub typedef_tests : List ClType → Bool → Sketch → List (ℕ × Bool)
typedef_tests cs again k = typedef_tests_at again k (is_large (declared_tree cs k 1)) (is_deep (declared_tree cs k 1))

abbrev pub space_or_private : Option Space → Space
space_or_private None = space.Private
space_or_private (Some s) = s

abbrev pub type_name : List ℕ → TypeId → Sketch → Declared
type_name name t k = record { name = name; ty = t; space = space_or_private k.space; readonly = k.readonly; kind = kind.Typedef; complete = true }

-- ---- what stands at file scope

abbrev pub function_of : List ℕ → Place → Bool → TypeId → List Variable → List Variable → TStmt → Function
function_of name place kernel result params vars body = record { name = name; place = place; kernel = kernel; required = None; result = result; params = params; vars = vars; body = body }

pub data ExternalIs (cs : List ClType) (bodies : List (List ℕ)) : UnitState → External → UnitState → Type 0 where
  typedef : (u : UnitState) (spec : Spec) (d : Declor) (typed env : Env) (q : Qualified) (star : Option (List Qual)) (name : List ℕ) (place : Place) (es : List (Option Expr)) (ls : List Length) (t : TypeId) → IsSpecified cs u.env spec typed q → IsDeclor d star name place es → AreLengths cs typed false es env ls → first_broken (typedef_tests cs (is_taken env name) (sketch q star ls)) ≡ None → IsDeclaredAs cs (sketch q star ls) 1 t → ExternalIs cs bodies u (external.Typedef spec d) (with_env (declare (type_name name t (sketch q star ls)) env) u)
  types : (u : UnitState) (spec : Spec) (env : Env) (q : Qualified) → IsSpecified cs u.env spec env q → ExternalIs cs bodies u (external.Struct spec) (with_env env u)
  constants : (u after : UnitState) (spec : Spec) (items : Vec InitDeclor) (env : Env) (q : Qualified) → IsSpecified cs u.env spec env q → ConstantsDeclared cs (with_env env u) q items.items after → ExternalIs cs bodies u (external.Constant spec items) after
  declared : (u : UnitState) (words : Vec FWord) (spec : Spec) (name : List ℕ) (place : Place) (params : Vec Param) (typed inner : Env) (q : Qualified) (vars : List Variable) (size : Option (List ℕ)) → IsHead cs bodies u words.items spec name params.items false typed inner q vars size → ExternalIs cs bodies u (external.Function words spec name place params None) (and_size name size (with_env (left_behind typed inner) u))
  defined : (u : UnitState) (words : Vec FWord) (spec : Spec) (name : List ℕ) (place : Place) (params : Vec Param) (b : Stmt) (typed inner : Env) (q : Qualified) (params_are : List Variable) (size : Option (List ℕ)) (items : List Stmt) (after : State) (ts : Vec TStmt) (t : TStmt) (f : Function) → IsHead cs bodies u words.items spec name params.items true typed inner q params_are size → IsBody b items → ItemsAre cs (setting (is_kernel words.items) q.ty) (state inner []) items after ts.items → IsTStmt t (out-Stmt b).place (tnode.Block ts) → f ≡ function_of name place (is_kernel words.items) q.ty params_are after.vars t → ExternalIs cs bodies u (external.Function words spec name place params (Some b)) (and_function f (and_size name size (with_env (left_behind typed after.env) u)))

pub data ExternalOffends (cs : List ClType) (bodies : List (List ℕ)) : UnitState → External → Offence → Type 0 where
  in_typedef : (u : UnitState) (spec : Spec) (d : Declor) (o : Offence) → WordsOffend cs u.env spec o → ExternalOffends cs bodies u (external.Typedef spec d) o
  in_lengths : (u : UnitState) (spec : Spec) (d : Declor) (typed : Env) (q : Qualified) (star : Option (List Qual)) (name : List ℕ) (place : Place) (es : List (Option Expr)) (o : Offence) → IsSpecified cs u.env spec typed q → IsDeclor d star name place es → LengthOffends cs typed false es o → ExternalOffends cs bodies u (external.Typedef spec d) o
  -- 302, 303, 304, 326, 501, 502
  no_typedef : (u : UnitState) (spec : Spec) (d : Declor) (typed env : Env) (q : Qualified) (star : Option (List Qual)) (name : List ℕ) (place : Place) (es : List (Option Expr)) (ls : List Length) (code : ℕ) → IsSpecified cs u.env spec typed q → IsDeclor d star name place es → AreLengths cs typed false es env ls → first_broken (typedef_tests cs (is_taken env name) (sketch q star ls)) ≡ Some code → ExternalOffends cs bodies u (external.Typedef spec d) (at code place)
  in_types : (u : UnitState) (spec : Spec) (o : Offence) → WordsOffend cs u.env spec o → ExternalOffends cs bodies u (external.Struct spec) o
  in_constant_words : (u : UnitState) (spec : Spec) (items : Vec InitDeclor) (o : Offence) → WordsOffend cs u.env spec o → ExternalOffends cs bodies u (external.Constant spec items) o
  in_constants : (u : UnitState) (spec : Spec) (items : Vec InitDeclor) (env : Env) (q : Qualified) (o : Offence) → IsSpecified cs u.env spec env q → SomeConstantOffends cs (with_env env u) q items.items o → ExternalOffends cs bodies u (external.Constant spec items) o
  in_head : (u : UnitState) (words : Vec FWord) (spec : Spec) (name : List ℕ) (place : Place) (params : Vec Param) (body : Option Stmt) (o : Offence) → HeadOffends cs u words.items spec name place params.items (is_some body) o → ExternalOffends cs bodies u (external.Function words spec name place params body) o
  in_body : (u : UnitState) (words : Vec FWord) (spec : Spec) (name : List ℕ) (place : Place) (params : Vec Param) (b : Stmt) (typed inner : Env) (q : Qualified) (vars : List Variable) (size : Option (List ℕ)) (items : List Stmt) (o : Offence) → IsHead cs bodies u words.items spec name params.items true typed inner q vars size → IsBody b items → ItemsOffend cs (setting (is_kernel words.items) q.ty) (state inner []) items o → ExternalOffends cs bodies u (external.Function words spec name place params (Some b)) o

pub data UnitIs (cs : List ClType) (bodies : List (List ℕ)) : UnitState → List External → UnitState → Type 0 where
  no_external : (u : UnitState) → UnitIs cs bodies u [] u
  more_externals : (u middle after : UnitState) (e : External) (es : List External) → ExternalIs cs bodies u e middle → UnitIs cs bodies middle es after → UnitIs cs bodies u (e ∷ es) after

pub data SomeExternalOffends (cs : List ClType) (bodies : List (List ℕ)) : UnitState → List External → Offence → Type 0 where
  this_external : (u : UnitState) (e : External) (es : List External) (o : Offence) → ExternalOffends cs bodies u e o → SomeExternalOffends cs bodies u (e ∷ es) o
  later_external : (u middle : UnitState) (e : External) (es : List External) (o : Offence) → ExternalIs cs bodies u e middle → SomeExternalOffends cs bodies middle es o → SomeExternalOffends cs bodies u (e ∷ es) o

-- ---- the verdict

-- A function requires the size that any of its declarations gives.
abbrev pub with_size_in : List (List ℕ) → List (List ℕ) → Function → Function
with_size_in sized sizes f = record f { required = size_at sizes (position_of f.name sized) }

abbrev pub with_size : UnitState → Function → Function
with_size u f = with_size_in u.sized u.sizes f

-- the typed tree of a unit, in a table of types
pub record IsTyped (ast : Ast) (tree : Tree) : Type 0 where
  pub types : IsTable tree.types
  pub last : UnitState
  pub is : UnitIs tree.types (body_names ast.externals) empty ast.externals last
  pub constants : tree.constants ≡ last.constants
  pub functions : tree.functions ≡ map (with_size last) last.functions
  pub kernel : has_kernel last.functions ≡ true

abbrev pub first_place : Place
first_place = record { line = 1; col = 1 }

-- The first offence of a unit, in some table and in each that has more types; 335: no kernel has a body, which is looked for behind all
-- others.
pub data IsOffence (ast : Ast) : Offence → Type 0 where
  in_unit : (cs : List ClType) (o : Offence) → IsTable cs → From cs (λ more. SomeExternalOffends more (body_names ast.externals) empty ast.externals o) → IsOffence ast o
  no_kernel : (cs : List ClType) (last : UnitState) → IsTable cs → From cs (λ more. UnitIs more (body_names ast.externals) empty ast.externals last) → has_kernel last.functions ≡ false → IsOffence ast (at 335 first_place)

abbrev pub StopsAt : Ast → Stop → Type 0
StopsAt ast (Out o) = IsOffence ast o
StopsAt ast NoMemory = Unit {0}
