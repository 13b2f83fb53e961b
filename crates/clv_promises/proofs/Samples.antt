-- A unit and a module for it, to see that the definitions mean what they say. Trees are written as typing makes them, and the module holds what the
-- definitions speak of alone.
use Rattle.std.proofs.Common.{◌≡◌, ℕ, Bool, true, false, List, [], ◌∷◌, ◌++◌, Option, Some, None, refl}
use Rattle.clv_place.specs.declared.place.Place.{Place}
use Rattle.clv_place.specs.declared.stop.Offence.{Offence}
use Rattle.cl_types.specs.declared.types.ClType.{ClType}
use Rattle.cl_types.specs.declared.types.ClType.TheVariants as ty
use Rattle.cl_types.specs.declared.types.TypeId.{TypeId}
use Rattle.cl_types.specs.declared.space.Space.{Space}
use Rattle.cl_types.specs.declared.space.Space.TheVariants as space
use Rattle.cl_types.specs.declared.operator.UnOp.TheVariants as un
use Rattle.cl_types.specs.declared.operator.BinOp.TheVariants as bin
use Rattle.cl_tree.specs.declared.unit.ConstantVar.{ConstantVar}
use Rattle.cl_tree.specs.declared.unit.Variable.{Variable}
use Rattle.cl_meaning.specs.declared.code.Node.{Node}
use Rattle.cl_meaning.specs.declared.code.Node.TheVariants.{Param, Var, Number, Convert, Unary, Binary, Call}
use Rattle.cl_meaning.specs.Code.{Expr, Tree, NoExpr, AndExpr, Stmt, Stmts, Block, Declare, Evaluate, Return, Empty, NoStmt, AndStmt}
use Rattle.cl_provenance.specs.Routines.{Routine, Unit as Functions}
use Rattle.spv_module.specs.declared.module.Inst.{Inst}
use Rattle.spv_module.specs.declared.module.Operand.{Operand}
use Rattle.spv_module.specs.declared.module.Operand.TheVariants.{Id, Word}
use Rattle.spv_module.specs.declared.op.TheConstants as op
use Rattle.spv_types_rules.specs.Lines.{Whole, whole, lines_of}
use Rattle.spv_reflect.specs.declared.rows.ArgKindRow.{ArgKindRow}
use Rattle.spv_reflect.specs.declared.rows.ArgKindRow.TheVariants as kind
use Rattle.spv_reflect.specs.declared.rows.ArgRow.{ArgRow}
use Rattle.vk_layout.specs.declared.options.Pod.TheVariants.{Storage}
use Rattle.vk_layout.specs.Rows.{kernels_of}
use Rattle.vk_layout.specs.Interface.{of_kernels, all_wanted, InterfaceStands}
use Rattle.clv_promises.specs.Copied.{AreCopied, reflection, copy_of_item, copy_of_function}
use Rattle.clv_promises.specs.Rooms.{each_keeps}

-- ---- words

-- the types by their numbers in the table
abbrev t : ℕ → TypeId
t n = record { 0 = n }

abbrev void : TypeId
void = t 0

abbrev int : TypeId
int = t 1

abbrev char : TypeId
char = t 2

abbrev short : TypeId
short = t 3

abbrev uchar : TypeId
uchar = t 4

abbrev int3 : TypeId
int3 = t 5

abbrev struct_S : TypeId
struct_S = t 6

abbrev restrict_ints : TypeId
restrict_ints = t 7

abbrev ints : TypeId
ints = t 8

abbrev own_ints : TypeId
own_ints = t 9

abbrev local_ints : TypeId
local_ints = t 10

abbrev constant_structs : TypeId
constant_structs = t 11

abbrev three_uchars : TypeId
three_uchars = t 12

abbrev four_shorts : TypeId
four_shorts = t 13

abbrev types : List ClType
types = ty.Void ∷ ty.Int 32 true ∷ ty.Int 8 true ∷ ty.Int 16 true ∷ ty.Int 8 false ∷ ty.Vector int 3 ∷ ty.Struct (83 ∷ []) (record { name = (99 ∷ []); ty = char } ∷ record { name = (118 ∷ []); ty = int3 } ∷ []) ∷ ty.Pointer space.Global int false true ∷ ty.Pointer space.Global int false false ∷ ty.Pointer space.Private int false false ∷ ty.Pointer space.Local int false false ∷ ty.Pointer space.Constant struct_S false false ∷ ty.Array uchar 3 ∷ ty.Array short 4 ∷ []

-- a node of this type and number, with its operands
abbrev leaf : Node → TypeId → ℕ → Expr
leaf node ty n = Tree node ty n NoExpr

abbrev one : Node → TypeId → ℕ → Expr → Expr
one node ty n a = Tree node ty n (AndExpr a NoExpr)

abbrev two : Node → TypeId → ℕ → Expr → Expr → Expr
two node ty n a b = Tree node ty n (AndExpr a (AndExpr b NoExpr))

abbrev three : Node → TypeId → ℕ → Expr → Expr → Expr → Expr
three node ty n a b c = Tree node ty n (AndExpr a (AndExpr b (AndExpr c NoExpr)))

abbrev list : List Stmt → Stmts
list [] = NoStmt
list (s ∷ ss) = AndStmt s (list ss)

abbrev at : ℕ → ℕ → Place
at line col = record { line = line; col = col }

abbrev variable : List ℕ → TypeId → Space → ℕ → ℕ → Variable
variable name ty space line col = record { name = name; ty = ty; space = space; place = at line col }

-- the places of nodes on the first line
abbrev columns : List ℕ → List Place
columns [] = []
columns (c ∷ cs) = at 1 c ∷ columns cs

-- what is void, with its nodes' places; the samples count no nodes
abbrev routine : Bool → List ℕ → List Variable → List Variable → List Place → Stmt → Routine
routine kernel name params vars places body = record {
  name = name;
  place = at 1 1;
  kernel = kernel;
  required = None;
  params = params;
  vars = vars;
  result = void;
  body = body;
  places = places;
  trees = [];
}

abbrev kernel : List ℕ → List Variable → List Variable → List Place → Stmt → Routine
kernel = routine true

abbrev function : List ℕ → List Variable → List Variable → List Place → Stmt → Routine
function = routine false

abbrev unit : List ConstantVar → List Routine → Functions
unit constants functions = record { types = types; constants = constants; functions = functions }

abbrev offends : ℕ → ℕ → ℕ → Option Offence
offends code line col = Some (record { code = code; place = at line col })

abbrev inst : ℕ → List Operand → Inst
inst code operands = record { op = code; operands = operands }

-- ---- a unit

-- __constant uchar t[]={1,2,255};struct S{char c;int3 v;};void f(int*p,__global int*g,char x){}__kernel void k(__global int*restrict a,int n,__local int*s,__constant struct S*c){__local short l[4];int x;f(&x,a,1);f(&x,a+1,2);return;f(&x,a,3);}
abbrev u_f : Routine
u_f = function (102 ∷ []) (variable (112 ∷ []) own_ints space.Private 1 68 ∷ variable (103 ∷ []) ints space.Private 1 83 ∷ variable (120 ∷ []) char space.Private 1 90 ∷ []) ([])
    (columns [])
    (Block (list ([])))

abbrev u_k : Routine
u_k = kernel (107 ∷ []) (variable (97 ∷ []) restrict_ints space.Private 1 132 ∷ variable (110 ∷ []) int space.Private 1 138 ∷ variable (115 ∷ []) local_ints space.Private 1 152 ∷ variable (99 ∷ []) constant_structs space.Private 1 174 ∷ []) (variable (108 ∷ []) four_shorts space.Local 1 191 ∷ variable (120 ∷ []) int space.Private 1 200 ∷ [])
    (columns (205 ∷ 204 ∷ 207 ∷ 207 ∷ 209 ∷ 209 ∷ 202 ∷ 215 ∷ 214 ∷ 217 ∷ 219 ∷ 218 ∷ 218 ∷ 221 ∷ 221 ∷ 212 ∷ 234 ∷ 233 ∷ 236 ∷ 236 ∷ 238 ∷ 238 ∷ 231 ∷ []))
    (Block (list (Empty ∷ Declare 1 ∷ Evaluate (three (Call 0) void 6 (one (Unary un.Address) own_ints 1 (leaf (Var 1) int 0)) (one Convert ints 3 (leaf (Param 0) restrict_ints 2)) (one Convert char 5 (leaf (Number 1) int 4))) ∷ Evaluate (three (Call 0) void 15 (one (Unary un.Address) own_ints 8 (leaf (Var 1) int 7)) (one Convert ints 12 (two (Binary bin.Add) restrict_ints 11 (leaf (Param 0) restrict_ints 9) (leaf (Number 1) int 10))) (one Convert char 14 (leaf (Number 2) int 13))) ∷ Return None ∷ Evaluate (three (Call 0) void 22 (one (Unary un.Address) own_ints 17 (leaf (Var 1) int 16)) (one Convert ints 19 (leaf (Param 0) restrict_ints 18)) (one Convert char 21 (leaf (Number 3) int 20))) ∷ [])))

abbrev pub u : Functions
u = unit (record { variable = variable (116 ∷ []) three_uchars space.Constant 1 18; bytes = (1 ∷ 2 ∷ 255 ∷ []) } ∷ []) (u_f ∷ u_k ∷ [])

-- ---- a module

-- what decorations say, and what stands behind them
abbrev marks : List Inst
marks =
    inst op.DECORATE (Id 20 ∷ Word 6 ∷ Word 4 ∷ [])
    ∷ inst op.DECORATE (Id 21 ∷ Word 2 ∷ [])
    ∷ inst op.MEMBER_DECORATE (Id 21 ∷ Word 0 ∷ Word 35 ∷ Word 0 ∷ [])
    ∷ inst op.DECORATE (Id 23 ∷ Word 34 ∷ Word 0 ∷ [])
    ∷ inst op.DECORATE (Id 23 ∷ Word 33 ∷ Word 0 ∷ [])
    ∷ inst op.DECORATE (Id 23 ∷ Word 19 ∷ [])
    ∷ inst op.DECORATE (Id 24 ∷ Word 2 ∷ [])
    ∷ inst op.MEMBER_DECORATE (Id 24 ∷ Word 0 ∷ Word 35 ∷ Word 0 ∷ [])
    ∷ inst op.DECORATE (Id 26 ∷ Word 34 ∷ Word 0 ∷ [])
    ∷ inst op.DECORATE (Id 26 ∷ Word 33 ∷ Word 2 ∷ [])
    ∷ inst op.DECORATE (Id 27 ∷ Word 1 ∷ Word 3 ∷ [])
    ∷ inst op.MEMBER_DECORATE (Id 32 ∷ Word 0 ∷ Word 35 ∷ Word 0 ∷ [])
    ∷ inst op.MEMBER_DECORATE (Id 32 ∷ Word 1 ∷ Word 35 ∷ Word 16 ∷ [])
    ∷ inst op.DECORATE (Id 33 ∷ Word 6 ∷ Word 32 ∷ [])
    ∷ inst op.DECORATE (Id 34 ∷ Word 2 ∷ [])
    ∷ inst op.MEMBER_DECORATE (Id 34 ∷ Word 0 ∷ Word 35 ∷ Word 0 ∷ [])
    ∷ inst op.MEMBER_DECORATE (Id 34 ∷ Word 0 ∷ Word 24 ∷ [])
    ∷ inst op.DECORATE (Id 36 ∷ Word 34 ∷ Word 0 ∷ [])
    ∷ inst op.DECORATE (Id 36 ∷ Word 33 ∷ Word 1 ∷ [])
    ∷ inst op.DECORATE (Id 36 ∷ Word 20 ∷ [])
    ∷ inst op.DECORATE (Id 40 ∷ Word 6 ∷ Word 1 ∷ [])
    ∷ inst op.DECORATE (Id 41 ∷ Word 2 ∷ [])
    ∷ inst op.MEMBER_DECORATE (Id 41 ∷ Word 0 ∷ Word 35 ∷ Word 0 ∷ [])
    ∷ inst op.MEMBER_DECORATE (Id 41 ∷ Word 0 ∷ Word 24 ∷ [])
    ∷ inst op.DECORATE (Id 43 ∷ Word 34 ∷ Word 1 ∷ [])
    ∷ inst op.DECORATE (Id 43 ∷ Word 33 ∷ Word 0 ∷ [])
    ∷ []

abbrev rest : List Inst
rest =
    inst op.TYPE_VOID (Id 1 ∷ [])
    ∷ inst op.TYPE_FUNCTION (Id 2 ∷ Id 1 ∷ [])
    ∷ inst op.TYPE_INT (Id 3 ∷ Word 32 ∷ Word 0 ∷ [])
    ∷ inst op.TYPE_INT (Id 4 ∷ Word 8 ∷ Word 0 ∷ [])
    ∷ inst op.TYPE_INT (Id 5 ∷ Word 16 ∷ Word 0 ∷ [])
    ∷ inst op.CONSTANT (Id 3 ∷ Id 10 ∷ Word 3 ∷ [])
    ∷ inst op.CONSTANT (Id 3 ∷ Id 11 ∷ Word 4 ∷ [])
    ∷ inst op.TYPE_RUNTIME_ARRAY (Id 20 ∷ Id 3 ∷ [])
    ∷ inst op.TYPE_STRUCT (Id 21 ∷ Id 20 ∷ [])
    ∷ inst op.TYPE_POINTER (Id 22 ∷ Word 12 ∷ Id 21 ∷ [])
    ∷ inst op.VARIABLE (Id 22 ∷ Id 23 ∷ Word 12 ∷ [])
    ∷ inst op.TYPE_STRUCT (Id 24 ∷ Id 3 ∷ [])
    ∷ inst op.TYPE_POINTER (Id 25 ∷ Word 12 ∷ Id 24 ∷ [])
    ∷ inst op.VARIABLE (Id 25 ∷ Id 26 ∷ Word 12 ∷ [])
    ∷ inst op.SPEC_CONSTANT (Id 3 ∷ Id 27 ∷ Word 1 ∷ [])
    ∷ inst op.TYPE_ARRAY (Id 28 ∷ Id 3 ∷ Id 27 ∷ [])
    ∷ inst op.TYPE_POINTER (Id 29 ∷ Word 4 ∷ Id 28 ∷ [])
    ∷ inst op.VARIABLE (Id 29 ∷ Id 30 ∷ Word 4 ∷ [])
    ∷ inst op.TYPE_VECTOR (Id 31 ∷ Id 3 ∷ Word 3 ∷ [])
    ∷ inst op.TYPE_STRUCT (Id 32 ∷ Id 4 ∷ Id 31 ∷ [])
    ∷ inst op.TYPE_RUNTIME_ARRAY (Id 33 ∷ Id 32 ∷ [])
    ∷ inst op.TYPE_STRUCT (Id 34 ∷ Id 33 ∷ [])
    ∷ inst op.TYPE_POINTER (Id 35 ∷ Word 12 ∷ Id 34 ∷ [])
    ∷ inst op.VARIABLE (Id 35 ∷ Id 36 ∷ Word 12 ∷ [])
    ∷ inst op.TYPE_ARRAY (Id 37 ∷ Id 5 ∷ Id 11 ∷ [])
    ∷ inst op.TYPE_POINTER (Id 38 ∷ Word 4 ∷ Id 37 ∷ [])
    ∷ inst op.VARIABLE (Id 38 ∷ Id 39 ∷ Word 4 ∷ [])
    ∷ inst op.TYPE_ARRAY (Id 40 ∷ Id 4 ∷ Id 10 ∷ [])
    ∷ inst op.TYPE_STRUCT (Id 41 ∷ Id 40 ∷ [])
    ∷ inst op.TYPE_POINTER (Id 42 ∷ Word 12 ∷ Id 41 ∷ [])
    ∷ inst op.VARIABLE (Id 42 ∷ Id 43 ∷ Word 12 ∷ [])
    ∷ inst op.TYPE_POINTER (Id 44 ∷ Word 7 ∷ Id 3 ∷ [])
    ∷ inst op.TYPE_FUNCTION (Id 45 ∷ Id 1 ∷ Id 4 ∷ Id 3 ∷ Id 3 ∷ Id 44 ∷ [])
    ∷ inst op.FUNCTION (Id 1 ∷ Id 60 ∷ Word 0 ∷ Id 2 ∷ [])
    ∷ inst op.LABEL (Id 61 ∷ [])
    ∷ inst op.VARIABLE (Id 44 ∷ Id 62 ∷ Word 7 ∷ [])
    ∷ inst op.FUNCTION_CALL (Id 1 ∷ Id 63 ∷ Id 50 ∷ Id 10 ∷ Id 10 ∷ Id 10 ∷ Id 62 ∷ [])
    ∷ inst op.FUNCTION_CALL (Id 1 ∷ Id 64 ∷ Id 50 ∷ Id 10 ∷ Id 10 ∷ Id 10 ∷ Id 62 ∷ [])
    ∷ inst op.RETURN ([])
    ∷ inst op.FUNCTION_END ([])
    ∷ inst op.FUNCTION (Id 1 ∷ Id 50 ∷ Word 0 ∷ Id 45 ∷ [])
    ∷ inst op.FUNCTION_PARAMETER (Id 4 ∷ Id 51 ∷ [])
    ∷ inst op.FUNCTION_PARAMETER (Id 3 ∷ Id 52 ∷ [])
    ∷ inst op.FUNCTION_PARAMETER (Id 3 ∷ Id 54 ∷ [])
    ∷ inst op.FUNCTION_PARAMETER (Id 44 ∷ Id 53 ∷ [])
    ∷ inst op.LABEL (Id 55 ∷ [])
    ∷ inst op.RETURN ([])
    ∷ inst op.FUNCTION_END ([])
    ∷ []

abbrev module_of : List Inst → Whole
module_of body = whole (lines_of body)

abbrev pub m : Whole
m = module_of (marks ++ rest)

-- ---- its variables

variables : InterfaceStands m Storage u
variables = record {
  kernels = (23 ∷ 30 ∷ 36 ∷ 26 ∷ 39 ∷ []) ∷ [];
  constants = 43 ∷ [];
  of_each_kernel = refl;
  of_all_constants = refl;
  distinct = refl;
  others = refl;
}

-- without the first decorations it has none of these
abbrev bare : Whole
bare = module_of rest

no_buffer : all_wanted bare (of_kernels u.types Storage [] (kernels_of u.functions)) ((23 ∷ 30 ∷ 36 ∷ 26 ∷ 39 ∷ []) ∷ []) ≡ false
no_buffer = refl

-- ---- its functions

functions : AreCopied m u
functions = refl

keeps : each_keeps m u (1 ∷ []) ((23 ∷ 30 ∷ 36 ∷ 26 ∷ 39 ∷ []) ∷ []) ≡ true
keeps = refl

-- an item in the first call, and an invocation in the second function, ask in one copy
same_copy : copy_of_item m u 1 (record { function = 1; node = 6 } ∷ []) ≡ copy_of_function m u 50
same_copy = refl

kernel_copy : copy_of_item m u 1 [] ≡ copy_of_function m u 60
kernel_copy = refl

-- ---- its rows

abbrev row : List ℕ → ArgKindRow → ArgRow
row name kind = record { name = name; kind = kind }

rows : reflection m u Storage ≡ record {
  kernels = record { function = 60; name = 107 ∷ []; args = row (97 ∷ []) (kind.Buffer 0 0) ∷ row (110 ∷ []) (kind.PlainStorage 0 2 0 4) ∷ row (115 ∷ []) (kind.Local 3 4) ∷ row (99 ∷ []) (kind.Buffer 0 1) ∷ []; required = None } ∷ [];
  sizes = Some (0 ∷ 1 ∷ 2 ∷ []);
  dim = None;
  constants = Some (record { set = 1; binding = 0; bytes = 1 ∷ 2 ∷ 255 ∷ [] });
}
rows = refl
