-- Units and where their arguments stand, to see that the definitions mean what they say. Trees are written as typing makes them.
use Rattle.std.proofs.Common.{◌≡◌, ℕ, Bool, true, false, List, [], ◌∷◌, Option, Some, None, refl}
use Rattle.clv_place.specs.declared.place.Place.{Place}
use Rattle.clv_place.specs.declared.stop.Offence.{Offence}
use Rattle.cl_types.specs.declared.types.ClType.{ClType}
use Rattle.cl_types.specs.declared.types.ClType.TheVariants as ty
use Rattle.cl_types.specs.declared.types.TypeId.{TypeId}
use Rattle.cl_types.specs.declared.space.Space.{Space}
use Rattle.cl_types.specs.declared.space.Space.TheVariants as space
use Rattle.cl_types.specs.declared.builtin.Builtin.TheVariants as builtin
use Rattle.cl_tree.specs.declared.unit.ConstantVar.{ConstantVar}
use Rattle.cl_tree.specs.declared.unit.Variable.{Variable}
use Rattle.cl_meaning.specs.declared.code.Node.{Node}
use Rattle.cl_meaning.specs.declared.code.Node.TheVariants.{Builtin}
use Rattle.cl_meaning.specs.Code.{Expr, Tree, NoExpr, AndExpr, Stmt, Stmts, Block, Evaluate, NoStmt, AndStmt}
use Rattle.cl_provenance.specs.Routines.{Routine, Unit as Functions}
use Rattle.spv_reflect.specs.declared.rows.ArgKindRow.{ArgKindRow}
use Rattle.spv_reflect.specs.declared.rows.ArgKindRow.TheVariants as kind
use Rattle.spv_reflect.specs.declared.rows.ArgRow.{ArgRow}
use Rattle.vk_layout.specs.declared.options.Pod.TheVariants.{Storage, Push}
use Rattle.vk_layout.specs.Limits.{laying}
use Rattle.vk_layout.specs.Rows.{rows_with}

-- ---- words

-- the types by their numbers in the table
abbrev t : ℕ → TypeId
t n = record { 0 = n }

abbrev void : TypeId
void = t 0

abbrev int : TypeId
int = t 1

abbrev uint : TypeId
uint = t 2

abbrev ints : TypeId
ints = t 3

abbrev local_ints : TypeId
local_ints = t 5

abbrev constant_ints : TypeId
constant_ints = t 6

abbrev uchar : TypeId
uchar = t 7

abbrev three_uchars : TypeId
three_uchars = t 8

abbrev uchar3 : TypeId
uchar3 = t 9

abbrev ulong : TypeId
ulong = t 10

abbrev ulongs : TypeId
ulongs = t 11

abbrev ulong4 : TypeId
ulong4 = t 12

abbrev types : List ClType
types = ty.Void ∷ ty.Int 32 true ∷ ty.Int 32 false ∷ ty.Pointer space.Global int false false ∷ ty.Pointer space.Private int false false ∷ ty.Pointer space.Local int false false ∷ ty.Pointer space.Constant int false false ∷ ty.Int 8 false ∷ ty.Array uchar 3 ∷ ty.Vector uchar 3 ∷ ty.Int 64 false ∷ ty.Pointer space.Global ulong false false ∷ ty.Vector ulong 4 ∷ []

-- a node of this type and number, with its operands
abbrev leaf : Node → TypeId → ℕ → Expr
leaf node ty n = Tree node ty n NoExpr

abbrev one : Node → TypeId → ℕ → Expr → Expr
one node ty n a = Tree node ty n (AndExpr a NoExpr)

abbrev two : Node → TypeId → ℕ → Expr → Expr → Expr
two node ty n a b = Tree node ty n (AndExpr a (AndExpr b NoExpr))

abbrev three : Node → TypeId → ℕ → Expr → Expr → Expr → Expr
three node ty n a b c = Tree node ty n (AndExpr a (AndExpr b (AndExpr c NoExpr)))

abbrev list : List Stmt → Stmts
list [] = NoStmt
list (s ∷ ss) = AndStmt s (list ss)

abbrev at : ℕ → ℕ → Place
at line col = record { line = line; col = col }

abbrev variable : List ℕ → TypeId → Space → ℕ → ℕ → Variable
variable name ty space line col = record { name = name; ty = ty; space = space; place = at line col }

-- the places of nodes on the first line
abbrev columns : List ℕ → List Place
columns [] = []
columns (c ∷ cs) = at 1 c ∷ columns cs

-- what is void, with its nodes' places; the samples count no nodes
abbrev routine : Bool → List ℕ → List Variable → List Variable → List Place → Stmt → Routine
routine kernel name params vars places body = record {
  name = name;
  place = at 1 1;
  kernel = kernel;
  required = None;
  params = params;
  vars = vars;
  result = void;
  body = body;
  places = places;
  trees = [];
}

abbrev kernel : List ℕ → List Variable → List Variable → List Place → Stmt → Routine
kernel = routine true

abbrev function : List ℕ → List Variable → List Variable → List Place → Stmt → Routine
function = routine false

abbrev unit : List ConstantVar → List Routine → Functions
unit constants functions = record { types = types; constants = constants; functions = functions }

abbrev offends : ℕ → ℕ → ℕ → Option Offence
offends code line col = Some (record { code = code; place = at line col })

abbrev row : List ℕ → ArgKindRow → ArgRow
row name kind = record { name = name; kind = kind }

-- ---- arguments of all kinds, and a constant

-- __constant uchar t[]={1,2,255};__kernel void k(__global int*a,int n,__local int*s,__constant int*c,uchar3 v){}
abbrev all_k : Routine
all_k = kernel (107 ∷ []) (variable (97 ∷ []) ints space.Private 1 61 ∷ variable (110 ∷ []) int space.Private 1 67 ∷ variable (115 ∷ []) local_ints space.Private 1 81 ∷ variable (99 ∷ []) constant_ints space.Private 1 98 ∷ variable (118 ∷ []) uchar3 space.Private 1 107 ∷ []) ([])
    (columns [])
    (Block (list ([])))

abbrev all : Functions
all = unit (record { variable = variable (116 ∷ []) three_uchars space.Constant 1 18; bytes = (1 ∷ 2 ∷ 255 ∷ []) } ∷ []) (all_k ∷ [])

all_storage : laying Storage all ≡ None
all_storage = refl

all_storage_rows : rows_with Storage all (all_k ∷ []) (7 ∷ []) ≡ record {
  kernels = record { function = 7; name = (107 ∷ []); args = row (97 ∷ []) (kind.Buffer 0 0) ∷ row (110 ∷ []) (kind.PlainStorage 0 2 0 4) ∷ row (115 ∷ []) (kind.Local 3 4) ∷ row (99 ∷ []) (kind.Buffer 0 1) ∷ row (118 ∷ []) (kind.PlainStorage 0 2 4 4) ∷ []; required = None } ∷ [];
  sizes = Some (0 ∷ 1 ∷ 2 ∷ []);
  dim = None;
  constants = Some (record { set = 1; binding = 0; bytes = (1 ∷ 2 ∷ 255 ∷ []) });
}
all_storage_rows = refl

all_push : laying Push all ≡ None
all_push = refl

all_push_rows : rows_with Push all (all_k ∷ []) (7 ∷ []) ≡ record {
  kernels = record { function = 7; name = (107 ∷ []); args = row (97 ∷ []) (kind.Buffer 0 0) ∷ row (110 ∷ []) (kind.PlainPush 0 4) ∷ row (115 ∷ []) (kind.Local 3 4) ∷ row (99 ∷ []) (kind.Buffer 0 1) ∷ row (118 ∷ []) (kind.PlainPush 4 4) ∷ []; required = None } ∷ [];
  sizes = Some (0 ∷ 1 ∷ 2 ∷ []);
  dim = None;
  constants = Some (record { set = 1; binding = 0; bytes = (1 ∷ 2 ∷ 255 ∷ []) });
}
all_push_rows = refl

-- ---- the work dimension is asked for

-- __kernel void k(__global int*a){get_work_dim();}
abbrev asks_k : Routine
asks_k = kernel (107 ∷ []) (variable (97 ∷ []) ints space.Private 1 30 ∷ []) ([])
    (columns (33 ∷ []))
    (Block (list (Evaluate (leaf (Builtin builtin.GetWorkDim) uint 0) ∷ [])))

abbrev asks : Functions
asks = unit ([]) (asks_k ∷ [])

asks_storage : laying Storage asks ≡ None
asks_storage = refl

asks_storage_rows : rows_with Storage asks (asks_k ∷ []) (7 ∷ []) ≡ record {
  kernels = record { function = 7; name = (107 ∷ []); args = row (97 ∷ []) (kind.Buffer 0 0) ∷ []; required = None } ∷ [];
  sizes = Some (0 ∷ 1 ∷ 2 ∷ []);
  dim = Some 3;
  constants = None;
}
asks_storage_rows = refl

-- ---- push constants of 128 bytes, and of one more

-- __kernel void k(__global ulong*a,ulong4 p,ulong4 q,ulong4 r,ulong4 s){}
abbrev fits_k : Routine
fits_k = kernel (107 ∷ []) (variable (97 ∷ []) ulongs space.Private 1 32 ∷ variable (112 ∷ []) ulong4 space.Private 1 41 ∷ variable (113 ∷ []) ulong4 space.Private 1 50 ∷ variable (114 ∷ []) ulong4 space.Private 1 59 ∷ variable (115 ∷ []) ulong4 space.Private 1 68 ∷ []) ([])
    (columns [])
    (Block (list ([])))

abbrev fits : Functions
fits = unit ([]) (fits_k ∷ [])

fits_push : laying Push fits ≡ None
fits_push = refl

fits_push_rows : rows_with Push fits (fits_k ∷ []) (7 ∷ []) ≡ record {
  kernels = record { function = 7; name = (107 ∷ []); args = row (97 ∷ []) (kind.Buffer 0 0) ∷ row (112 ∷ []) (kind.PlainPush 0 32) ∷ row (113 ∷ []) (kind.PlainPush 32 32) ∷ row (114 ∷ []) (kind.PlainPush 64 32) ∷ row (115 ∷ []) (kind.PlainPush 96 32) ∷ []; required = None } ∷ [];
  sizes = Some (0 ∷ 1 ∷ 2 ∷ []);
  dim = None;
  constants = None;
}
fits_push_rows = refl

-- ---- one byte more

-- __kernel void k(__global ulong*a,ulong4 p,ulong4 q,ulong4 r,ulong4 s,uchar t){}
abbrev leaves_k : Routine
leaves_k = kernel (107 ∷ []) (variable (97 ∷ []) ulongs space.Private 1 32 ∷ variable (112 ∷ []) ulong4 space.Private 1 41 ∷ variable (113 ∷ []) ulong4 space.Private 1 50 ∷ variable (114 ∷ []) ulong4 space.Private 1 59 ∷ variable (115 ∷ []) ulong4 space.Private 1 68 ∷ variable (116 ∷ []) uchar space.Private 1 76 ∷ []) ([])
    (columns [])
    (Block (list ([])))

abbrev leaves : Functions
leaves = unit ([]) (leaves_k ∷ [])

leaves_storage : laying Storage leaves ≡ None
leaves_storage = refl

leaves_storage_rows : rows_with Storage leaves (leaves_k ∷ []) (7 ∷ []) ≡ record {
  kernels = record { function = 7; name = (107 ∷ []); args = row (97 ∷ []) (kind.Buffer 0 0) ∷ row (112 ∷ []) (kind.PlainStorage 0 1 0 32) ∷ row (113 ∷ []) (kind.PlainStorage 0 1 32 32) ∷ row (114 ∷ []) (kind.PlainStorage 0 1 64 32) ∷ row (115 ∷ []) (kind.PlainStorage 0 1 96 32) ∷ row (116 ∷ []) (kind.PlainStorage 0 1 128 1) ∷ []; required = None } ∷ [];
  sizes = Some (0 ∷ 1 ∷ 2 ∷ []);
  dim = None;
  constants = None;
}
leaves_storage_rows = refl

leaves_push : laying Push leaves ≡ offends 507 1 76
leaves_push = refl
