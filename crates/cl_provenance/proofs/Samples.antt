-- Kernels and where their pointers point, to see that the definitions mean what they say. Trees are written as typing makes them.
use Rattle.std.proofs.Common.{◌≡◌, ℕ, Bool, true, false, List, [], ◌∷◌, Option, Some, None, refl}
use Rattle.clv_place.specs.declared.place.Place.{Place}
use Rattle.clv_place.specs.declared.stop.Offence.{Offence}
use Rattle.cl_types.specs.declared.types.ClType.{ClType}
use Rattle.cl_types.specs.declared.types.ClType.TheVariants as ty
use Rattle.cl_types.specs.declared.types.TypeId.{TypeId}
use Rattle.cl_types.specs.declared.space.Space.{Space}
use Rattle.cl_types.specs.declared.space.Space.TheVariants as space
use Rattle.cl_types.specs.declared.operator.UnOp.TheVariants as un
use Rattle.cl_types.specs.declared.operator.BinOp.TheVariants as bin
use Rattle.cl_tree.specs.declared.unit.ConstantVar.{ConstantVar}
use Rattle.cl_tree.specs.declared.unit.Variable.{Variable}
use Rattle.cl_meaning.specs.declared.code.Node.{Node}
use Rattle.cl_meaning.specs.declared.code.Node.TheVariants.{Param, Var, Number, Unary, Binary, Assign, Cond, Call, Index}
use Rattle.cl_meaning.specs.Code.{Expr, Tree, NoExpr, AndExpr, Stmt, Stmts, Block, Declare, Initialise, Evaluate, For, NoStmt, AndStmt}
use Rattle.cl_provenance.specs.Routines.{Routine, Unit as Functions}
use Rattle.obj_tree.specs.declared.object.Mark.{Mark}
use Rattle.obj_tree.specs.declared.object.Mark.TheVariants as mark
use Rattle.obj_tree.specs.declared.object.Root.{Root}
use Rattle.obj_tree.specs.declared.object.Root.TheVariants.{Argument, Private}
use Rattle.obj_tree.specs.declared.object.Where.{Where}
use Rattle.cl_provenance.specs.Objects.{Entered, wheres}
use Rattle.cl_provenance.specs.Offences.{pointer_offence, recursion}

-- ---- words

-- the types by their numbers in the table
abbrev t : ℕ → TypeId
t n = record { 0 = n }

abbrev void : TypeId
void = t 0

abbrev int : TypeId
int = t 1

abbrev ints : TypeId
ints = t 3

abbrev own_ints : TypeId
own_ints = t 4

abbrev uchar : TypeId
uchar = t 7

abbrev ulong : TypeId
ulong = t 10

abbrev types : List ClType
types = ty.Void ∷ ty.Int 32 true ∷ ty.Int 32 false ∷ ty.Pointer space.Global int false false ∷ ty.Pointer space.Private int false false ∷ ty.Pointer space.Local int false false ∷ ty.Pointer space.Constant int false false ∷ ty.Int 8 false ∷ ty.Array uchar 3 ∷ ty.Vector uchar 3 ∷ ty.Int 64 false ∷ ty.Pointer space.Global ulong false false ∷ ty.Vector ulong 4 ∷ []

-- a node of this type and number, with its operands
abbrev leaf : Node → TypeId → ℕ → Expr
leaf node ty n = Tree node ty n NoExpr

abbrev one : Node → TypeId → ℕ → Expr → Expr
one node ty n a = Tree node ty n (AndExpr a NoExpr)

abbrev two : Node → TypeId → ℕ → Expr → Expr → Expr
two node ty n a b = Tree node ty n (AndExpr a (AndExpr b NoExpr))

abbrev three : Node → TypeId → ℕ → Expr → Expr → Expr → Expr
three node ty n a b c = Tree node ty n (AndExpr a (AndExpr b (AndExpr c NoExpr)))

abbrev list : List Stmt → Stmts
list [] = NoStmt
list (s ∷ ss) = AndStmt s (list ss)

abbrev at : ℕ → ℕ → Place
at line col = record { line = line; col = col }

abbrev variable : List ℕ → TypeId → Space → ℕ → ℕ → Variable
variable name ty space line col = record { name = name; ty = ty; space = space; place = at line col }

-- the places of nodes on the first line
abbrev columns : List ℕ → List Place
columns [] = []
columns (c ∷ cs) = at 1 c ∷ columns cs

-- what is void, with its nodes' places; the samples count no nodes
abbrev routine : Bool → List ℕ → List Variable → List Variable → List Place → Stmt → Routine
routine kernel name params vars places body = record {
  name = name;
  place = at 1 1;
  kernel = kernel;
  required = None;
  params = params;
  vars = vars;
  result = void;
  body = body;
  places = places;
  trees = [];
}

abbrev kernel : List ℕ → List Variable → List Variable → List Place → Stmt → Routine
kernel = routine true

abbrev function : List ℕ → List Variable → List Variable → List Place → Stmt → Routine
function = routine false

abbrev unit : List ConstantVar → List Routine → Functions
unit constants functions = record { types = types; constants = constants; functions = functions }

abbrev offends : ℕ → ℕ → ℕ → Option Offence
offends code line col = Some (record { code = code; place = at line col })

-- objects and steps
abbrev points : Root → List Mark → Where
points root shape = record { root = root; shape = shape }

abbrev entered : List Where → Entered
entered pointers = record { pointers = pointers; privates = [] }

-- ---- `?:` between two arguments

-- __kernel void k(__global int*a,__global int*b,int c){__global int*p=c?a:b;*p=1;}
abbrev meets_k : Routine
meets_k = kernel (107 ∷ []) (variable (97 ∷ []) ints space.Private 1 30 ∷ variable (98 ∷ []) ints space.Private 1 45 ∷ variable (99 ∷ []) int space.Private 1 51 ∷ []) (variable (112 ∷ []) ints space.Private 1 67 ∷ [])
    (columns (69 ∷ 71 ∷ 73 ∷ 70 ∷ 76 ∷ 75 ∷ 78 ∷ 77 ∷ []))
    (Block (list (Initialise 0 (three Cond ints 3 (leaf (Param 2) int 0) (leaf (Param 0) ints 1) (leaf (Param 1) ints 2)) ∷ Evaluate (two (Assign None) int 7 (one (Unary un.Deref) int 5 (leaf (Var 0) ints 4)) (leaf (Number 1) int 6)) ∷ [])))

abbrev meets : Functions
meets = unit ([]) (meets_k ∷ [])

meets_offence : pointer_offence types meets_k (entered (points (Argument 0) (mark.Index ∷ []) ∷ points (Argument 1) (mark.Index ∷ []) ∷ [])) ≡ offends 401 1 70
meets_offence = refl

-- ---- `?:` between two places of one argument

-- __kernel void k(__global int*a,__global int*b,int c){__global int*p=c?a+1:a+2;*p=1;}
abbrev stays_k : Routine
stays_k = kernel (107 ∷ []) (variable (97 ∷ []) ints space.Private 1 30 ∷ variable (98 ∷ []) ints space.Private 1 45 ∷ variable (99 ∷ []) int space.Private 1 51 ∷ []) (variable (112 ∷ []) ints space.Private 1 67 ∷ [])
    (columns (69 ∷ 71 ∷ 73 ∷ 72 ∷ 75 ∷ 77 ∷ 76 ∷ 70 ∷ 80 ∷ 79 ∷ 82 ∷ 81 ∷ []))
    (Block (list (Initialise 0 (three Cond ints 7 (leaf (Param 2) int 0) (two (Binary bin.Add) ints 3 (leaf (Param 0) ints 1) (leaf (Number 1) int 2)) (two (Binary bin.Add) ints 6 (leaf (Param 0) ints 4) (leaf (Number 2) int 5))) ∷ Evaluate (two (Assign None) int 11 (one (Unary un.Deref) int 9 (leaf (Var 0) ints 8)) (leaf (Number 1) int 10)) ∷ [])))

abbrev stays : Functions
stays = unit ([]) (stays_k ∷ [])

stays_offence : pointer_offence types stays_k (entered (points (Argument 0) (mark.Index ∷ []) ∷ points (Argument 1) (mark.Index ∷ []) ∷ [])) ≡ None
stays_offence = refl

stays_pointers : wheres types stays_k (entered (points (Argument 0) (mark.Index ∷ []) ∷ points (Argument 1) (mark.Index ∷ []) ∷ [])) ≡ (1, points (Argument 0) (mark.Index ∷ [])) ∷ (3, points (Argument 0) (mark.Index ∷ [])) ∷ (4, points (Argument 0) (mark.Index ∷ [])) ∷ (6, points (Argument 0) (mark.Index ∷ [])) ∷ (7, points (Argument 0) (mark.Index ∷ [])) ∷ (8, points (Argument 0) (mark.Index ∷ [])) ∷ []
stays_pointers = refl

-- ---- a pointer that is used before it is given

-- __kernel void k(__global int*a){__global int*p;*p=1;p=a;}
abbrev early_k : Routine
early_k = kernel (107 ∷ []) (variable (97 ∷ []) ints space.Private 1 30 ∷ []) (variable (112 ∷ []) ints space.Private 1 46 ∷ [])
    (columns (49 ∷ 48 ∷ 51 ∷ 50 ∷ 53 ∷ 55 ∷ 54 ∷ []))
    (Block (list (Declare 0 ∷ Evaluate (two (Assign None) int 3 (one (Unary un.Deref) int 1 (leaf (Var 0) ints 0)) (leaf (Number 1) int 2)) ∷ Evaluate (two (Assign None) ints 6 (leaf (Var 0) ints 4) (leaf (Param 0) ints 5)) ∷ [])))

abbrev early : Functions
early = unit ([]) (early_k ∷ [])

early_offence : pointer_offence types early_k (entered (points (Argument 0) (mark.Index ∷ []) ∷ [])) ≡ offends 403 1 49
early_offence = refl

-- ---- a pointer along a single variable

-- __kernel void k(__global int*a){int x=a[0],n=0;int*e=&x+1;for(int*p=&x;p!=e;p++){int*q=&*p;n+=*q;}a[1]=n;}
abbrev walks_k : Routine
walks_k = kernel (107 ∷ []) (variable (97 ∷ []) ints space.Private 1 30 ∷ []) (variable (120 ∷ []) int space.Private 1 37 ∷ variable (110 ∷ []) int space.Private 1 44 ∷ variable (101 ∷ []) own_ints space.Private 1 52 ∷ variable (112 ∷ []) own_ints space.Private 1 67 ∷ variable (113 ∷ []) own_ints space.Private 1 86 ∷ [])
    (columns (39 ∷ 41 ∷ 40 ∷ 46 ∷ 55 ∷ 54 ∷ 57 ∷ 56 ∷ 70 ∷ 69 ∷ 72 ∷ 75 ∷ 73 ∷ 77 ∷ 78 ∷ 90 ∷ 89 ∷ 88 ∷ 92 ∷ 96 ∷ 95 ∷ 93 ∷ 99 ∷ 101 ∷ 100 ∷ 104 ∷ 103 ∷ []))
    (Block (list (Initialise 0 (two Index int 2 (leaf (Param 0) ints 0) (leaf (Number 0) int 1)) ∷ Initialise 1 (leaf (Number 0) int 3) ∷ Initialise 2 (two (Binary bin.Add) own_ints 7 (one (Unary un.Address) own_ints 5 (leaf (Var 0) int 4)) (leaf (Number 1) int 6)) ∷ For (list (Initialise 3 (one (Unary un.Address) own_ints 9 (leaf (Var 0) int 8)) ∷ [])) None (two (Binary bin.NotEqual) int 12 (leaf (Var 3) own_ints 10) (leaf (Var 2) own_ints 11)) (Some (one (Unary un.PostInc) own_ints 14 (leaf (Var 3) own_ints 13))) (list (Block (list (Initialise 4 (one (Unary un.Address) own_ints 17 (one (Unary un.Deref) int 16 (leaf (Var 3) own_ints 15))) ∷ Evaluate (two (Assign (Some bin.Add)) int 21 (leaf (Var 1) int 18) (one (Unary un.Deref) int 20 (leaf (Var 4) own_ints 19))) ∷ [])) ∷ [])) ∷ Evaluate (two (Assign None) int 26 (two Index int 24 (leaf (Param 0) ints 22) (leaf (Number 1) int 23)) (leaf (Var 1) int 25)) ∷ [])))

abbrev walks : Functions
walks = unit ([]) (walks_k ∷ [])

walks_offence : pointer_offence types walks_k (entered (points (Argument 0) (mark.Index ∷ []) ∷ [])) ≡ None
walks_offence = refl

walks_pointers : wheres types walks_k (entered (points (Argument 0) (mark.Index ∷ []) ∷ [])) ≡ (0, points (Argument 0) (mark.Index ∷ [])) ∷ (5, points (Private 1) (mark.Single ∷ [])) ∷ (7, points (Private 1) (mark.Single ∷ [])) ∷ (9, points (Private 1) (mark.Single ∷ [])) ∷ (10, points (Private 1) (mark.Single ∷ [])) ∷ (11, points (Private 1) (mark.Single ∷ [])) ∷ (13, points (Private 1) (mark.Single ∷ [])) ∷ (14, points (Private 1) (mark.Single ∷ [])) ∷ (15, points (Private 1) (mark.Single ∷ [])) ∷ (17, points (Private 1) (mark.Single ∷ [])) ∷ (19, points (Private 1) (mark.Single ∷ [])) ∷ (22, points (Argument 0) (mark.Index ∷ [])) ∷ []
walks_pointers = refl

-- ---- a function that calls itself

-- void f(int x){f(x);}__kernel void k(__global int*a){f(1);}
abbrev returns_f : Routine
returns_f = function (102 ∷ []) (variable (120 ∷ []) int space.Private 1 12 ∷ []) ([])
    (columns (17 ∷ 15 ∷ []))
    (Block (list (Evaluate (one (Call 0) void 1 (leaf (Param 0) int 0)) ∷ [])))

abbrev returns_k : Routine
returns_k = kernel (107 ∷ []) (variable (97 ∷ []) ints space.Private 1 50 ∷ []) ([])
    (columns (55 ∷ 53 ∷ []))
    (Block (list (Evaluate (one (Call 0) void 1 (leaf (Number 1) int 0)) ∷ [])))

abbrev returns : Functions
returns = unit ([]) (returns_f ∷ returns_k ∷ [])

returns_returns : recursion returns ≡ offends 405 1 15
returns_returns = refl
