-- Units and their copies, to see that the definitions mean what they say. Trees are written as typing makes them.
use Rattle.std.proofs.Common.{◌≡◌, ℕ, Bool, true, false, List, [], ◌∷◌, Option, Some, None, refl}
use Rattle.clv_place.specs.declared.place.Place.{Place}
use Rattle.clv_place.specs.declared.stop.Offence.{Offence}
use Rattle.cl_types.specs.declared.types.ClType.{ClType}
use Rattle.cl_types.specs.declared.types.ClType.TheVariants as ty
use Rattle.cl_types.specs.declared.types.TypeId.{TypeId}
use Rattle.cl_types.specs.declared.space.Space.{Space}
use Rattle.cl_types.specs.declared.space.Space.TheVariants as space
use Rattle.cl_types.specs.declared.operator.UnOp.TheVariants as un
use Rattle.cl_types.specs.declared.operator.BinOp.TheVariants as bin
use Rattle.cl_tree.specs.declared.unit.ConstantVar.{ConstantVar}
use Rattle.cl_tree.specs.declared.unit.Variable.{Variable}
use Rattle.cl_meaning.specs.declared.code.Node.{Node}
use Rattle.cl_meaning.specs.declared.code.Node.TheVariants.{Param, Var, Number, Unary, Binary, Assign, Call, Index}
use Rattle.cl_meaning.specs.Code.{Expr, Tree, NoExpr, AndExpr, Stmt, Stmts, Block, Declare, Initialise, Evaluate, Return, NoStmt, AndStmt}
use Rattle.cl_provenance.specs.Routines.{Routine, Unit as Functions}
use Rattle.obj_tree.specs.declared.object.Mark.{Mark}
use Rattle.obj_tree.specs.declared.object.Mark.TheVariants as mark
use Rattle.obj_tree.specs.declared.object.Root.{Root}
use Rattle.obj_tree.specs.declared.object.Root.TheVariants.{Argument, Private}
use Rattle.obj_tree.specs.declared.object.Where.{Where}
use Rattle.cl_specialise.specs.Copies.{CopyName, Calling, calls, copies}
use Rattle.cl_specialise.specs.Limits.{copies_over}

-- ---- words

-- the types by their numbers in the table
abbrev t : ℕ → TypeId
t n = record { 0 = n }

abbrev void : TypeId
void = t 0

abbrev int : TypeId
int = t 1

abbrev ints : TypeId
ints = t 3

abbrev own_ints : TypeId
own_ints = t 4

abbrev uchar : TypeId
uchar = t 7

abbrev ulong : TypeId
ulong = t 10

abbrev types : List ClType
types = ty.Void ∷ ty.Int 32 true ∷ ty.Int 32 false ∷ ty.Pointer space.Global int false false ∷ ty.Pointer space.Private int false false ∷ ty.Pointer space.Local int false false ∷ ty.Pointer space.Constant int false false ∷ ty.Int 8 false ∷ ty.Array uchar 3 ∷ ty.Vector uchar 3 ∷ ty.Int 64 false ∷ ty.Pointer space.Global ulong false false ∷ ty.Vector ulong 4 ∷ []

-- a node of this type and number, with its operands
abbrev leaf : Node → TypeId → ℕ → Expr
leaf node ty n = Tree node ty n NoExpr

abbrev one : Node → TypeId → ℕ → Expr → Expr
one node ty n a = Tree node ty n (AndExpr a NoExpr)

abbrev two : Node → TypeId → ℕ → Expr → Expr → Expr
two node ty n a b = Tree node ty n (AndExpr a (AndExpr b NoExpr))

abbrev three : Node → TypeId → ℕ → Expr → Expr → Expr → Expr
three node ty n a b c = Tree node ty n (AndExpr a (AndExpr b (AndExpr c NoExpr)))

abbrev list : List Stmt → Stmts
list [] = NoStmt
list (s ∷ ss) = AndStmt s (list ss)

abbrev at : ℕ → ℕ → Place
at line col = record { line = line; col = col }

abbrev variable : List ℕ → TypeId → Space → ℕ → ℕ → Variable
variable name ty space line col = record { name = name; ty = ty; space = space; place = at line col }

-- the places of nodes on the first line
abbrev columns : List ℕ → List Place
columns [] = []
columns (c ∷ cs) = at 1 c ∷ columns cs

-- what is void, with its nodes' places; the samples count no nodes
abbrev routine : Bool → List ℕ → List Variable → List Variable → List Place → Stmt → Routine
routine kernel name params vars places body = record {
  name = name;
  place = at 1 1;
  kernel = kernel;
  required = None;
  params = params;
  vars = vars;
  result = void;
  body = body;
  places = places;
  trees = [];
}

abbrev kernel : List ℕ → List Variable → List Variable → List Place → Stmt → Routine
kernel = routine true

abbrev function : List ℕ → List Variable → List Variable → List Place → Stmt → Routine
function = routine false

abbrev unit : List ConstantVar → List Routine → Functions
unit constants functions = record { types = types; constants = constants; functions = functions }

abbrev offends : ℕ → ℕ → ℕ → Option Offence
offends code line col = Some (record { code = code; place = at line col })

-- objects and steps
abbrev points : Root → List Mark → Where
points root shape = record { root = root; shape = shape }

abbrev copy : ℕ → ℕ → List Where → List TypeId → CopyName
copy kernel function pointers privates = record { kernel = kernel; function = function; pointers = pointers; privates = privates }

abbrev call : ℕ → CopyName → Calling
call node copy = record { node = node; copy = copy }

-- ---- a function by two arguments

-- void put(__global int*p,int i){p[i]=i;}__kernel void k(__global int*a,__global int*b){put(a,1);put(b,2);put(b+2,1);}
abbrev puts_put : Routine
puts_put = function (112 ∷ 117 ∷ 116 ∷ []) (variable (112 ∷ []) ints space.Private 1 23 ∷ variable (105 ∷ []) int space.Private 1 29 ∷ []) ([])
    (columns (32 ∷ 34 ∷ 33 ∷ 37 ∷ 36 ∷ []))
    (Block (list (Evaluate (two (Assign None) int 4 (two Index int 2 (leaf (Param 0) ints 0) (leaf (Param 1) int 1)) (leaf (Param 1) int 3)) ∷ [])))

abbrev puts_k : Routine
puts_k = kernel (107 ∷ []) (variable (97 ∷ []) ints space.Private 1 69 ∷ variable (98 ∷ []) ints space.Private 1 84 ∷ []) ([])
    (columns (91 ∷ 93 ∷ 87 ∷ 100 ∷ 102 ∷ 96 ∷ 109 ∷ 111 ∷ 110 ∷ 113 ∷ 105 ∷ []))
    (Block (list (Evaluate (two (Call 0) void 2 (leaf (Param 0) ints 0) (leaf (Number 1) int 1)) ∷ Evaluate (two (Call 0) void 5 (leaf (Param 1) ints 3) (leaf (Number 2) int 4)) ∷ Evaluate (two (Call 0) void 10 (two (Binary bin.Add) ints 8 (leaf (Param 1) ints 6) (leaf (Number 2) int 7)) (leaf (Number 1) int 9)) ∷ [])))

abbrev puts : Functions
puts = unit ([]) (puts_put ∷ puts_k ∷ [])

abbrev puts0 : CopyName
puts0 = copy 1 1 (points (Argument 0) (mark.Index ∷ []) ∷ points (Argument 1) (mark.Index ∷ []) ∷ []) ([])

abbrev puts1 : CopyName
puts1 = copy 1 0 (points (Argument 0) (mark.Index ∷ []) ∷ []) ([])

abbrev puts2 : CopyName
puts2 = copy 1 0 (points (Argument 1) (mark.Index ∷ []) ∷ []) ([])

puts_copies : copies puts ≡ puts0 ∷ puts1 ∷ puts2 ∷ []
puts_copies = refl

puts0_calls : calls puts puts0 ≡ call 2 puts1 ∷ call 5 puts2 ∷ call 10 puts2 ∷ []
puts0_calls = refl

puts_within : copies_over puts 3 ≡ None
puts_within = refl

-- of one less the last is one too many
puts_over : copies_over puts 2 ≡ offends 503 1 96
puts_over = refl

-- ---- a function by two private variables, and by one

-- void sw(int*x,int*y){int t=*x;*x=*y;*y=t;}__kernel void k(__global int*a){int p=a[0],q=a[1];sw(&p,&q);a[0]=p;a[1]=q;sw(&p,&p);a[2]=p;}
abbrev swaps_sw : Routine
swaps_sw = function (115 ∷ 119 ∷ []) (variable (120 ∷ []) own_ints space.Private 1 13 ∷ variable (121 ∷ []) own_ints space.Private 1 19 ∷ []) (variable (116 ∷ []) int space.Private 1 26 ∷ [])
    (columns (29 ∷ 28 ∷ 32 ∷ 31 ∷ 35 ∷ 34 ∷ 33 ∷ 38 ∷ 37 ∷ 40 ∷ 39 ∷ []))
    (Block (list (Initialise 0 (one (Unary un.Deref) int 1 (leaf (Param 0) own_ints 0)) ∷ Evaluate (two (Assign None) int 6 (one (Unary un.Deref) int 3 (leaf (Param 0) own_ints 2)) (one (Unary un.Deref) int 5 (leaf (Param 1) own_ints 4))) ∷ Evaluate (two (Assign None) int 10 (one (Unary un.Deref) int 8 (leaf (Param 1) own_ints 7)) (leaf (Var 0) int 9)) ∷ [])))

abbrev swaps_k : Routine
swaps_k = kernel (107 ∷ []) (variable (97 ∷ []) ints space.Private 1 72 ∷ []) (variable (112 ∷ []) int space.Private 1 79 ∷ variable (113 ∷ []) int space.Private 1 86 ∷ [])
    (columns (81 ∷ 83 ∷ 82 ∷ 88 ∷ 90 ∷ 89 ∷ 97 ∷ 96 ∷ 100 ∷ 99 ∷ 93 ∷ 103 ∷ 105 ∷ 104 ∷ 108 ∷ 107 ∷ 110 ∷ 112 ∷ 111 ∷ 115 ∷ 114 ∷ 121 ∷ 120 ∷ 124 ∷ 123 ∷ 117 ∷ 127 ∷ 129 ∷ 128 ∷ 132 ∷ 131 ∷ []))
    (Block (list (Initialise 0 (two Index int 2 (leaf (Param 0) ints 0) (leaf (Number 0) int 1)) ∷ Initialise 1 (two Index int 5 (leaf (Param 0) ints 3) (leaf (Number 1) int 4)) ∷ Evaluate (two (Call 0) void 10 (one (Unary un.Address) own_ints 7 (leaf (Var 0) int 6)) (one (Unary un.Address) own_ints 9 (leaf (Var 1) int 8))) ∷ Evaluate (two (Assign None) int 15 (two Index int 13 (leaf (Param 0) ints 11) (leaf (Number 0) int 12)) (leaf (Var 0) int 14)) ∷ Evaluate (two (Assign None) int 20 (two Index int 18 (leaf (Param 0) ints 16) (leaf (Number 1) int 17)) (leaf (Var 1) int 19)) ∷ Evaluate (two (Call 0) void 25 (one (Unary un.Address) own_ints 22 (leaf (Var 0) int 21)) (one (Unary un.Address) own_ints 24 (leaf (Var 0) int 23))) ∷ Evaluate (two (Assign None) int 30 (two Index int 28 (leaf (Param 0) ints 26) (leaf (Number 2) int 27)) (leaf (Var 0) int 29)) ∷ [])))

abbrev swaps : Functions
swaps = unit ([]) (swaps_sw ∷ swaps_k ∷ [])

abbrev swaps0 : CopyName
swaps0 = copy 1 1 (points (Argument 0) (mark.Index ∷ []) ∷ []) ([])

abbrev swaps1 : CopyName
swaps1 = copy 1 0 (points (Private 0) (mark.Single ∷ []) ∷ points (Private 1) (mark.Single ∷ []) ∷ []) (int ∷ int ∷ [])

abbrev swaps2 : CopyName
swaps2 = copy 1 0 (points (Private 0) (mark.Single ∷ []) ∷ points (Private 0) (mark.Single ∷ []) ∷ []) (int ∷ [])

swaps_copies : copies swaps ≡ swaps0 ∷ swaps1 ∷ swaps2 ∷ []
swaps_copies = refl

swaps0_calls : calls swaps swaps0 ≡ call 10 swaps1 ∷ call 25 swaps2 ∷ []
swaps0_calls = refl

swaps_within : copies_over swaps 3 ≡ None
swaps_within = refl

-- of one less the last is one too many
swaps_over : copies_over swaps 2 ≡ offends 503 1 117
swaps_over = refl

-- ---- callees stand behind what was called before them; what is passed over calls nothing

-- void h(int*p){}void g(int*p,int*q){h(q);h(p);}__kernel void k(__global int*a){int x,y;g(&x,&y);h(&y);g(&y,&x);return;g(&x,&x);}
abbrev orders_h : Routine
orders_h = function (104 ∷ []) (variable (112 ∷ []) own_ints space.Private 1 12 ∷ []) ([])
    (columns [])
    (Block (list ([])))

abbrev orders_g : Routine
orders_g = function (103 ∷ []) (variable (112 ∷ []) own_ints space.Private 1 27 ∷ variable (113 ∷ []) own_ints space.Private 1 33 ∷ []) ([])
    (columns (38 ∷ 36 ∷ 43 ∷ 41 ∷ []))
    (Block (list (Evaluate (one (Call 0) void 1 (leaf (Param 1) own_ints 0)) ∷ Evaluate (one (Call 0) void 3 (leaf (Param 0) own_ints 2)) ∷ [])))

abbrev orders_k : Routine
orders_k = kernel (107 ∷ []) (variable (97 ∷ []) ints space.Private 1 76 ∷ []) (variable (120 ∷ []) int space.Private 1 83 ∷ variable (121 ∷ []) int space.Private 1 85 ∷ [])
    (columns (90 ∷ 89 ∷ 93 ∷ 92 ∷ 87 ∷ 99 ∷ 98 ∷ 96 ∷ 105 ∷ 104 ∷ 108 ∷ 107 ∷ 102 ∷ 121 ∷ 120 ∷ 124 ∷ 123 ∷ 118 ∷ []))
    (Block (list (Declare 0 ∷ Declare 1 ∷ Evaluate (two (Call 1) void 4 (one (Unary un.Address) own_ints 1 (leaf (Var 0) int 0)) (one (Unary un.Address) own_ints 3 (leaf (Var 1) int 2))) ∷ Evaluate (one (Call 0) void 7 (one (Unary un.Address) own_ints 6 (leaf (Var 1) int 5))) ∷ Evaluate (two (Call 1) void 12 (one (Unary un.Address) own_ints 9 (leaf (Var 1) int 8)) (one (Unary un.Address) own_ints 11 (leaf (Var 0) int 10))) ∷ Return None ∷ Evaluate (two (Call 1) void 17 (one (Unary un.Address) own_ints 14 (leaf (Var 0) int 13)) (one (Unary un.Address) own_ints 16 (leaf (Var 0) int 15))) ∷ [])))

abbrev orders : Functions
orders = unit ([]) (orders_h ∷ orders_g ∷ orders_k ∷ [])

abbrev orders0 : CopyName
orders0 = copy 2 2 (points (Argument 0) (mark.Index ∷ []) ∷ []) ([])

abbrev orders1 : CopyName
orders1 = copy 2 1 (points (Private 0) (mark.Single ∷ []) ∷ points (Private 1) (mark.Single ∷ []) ∷ []) (int ∷ int ∷ [])

abbrev orders2 : CopyName
orders2 = copy 2 0 (points (Private 0) (mark.Single ∷ []) ∷ []) (int ∷ [])

orders_copies : copies orders ≡ orders0 ∷ orders1 ∷ orders2 ∷ []
orders_copies = refl

orders0_calls : calls orders orders0 ≡ call 4 orders1 ∷ call 7 orders2 ∷ call 12 orders1 ∷ []
orders0_calls = refl

orders1_calls : calls orders orders1 ≡ call 1 orders2 ∷ call 3 orders2 ∷ []
orders1_calls = refl

orders_within : copies_over orders 3 ≡ None
orders_within = refl

-- of one less the last is one too many
orders_over : copies_over orders 2 ≡ offends 503 1 96
orders_over = refl
