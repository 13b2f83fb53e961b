-- Small kernels as object programs, and what their item 2 does, to see that the definitions mean what they say.
use Rattle.std.proofs.Common.{◌≡◌, ℕ, ◌+◌, ◌*◌, true, false, List, [], ◌∷◌, Option, Some, None, refl}
use Rattle.cl_types.specs.declared.types.ClType.{ClType}
use Rattle.cl_types.specs.declared.types.ClType.TheVariants as ty
use Rattle.cl_types.specs.declared.types.TypeId.{TypeId}
use Rattle.cl_types.specs.declared.space.Space.TheVariants as space
use Rattle.cl_types.specs.declared.operator.UnOp.TheVariants as un
use Rattle.cl_types.specs.declared.operator.BinOp.TheVariants as bin
use Rattle.cl_types.specs.declared.builtin.Builtin.TheVariants as builtin
use Rattle.launch_text.specs.declared.launch.ArgSize.TheVariants as argument
use Rattle.cl_tree.specs.declared.event.NodeId.{NodeId}
use Rattle.cl_tree.specs.declared.event.Event.{Event}
use Rattle.cl_tree.specs.declared.event.Event.TheVariants as event
use Rattle.cl_tree.specs.declared.event.Outcome.{Outcome}
use Rattle.cl_tree.specs.declared.event.Outcome.TheVariants.{Done, Asks, Undefined, Running}
use Rattle.cl_tree.specs.declared.event.Shared.TheVariants as shared
use Rattle.obj_tree.specs.declared.object.Root.TheVariants as root
use Rattle.obj_tree.specs.Code.{Node, Read, Assign, Number, Convert, Unary, Binary, Cond, Call, Builtin, Expr, Tree, NoExpr, AndExpr, Place, NoPlace, At, Steps, NoStep, AndMember, AndIndex, AndSingle, AndComponents, Default, Case, Stmt, Stmts, Block, Declare, Initialise, Evaluate, If, Do, Switch, Break, Continue, Return, NoStmt, AndStmt, NoSection, AndSection, Code}
use Rattle.obj_tree.specs.States.{Surroundings}
use Rattle.obj_tree.specs.Items.{object_item, cost}
use Rattle.obj_tree.specs.ItemRuns.{ObjectRun, run_within}
use Rattle.obj_tree.specs.Launches.{first_item}
use Rattle.obj_tree.specs.Expressions.{node_costs}
use Rattle.obj_tree.specs.Rooms.{copy_costs, room_of}
use Rattle.clv_steps.specs.Machines.{paid}

-- ---- words

-- the types by their numbers in the table
abbrev t : ℕ → TypeId
t n = record { 0 = n }

abbrev void : TypeId
void = t 0

abbrev int : TypeId
int = t 1

abbrev uint : TypeId
uint = t 2

-- a pointer into global memory
abbrev ints : TypeId
ints = t 3

abbrev two_ints : TypeId
two_ints = t 4

abbrev char : TypeId
char = t 5

-- struct S{char c;int x;}
abbrev struct_S : TypeId
struct_S = t 6

abbrev int2 : TypeId
int2 = t 7

-- int[2][2]
abbrev four_ints : TypeId
four_ints = t 8

abbrev int8 : TypeId
int8 = t 9

abbrev types : List ClType
types =
    ty.Void ∷ ty.Int 32 true ∷ ty.Int 32 false ∷ ty.Pointer space.Global int false false ∷ ty.Array int 2 ∷ ty.Int 8 true
    ∷ ty.Struct (83 ∷ []) (record { name = 99 ∷ []; ty = char } ∷ record { name = 120 ∷ []; ty = int } ∷ []) ∷ ty.Vector int 2 ∷ ty.Array two_ints 2 ∷ ty.Vector int 8 ∷ []

abbrev one : Node → TypeId → Expr → Expr
one node ty a = Tree node ty NoPlace (AndExpr a NoExpr)

abbrev two : Node → TypeId → Expr → Expr → Expr
two node ty a b = Tree node ty NoPlace (AndExpr a (AndExpr b NoExpr))

abbrev num : ℕ → Expr
num n = Tree (Number n) int NoPlace NoExpr

abbrev read : TypeId → Place → Expr
read ty at = Tree Read ty at NoExpr

abbrev set : TypeId → Place → Expr → Stmt
set ty at e = Evaluate (Tree (Assign None) ty at (AndExpr e NoExpr))

-- an element of the buffer; a private object as a whole
abbrev buffer : Expr → Place
buffer i = At (root.Argument 0) (AndIndex i NoStep)

abbrev own : ℕ → Steps → Place
own k steps = At (root.Private k) steps

abbrev var : ℕ → Place
var k = own k NoStep

abbrev list : List Stmt → Stmts
list [] = NoStmt
list (s ∷ ss) = AndStmt s (list ss)

abbrev at_node : ℕ → ℕ → NodeId
at_node f n = record { function = f; node = n }

-- the kernel's own copy: its parameter is a pointer, with an index, of number 0
abbrev kernel : List TypeId → List Stmt → Code
kernel vars ss = record { privates = []; plain = []; indices = 1; vars = vars; result = void; body = Block (list ss) }

-- item 2 of 4 in groups of 2; the argument is a buffer of 8 ints
abbrev seen : List Code → Surroundings
seen copies = record {
  types = types;
  constants = [];
  copies = copies;
  params = ints ∷ [];
  locals = [];
  launch = record { kernel = []; dims = 1; global = 4 ∷ 1 ∷ 1 ∷ []; local = 2 ∷ 1 ∷ 1 ∷ []; args = argument.Buffer 0 32 ∷ [] };
  item = 2;
}

-- the run of the first copy, which is the kernel's own, by answers and fuel
abbrev run_of : List Code → List ℕ → ℕ → Option ObjectRun
run_of copies answers fuel = run_within (seen copies) 1000 (first_item (seen copies) 0) answers fuel

abbrev ran : List Event → Outcome → ℕ → Option ObjectRun
ran events outcome steps = Some (record { events = events; outcome = outcome; steps = steps })

-- an int of the buffer
abbrev reads : ℕ → Event
reads at = event.Read (record { object = shared.Buffer 0; offset = at; bits = 32 })

abbrev writes : ℕ → ℕ → Event
writes at n = event.Write (record { object = shared.Buffer 0; offset = at; bits = 32 }) n

-- what the steps of a history cost
abbrev costs_of : List Code → List ℕ → ℕ
costs_of copies history = paid (object_item (seen copies)) cost history (first_item (seen copies) 0)

-- ---- a sum, stored at the item's own place

-- __kernel void k(__global uint*a){a[get_global_id(0)]=get_global_id(0)+7;}
abbrev own_id : Expr
own_id = one (Builtin builtin.GetGlobalId None) uint (one Convert uint (num 0))

abbrev stores : Code
stores = kernel [] (set uint (buffer own_id) (two (Binary bin.Add) uint own_id (one Convert uint (num 7))) ∷ [])

-- item 2 writes 9 at byte 8: a step less than the source, which names both the pointer and the place
stores_ends : run_of (stores ∷ []) (0 ∷ []) 1000 ≡ ran (writes 8 9 ∷ []) Done 17
stores_ends = refl

-- its step is made when the write is asked
stores_waits : run_of (stores ∷ []) [] 1000 ≡ ran [] (Asks (writes 8 9)) 17
stores_waits = refl

stores_runs : run_of (stores ∷ []) [] 16 ≡ ran [] Running 16
stores_runs = refl

-- the costs of its nodes: of the place, the sum, and the assignment with its index list
stores_cost : copy_costs types stores ≡ (12 + 160 + 320) + ((12 + 160 + 320) + (12 + 160) + 32) + (160 + 32)
stores_cost = refl

stores_room : room_of types stores ≡ 32 + copy_costs types stores + 2
stores_room = refl

-- ---- an array in an array

-- __kernel void k(__global int*a){int x[2][2];x[1][0]=5;a[1]=x[1][0];}
abbrev nested : Code
nested = kernel (four_ints ∷ []) (Declare (0 ∷ []) ∷ set int (own 1 (AndIndex (num 1) (AndIndex (num 0) NoStep))) (num 5) ∷ set int (buffer (num 1)) (read int (own 1 (AndIndex (num 1) (AndIndex (num 0) NoStep)))) ∷ [])

nested_ends : run_of (nested ∷ []) (0 ∷ []) 1000 ≡ ran (writes 4 5 ∷ []) Done 18
nested_ends = refl

-- ---- a struct is copied scalar by scalar

-- struct S{char c;int x;};__kernel void k(__global int*a){struct S s;s.c=1;s.x=a[0];struct S t;t=s;a[1]=t.x+t.c;}
abbrev copies : Code
copies = kernel (struct_S ∷ struct_S ∷ []) (
    Declare (0 ∷ [])
    ∷ set char (own 1 (AndMember 0 NoStep)) (one Convert char (num 1))
    ∷ set int (own 1 (AndMember 1 NoStep)) (read int (buffer (num 0)))
    ∷ Declare (1 ∷ [])
    ∷ set struct_S (var 2) (read struct_S (var 1))
    ∷ set int (buffer (num 1)) (two (Binary bin.Add) int (read int (own 2 (AndMember 1 NoStep))) (one Convert int (read char (own 2 (AndMember 0 NoStep)))))
    ∷ [])

copies_ends : run_of (copies ∷ []) (5 ∷ 0 ∷ []) 1000 ≡ ran (reads 0 ∷ writes 4 6 ∷ []) Done 27
copies_ends = refl

-- ---- an index that isn't below its length

-- __kernel void k(__global int*a){int x[2];x[2]=1;}
abbrev misses : Code
misses = kernel (two_ints ∷ []) (Declare (0 ∷ []) ∷ set int (own 1 (AndIndex (num 2) NoStep)) (num 1) ∷ [])

-- at the write, once its value is evaluated
misses_fails : run_of (misses ∷ []) [] 1000 ≡ ran [] Undefined 8
misses_fails = refl

-- a negative index is read as unsigned
misses_back : run_of (kernel (two_ints ∷ []) (Declare (0 ∷ []) ∷ set int (own 1 (AndIndex (one (Unary un.Minus) int (num 1)) NoStep)) (num 1) ∷ []) ∷ []) [] 1000 ≡ ran [] Undefined 9
misses_back = refl

-- the buffer has 8 ints
misses_buffer : run_of (kernel [] (set int (buffer (num 8)) (num 1) ∷ []) ∷ []) [] 1000 ≡ ran [] Undefined 7
misses_buffer = refl

-- ---- a read of what was never set

-- __kernel void k(__global int*a){int x;a[0]=x;}
unset_fails : run_of (kernel (int ∷ []) (Declare (0 ∷ []) ∷ set int (buffer (num 0)) (read int (var 1)) ∷ []) ∷ []) [] 1000 ≡ ran [] Undefined 7
unset_fails = refl

-- ---- a call

-- void f(int*p,int n,__global int*g){*p+=n;g[n]=*p;}__kernel void k(__global int*a){int x=1;f(&x,2,a+1);a[0]=x;}
-- In f the passed object is 0, n is 1, and the indices of p and g are 2 and 3.
abbrev calls_f : Code
calls_f = record {
  privates = int ∷ [];
  plain = int ∷ [];
  indices = 2;
  vars = [];
  result = void;
  body = Block (list (
      Evaluate (Tree (Assign (Some bin.Add)) int (own 0 (AndSingle (read int (var 2)) NoStep)) (AndExpr (read int (var 1)) NoExpr))
      ∷ set int (At (root.Argument 0) (AndIndex (two (Binary bin.Add) int (read int (var 3)) (read int (var 1))) NoStep)) (read int (own 0 (AndSingle (read int (var 2)) NoStep)))
      ∷ []));
}

abbrev calls_k : Code
calls_k = kernel (int ∷ []) (
    Initialise (0 ∷ []) (num 1)
    ∷ Evaluate (Tree (Call 1 1 (1 ∷ []) (at_node 1 6)) void NoPlace (AndExpr (num 2) (AndExpr (num 0) (AndExpr (two (Binary bin.Add) int (read int (var 0)) (num 1)) NoExpr))))
    ∷ set int (buffer (num 0)) (read int (var 1))
    ∷ [])

calls_ends : run_of (calls_k ∷ calls_f ∷ []) (0 ∷ 0 ∷ []) 1000 ≡ ran (writes 12 3 ∷ writes 0 3 ∷ []) Done 36
calls_ends = refl

-- ---- a pointer variable is its index

-- __kernel void k(__global int*a){int x[2];x[1]=5;int*p;p=&x[1];a[0]=*p;}
abbrev points : Code
points = kernel (two_ints ∷ uint ∷ []) (
    Declare (0 ∷ [])
    ∷ set int (own 1 (AndIndex (num 1) NoStep)) (num 5)
    ∷ Declare (1 ∷ [])
    ∷ set uint (var 2) (one Convert uint (num 1))
    ∷ set int (buffer (num 0)) (read int (own 1 (AndIndex (read uint (var 2)) NoStep)))
    ∷ [])

points_ends : run_of (points ∷ []) (0 ∷ []) 1000 ≡ ran (writes 0 5 ∷ []) Done 21
points_ends = refl

-- ---- `do`, `continue` and `break`, and a call

-- int f(int n){int s=0;do{n--;if(n==3)continue;if(n<1)break;s+=n;}while(n>0);return s;}__kernel void k(__global int*a){a[0]=f(6);}
abbrev loops_f : Code
loops_f = record {
  privates = [];
  plain = int ∷ [];
  indices = 0;
  vars = int ∷ [];
  result = int;
  body = Block (list (
      Initialise (0 ∷ []) (num 0)
      ∷ Do (list (Block (list (
      Evaluate (Tree (Unary un.PostDec) int (var 0) NoExpr)
      ∷ If (two (Binary bin.Equal) int (read int (var 0)) (num 3)) (list (Continue ∷ [])) NoStmt
      ∷ If (two (Binary bin.Less) int (read int (var 0)) (num 1)) (list (Break ∷ [])) NoStmt
      ∷ Evaluate (Tree (Assign (Some bin.Add)) int (var 1) (AndExpr (read int (var 0)) NoExpr))
      ∷ [])) ∷ [])) (two (Binary bin.Greater) int (read int (var 0)) (num 0))
      ∷ Return (Some (read int (var 1)))
      ∷ []));
}

abbrev loops_k : Code
loops_k = kernel [] (set int (buffer (num 0)) (Tree (Call 1 1 [] (at_node 1 4)) int NoPlace (AndExpr (num 6) NoExpr)) ∷ [])

-- 5 + 4 + 2 + 1
loops_ends : run_of (loops_k ∷ loops_f ∷ []) (0 ∷ []) 1000 ≡ ran (writes 0 12 ∷ []) Done 109
loops_ends = refl

-- ---- `switch`, where sections fall through, and `default`

-- __kernel void k(__global int*a){int r=0;switch(a[0]){case 1:r+=1;case 2:r+=10;break;case 3:r+=100;break;default:r=1000;}a[1]=r;}
abbrev adds_to : ℕ → ℕ → Stmt
adds_to k n = Evaluate (Tree (Assign (Some bin.Add)) int (var k) (AndExpr (num n) NoExpr))

abbrev selects : Code
selects = kernel (int ∷ []) (
    Initialise (0 ∷ []) (num 0)
    ∷ Switch (read int (buffer (num 0)))
    (AndSection (Case (Some 1) ∷ []) (list (adds_to 1 1 ∷ []))
    (AndSection (Case (Some 2) ∷ []) (list (adds_to 1 10 ∷ Break ∷ []))
    (AndSection (Case (Some 3) ∷ []) (list (adds_to 1 100 ∷ Break ∷ []))
    (AndSection (Default ∷ []) (list (set int (var 1) (num 1000) ∷ [])) NoSection))))
    ∷ set int (buffer (num 1)) (read int (var 1))
    ∷ [])

selects_falls : run_of (selects ∷ []) (1 ∷ 0 ∷ []) 1000 ≡ ran (reads 0 ∷ writes 4 11 ∷ []) Done 21
selects_falls = refl

selects_breaks : run_of (selects ∷ []) (2 ∷ 0 ∷ []) 1000 ≡ ran (reads 0 ∷ writes 4 10 ∷ []) Done 18
selects_breaks = refl

selects_default : run_of (selects ∷ []) (7 ∷ 0 ∷ []) 1000 ≡ ran (reads 0 ∷ writes 4 1000 ∷ []) Done 17
selects_default = refl

-- ---- a missing result is dropped, and used

-- int f(int x){if(x)return 1;}__kernel void k(__global int*a){f(0);a[0]=f(2);}
abbrev drops_f : Code
drops_f = record { privates = []; plain = int ∷ []; indices = 0; vars = []; result = int; body = Block (list (If (read int (var 0)) (list (Return (Some (num 1)) ∷ [])) NoStmt ∷ [])) }

abbrev drops_call : ℕ → ℕ → Expr
drops_call node n = Tree (Call 1 1 [] (at_node 1 node)) int NoPlace (AndExpr (num n) NoExpr)

drops_ends : run_of (kernel [] (Evaluate (drops_call 1 0) ∷ set int (buffer (num 0)) (drops_call 6 2) ∷ []) ∷ drops_f ∷ []) (0 ∷ []) 1000 ≡ ran (writes 0 1 ∷ []) Done 25
drops_ends = refl

uses_fails : run_of (kernel [] (set int (buffer (num 0)) (drops_call 4 0) ∷ []) ∷ drops_f ∷ []) (0 ∷ []) 1000 ≡ ran [] Undefined 13
uses_fails = refl

-- ---- a barrier is told from others by the calls that lead there

-- void w(void){barrier(1);}__kernel void k(__global int*a){w();w();}
abbrev meets_w : Code
meets_w = record {
  privates = [];
  plain = [];
  indices = 0;
  vars = [];
  result = void;
  body = Block (list (
      Evaluate (one (Builtin builtin.Barrier (Some (at_node 0 2))) void (one Convert uint (num 1)))
      ∷ []));
}

abbrev meets_k : Code
meets_k = kernel [] (Evaluate (Tree (Call 1 0 [] (at_node 1 0)) void NoPlace NoExpr) ∷ Evaluate (Tree (Call 1 0 [] (at_node 1 1)) void NoPlace NoExpr) ∷ [])

abbrev meets_at : ℕ → Event
meets_at n = event.Barrier (at_node 1 n ∷ at_node 0 2 ∷ [])

meets_first : run_of (meets_k ∷ meets_w ∷ []) [] 1000 ≡ ran [] (Asks (meets_at 0)) 10
meets_first = refl

meets_second : run_of (meets_k ∷ meets_w ∷ []) (0 ∷ []) 1000 ≡ ran (meets_at 0 ∷ []) (Asks (meets_at 1)) 18
meets_second = refl

-- ---- a quotient by zero is unspecified

-- __kernel void k(__global int*a){a[0]=a[1]/a[2];}
abbrev divides : Code
divides = kernel [] (set int (buffer (num 0)) (two (Binary bin.Div) int (read int (buffer (num 1))) (read int (buffer (num 2)))) ∷ [])

divides_picks : run_of (divides ∷ []) (5 ∷ 0 ∷ []) 1000 ≡ ran (reads 4 ∷ reads 8 ∷ []) (Asks (event.Free 32)) 13
divides_picks = refl

-- it is 77
divides_zero : run_of (divides ∷ []) (5 ∷ 0 ∷ 77 ∷ 0 ∷ []) 1000 ≡ ran (reads 4 ∷ reads 8 ∷ event.Free 32 ∷ writes 0 77 ∷ []) Done 14
divides_zero = refl

-- ---- vloadN, vstoreN and an atomic

-- __kernel void k(__global int*a){int2 v=vload2(1,a);vstore2(v,2,a);a[0]=atomic_add(a,v.y);}
abbrev vectors : Code
vectors = kernel (int2 ∷ []) (
    Initialise (0 ∷ []) (Tree (Builtin (builtin.Vload 2) None) int2 (buffer (two (Binary bin.Mul) int (num 1) (num 2))) NoExpr)
    ∷ Evaluate (Tree (Builtin (builtin.Vstore 2) None) void (buffer (two (Binary bin.Mul) int (num 2) (num 2))) (AndExpr (read int2 (var 1)) NoExpr))
    ∷ set int (buffer (num 0)) (Tree (Builtin builtin.AtomicAdd None) int (buffer (num 0)) (AndExpr (read int (own 1 (AndComponents (1 ∷ []) NoStep))) NoExpr))
    ∷ [])

vectors_ends : run_of (vectors ∷ []) (1 ∷ 2 ∷ 0 ∷ 0 ∷ 3 ∷ 0 ∷ []) 1000
    ≡ ran (reads 8 ∷ reads 12 ∷ writes 16 1 ∷ writes 20 2 ∷ event.Atomic builtin.AtomicAdd false (record { object = shared.Buffer 0; offset = 0; bits = 32 }) (2 ∷ []) ∷ writes 0 3 ∷ []) Done 28
vectors_ends = refl

-- the second of two ints isn't inside, so that none of them is read
vectors_fail : run_of (kernel (int2 ∷ []) (Initialise (0 ∷ []) (Tree (Builtin (builtin.Vload 2) None) int2 (buffer (num 7)) NoExpr) ∷ []) ∷ []) [] 1000 ≡ ran [] Undefined 6
vectors_fail = refl

-- ---- what nodes cost

-- the sum of vectors of 8 components, which is long in each step; the same vector read
long_sum : node_costs types (two (Binary bin.Add) int8 (read int8 (var 0)) (read int8 (var 1))) ≡ 8 * 256 + 2 * (8 * 12)
long_sum = refl

small_choice : node_costs types (Tree Cond int NoPlace (AndExpr (read int (var 0)) (AndExpr (num 1) (AndExpr (num 2) NoExpr)))) ≡ 4 * 12
small_choice = refl
