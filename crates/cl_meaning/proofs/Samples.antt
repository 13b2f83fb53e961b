-- Small kernels and what their item 2 does, to see that the definitions mean what they say. Trees are written as typing makes them.
use Rattle.std.proofs.Common.{◌≡◌, ℕ, true, false, List, [], ◌∷◌, Option, Some, None, refl}
use Rattle.cl_types.specs.declared.types.ClType.{ClType}
use Rattle.cl_types.specs.declared.types.ClType.TheVariants as ty
use Rattle.cl_types.specs.declared.types.TypeId.{TypeId}
use Rattle.cl_types.specs.declared.space.Space.TheVariants as space
use Rattle.cl_types.specs.declared.operator.UnOp.TheVariants as un
use Rattle.cl_types.specs.declared.operator.BinOp.TheVariants as bin
use Rattle.cl_types.specs.declared.builtin.Builtin.TheVariants as builtin
use Rattle.launch_text.specs.declared.launch.ArgSize.TheVariants as argument
use Rattle.cl_meaning.specs.Code.{Node, Param, Var, Number, Convert, Unary, Binary, Assign, Call, Builtin, Index, Member, Components, Expr, Tree, NoExpr, AndExpr, Default, Case, Stmt, Stmts, Block, Declare, Initialise, Evaluate, If, Do, Switch, Break, Continue, Return, NoStmt, AndStmt, NoSection, AndSection, Code, behind_operands}
use Rattle.cl_tree.specs.declared.event.Event.{Event}
use Rattle.cl_tree.specs.declared.event.Event.TheVariants as event
use Rattle.cl_tree.specs.declared.event.Outcome.{Outcome}
use Rattle.cl_tree.specs.declared.event.Outcome.TheVariants.{Done, Asks, Undefined, Running}
use Rattle.cl_tree.specs.declared.event.Shared.TheVariants as shared
use Rattle.cl_meaning.specs.declared.run.ItemRun.{ItemRun}
use Rattle.cl_meaning.specs.States.{Surroundings}
use Rattle.cl_meaning.specs.ItemRuns.{run_within}
use Rattle.cl_meaning.specs.Source.{first_item}

-- ---- words

-- the types by their numbers in the table
abbrev t : ℕ → TypeId
t n = record { 0 = n }

abbrev void : TypeId
void = t 0

abbrev int : TypeId
int = t 1

abbrev uint : TypeId
uint = t 2

-- pointers into global memory, and into private memory
abbrev ints : TypeId
ints = t 3

abbrev uints : TypeId
uints = t 4

abbrev own_ints : TypeId
own_ints = t 5

abbrev two_ints : TypeId
two_ints = t 6

abbrev char : TypeId
char = t 7

-- struct S{char c;int x;}
abbrev struct_S : TypeId
struct_S = t 8

abbrev int2 : TypeId
int2 = t 9

abbrev types : List ClType
types =
    ty.Void ∷ ty.Int 32 true ∷ ty.Int 32 false ∷ ty.Pointer space.Global int false false ∷ ty.Pointer space.Global uint false false
    ∷ ty.Pointer space.Private int false false ∷ ty.Array int 2 ∷ ty.Int 8 true
    ∷ ty.Struct (83 ∷ []) (record { name = 99 ∷ []; ty = char } ∷ record { name = 120 ∷ []; ty = int } ∷ []) ∷ ty.Vector int 2 ∷ []

-- a node of this type and number, with its operands
abbrev leaf : Node → TypeId → ℕ → Expr
leaf node ty n = Tree node ty n NoExpr

abbrev one : Node → TypeId → ℕ → Expr → Expr
one node ty n a = Tree node ty n (AndExpr a NoExpr)

abbrev two : Node → TypeId → ℕ → Expr → Expr → Expr
two node ty n a b = Tree node ty n (AndExpr a (AndExpr b NoExpr))

abbrev list : List Stmt → Stmts
list [] = NoStmt
list (s ∷ ss) = AndStmt s (list ss)

-- item 2 of 4 in groups of 2; the argument is a buffer of 8 ints
abbrev seen : List Code → Surroundings
seen functions = record {
  types = types;
  functions = functions;
  launch = record { kernel = []; dims = 1; global = 4 ∷ 1 ∷ 1 ∷ []; local = 2 ∷ 1 ∷ 1 ∷ []; args = argument.Buffer 0 32 ∷ [] };
  item = 2;
}

-- the run of the kernel of this number, by answers and fuel
abbrev run_of : List Code → ℕ → List ℕ → ℕ → Option ItemRun
run_of functions kernel answers fuel = run_within (seen functions) 1000 (first_item (seen functions) kernel) answers fuel

abbrev ran : List Event → Outcome → ℕ → Option ItemRun
ran events outcome steps = Some (record { events = events; outcome = outcome; steps = steps })

-- an int of the buffer
abbrev reads : ℕ → Event
reads at = event.Read (record { object = shared.Buffer 0; offset = at; bits = 32 })

abbrev writes : ℕ → ℕ → Event
writes at n = event.Write (record { object = shared.Buffer 0; offset = at; bits = 32 }) n

-- ---- numbers of nodes: operands before their node

counts : behind_operands (Binary bin.Add) (behind_operands (Number 1) [] int ∷ behind_operands (Number 2) [] int ∷ []) int 5 ≡ (two (Binary bin.Add) int 7 (leaf (Number 1) int 5) (leaf (Number 2) int 6), 8)
counts = refl

-- ---- a sum, stored at the item's own place

-- __kernel void k(__global uint*a){a[get_global_id(0)]=get_global_id(0)+7;}
abbrev stores : Code
stores = record {
  params = (uints ∷ []);
  result = void;
  body = Block (list (
      Evaluate (two (Assign None) uint 11 (two Index uint 4 (leaf (Param 0) uints 0) (one (Builtin builtin.GetGlobalId) uint 3 (one Convert uint 2 (leaf (Number 0) int 1)))) (two (Binary bin.Add) uint 10 (one (Builtin builtin.GetGlobalId) uint 7 (one Convert uint 6 (leaf (Number 0) int 5))) (one Convert uint 9 (leaf (Number 7) int 8))))
      ∷ []));
}

abbrev stores_run : List ℕ → ℕ → Option ItemRun
stores_run = run_of (stores ∷ []) 0

-- item 2 writes 9 at byte 8, in 18 steps
stores_ends : stores_run (0 ∷ []) 1000 ≡ ran (writes 8 9 ∷ []) Done 18
stores_ends = refl

-- its step is made when the write is asked
stores_waits : stores_run [] 1000 ≡ ran [] (Asks (writes 8 9)) 18
stores_waits = refl

-- without fuel for this step it runs
stores_runs : stores_run [] 17 ≡ ran [] Running 17
stores_runs = refl

-- ---- `do`, `continue` and `break`, and a call

-- int f(int n){int s=0;do{n--;if(n==3)continue;if(n<1)break;s+=n;}while(n>0);return s;}__kernel void k(__global int*a){a[0]=f(6);}
abbrev loops_f : Code
loops_f = record {
  params = (int ∷ []);
  result = int;
  body = Block (list (
      Initialise 0 (leaf (Number 0) int 0)
      ∷ Do (list (Block (list (Evaluate (one (Unary un.PostDec) int 2 (leaf (Param 0) int 1)) ∷ If (two (Binary bin.Equal) int 5 (leaf (Param 0) int 3) (leaf (Number 3) int 4)) (list (Continue ∷ [])) NoStmt ∷ If (two (Binary bin.Less) int 8 (leaf (Param 0) int 6) (leaf (Number 1) int 7)) (list (Break ∷ [])) NoStmt ∷ Evaluate (two (Assign (Some bin.Add)) int 11 (leaf (Var 0) int 9) (leaf (Param 0) int 10)) ∷ [])) ∷ [])) (two (Binary bin.Greater) int 14 (leaf (Param 0) int 12) (leaf (Number 0) int 13))
      ∷ Return (Some (leaf (Var 0) int 15))
      ∷ []));
}

abbrev loops : Code
loops = record {
  params = (ints ∷ []);
  result = void;
  body = Block (list (
      Evaluate (two (Assign None) int 5 (two Index int 2 (leaf (Param 0) ints 0) (leaf (Number 0) int 1)) (one (Call 0) int 4 (leaf (Number 6) int 3)))
      ∷ []));
}

abbrev loops_run : List ℕ → ℕ → Option ItemRun
loops_run = run_of (loops_f ∷ loops ∷ []) 1

-- 5 + 4 + 2 + 1
loops_ends : loops_run (0 ∷ []) 1000 ≡ ran (writes 0 12 ∷ []) Done 120
loops_ends = refl

-- ---- `switch`, where sections fall through, and `default`

-- __kernel void k(__global int*a){int r=0;switch(a[0]){case 1:r+=1;case 2:r+=10;break;case 3:r+=100;break;default:r=1000;}a[1]=r;}
abbrev selects : Code
selects = record {
  params = (ints ∷ []);
  result = void;
  body = Block (list (
      Initialise 0 (leaf (Number 0) int 0)
      ∷ Switch (two Index int 3 (leaf (Param 0) ints 1) (leaf (Number 0) int 2))
      (AndSection (Case (Some 1) ∷ []) (list (Evaluate (two (Assign (Some bin.Add)) int 7 (leaf (Var 0) int 5) (leaf (Number 1) int 6)) ∷ []))
      (AndSection (Case (Some 2) ∷ []) (list (Evaluate (two (Assign (Some bin.Add)) int 11 (leaf (Var 0) int 9) (leaf (Number 10) int 10)) ∷ Break ∷ []))
      (AndSection (Case (Some 3) ∷ []) (list (Evaluate (two (Assign (Some bin.Add)) int 15 (leaf (Var 0) int 13) (leaf (Number 100) int 14)) ∷ Break ∷ []))
      (AndSection (Default ∷ []) (list (Evaluate (two (Assign None) int 18 (leaf (Var 0) int 16) (leaf (Number 1000) int 17)) ∷ [])) NoSection))))
      ∷ Evaluate (two (Assign None) int 23 (two Index int 21 (leaf (Param 0) ints 19) (leaf (Number 1) int 20)) (leaf (Var 0) int 22))
      ∷ []));
}

abbrev selects_run : List ℕ → ℕ → Option ItemRun
selects_run = run_of (selects ∷ []) 0

-- from case 1 into case 2
selects_falls : selects_run (1 ∷ 0 ∷ []) 1000 ≡ ran (reads 0 ∷ writes 4 11 ∷ []) Done 24
selects_falls = refl

selects_breaks : selects_run (2 ∷ 0 ∷ []) 1000 ≡ ran (reads 0 ∷ writes 4 10 ∷ []) Done 20
selects_breaks = refl

selects_ends : selects_run (3 ∷ 0 ∷ []) 1000 ≡ ran (reads 0 ∷ writes 4 100 ∷ []) Done 20
selects_ends = refl

selects_default : selects_run (7 ∷ 0 ∷ []) 1000 ≡ ran (reads 0 ∷ writes 4 1000 ∷ []) Done 19
selects_default = refl

-- ---- a missing result is dropped

-- int f(int x){if(x)return 1;}__kernel void k(__global int*a){f(0);a[0]=f(2);}
abbrev drops_f : Code
drops_f = record {
  params = (int ∷ []);
  result = int;
  body = Block (list (
      If (leaf (Param 0) int 0) (list (Return (Some (leaf (Number 1) int 1)) ∷ [])) NoStmt
      ∷ []));
}

abbrev drops : Code
drops = record {
  params = (ints ∷ []);
  result = void;
  body = Block (list (
      Evaluate (one (Call 0) int 1 (leaf (Number 0) int 0))
      ∷ Evaluate (two (Assign None) int 7 (two Index int 4 (leaf (Param 0) ints 2) (leaf (Number 0) int 3)) (one (Call 0) int 6 (leaf (Number 2) int 5)))
      ∷ []));
}

abbrev drops_run : List ℕ → ℕ → Option ItemRun
drops_run = run_of (drops_f ∷ drops ∷ []) 1

drops_ends : drops_run (0 ∷ []) 1000 ≡ ran (writes 0 1 ∷ []) Done 26
drops_ends = refl

-- ---- a missing result is used

-- int f(int x){if(x)return 1;}__kernel void k(__global int*a){a[0]=f(0);}
abbrev uses_f : Code
uses_f = record {
  params = (int ∷ []);
  result = int;
  body = Block (list (
      If (leaf (Param 0) int 0) (list (Return (Some (leaf (Number 1) int 1)) ∷ [])) NoStmt
      ∷ []));
}

abbrev uses : Code
uses = record {
  params = (ints ∷ []);
  result = void;
  body = Block (list (
      Evaluate (two (Assign None) int 5 (two Index int 2 (leaf (Param 0) ints 0) (leaf (Number 0) int 1)) (one (Call 0) int 4 (leaf (Number 0) int 3)))
      ∷ []));
}

abbrev uses_run : List ℕ → ℕ → Option ItemRun
uses_run = run_of (uses_f ∷ uses ∷ []) 1

-- undefined, once the call has ended
uses_fails : uses_run (0 ∷ []) 1000 ≡ ran [] Undefined 14
uses_fails = refl

-- ---- a struct is copied scalar by scalar, and its padding stays unset

-- struct S{char c;int x;};__kernel void k(__global int*a){struct S s;s.c=1;s.x=a[0];struct S t;t=s;a[1]=t.x+t.c;}
abbrev copies : Code
copies = record {
  params = (ints ∷ []);
  result = void;
  body = Block (list (
      Declare 0
      ∷ Evaluate (two (Assign None) char 4 (one (Member 0) char 1 (leaf (Var 0) struct_S 0)) (one Convert char 3 (leaf (Number 1) int 2)))
      ∷ Evaluate (two (Assign None) int 10 (one (Member 1) int 6 (leaf (Var 0) struct_S 5)) (two Index int 9 (leaf (Param 0) ints 7) (leaf (Number 0) int 8)))
      ∷ Declare 1
      ∷ Evaluate (two (Assign None) struct_S 13 (leaf (Var 1) struct_S 11) (leaf (Var 0) struct_S 12))
      ∷ Evaluate (two (Assign None) int 23 (two Index int 16 (leaf (Param 0) ints 14) (leaf (Number 1) int 15)) (two (Binary bin.Add) int 22 (one (Member 1) int 18 (leaf (Var 1) struct_S 17)) (one Convert int 21 (one (Member 0) char 20 (leaf (Var 1) struct_S 19)))))
      ∷ []));
}

abbrev copies_run : List ℕ → ℕ → Option ItemRun
copies_run = run_of (copies ∷ []) 0

copies_ends : copies_run (5 ∷ 0 ∷ []) 1000 ≡ ran (reads 0 ∷ writes 4 6 ∷ []) Done 35
copies_ends = refl

-- ---- a pointer to an element

-- __kernel void k(__global int*a){int x[2];x[1]=5;int*p;p=&x[1];a[0]=*p;}
abbrev points : Code
points = record {
  params = (ints ∷ []);
  result = void;
  body = Block (list (
      Declare 0
      ∷ Evaluate (two (Assign None) int 4 (two Index int 2 (leaf (Var 0) two_ints 0) (leaf (Number 1) int 1)) (leaf (Number 5) int 3))
      ∷ Declare 1
      ∷ Evaluate (two (Assign None) own_ints 10 (leaf (Var 1) own_ints 5) (one (Unary un.Address) own_ints 9 (two Index int 8 (leaf (Var 0) two_ints 6) (leaf (Number 1) int 7))))
      ∷ Evaluate (two (Assign None) int 16 (two Index int 13 (leaf (Param 0) ints 11) (leaf (Number 0) int 12)) (one (Unary un.Deref) int 15 (leaf (Var 1) own_ints 14)))
      ∷ []));
}

abbrev points_run : List ℕ → ℕ → Option ItemRun
points_run = run_of (points ∷ []) 0

points_ends : points_run (0 ∷ []) 1000 ≡ ran (writes 0 5 ∷ []) Done 25
points_ends = refl

-- ---- a pointer goes one past the end and back

-- __kernel void k(__global int*a){int x=1;int*p=&x+1;p=p-1;a[0]=*p;}
abbrev returns : Code
returns = record {
  params = (ints ∷ []);
  result = void;
  body = Block (list (
      Initialise 0 (leaf (Number 1) int 0)
      ∷ Initialise 1 (two (Binary bin.Add) own_ints 4 (one (Unary un.Address) own_ints 2 (leaf (Var 0) int 1)) (leaf (Number 1) int 3))
      ∷ Evaluate (two (Assign None) own_ints 9 (leaf (Var 1) own_ints 5) (two (Binary bin.Sub) own_ints 8 (leaf (Var 1) own_ints 6) (leaf (Number 1) int 7)))
      ∷ Evaluate (two (Assign None) int 15 (two Index int 12 (leaf (Param 0) ints 10) (leaf (Number 0) int 11)) (one (Unary un.Deref) int 14 (leaf (Var 1) own_ints 13)))
      ∷ []));
}

abbrev returns_run : List ℕ → ℕ → Option ItemRun
returns_run = run_of (returns ∷ []) 0

returns_ends : returns_run (0 ∷ []) 1000 ≡ ran (writes 0 1 ∷ []) Done 23
returns_ends = refl

-- ---- a pointer goes two past the end

-- __kernel void k(__global int*a){int x=1;int*p=&x+2;p=p-2;a[0]=*p;}
abbrev leaves : Code
leaves = record {
  params = (ints ∷ []);
  result = void;
  body = Block (list (
      Initialise 0 (leaf (Number 1) int 0)
      ∷ Initialise 1 (two (Binary bin.Add) own_ints 4 (one (Unary un.Address) own_ints 2 (leaf (Var 0) int 1)) (leaf (Number 2) int 3))
      ∷ Evaluate (two (Assign None) own_ints 9 (leaf (Var 1) own_ints 5) (two (Binary bin.Sub) own_ints 8 (leaf (Var 1) own_ints 6) (leaf (Number 2) int 7)))
      ∷ Evaluate (two (Assign None) int 15 (two Index int 12 (leaf (Param 0) ints 10) (leaf (Number 0) int 11)) (one (Unary un.Deref) int 14 (leaf (Var 1) own_ints 13)))
      ∷ []));
}

abbrev leaves_run : List ℕ → ℕ → Option ItemRun
leaves_run = run_of (leaves ∷ []) 0

leaves_fails : leaves_run (0 ∷ []) 1000 ≡ ran [] Undefined 9
leaves_fails = refl

-- ---- an access one past the end

-- __kernel void k(__global int*a){int x[2];x[2]=1;}
abbrev misses : Code
misses = record {
  params = (ints ∷ []);
  result = void;
  body = Block (list (
      Declare 0
      ∷ Evaluate (two (Assign None) int 4 (two Index int 2 (leaf (Var 0) two_ints 0) (leaf (Number 2) int 1)) (leaf (Number 1) int 3))
      ∷ []));
}

abbrev misses_run : List ℕ → ℕ → Option ItemRun
misses_run = run_of (misses ∷ []) 0

-- at the write, once its value is evaluated
misses_fails : misses_run [] 1000 ≡ ran [] Undefined 9
misses_fails = refl

-- ---- a read of what was never set

-- __kernel void k(__global int*a){int x;a[0]=x;}
abbrev unset : Code
unset = record {
  params = (ints ∷ []);
  result = void;
  body = Block (list (
      Declare 0
      ∷ Evaluate (two (Assign None) int 4 (two Index int 2 (leaf (Param 0) ints 0) (leaf (Number 0) int 1)) (leaf (Var 0) int 3))
      ∷ []));
}

abbrev unset_run : List ℕ → ℕ → Option ItemRun
unset_run = run_of (unset ∷ []) 0

-- before the step of the read
unset_fails : unset_run [] 1000 ≡ ran [] Undefined 8
unset_fails = refl

-- ---- a compound assignment in shared memory

-- __kernel void k(__global int*a){a[0]+=a[1];}
abbrev adds : Code
adds = record {
  params = (ints ∷ []);
  result = void;
  body = Block (list (
      Evaluate (two (Assign (Some bin.Add)) int 6 (two Index int 2 (leaf (Param 0) ints 0) (leaf (Number 0) int 1)) (two Index int 5 (leaf (Param 0) ints 3) (leaf (Number 1) int 4)))
      ∷ []));
}

abbrev adds_run : List ℕ → ℕ → Option ItemRun
adds_run = run_of (adds ∷ []) 0

-- the old value is read before the right operand, and its step is that of the write
adds_ends : adds_run (3 ∷ 4 ∷ 0 ∷ []) 1000 ≡ ran (reads 0 ∷ reads 4 ∷ writes 0 7 ∷ []) Done 11
adds_ends = refl

-- so the read of the old value is asked before its step
adds_old : adds_run [] 1000 ≡ ran [] (Asks (reads 0)) 7
adds_old = refl

adds_new : adds_run (3 ∷ 4 ∷ []) 1000 ≡ ran (reads 0 ∷ reads 4 ∷ []) (Asks (writes 0 7)) 11
adds_new = refl

-- ---- a barrier is told from others by the calls that lead there

-- void w(void){barrier(1);}__kernel void k(__global int*a){w();w();}
abbrev meets_w : Code
meets_w = record {
  params = [];
  result = void;
  body = Block (list (
      Evaluate (one (Builtin builtin.Barrier) void 2 (one Convert uint 1 (leaf (Number 1) int 0)))
      ∷ []));
}

abbrev meets : Code
meets = record {
  params = (ints ∷ []);
  result = void;
  body = Block (list (
      Evaluate (leaf (Call 0) void 0)
      ∷ Evaluate (leaf (Call 0) void 1)
      ∷ []));
}

abbrev meets_run : List ℕ → ℕ → Option ItemRun
meets_run = run_of (meets_w ∷ meets ∷ []) 1

meets_first : meets_run [] 1000 ≡ ran [] (Asks (event.Barrier (record { function = 1; node = 0 } ∷ record { function = 0; node = 2 } ∷ []))) 10
meets_first = refl

meets_second : meets_run (0 ∷ []) 1000 ≡ ran (event.Barrier (record { function = 1; node = 0 } ∷ record { function = 0; node = 2 } ∷ []) ∷ []) (Asks (event.Barrier (record { function = 1; node = 1 } ∷ record { function = 0; node = 2 } ∷ []))) 18
meets_second = refl

-- ---- a quotient by zero is unspecified

-- __kernel void k(__global int*a){a[0]=a[1]/a[2];}
abbrev divides : Code
divides = record {
  params = (ints ∷ []);
  result = void;
  body = Block (list (
      Evaluate (two (Assign None) int 10 (two Index int 2 (leaf (Param 0) ints 0) (leaf (Number 0) int 1)) (two (Binary bin.Div) int 9 (two Index int 5 (leaf (Param 0) ints 3) (leaf (Number 1) int 4)) (two Index int 8 (leaf (Param 0) ints 6) (leaf (Number 2) int 7))))
      ∷ []));
}

abbrev divides_run : List ℕ → ℕ → Option ItemRun
divides_run = run_of (divides ∷ []) 0

divides_picks : divides_run (5 ∷ 0 ∷ []) 1000 ≡ ran (reads 4 ∷ reads 8 ∷ []) (Asks (event.Free 32)) 14
divides_picks = refl

-- it is 77
divides_zero : divides_run (5 ∷ 0 ∷ 77 ∷ 0 ∷ []) 1000 ≡ ran (reads 4 ∷ reads 8 ∷ event.Free 32 ∷ writes 0 77 ∷ []) Done 15
divides_zero = refl

divides_ends : divides_run (6 ∷ 3 ∷ 0 ∷ []) 1000 ≡ ran (reads 4 ∷ reads 8 ∷ writes 0 2 ∷ []) Done 15
divides_ends = refl

-- ---- vloadN and an atomic ask with the steps that make their results

-- __kernel void k(__global int*a){int2 v=vload2(1,a);a[0]=atomic_add(a,v.y);}
abbrev vectors : Code
vectors = record {
  params = (ints ∷ []);
  result = void;
  body = Block (list (
      Initialise 0 (two (Builtin (builtin.Vload 2)) int2 3 (one Convert uint 1 (leaf (Number 1) int 0)) (leaf (Param 0) ints 2))
      ∷ Evaluate (two (Assign None) int 11 (two Index int 6 (leaf (Param 0) ints 4) (leaf (Number 0) int 5)) (two (Builtin builtin.AtomicAdd) int 10 (leaf (Param 0) ints 7) (one (Components (1 ∷ [])) int 9 (leaf (Var 0) int2 8))))
      ∷ []));
}

abbrev vectors_run : List ℕ → ℕ → Option ItemRun
vectors_run = run_of (vectors ∷ []) 0

vectors_load : vectors_run (1 ∷ []) 1000 ≡ ran (reads 8 ∷ []) (Asks (reads 12)) 11
vectors_load = refl

vectors_atomic : vectors_run (1 ∷ 2 ∷ []) 1000 ≡ ran (reads 8 ∷ reads 12 ∷ []) (Asks (event.Atomic builtin.AtomicAdd false (record { object = shared.Buffer 0; offset = 0; bits = 32 }) (2 ∷ []))) 21
vectors_atomic = refl

vectors_ends : vectors_run (1 ∷ 2 ∷ 3 ∷ 0 ∷ []) 1000 ≡ ran (reads 8 ∷ reads 12 ∷ event.Atomic builtin.AtomicAdd false (record { object = shared.Buffer 0; offset = 0; bits = 32 }) (2 ∷ []) ∷ writes 0 3 ∷ []) Done 22
vectors_ends = refl
