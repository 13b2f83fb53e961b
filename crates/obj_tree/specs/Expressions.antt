-- What a work-item has to do for an expression (C99, 6.5; OpenCL C 1.2, 6.3 and 6.12), and what its steps cost. Operands and arguments are evaluated from
-- left to right, and a place before its value.
use Rattle.std.specs.Prelude.{ℕ, ◌+◌, ◌-◌, ◌*◌, max, nat_eq, nat_lt, not, ◌&&◌, ◌||◌, Bool, true, false, if◌then◌else◌, List, [], ◌∷◌, ◌++◌, length, map, replicate, take, drop, Option, Some, None}
use Rattle.cl_types.specs.declared.types.ClType.{ClType}
use Rattle.cl_types.specs.declared.types.TypeId.{TypeId}
use Rattle.cl_types.specs.declared.operator.UnOp.{UnOp}
use Rattle.cl_types.specs.declared.operator.UnOp.TheVariants as un
use Rattle.cl_types.specs.declared.operator.BinOp.{BinOp}
use Rattle.cl_types.specs.declared.operator.BinOp.TheVariants as bin
use Rattle.cl_types.specs.declared.builtin.Builtin.{Builtin}
use Rattle.cl_types.specs.declared.builtin.Builtin.TheVariants as builtin
use Rattle.cl_builtins.specs.declared.kind.Gentype.{Gentype}
use Rattle.cl_builtins.specs.Kinds.{int}
use Rattle.cl_tree.specs.declared.event.NodeId.{NodeId}
use Rattle.cl_tree.specs.declared.shape.Shape.{Shape}
use Rattle.cl_tree.specs.declared.shape.Shape.TheVariants as shape
use Rattle.cl_tree.specs.Shapes.{shape_of, is_array, is_number, members_of}
use Rattle.cl_tree.specs.Constants.{count_in, gentype_in}
use Rattle.cl_common.specs.Operators.{each_from, gentype_at}
use Rattle.cl_common.specs.Types.{count_at, elements_in, member_types, promoted_in, working}
use Rattle.obj_tree.specs.declared.object.Root.{Root}
use Rattle.obj_tree.specs.declared.object.Root.TheVariants as root
use Rattle.obj_tree.specs.Code.{Node, Expr, Exprs, Tree, NoExpr, AndExpr, Place, NoPlace, At, Steps, NoStep, AndMember, AndIndex, AndSingle, AndComponents}
use Rattle.obj_tree.specs.Code as code
use Rattle.obj_tree.specs.Places.{There, Row}
use Rattle.obj_tree.specs.Operations.{Value, Push, Drop, DropSecond, Swap, Keep, Sure, Convert, Unary, Slice, Components, Element, Vector, Fill, Apply}
use Rattle.obj_tree.specs.Tasks.{Want, IntoMember, ByIndex, BySingle, IntoComponents, Act, Pass, Aim, Read, Write, Component, Enter, WorkItem, Wait, Atomic, Unless, Choose, Price, Small, Middle, Long, Other, instructions, Task, Step, Quiet, step, quiet, steps, making}

-- ---- operands

-- An operand: its tree and type, whether it is the read of a place and whether a call, the tasks that find its place, and those that give its value; and
-- what its steps cost, evaluated once.
pub record Operand : Type 0 where
  pub tree : Expr
  pub ty : TypeId
  pub is_read : Bool
  pub is_call : Bool
  pub finds : List Task
  pub gives : List Task
  pub costs : ℕ

-- A value that is used. That of a call may be missing, where the function fell off its end (C99, 6.9.1).
abbrev pub used : Operand → List Task
used o = o.gives ++ (if o.is_call then quiet Sure ∷ [] else [])

abbrev pub all_used : List Operand → List Task
all_used [] = []
all_used (o ∷ os) = used o ++ all_used os

abbrev pub types_of : List Operand → List TypeId
types_of [] = []
types_of (o ∷ os) = o.ty ∷ types_of os

abbrev pub type_of : Expr → TypeId
type_of (Tree node ty at es) = ty

abbrev pub is_call : Node → Bool
is_call (code.Call copy plain privates from) = true
is_call _ = false

abbrev pub is_read : Node → Bool
is_read code.Read = true
is_read _ = false

-- A place: what leads into its object, the last first; the tasks of its indices, whether it has some, and what their steps cost.
pub record Found : Type 0 where
  pub wants : List Want
  pub tasks : List Task
  pub is_indexed : Bool
  pub costs : ℕ

abbrev pub nothing_found : Found
nothing_found = record { wants = []; tasks = []; is_indexed = false; costs = 0 }

abbrev pub and_want : Want → Found → Found
and_want w f = record f { wants = f.wants ++ w ∷ [] }

abbrev pub and_index : Operand → Found → Found
and_index o f = record { wants = f.wants; tasks = used o ++ f.tasks; is_indexed = true; costs = o.costs + f.costs }

-- ---- words on types

-- 1, or a vector of it
abbrev pub ones : Shape → List Task
ones s = quiet (Push (Value (replicate (count_in s) 1))) ∷ []

-- ---- what steps cost

-- a vector of 8 or 16 components
abbrev pub is_long : Shape → Bool
is_long (shape.Integers t) = nat_lt 4 t.count
is_long _ = false

-- an operator on scalars of this type; on vectors
abbrev pub scalar_price : BinOp → ℕ → Price
scalar_price bin.Mul bits = Other
scalar_price bin.Div bits = Other
scalar_price bin.Rem bits = Other
scalar_price bin.LogicalAnd bits = Other
scalar_price bin.LogicalOr bits = Other
scalar_price bin.Equal bits = if nat_eq bits 32 then Small else Middle
scalar_price bin.NotEqual bits = if nat_eq bits 32 then Small else Middle
scalar_price op bits = Middle

abbrev pub binary_price : BinOp → Shape → Price
binary_price op (shape.Integers t) = if nat_eq t.count 1 then scalar_price op t.bits else Other
binary_price op s = Other

abbrev pub unary_price : UnOp → Shape → Price
unary_price un.LogicalNot s = Other
unary_price op s = if is_number s then Middle else Other

abbrev pub chosen_price : Shape → Price
chosen_price s = if is_number s then Small else Other

-- a scalar that is read or written: in private memory without indices; behind indices; elsewhere
abbrev pub is_private : Root → Bool
is_private (root.Private k) = true
is_private _ = false

abbrev pub access_price : Bool → Place → Price
access_price true at = Middle
access_price false (At r steps) = if is_private r then Small else Other
access_price false NoPlace = Other

abbrev pub paid : Task → ℕ
paid (Step p act) = instructions p
paid (Quiet act) = 0

abbrev pub paid_all : List Task → ℕ
paid_all [] = 0
paid_all (t ∷ ts) = paid t + paid_all ts

-- an operand of which nothing is left to do
abbrev pub silent : Operand → Operand
silent o = record o { gives = [] }

abbrev pub costs_of : List Operand → ℕ
costs_of [] = 0
costs_of (o ∷ os) = o.costs + costs_of os

module _ (cs : List ClType) where
  abbrev pub shape_at : Operand → Shape
  shape_at o = shape_of cs o.ty

  abbrev pub total : List TypeId → ℕ
  total [] = 0
  total (t ∷ ts) = count_at cs t + total ts

  abbrev pub shapes_of : List Operand → List Shape
  shapes_of [] = []
  shapes_of (o ∷ os) = shape_at o ∷ shapes_of os

  abbrev pub has_long : List TypeId → Bool
  has_long [] = false
  has_long (t ∷ ts) = is_long (shape_of cs t) || has_long ts

  -- A step of a node is long where the node makes a vector of 8 or 16 components, or has one as an operand, and does more than to read, store or pass it,
  -- or to index it by a constant.
  abbrev pub only_moves : Node → Bool
  only_moves code.Read = true
  only_moves (code.Assign None) = true
  only_moves (code.Call copy plain privates from) = true
  only_moves (code.Components at) = nat_eq (length at) 1
  only_moves _ = false

  abbrev pub unless_long : Node → TypeId → List Operand → Price → Price
  unless_long node ty os p = if not (only_moves node) && has_long (ty ∷ types_of os) then Long else p

  -- ---- scalars one by one

  -- What stands at the newest place, so many scalars: they are put together above it.
  abbrev pub reads : (Act → Task) → ℕ → List Task
  reads task n = quiet (Push (Value [])) ∷ each_from (λ k. task (Read There k)) 0 n

  -- the newest goes to the place beneath it
  abbrev pub writes : Price → ℕ → List Task
  writes p n = each_from (λ k. Step p (Write There k)) 0 n

  -- an operator on the two newest, which have components of this type
  abbrev pub calculates : (Act → Task) → BinOp → Gentype → List Task
  calculates task op t = quiet (Push (Value [])) ∷ (each_from (λ k. task (Component op t k)) 0 t.count ++ quiet DropSecond ∷ quiet DropSecond ∷ [])

  -- What is evaluated and dropped, by an expression statement, a part of `for` or the left of a comma: the value may be missing, and an array is
  -- not read.
  abbrev pub dropped : Operand → List Task
  dropped o = (if is_array (shape_at o) && o.is_read then o.finds else o.gives) ++ quiet Drop ∷ []

  abbrev pub commas : List Operand → List Task
  commas [] = []
  commas (o ∷ []) = used o
  commas (o ∷ p ∷ os) = dropped o ++ commas (p ∷ os)

  -- ---- places

  -- The place, once its indices are evaluated. These take one step together.
  abbrev pub finds_of : Price → Place → Found → List Task
  finds_of p NoPlace f = []
  finds_of p (At r steps) f = f.tasks ++ (if f.is_indexed then Step p (Aim r f.wants) else Quiet (Aim r f.wants)) ∷ []

  -- ---- assignments

  -- `left op= right`, with the place on top, to a place of this type: it is read, `kept` is done, `right` is evaluated, and what the operator makes is written.
  -- Each scalar takes one step for all of this.
  abbrev pub changes : Price → BinOp → TypeId → Shape → List Task → List Task → List Task
  changes p op ty inner kept right =
      reads Quiet (count_at cs ty) ++ (kept ++ (quiet (Convert (shape_of cs ty) inner) ∷ right ++ (calculates Quiet op (gentype_in inner) ++ quiet (Convert inner (shape_of cs ty)) ∷ writes p (count_at cs ty))))

  abbrev pub sets : Price → TypeId → Operand → List Task
  sets p ty b = used b ++ (writes p (count_at cs ty) ++ quiet DropSecond ∷ [])

  abbrev pub changes_by : Price → BinOp → TypeId → Operand → List Task
  changes_by p op ty b = changes p op ty (working op (shape_of cs ty) (shape_at b)) [] (used b) ++ quiet DropSecond ∷ []

  -- `++` and `--` add and subtract 1; of the postfix forms the old value stays (C99, 6.5.2.4 and 6.5.3.1)
  abbrev pub prefix : Price → BinOp → TypeId → List Task
  prefix p op ty = changes p op ty (promoted_in (shape_of cs ty)) [] (ones (promoted_in (shape_of cs ty))) ++ quiet DropSecond ∷ []

  abbrev pub postfix : Price → BinOp → TypeId → List Task
  postfix p op ty = changes p op ty (promoted_in (shape_of cs ty)) (quiet Keep ∷ []) (ones (promoted_in (shape_of cs ty))) ++ quiet Drop ∷ quiet Drop ∷ []

  -- ---- values

  -- a node that has its scalars from an operand makes one step at least
  abbrev pub copied : Price → TypeId → List Task
  copied p ty = steps p (max 1 (count_at cs ty))

  abbrev pub converts : Price → TypeId → Operand → List Task
  converts p ty a = used a ++ making p (count_at cs ty) (Convert (shape_at a) (shape_of cs ty))

  -- `+`, `-`, `~` and `!`
  abbrev pub negates : Price → UnOp → TypeId → Operand → List Task
  negates p op ty a = used a ++ making p (count_at cs ty) (Unary op (gentype_at cs a.ty).bits)

  abbrev pub binary : BinOp → Price → Operand → Operand → List Task
  binary bin.LogicalAnd p a b = used a ++ Quiet (Unless false b.tree) ∷ Step p Pass ∷ []
  binary bin.LogicalOr p a b = used a ++ Quiet (Unless true b.tree) ∷ Step p Pass ∷ []
  binary op p a b = used a ++ (used b ++ calculates (Step p) op (gentype_at cs a.ty))

  -- parts of a value
  abbrev pub element_value : Price → TypeId → Operand → Operand → List Task
  element_value p ty a i = used a ++ (used i ++ making p (count_at cs ty) (Element (shape_at i) (count_at cs ty) (elements_in (shape_at a))))

  abbrev pub member_value : Price → ℕ → TypeId → Operand → List Task
  member_value p k ty a = used a ++ making p (count_at cs ty) (Slice (total (take k (member_types (members_of cs a.ty)))) (count_at cs ty))

  -- ---- calls

  -- a call passes the scalars of its arguments
  abbrev pub passes : Price → List Operand → List Task
  passes p os = all_used os ++ steps p (total (types_of os))

  -- the indices that come with pointers, together
  abbrev pub list_of : List Operand → ℕ
  list_of [] = 0
  list_of (o ∷ os) = 1

  -- what a call with these arguments and indices passes
  abbrev pub passed : List Operand → List Operand → ℕ
  passed plain indices = total (types_of plain) + list_of indices

  -- where it passes nothing, its node takes a step even without a result (subtraction stops at 0)
  abbrev pub call : ℕ → List ℕ → NodeId → List Operand → List Operand → List Task
  call copy privates from plain indices =
      all_used plain ++ (all_used indices ++ (steps Other (passed plain indices) ++ Step Other (Enter copy (length plain) (shapes_of indices) privates from (1 - passed plain indices)) ∷ []))

  -- the steps in which the node makes the scalars of the result
  abbrev pub result_steps : TypeId → List Operand → List Operand → ℕ
  result_steps ty plain indices = max (1 - passed plain indices) (count_at cs ty)

  -- A fence changes nothing. Its step passes the flags.
  abbrev pub fence : Price → List Operand → List Task
  fence p os = all_used os ++ quiet Drop ∷ step p (Push (Value [])) ∷ []

  abbrev pub wait : Price → Option NodeId → List Operand → List Task
  wait p None os = fence p os
  wait p (Some from) os = all_used os ++ Step p (Wait from) ∷ []

  abbrev pub work_item : Price → Builtin → List Operand → List Task
  work_item p f os = passes p os ++ Step p (WorkItem f) ∷ []

  abbrev pub atomic : Price → Builtin → Bool → List Task → List Operand → List Task
  atomic p f signed finds os = finds ++ (passes p os ++ Step p (Atomic f signed (length os)) ∷ [])

  -- vloadN makes each scalar with its read; vstoreN, which evaluates its vector before the place, passes each with its write, and gives nothing
  -- (OpenCL C 1.2, 6.12.7).
  abbrev pub vector_load : Price → ℕ → List Task → List Task
  vector_load p n finds = finds ++ (quiet (Push (Value [])) ∷ each_from (λ k. Step p (Read (Row n) k)) 0 n ++ quiet DropSecond ∷ [])

  abbrev pub vector_store : Price → ℕ → List Task → List Operand → List Task
  vector_store p n finds os = all_used os ++ (finds ++ (quiet Swap ∷ each_from (λ k. Step p (Write (Row n) k)) 0 n ++ quiet Drop ∷ quiet Drop ∷ quiet (Push (Value [])) ∷ []))

  abbrev pub first_gentype : List TypeId → Gentype
  first_gentype [] = int
  first_gentype (t ∷ ts) = gentype_at cs t

  abbrev pub built_in : Builtin → Price → TypeId → Option NodeId → List Task → List Operand → List Task
  built_in builtin.GetWorkDim p ty from finds os = work_item p builtin.GetWorkDim os
  built_in builtin.GetGlobalSize p ty from finds os = work_item p builtin.GetGlobalSize os
  built_in builtin.GetGlobalId p ty from finds os = work_item p builtin.GetGlobalId os
  built_in builtin.GetLocalSize p ty from finds os = work_item p builtin.GetLocalSize os
  built_in builtin.GetLocalId p ty from finds os = work_item p builtin.GetLocalId os
  built_in builtin.GetNumGroups p ty from finds os = work_item p builtin.GetNumGroups os
  built_in builtin.GetGroupId p ty from finds os = work_item p builtin.GetGroupId os
  built_in builtin.GetGlobalOffset p ty from finds os = work_item p builtin.GetGlobalOffset os
  built_in builtin.Barrier p ty from finds os = wait p from os
  built_in builtin.MemFence p ty from finds os = fence p os
  built_in builtin.ReadMemFence p ty from finds os = fence p os
  built_in builtin.WriteMemFence p ty from finds os = fence p os
  built_in (builtin.Vload n) p ty from finds os = vector_load p n finds
  built_in (builtin.Vstore n) p ty from finds os = vector_store p n finds os
  built_in builtin.AtomicAdd p ty from finds os = atomic p builtin.AtomicAdd false finds os
  built_in builtin.AtomicSub p ty from finds os = atomic p builtin.AtomicSub false finds os
  built_in builtin.AtomicXchg p ty from finds os = atomic p builtin.AtomicXchg false finds os
  built_in builtin.AtomicMin p ty from finds os = atomic p builtin.AtomicMin (gentype_at cs ty).signed finds os
  built_in builtin.AtomicMax p ty from finds os = atomic p builtin.AtomicMax (gentype_at cs ty).signed finds os
  built_in builtin.AtomicAnd p ty from finds os = atomic p builtin.AtomicAnd false finds os
  built_in builtin.AtomicOr p ty from finds os = atomic p builtin.AtomicOr false finds os
  built_in builtin.AtomicXor p ty from finds os = atomic p builtin.AtomicXor false finds os
  built_in builtin.AtomicInc p ty from finds os = atomic p builtin.AtomicInc false finds os
  built_in builtin.AtomicDec p ty from finds os = atomic p builtin.AtomicDec false finds os
  built_in builtin.AtomicCmpxchg p ty from finds os = atomic p builtin.AtomicCmpxchg false finds os
  built_in f p ty from finds os = passes p os ++ making p (count_at cs ty) (Apply f (length os) (first_gentype (types_of os)) (gentype_at cs ty))

  -- ---- expressions

  -- what gives the value of a node with this price for its steps, at a place that the tasks `finds` find and where a scalar costs `access`
  abbrev pub gives_of : Node → TypeId → (Price → Price) → Price → List Task → List Operand → List Task
  gives_of code.Read ty price access finds os = finds ++ (reads (Step access) (count_at cs ty) ++ quiet DropSecond ∷ [])
  gives_of (code.Assign None) ty price access finds (b ∷ os) = finds ++ sets access ty b
  gives_of (code.Assign (Some op)) ty price access finds (b ∷ os) = finds ++ changes_by (price Other) op ty b
  gives_of (code.Number n) ty price access finds os = step Small (Push (Value (n ∷ []))) ∷ []
  gives_of code.Convert ty price access finds (a ∷ os) = converts (price Other) ty a
  gives_of (code.Unary un.PreInc) ty price access finds os = finds ++ prefix (price Other) bin.Add ty
  gives_of (code.Unary un.PreDec) ty price access finds os = finds ++ prefix (price Other) bin.Sub ty
  gives_of (code.Unary un.PostInc) ty price access finds os = finds ++ postfix (price Other) bin.Add ty
  gives_of (code.Unary un.PostDec) ty price access finds os = finds ++ postfix (price Other) bin.Sub ty
  gives_of (code.Unary op) ty price access finds (a ∷ os) = negates (price (unary_price op (shape_at a))) op ty a
  gives_of (code.Binary op) ty price access finds (a ∷ b ∷ os) = binary op (price (binary_price op (shape_at a))) a b
  gives_of code.Cond ty price access finds (test ∷ on_true ∷ on_false ∷ os) = used test ++ Quiet (Choose on_true.tree on_false.tree) ∷ copied (price (chosen_price (shape_of cs ty))) ty
  gives_of code.Vector ty price access finds os = all_used os ++ making (price Other) (count_at cs ty) (Vector (length os) (count_at cs ty))
  gives_of (code.Call copy plain privates from) ty price access finds os = call copy privates from (take plain os) (drop plain os)
  gives_of (code.Builtin f from) ty price access finds os = built_in f (price Other) ty from finds os
  gives_of code.Index ty price access finds (a ∷ i ∷ os) = element_value (price Other) ty a i
  gives_of (code.Member k) ty price access finds (a ∷ os) = member_value (price Other) k ty a
  gives_of (code.Components at) ty price access finds (a ∷ os) = used a ++ making (price Other) (length at) (Components at)
  gives_of code.Fill ty price access finds os = all_used os ++ making (price Other) (count_at cs ty) (Fill (types_of os) ty)
  gives_of code.Comma ty price access finds os = commas os ++ copied (price Small) ty
  gives_of _ ty price access finds os = []

  -- the steps of its own that a node makes behind a call
  abbrev pub behind_call : Node → TypeId → List Operand → ℕ
  behind_call (code.Call copy plain privates from) ty os = result_steps ty (take plain os) (drop plain os)
  behind_call _ ty os = 0

  abbrev pub gives_at : Node → TypeId → Place → Found → List Operand → List Task
  gives_at node ty at f os = gives_of node ty (unless_long node ty os) (access_price f.is_indexed at) (finds_of (unless_long node ty os Other) at f) os

  -- what the steps of its own cost that a node takes in one evaluation
  abbrev pub own_costs : Node → TypeId → Place → Found → List Operand → ℕ
  own_costs node ty at f os = paid_all (gives_at node ty at (record f { tasks = [] }) (map silent os)) + behind_call node ty os * instructions Other

  abbrev pub operand_in : Node → TypeId → Place → Found → List Operand → Expr → Operand
  operand_in node ty at f os tree = record {
    tree = tree;
    ty = ty;
    is_read = is_read node;
    is_call = is_call node;
    finds = finds_of Other at f;
    gives = gives_at node ty at f os;
    costs = own_costs node ty at f os + (f.costs + costs_of os);
  }

  abbrev mutual
    pub operand_of : Expr → Operand
    operand_of (Tree node ty at es) = operand_in node ty at (found_of at) (operands_of es) (Tree node ty at es)

    pub operands_of : Exprs → List Operand
    operands_of NoExpr = []
    operands_of (AndExpr e es) = operand_of e ∷ operands_of es

    pub found_of : Place → Found
    found_of NoPlace = nothing_found
    found_of (At r ss) = found_in ss

    pub found_in : Steps → Found
    found_in NoStep = nothing_found
    found_in (AndMember k ss) = and_want (IntoMember k) (found_in ss)
    found_in (AndIndex e ss) = and_want (ByIndex (shape_at (operand_of e))) (and_index (operand_of e) (found_in ss))
    found_in (AndSingle e ss) = and_want (BySingle (shape_at (operand_of e))) (and_index (operand_of e) (found_in ss))
    found_in (AndComponents at ss) = and_want (IntoComponents at) (found_in ss)

  -- the value of an expression, which is used; an expression that is dropped, where there is one
  abbrev pub uses : Expr → List Task
  uses e = used (operand_of e)

  abbrev pub drops : Expr → List Task
  drops e = dropped (operand_of e)

  abbrev pub may_drop : Option Expr → List Task
  may_drop None = []
  may_drop (Some e) = drops e

  -- the costs of the nodes of an expression, each evaluated once
  abbrev pub node_costs : Expr → ℕ
  node_costs e = (operand_of e).costs

  abbrev pub may_cost : Option Expr → ℕ
  may_cost None = 0
  may_cost (Some e) = node_costs e
