-- What a work-item has to do for an expression (C99, 6.5; OpenCL C 1.2, 6.3 and 6.12). Operands and arguments are evaluated from left to right, and
-- the place of an assignment before its value.
use Rattle.std.specs.Prelude.{ℕ, ◌+◌, ◌-◌, ◌/◌, max, ◌&&◌, ◌||◌, Bool, true, false, if◌then◌else◌, List, [], ◌∷◌, ◌++◌, length, replicate, take, Option, Some, None}
use Rattle.cl_types.specs.declared.types.ClType.{ClType}
use Rattle.cl_types.specs.declared.types.TypeId.{TypeId}
use Rattle.cl_types.specs.declared.operator.UnOp.{UnOp}
use Rattle.cl_types.specs.declared.operator.UnOp.TheVariants as un
use Rattle.cl_types.specs.declared.operator.BinOp.{BinOp}
use Rattle.cl_types.specs.declared.operator.BinOp.TheVariants as bin
use Rattle.cl_types.specs.declared.builtin.Builtin.{Builtin}
use Rattle.cl_types.specs.declared.builtin.Builtin.TheVariants as builtin
use Rattle.cl_types.specs.Layout.{offset_of}
use Rattle.cl_types.specs.Table.{tree_of}
use Rattle.cl_builtins.specs.declared.kind.Gentype.{Gentype}
use Rattle.cl_builtins.specs.Kinds.{int}
use Rattle.cl_tree.specs.declared.shape.Shape.{Shape}
use Rattle.cl_tree.specs.declared.shape.Shape.TheVariants as shape
use Rattle.cl_tree.specs.Shapes.{shape_of, is_pointer, is_array, members_of}
use Rattle.cl_tree.specs.Constants.{count_in, gentype_in}
use Rattle.cl_common.specs.Operators.{each_from, gentype_at}
use Rattle.cl_meaning.specs.Code.{Node, Expr, Exprs, Tree, NoExpr, AndExpr, Stmt, Stmts, NoStmt, AndStmt, Sections, Code}
use Rattle.cl_meaning.specs.Code as code
use Rattle.cl_tree.specs.declared.event.Shared.TheVariants as shared
use Rattle.cl_common.specs.Types.{size_at, count_at, elements_in, member_types, promoted_in, working}
use Rattle.cl_meaning.specs.Values.{Pattern, Value, Place, InShared, whole_of}
use Rattle.cl_meaning.specs.Operations.{Operation, Push, Drop, DropSecond, Swap, Keep, Sure, Follow, Address, Part, Select, Offset, Compare, Elements, Convert, Unary, Slice, Components, Element, Vector, Fill, Apply}
use Rattle.cl_meaning.specs.Tasks.{Act, Pass, Variable, Recall, Point, Read, Write, Component, Enter, WorkItem, Wait, Atomic, Unless, Choose, Task, Step, Quiet, step, quiet, steps, making}

-- ---- operands

-- An operand: its tree and type, whether it is a place and whether a call, the tasks that find its place, and those that give its value.
pub record Operand : Type 0 where
  pub tree : Expr
  pub ty : TypeId
  pub is_place : Bool
  pub is_call : Bool
  pub finds : List Task
  pub gives : List Task

-- A value that is used. That of a call may be missing, where the function fell off its end (C99, 6.9.1).
abbrev pub used : Operand → List Task
used o = o.gives ++ (if o.is_call then quiet Sure ∷ [] else [])

abbrev pub all_used : List Operand → List Task
all_used [] = []
all_used (o ∷ os) = used o ++ all_used os

-- a place that is named, and not read
abbrev pub named : Operand → List Task
named o = o.finds ++ Step Pass ∷ []

abbrev pub types_of : List Operand → List TypeId
types_of [] = []
types_of (o ∷ os) = o.ty ∷ types_of os

abbrev pub node_of : Expr → Node
node_of (Tree node ty number es) = node

abbrev pub type_of : Expr → TypeId
type_of (Tree node ty number es) = ty

abbrev pub is_call : Node → Bool
is_call (code.Call f) = true
is_call _ = false

-- ---- variables and operands

-- 1, or a vector of it
abbrev pub ones : Shape → List Task
ones s = quiet (Push (Value (replicate (count_in s) (Pattern 1)))) ∷ []

-- what is done to a pointer variable, which a node or an operand names
abbrev pub of_variable : (Bool → ℕ → Act) → Node → Act
of_variable act (code.Param k) = act true k
of_variable act (code.Var k) = act false k
of_variable act _ = Pass

abbrev pub of_named : (Bool → ℕ → Act) → Operand → Act
of_named act a = of_variable act (node_of a.tree)

module _ (cs : List ClType) where
  abbrev pub shape_at : Operand → Shape
  shape_at o = shape_of cs o.ty

  abbrev pub points : Operand → Bool
  points o = is_pointer (shape_at o)

  abbrev pub total : List TypeId → ℕ
  total [] = 0
  total (t ∷ ts) = count_at cs t + total ts

  -- a node that has its scalars from an operand makes one step at least
  abbrev pub copied : TypeId → List Task
  copied ty = steps (max 1 (count_at cs ty))

  -- ---- places

  -- an array that is a place stands for a pointer to its first element (C99, 6.3.2.1); to the place of the element
  abbrev pub first_element : TypeId → Task
  first_element ty = quiet (Part (size_at cs ty) 0 (size_at cs ty))

  abbrev pub member_offset : TypeId → ℕ → ℕ
  member_offset ty k = offset_of (tree_of cs ty.0) k

  -- p[i] is *(p + i), and an array stands for its pointer once the index is evaluated (C99, 6.5.2.1)
  abbrev pub further : Operand → TypeId → List Task
  further i ty = quiet (Offset bin.Add (shape_at i) (size_at cs ty)) ∷ quiet Follow ∷ []

  -- with an array, the stack is: its place, the index; the index, its place; the index, the element; the element, the index
  abbrev pub indexed : Operand → Operand → TypeId → List Task
  indexed a i ty =
      if points a then used a ++ (used i ++ further i ty)
      else named a ++ (used i ++ (quiet Swap ∷ first_element a.ty ∷ quiet Address ∷ quiet Swap ∷ further i ty))

  -- the tasks that find the place of a node, where it is one
  abbrev pub finds_of : Node → TypeId → List Operand → List Task
  finds_of (code.Param k) ty os = Quiet (Variable true k (size_at cs ty)) ∷ []
  finds_of (code.Var k) ty os = Quiet (Variable false k (size_at cs ty)) ∷ []
  finds_of (code.Local k) ty os = quiet (Push (Place (whole_of (InShared (shared.LocalVariable k)) (size_at cs ty)) None)) ∷ []
  finds_of (code.Constant k) ty os = quiet (Push (Place (whole_of (InShared (shared.Constant k)) (size_at cs ty)) None)) ∷ []
  finds_of (code.Unary un.Deref) ty (a ∷ os) = if points a then used a ++ quiet Follow ∷ [] else named a ++ first_element a.ty ∷ []
  finds_of code.Index ty (a ∷ i ∷ os) = indexed a i ty
  finds_of (code.Member k) ty (a ∷ os) = named a ++ quiet (Part (size_at cs a.ty) (member_offset a.ty k) (size_at cs ty)) ∷ []
  finds_of (code.Components at) ty (a ∷ os) = named a ++ quiet (Select at) ∷ []
  finds_of _ ty os = []

  abbrev pub is_place : Node → List Operand → Bool
  is_place (code.Param k) os = true
  is_place (code.Var k) os = true
  is_place (code.Local k) os = true
  is_place (code.Constant k) os = true
  is_place (code.Unary un.Deref) (a ∷ os) = points a || a.is_place
  is_place code.Index (a ∷ os) = points a || a.is_place
  is_place (code.Member k) (a ∷ os) = a.is_place
  is_place (code.Components at) (a ∷ os) = a.is_place
  is_place _ os = false

  -- ---- scalars one by one

  -- What stands at the newest place: its scalars are put together above it.
  abbrev pub reads : (Act → Task) → TypeId → List Task
  reads task ty = quiet (Push (Value [])) ∷ each_from (λ k. task (Read ty k)) 0 (count_at cs ty)

  -- the newest goes to the place beneath it
  abbrev pub writes : TypeId → List Task
  writes ty = each_from (λ k. Step (Write ty k)) 0 (count_at cs ty)

  -- an operator on the two newest, which have components of this type
  abbrev pub calculates : (Act → Task) → BinOp → Gentype → List Task
  calculates task op t = quiet (Push (Value [])) ∷ (each_from (λ k. task (Component op t k)) 0 t.count ++ quiet DropSecond ∷ quiet DropSecond ∷ [])

  -- ---- assignments to what is no pointer

  -- `left op= right`, with the place on top: it is read, `kept` is done, `right` is evaluated, and what the operator makes is written. Each scalar
  -- takes one step for all of this.
  abbrev pub changes : BinOp → TypeId → Shape → List Task → List Task → List Task
  changes op ty inner kept right =
      reads Quiet ty ++ (kept ++ (quiet (Convert (shape_of cs ty) inner) ∷ right ++ (calculates Quiet op (gentype_in inner) ++ quiet (Convert inner (shape_of cs ty)) ∷ writes ty)))

  abbrev pub assigned : Option BinOp → Operand → Operand → List Task
  assigned None a b = named a ++ (used b ++ (writes a.ty ++ quiet DropSecond ∷ []))
  assigned (Some op) a b = named a ++ (changes op a.ty (working op (shape_at a) (shape_at b)) [] (used b) ++ quiet DropSecond ∷ [])

  -- `++` and `--` add and subtract 1; of the postfix forms the old value stays (C99, 6.5.2.4 and 6.5.3.1)
  abbrev pub number_prefix : BinOp → Operand → List Task
  number_prefix op a = named a ++ (changes op a.ty (promoted_in (shape_at a)) [] (ones (promoted_in (shape_at a))) ++ quiet DropSecond ∷ [])

  abbrev pub number_postfix : BinOp → Operand → List Task
  number_postfix op a = named a ++ (changes op a.ty (promoted_in (shape_at a)) (quiet Keep ∷ []) (ones (promoted_in (shape_at a))) ++ quiet Drop ∷ quiet Drop ∷ [])

  -- ---- pointers, which stand in variables alone

  -- the bytes of what a pointer points to
  abbrev pub pointee_size : Shape → ℕ
  pointee_size (shape.Pointer space to readonly restricted) = size_at cs to
  pointee_size _ = 0

  abbrev pub offset : BinOp → Operand → Shape → Operation
  offset op p index = Offset op index (pointee_size (shape_at p))

  abbrev pub points_to : Option BinOp → Operand → Operand → List Task
  points_to None p q = Step Pass ∷ used q ++ Step (of_named Point p) ∷ []
  points_to (Some op) p n = Step Pass ∷ Quiet (of_named Recall p) ∷ used n ++ quiet (offset op p (shape_at n)) ∷ Step (of_named Point p) ∷ []

  abbrev pub one_further : BinOp → Operand → List Task
  one_further op p = Quiet (of_named Recall p) ∷ quiet (Push (Value (Pattern 1 ∷ []))) ∷ quiet (offset op p (shape.Integers int)) ∷ Step (of_named Point p) ∷ []

  -- ---- values

  abbrev pub converts : TypeId → Operand → List Task
  converts ty a = if is_array (shape_at a) then named a ++ first_element a.ty ∷ step Address ∷ [] else used a ++ making (count_at cs ty) (Convert (shape_at a) (shape_of cs ty))

  abbrev pub prefix : BinOp → Operand → List Task
  prefix op a = if points a then Step Pass ∷ one_further op a else number_prefix op a

  abbrev pub postfix : BinOp → Operand → List Task
  postfix op a = if points a then Step Pass ∷ Quiet (of_named Recall a) ∷ one_further op a ++ quiet Drop ∷ [] else number_postfix op a

  abbrev pub unary : UnOp → TypeId → Operand → List Task
  unary un.Address ty a = named a ++ step Address ∷ []
  unary un.Deref ty a = used a ++ making (count_at cs ty) (Slice 0 (count_at cs ty))
  unary un.PreInc ty a = prefix bin.Add a
  unary un.PreDec ty a = prefix bin.Sub a
  unary un.PostInc ty a = postfix bin.Add a
  unary un.PostDec ty a = postfix bin.Sub a
  unary op ty a = used a ++ making (count_at cs ty) (Unary op (gentype_at cs a.ty))

  abbrev pub calculated : BinOp → Operand → Operand → List Task
  calculated op a b =
      if points a && points b then step (Compare op (pointee_size (shape_at a))) ∷ []
      else if points a then step (offset op a (shape_at b)) ∷ []
      else if points b then quiet Swap ∷ step (offset op b (shape_at a)) ∷ []
      else calculates Step op (gentype_at cs a.ty)

  abbrev pub binary : BinOp → Operand → Operand → List Task
  binary bin.LogicalAnd a b = used a ++ Quiet (Unless false b.tree) ∷ Step Pass ∷ []
  binary bin.LogicalOr a b = used a ++ Quiet (Unless true b.tree) ∷ Step Pass ∷ []
  binary op a b = used a ++ (used b ++ calculated op a b)

  -- What is evaluated and dropped, by an expression statement, a part of `for` or the left of a comma: the value may be missing, and an array is
  -- named and not read.
  abbrev pub dropped : Operand → List Task
  dropped o = (if is_array (shape_at o) && o.is_place then named o else o.gives) ++ quiet Drop ∷ []

  abbrev pub commas : List Operand → List Task
  commas [] = []
  commas (o ∷ []) = used o
  commas (o ∷ p ∷ os) = dropped o ++ commas (p ∷ os)

  -- parts of what is no place
  abbrev pub member_value : ℕ → TypeId → Operand → List Task
  member_value k ty a = used a ++ making (count_at cs ty) (Slice (total (take k (member_types (members_of cs a.ty)))) (count_at cs ty))

  abbrev pub element_value : TypeId → Operand → Operand → List Task
  element_value ty a i = used a ++ (used i ++ making (count_at cs ty) (Element (shape_at i) (count_at cs ty) (elements_in (shape_at a))))

  -- ---- calls

  -- a call passes the scalars of its arguments
  abbrev pub passes : List Operand → List Task
  passes os = all_used os ++ steps (total (types_of os))

  -- where it has no arguments, its node takes a step even without a result (subtraction stops at 0)
  abbrev pub call : ℕ → ℕ → List Operand → List Task
  call f number os = passes os ++ Step (Enter f number (length os) (1 - total (types_of os))) ∷ []

  -- A fence changes nothing. Its step passes the flags.
  abbrev pub fence : List Operand → List Task
  fence os = all_used os ++ quiet Drop ∷ step (Push (Value [])) ∷ []

  abbrev pub work_item : Builtin → List Operand → List Task
  work_item f os = passes os ++ Step (WorkItem f) ∷ []

  abbrev pub atomic : Builtin → Bool → List Operand → List Task
  atomic f signed os = passes os ++ Step (Atomic f signed (length os - 1)) ∷ []

  abbrev pub element_bytes : TypeId → ℕ
  element_bytes ty = (gentype_at cs ty).bits / 8

  -- vloadN makes each scalar with its read; vstoreN passes each of its vector with its write, and gives nothing (OpenCL C 1.2, 6.12.7).
  abbrev pub vector_load : ℕ → TypeId → List Operand → List Task
  vector_load n ty os = passes os ++ quiet (Elements n (element_bytes ty)) ∷ reads Step ty ++ quiet DropSecond ∷ []

  abbrev pub vector_store : ℕ → List Operand → List Task
  vector_store n (v ∷ os) = all_used (v ∷ os) ++ (steps (total (types_of os)) ++ (quiet (Elements n (element_bytes v.ty)) ∷ quiet Swap ∷ writes v.ty ++ quiet Drop ∷ quiet Drop ∷ quiet (Push (Value [])) ∷ []))
  vector_store n [] = []

  abbrev pub first_gentype : List TypeId → Gentype
  first_gentype [] = int
  first_gentype (t ∷ ts) = gentype_at cs t

  abbrev pub built_in : Builtin → TypeId → ℕ → List Operand → List Task
  built_in builtin.GetWorkDim ty number os = work_item builtin.GetWorkDim os
  built_in builtin.GetGlobalSize ty number os = work_item builtin.GetGlobalSize os
  built_in builtin.GetGlobalId ty number os = work_item builtin.GetGlobalId os
  built_in builtin.GetLocalSize ty number os = work_item builtin.GetLocalSize os
  built_in builtin.GetLocalId ty number os = work_item builtin.GetLocalId os
  built_in builtin.GetNumGroups ty number os = work_item builtin.GetNumGroups os
  built_in builtin.GetGroupId ty number os = work_item builtin.GetGroupId os
  built_in builtin.GetGlobalOffset ty number os = work_item builtin.GetGlobalOffset os
  built_in builtin.Barrier ty number os = all_used os ++ Step (Wait number) ∷ []
  built_in builtin.MemFence ty number os = fence os
  built_in builtin.ReadMemFence ty number os = fence os
  built_in builtin.WriteMemFence ty number os = fence os
  built_in (builtin.Vload n) ty number os = vector_load n ty os
  built_in (builtin.Vstore n) ty number os = vector_store n os
  built_in builtin.AtomicAdd ty number os = atomic builtin.AtomicAdd false os
  built_in builtin.AtomicSub ty number os = atomic builtin.AtomicSub false os
  built_in builtin.AtomicXchg ty number os = atomic builtin.AtomicXchg false os
  built_in builtin.AtomicMin ty number os = atomic builtin.AtomicMin (gentype_at cs ty).signed os
  built_in builtin.AtomicMax ty number os = atomic builtin.AtomicMax (gentype_at cs ty).signed os
  built_in builtin.AtomicAnd ty number os = atomic builtin.AtomicAnd false os
  built_in builtin.AtomicOr ty number os = atomic builtin.AtomicOr false os
  built_in builtin.AtomicXor ty number os = atomic builtin.AtomicXor false os
  built_in builtin.AtomicInc ty number os = atomic builtin.AtomicInc false os
  built_in builtin.AtomicDec ty number os = atomic builtin.AtomicDec false os
  built_in builtin.AtomicCmpxchg ty number os = atomic builtin.AtomicCmpxchg false os
  built_in f ty number os = passes os ++ making (count_at cs ty) (Apply f (length os) (first_gentype (types_of os)) (gentype_at cs ty))

  -- ---- expressions

  -- what gives the value of a node that is no place
  abbrev pub makes : Node → TypeId → ℕ → List Operand → List Task
  makes (code.Number n) ty number os = step (Push (Value (Pattern n ∷ []))) ∷ []
  makes code.Convert ty number (a ∷ os) = converts ty a
  makes (code.Unary op) ty number (a ∷ os) = unary op ty a
  makes (code.Binary op) ty number (a ∷ b ∷ os) = binary op a b
  makes (code.Assign op) ty number (a ∷ b ∷ os) = if points a then points_to op a b else assigned op a b
  makes code.Cond ty number (test ∷ on_true ∷ on_false ∷ os) = used test ++ Quiet (Choose on_true.tree on_false.tree) ∷ copied ty
  makes code.Vector ty number os = all_used os ++ making (count_at cs ty) (Vector (length os) (count_at cs ty))
  makes (code.Call f) ty number os = call f number os
  makes (code.Builtin f) ty number os = built_in f ty number os
  makes code.Index ty number (a ∷ i ∷ os) = element_value ty a i
  makes (code.Member k) ty number (a ∷ os) = member_value k ty a
  makes (code.Components at) ty number (a ∷ os) = used a ++ making (length at) (Components at)
  makes code.Fill ty number os = all_used os ++ making (count_at cs ty) (Fill (types_of os) ty)
  makes code.Comma ty number os = commas os ++ copied ty
  makes _ ty number os = []

  -- what gives the value of a place: a pointer is that of its variable
  abbrev pub loads : Node → TypeId → List Operand → List Task
  loads node ty os = if is_pointer (shape_of cs ty) then Step (of_variable Recall node) ∷ [] else finds_of node ty os ++ (reads Step ty ++ quiet DropSecond ∷ [])

  abbrev pub operand_in : Node → TypeId → ℕ → List Operand → Expr → Operand
  operand_in node ty number os tree = record {
    tree = tree;
    ty = ty;
    is_place = is_place node os;
    is_call = is_call node;
    finds = finds_of node ty os;
    gives = if is_place node os then loads node ty os else makes node ty number os;
  }

  abbrev mutual
    pub operand_of : Expr → Operand
    operand_of (Tree node ty number es) = operand_in node ty number (operands_of es) (Tree node ty number es)

    pub operands_of : Exprs → List Operand
    operands_of NoExpr = []
    operands_of (AndExpr e es) = operand_of e ∷ operands_of es

  -- the value of an expression, which is used; an expression that is dropped, where there is one
  abbrev pub uses : Expr → List Task
  uses e = used (operand_of e)

  abbrev pub drops : Expr → List Task
  drops e = dropped (operand_of e)

  abbrev pub may_drop : Option Expr → List Task
  may_drop None = []
  may_drop (Some e) = drops e
