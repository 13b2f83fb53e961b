-- What is done behind the operands of an expression, in which the contracts of `ending` speak.
use Rattle.std.specs.Prelude.{ℕ, ◌-◌, Bool, false, if◌then◌else◌, Option, List, [], ◌∷◌, ◌++◌, length}
use Rattle.cl_types.specs.declared.types.ClType.{ClType}
use Rattle.cl_types.specs.declared.types.TypeId.{TypeId}
use Rattle.cl_types.specs.declared.operator.BinOp.{BinOp}
use Rattle.cl_types.specs.declared.builtin.Builtin.{Builtin}
use Rattle.cl_types.specs.declared.builtin.Builtin.TheVariants as builtin
use Rattle.cl_tree.specs.declared.shape.Shape.{Shape}
use Rattle.cl_tree.specs.Shapes.{shape_of}
use Rattle.cl_tree.specs.Constants.{gentype_in}
use Rattle.cl_common.specs.Operators.{gentype_at}
use Rattle.cl_common.specs.Types.{size_at, count_at, elements_in, promoted_in}
use Rattle.cl_meaning.specs.Code.{Node}
use Rattle.cl_meaning.specs.Values.{Value}
use Rattle.cl_meaning.specs.Operations.{Push, Drop, DropSecond, Swap, Keep, Follow, Address, Part, Elements, Convert, Element, Apply}
use Rattle.cl_meaning.specs.Tasks.{Pass, Recall, Point, Enter, WorkItem, Wait, Atomic, Task, Step, Quiet, step, quiet, steps, making}
use Rattle.cl_meaning.specs.Expressions.{Operand, used, named, dropped, types_of, points, points_to, assigned, ones, of_variable, of_named, shape_at, total, first_element, member_offset, further, reads, writes, calculates, changes, offset, element_bytes, first_gentype}

-- a pointer variable, before an operand is added to it
abbrev pub recalled : Node → List Task
recalled node = Step Pass ∷ Quiet (of_variable Recall node) ∷ []

-- what the first operand makes, and the first two, where there are such
abbrev pub on_one : (Operand → List Task) → List Operand → List Task
on_one make (a ∷ os) = make a
on_one make [] = []

abbrev pub on_two : (Operand → Operand → List Task) → List Operand → List Task
on_two make (a ∷ b ∷ os) = make a b
on_two make _ = []

-- a fence changes nothing; its step passes the flags
abbrev pub fence_end : List Task
fence_end = quiet Drop ∷ step (Push (Value [])) ∷ []

module _ (cs : List ClType) where
  -- an array that is a place, as the pointer to its first element
  abbrev pub address_end : TypeId → List Task
  address_end ty = first_element cs ty ∷ step Address ∷ []

  abbrev pub array_end : TypeId → Operand → TypeId → List Task
  array_end array i ty = quiet Swap ∷ first_element cs array ∷ quiet Address ∷ quiet Swap ∷ further cs i ty

  abbrev pub member_end : ℕ → TypeId → TypeId → Task
  member_end k struct ty = quiet (Part (size_at cs struct) (member_offset cs struct k) (size_at cs ty))

  abbrev pub element_end : TypeId → Operand → Operand → List Task
  element_end ty a i = making (count_at cs ty) (Element (shape_at cs i) (count_at cs ty) (elements_in (shape_at cs a)))

  -- the new value is written, and stays in the place's stead
  abbrev pub updated_end : BinOp → TypeId → Shape → List Task
  updated_end op ty inner = calculates cs Quiet op (gentype_in inner) ++ quiet (Convert inner (shape_of cs ty)) ∷ writes cs ty ++ quiet DropSecond ∷ []

  abbrev pub prefix_end : BinOp → Operand → List Task
  prefix_end op a = changes cs op a.ty (promoted_in (shape_at cs a)) [] (ones (promoted_in (shape_at cs a))) ++ quiet DropSecond ∷ []

  abbrev pub postfix_end : BinOp → Operand → List Task
  postfix_end op a = changes cs op a.ty (promoted_in (shape_at cs a)) (quiet Keep ∷ []) (ones (promoted_in (shape_at cs a))) ++ quiet Drop ∷ quiet Drop ∷ []

  abbrev pub moved_end : BinOp → Operand → Operand → List Task
  moved_end op p n = quiet (offset cs op p (shape_at cs n)) ∷ Step (of_named Point p) ∷ []

  -- the place that `*a` names
  abbrev pub pointee : Operand → List Task
  pointee a = if points cs a then used a ++ quiet Follow ∷ [] else named a ++ first_element cs a.ty ∷ []

  -- an operand of a comma
  abbrev pub part : Bool → Operand → List Task
  part is_last o = if is_last then used o else dropped cs o

  -- an assignment
  abbrev pub stores : Option BinOp → Operand → Operand → List Task
  stores op a b = if points cs a then points_to cs op a b else assigned cs op a b

  -- ---- calls

  abbrev pub call_end : ℕ → ℕ → List Operand → List Task
  call_end f number os = steps (total cs (types_of os)) ++ Step (Enter f number (length os) (1 - total cs (types_of os))) ∷ []

  abbrev pub work_item_end : Builtin → List Operand → List Task
  work_item_end f os = steps (total cs (types_of os)) ++ Step (WorkItem f) ∷ []

  abbrev pub atomic_end : Builtin → Bool → List Operand → List Task
  atomic_end f signed os = steps (total cs (types_of os)) ++ Step (Atomic f signed (length os - 1)) ∷ []

  abbrev pub vector_load_end : ℕ → TypeId → List Operand → List Task
  vector_load_end n ty os = steps (total cs (types_of os)) ++ quiet (Elements n (element_bytes cs ty)) ∷ reads cs Step ty ++ quiet DropSecond ∷ []

  abbrev pub vector_written : ℕ → TypeId → List Task
  vector_written n ty = quiet (Elements n (element_bytes cs ty)) ∷ quiet Swap ∷ writes cs ty ++ quiet Drop ∷ quiet Drop ∷ quiet (Push (Value [])) ∷ []

  abbrev pub vector_store_end : ℕ → List Operand → List Task
  vector_store_end n (v ∷ os) = steps (total cs (types_of os)) ++ vector_written n v.ty
  vector_store_end n [] = []

  abbrev pub applied_end : Builtin → TypeId → List Operand → List Task
  applied_end f ty os = steps (total cs (types_of os)) ++ making (count_at cs ty) (Apply f (length os) (first_gentype cs (types_of os)) (gentype_at cs ty))

  abbrev pub built_in_end : Builtin → TypeId → ℕ → List Operand → List Task
  built_in_end builtin.GetWorkDim ty number os = work_item_end builtin.GetWorkDim os
  built_in_end builtin.GetGlobalSize ty number os = work_item_end builtin.GetGlobalSize os
  built_in_end builtin.GetGlobalId ty number os = work_item_end builtin.GetGlobalId os
  built_in_end builtin.GetLocalSize ty number os = work_item_end builtin.GetLocalSize os
  built_in_end builtin.GetLocalId ty number os = work_item_end builtin.GetLocalId os
  built_in_end builtin.GetNumGroups ty number os = work_item_end builtin.GetNumGroups os
  built_in_end builtin.GetGroupId ty number os = work_item_end builtin.GetGroupId os
  built_in_end builtin.GetGlobalOffset ty number os = work_item_end builtin.GetGlobalOffset os
  built_in_end builtin.Barrier ty number os = Step (Wait number) ∷ []
  built_in_end builtin.MemFence ty number os = fence_end
  built_in_end builtin.ReadMemFence ty number os = fence_end
  built_in_end builtin.WriteMemFence ty number os = fence_end
  built_in_end (builtin.Vload n) ty number os = vector_load_end n ty os
  built_in_end (builtin.Vstore n) ty number os = vector_store_end n os
  built_in_end builtin.AtomicAdd ty number os = atomic_end builtin.AtomicAdd false os
  built_in_end builtin.AtomicSub ty number os = atomic_end builtin.AtomicSub false os
  built_in_end builtin.AtomicXchg ty number os = atomic_end builtin.AtomicXchg false os
  built_in_end builtin.AtomicMin ty number os = atomic_end builtin.AtomicMin (gentype_at cs ty).signed os
  built_in_end builtin.AtomicMax ty number os = atomic_end builtin.AtomicMax (gentype_at cs ty).signed os
  built_in_end builtin.AtomicAnd ty number os = atomic_end builtin.AtomicAnd false os
  built_in_end builtin.AtomicOr ty number os = atomic_end builtin.AtomicOr false os
  built_in_end builtin.AtomicXor ty number os = atomic_end builtin.AtomicXor false os
  built_in_end builtin.AtomicInc ty number os = atomic_end builtin.AtomicInc false os
  built_in_end builtin.AtomicDec ty number os = atomic_end builtin.AtomicDec false os
  built_in_end builtin.AtomicCmpxchg ty number os = atomic_end builtin.AtomicCmpxchg false os
  built_in_end f ty number os = applied_end f ty os
