-- The functions of a module and the copies of a unit: one for one and in order, with their results, parameters and calls; and the reflection rows.
use Rattle.std.specs.Prelude.{◌≡◌, ℕ, zero, suc, ◌+◌, nat_eq, ◌==◌, Bool, true, false, ◌&&◌, if◌then◌else◌, List, [], ◌∷◌, map, Option, Some, None, slice_get, unwrap_or}
use Rattle.cl_types.specs.declared.types.ClType.{ClType}
use Rattle.cl_types.specs.declared.types.TypeId.{TypeId}
use Rattle.cl_tree.specs.declared.event.NodeId.{NodeId}
use Rattle.cl_tree.specs.declared.unit.Variable.{Variable}
use Rattle.spv_module.specs.declared.op.TheConstants as op
use Rattle.spv_module.specs.declared.enumerant.storage_class.TheConstants as storage_class
use Rattle.spv_types_rules.specs.Lines.{Line, Whole, Func, has_op, id_of, first, is_int, parameters, pointer}
use Rattle.spv_reflect.specs.declared.rows.Reflection.{Reflection}
use Rattle.vk_layout.specs.declared.options.Pod.{Pod}
use Rattle.cl_provenance.specs.Routines.{Routine, Unit as Functions}
use Rattle.cl_provenance.specs.Objects.{indices_of, plain_among}
use Rattle.cl_specialise.specs.Copies.{CopyName, Calling, same_copy, index_of, kernel_copy, kernels, calls, copies}
use Rattle.vk_layout.specs.Rows.{rows_with}
use Rattle.vk_layout.specs.Types.{stands_for_value}

-- a kernel's own copy
abbrev pub is_kernel : CopyName → Bool
is_kernel c = nat_eq c.kernel c.function

-- ---- functions of a module

abbrev pub function_id : Func → ℕ
function_id f = id_of f.head

abbrev pub function_ids : Whole → List ℕ
function_ids w = map function_id w.functions

module _ (w : Whole) where
  -- a type by its id, where there is one
  abbrev pub is_of : (ℕ → Bool) → Option ℕ → Bool
  is_of test None = false
  is_of test (Some t) = test t

  abbrev pub points_to : (ℕ → Bool) → Option (ℕ × ℕ) → Bool
  points_to test None = false
  points_to test (Some p) = (p.0 == storage_class.FUNCTION) && test p.1

  -- a parameter for each plain one, then a 32-bit number for each index, then a pointer for each private object that is passed
  abbrev pub take_privates : List ClType → List TypeId → List Line → Bool
  take_privates cs [] [] = true
  take_privates cs (t ∷ ts) (p ∷ ps) = points_to (stands_for_value w cs t) (pointer w p.type) && take_privates cs ts ps
  take_privates cs _ _ = false

  abbrev pub take_indices : List ClType → ℕ → List TypeId → List Line → Bool
  take_indices cs (suc n) privates (p ∷ ps) = is_of (is_int w 32) p.type && take_indices cs n privates ps
  take_indices cs (suc n) privates [] = false
  take_indices cs zero privates ps = take_privates cs privates ps

  abbrev pub take_plain : List ClType → List Variable → ℕ → List TypeId → List Line → Bool
  take_plain cs [] indices privates ps = take_indices cs indices privates ps
  take_plain cs (v ∷ vs) indices privates (p ∷ ps) = is_of (stands_for_value w cs v.ty) p.type && take_plain cs vs indices privates ps
  take_plain cs (v ∷ vs) indices privates [] = false

  abbrev pub none_of : List Line → Bool
  none_of [] = true
  none_of (p ∷ ps) = false

  abbrev pub takes : List ClType → CopyName → Routine → List Line → Bool
  takes cs c f ps = if is_kernel c then none_of ps else take_plain cs (plain_among cs f.params) (indices_of c.pointers) c.privates ps

-- how many calls there are of a function among lines, and of a copy among calls
abbrev pub one_when : Bool → ℕ
one_when true = 1
one_when false = 0

abbrev pub calls_of_id : ℕ → List Line → ℕ
calls_of_id id [] = 0
calls_of_id id (l ∷ ls) = one_when (has_op op.FUNCTION_CALL l && nat_eq (first l.ids) id) + calls_of_id id ls

abbrev pub calls_of_copy : CopyName → List Calling → ℕ
calls_of_copy c [] = 0
calls_of_copy c (k ∷ ks) = one_when (same_copy c k.copy) + calls_of_copy c ks

-- as many of each function as of each copy
abbrev pub calls_agree : List Line → List Calling → List ℕ → List CopyName → Bool
calls_agree lines ks [] [] = true
calls_agree lines ks (id ∷ ids) (c ∷ cs) = nat_eq (calls_of_id id lines) (calls_of_copy c ks) && calls_agree lines ks ids cs
calls_agree lines ks _ _ = false

module _ (w : Whole) (u : Functions) where
  abbrev pub function_by : CopyName → Option Routine → Func → Bool
  function_by c None f = false
  function_by c (Some r) f = is_of w (stands_for_value w u.types r.result) f.head.type && takes w u.types c r (parameters f.lines)

  abbrev pub is_copied : CopyName → Func → Bool
  is_copied c f = function_by c (slice_get u.functions c.function) f && calls_agree f.lines (calls u c) (function_ids w) (copies u)

  abbrev pub are_copied : List CopyName → List Func → Bool
  are_copied [] [] = true
  are_copied (c ∷ cs) (f ∷ fs) = is_copied c f && are_copied cs fs
  are_copied _ _ = false

  -- The k-th function of the module is the k-th copy.
  abbrev pub AreCopied : Type 0
  AreCopied = are_copied (copies u) w.functions ≡ true

  -- ---- rows

  -- the functions of the kernels, in text order
  abbrev pub function_of_kernel : ℕ → ℕ
  function_of_kernel k = unwrap_or (slice_get (function_ids w) (index_of same_copy (kernel_copy u k) (copies u))) 0

  abbrev pub kernel_functions : List ℕ
  kernel_functions = map function_of_kernel (kernels u)

  -- the functions that have copies
  abbrev pub with_routine : Option Routine → List Routine → List Routine
  with_routine None rs = rs
  with_routine (Some r) rs = r ∷ rs

  abbrev pub copied_functions : List CopyName → List Routine
  copied_functions [] = []
  copied_functions (c ∷ cs) = with_routine (slice_get u.functions c.function) (copied_functions cs)

  -- The reflection rows of the module.
  abbrev pub reflection : Pod → Reflection
  reflection pod = rows_with pod u (copied_functions (copies u)) kernel_functions

  -- ---- in which copy something is asked

  abbrev pub call_at : ℕ → List Calling → Option CopyName
  call_at n [] = None
  call_at n (k ∷ ks) = if nat_eq n k.node then Some k.copy else call_at n ks

  abbrev pub callee_at : NodeId → Option CopyName → Option CopyName
  callee_at n None = None
  callee_at n (Some c) = if nat_eq n.function c.function then call_at n.node (calls u c) else None

  -- By an item of a kernel: in the copy that the nodes of its pending calls lead to, the innermost first, and where none is pending in the kernel's own.
  abbrev pub copy_of_item : ℕ → List NodeId → Option CopyName
  copy_of_item kernel [] = Some (kernel_copy u kernel)
  copy_of_item kernel (n ∷ outer) = callee_at n (copy_of_item kernel outer)

  -- By an invocation: in the copy for which its function stands.
  abbrev pub copy_of_function : ℕ → Option CopyName
  copy_of_function id = slice_get (copies u) (index_of nat_eq id (function_ids w))
