-- What a work-item of a unit asks, in the words of its invocation.
use Rattle.std.specs.Prelude.{ℕ, ◌+◌, ◌/◌, ◌%◌, nat_eq, Bool, true, false, if◌then◌else◌, List, [], ◌∷◌, ◌++◌, take, Option, Some, None, slice_get, unwrap_or}
use Rattle.cl_types.specs.declared.types.ClType.{ClType}
use Rattle.cl_types.specs.declared.types.TypeId.{TypeId}
use Rattle.cl_types.specs.declared.scalars.Scalar.{Scalar as Slot}
use Rattle.cl_types.specs.declared.builtin.Builtin.{Builtin}
use Rattle.cl_types.specs.declared.builtin.Builtin.TheVariants as builtin
use Rattle.cl_types.specs.Layout.{offset_of}
use Rattle.cl_tree.specs.declared.event.NodeId.{NodeId}
use Rattle.cl_tree.specs.declared.event.Shared.{Shared}
use Rattle.cl_tree.specs.declared.event.Shared.TheVariants as shared
use Rattle.cl_tree.specs.declared.event.Spot.{Spot}
use Rattle.cl_tree.specs.declared.event.Event.{Event}
use Rattle.cl_tree.specs.declared.event.Event.TheVariants as event
use Rattle.cl_tree.specs.declared.unit.Variable.{Variable}
use Rattle.cl_tree.specs.Statements.{is_local}
use Rattle.cl_common.specs.Events.{Asked, numbers_of}
use Rattle.cl_common.specs.Types.{size_at, slots_at}
use Rattle.spv_module.specs.declared.op.TheConstants as op
use Rattle.spv_types_rules.specs.Lines.{Whole}
use Rattle.spv_invocations.specs.Events.{InBuffer, InGroup}
use Rattle.spv_invocations.specs.Events as invocation
use Rattle.cl_provenance.specs.Routines.{Routine, Unit as Functions}
use Rattle.cl_specialise.specs.Copies.{CopyName, same_copy, index_of, copies}
use Rattle.vk_layout.specs.Rows.{Taken, Sized, a_buffer, a_sized, a_plain, all_of, number_of, is_some, taken_of, block, constant_types}
use Rattle.clv_promises.specs.Copied.{function_ids, copy_of_item}

-- What the two sides have in common on a launch of a kernel: the unit, the module's functions, the kernel by its number among the unit's functions, its variables in the order in which its interface wants them, the number of the launch's buffers, behind which the constant data stands, and the words of barriers.
pub record Meeting : Type 0 where
  pub unit : Functions
  pub whole : Whole
  pub kernel : ℕ
  pub variables : List ℕ
  pub buffers : ℕ
  pub words : List ℕ → List ℕ

-- ---- which function asks

abbrev pub function_of_copy : Whole → Functions → Option CopyName → ℕ
function_of_copy w u None = 0
function_of_copy w u (Some c) = unwrap_or (slice_get (function_ids w) (index_of same_copy c (copies u))) 0

-- the function that stands for the copy that pending calls reach, the innermost first: where there are none, the kernel's own
abbrev pub function_reached : Meeting → List NodeId → ℕ
function_reached m pending = function_of_copy m.whole m.unit (copy_of_item m.whole m.unit m.kernel pending)

-- ---- where a scalar lies

abbrev pub path_among : ℕ → List Slot → List ℕ
path_among offset [] = []
path_among offset (s ∷ ss) = if nat_eq s.offset offset then s.path else path_among offset ss

-- the path of the scalar of a type at an offset, and of an array of elements of a type
abbrev pub path_in : List ClType → TypeId → ℕ → List ℕ
path_in cs t offset = path_among offset (slots_at cs t)

abbrev pub path_in_elements : List ClType → TypeId → ℕ → List ℕ
path_in_elements cs t offset = (offset / size_at cs t) ∷ path_in cs t (offset % size_at cs t)

abbrev pub routine_taken : List ClType → Option Routine → List Taken
routine_taken cs None = []
routine_taken cs (Some f) = taken_of cs f

abbrev pub kernel_taken : Meeting → List Taken
kernel_taken m = routine_taken m.unit.types (slice_get m.unit.functions m.kernel)

-- Each argument that is no plain one has a variable, then the plain ones have a block, and then each `__local` variable has its own.
abbrev pub own_variables : List Taken → ℕ
own_variables as_ = number_of a_buffer as_ + number_of a_sized as_

abbrev pub variable_at : Meeting → ℕ → ℕ
variable_at m n = unwrap_or (slice_get m.variables n) 0

abbrev pub argument_variable : Meeting → ℕ → ℕ
argument_variable m k = variable_at m (own_variables (take k (kernel_taken m)))

abbrev pub plain_blocks : List Taken → ℕ
plain_blocks as_ = if is_some (all_of a_plain as_) then 1 else 0

abbrev pub local_variable : Meeting → ℕ → ℕ
local_variable m k = variable_at m (own_variables (kernel_taken m) + plain_blocks (kernel_taken m) + k)

-- the types of these
abbrev pub sized_type : Option Taken → TypeId
sized_type (Some (Sized element)) = element
sized_type _ = record { 0 = 0 }

abbrev pub argument_type : Meeting → ℕ → TypeId
argument_type m k = sized_type (slice_get (kernel_taken m) k)

abbrev pub local_types : List Variable → List TypeId
local_types [] = []
local_types (v ∷ vs) = (if is_local v.space then v.ty ∷ [] else []) ++ local_types vs

abbrev pub routine_locals : Option Routine → List TypeId
routine_locals None = []
routine_locals (Some f) = local_types f.vars

abbrev pub local_type : Meeting → ℕ → TypeId
local_type m k = unwrap_or (slice_get (routine_locals (slice_get m.unit.functions m.kernel)) k) (record { 0 = 0 })

abbrev pub constant_offset : Meeting → ℕ → ℕ
constant_offset m k = offset_of (block m.unit.types (constant_types m.unit.types m.unit.constants)) k

-- Buffers have the same numbers and offsets. A constant stands at its member's offset in the constant block. What stands in local memory is reached by a path.
abbrev pub spot_in : Meeting → Shared → ℕ → ℕ → invocation.Spot
spot_in m (shared.Buffer k) offset bits = InBuffer k offset bits
spot_in m (shared.Constant k) offset bits = InBuffer m.buffers (constant_offset m k + offset) bits
spot_in m (shared.LocalArgument k) offset bits = InGroup (argument_variable m k) (path_in_elements m.unit.types (argument_type m k) offset) bits
spot_in m (shared.LocalVariable k) offset bits = InGroup (local_variable m k) (path_in m.unit.types (local_type m k) offset) bits

abbrev pub spot_of : Meeting → Spot → invocation.Spot
spot_of m at = spot_in m at.object at.offset at.bits

-- ---- events

abbrev pub code_of : Builtin → Bool → ℕ
code_of builtin.AtomicAdd signed = op.ATOMIC_I_ADD
code_of builtin.AtomicSub signed = op.ATOMIC_I_SUB
code_of builtin.AtomicXchg signed = op.ATOMIC_EXCHANGE
code_of builtin.AtomicMin true = op.ATOMIC_S_MIN
code_of builtin.AtomicMin false = op.ATOMIC_U_MIN
code_of builtin.AtomicMax true = op.ATOMIC_S_MAX
code_of builtin.AtomicMax false = op.ATOMIC_U_MAX
code_of builtin.AtomicAnd signed = op.ATOMIC_AND
code_of builtin.AtomicOr signed = op.ATOMIC_OR
code_of builtin.AtomicXor signed = op.ATOMIC_XOR
code_of builtin.AtomicInc signed = op.ATOMIC_I_INCREMENT
code_of builtin.AtomicDec signed = op.ATOMIC_I_DECREMENT
code_of builtin.AtomicCmpxchg signed = op.ATOMIC_COMPARE_EXCHANGE
code_of _ signed = 0

-- OpAtomicCompareExchange has the new value before that with which the old one is compared (SPIR-V 3.32.18).
abbrev pub operands_of : Builtin → List ℕ → List ℕ
operands_of builtin.AtomicCmpxchg (compared ∷ value ∷ []) = value ∷ compared ∷ []
operands_of f ns = ns

-- An unspecified value is never asked: it is the number of a move.
abbrev pub event_of : Meeting → Event → invocation.Event
event_of m (event.Read at) = invocation.Read (spot_of m at)
event_of m (event.Write at value) = invocation.Write (spot_of m at) value
event_of m (event.Atomic f signed at args) = invocation.Atomic (code_of f signed) (spot_of m at) (operands_of f args)
event_of m (event.Barrier chain) = invocation.Barrier (m.words (numbers_of chain))
event_of m (event.Free bits) = invocation.Read (InBuffer m.buffers 0 bits)

-- The same question, asked in the function that stands for the copy that the pending calls reach.
abbrev pub asked_of : Meeting → Asked → invocation.Asked
asked_of m a = record { function = function_reached m a.calls; event = event_of m a.event }
