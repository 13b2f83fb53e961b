-- Shared memory: the launch's buffers, the unit's constants, and each group's objects in local memory (OpenCL C 1.2, 6.5 and 6.12.11).
use Rattle.std.specs.Prelude.{ℕ, zero, suc, ◌/◌, ◌%◌, nat_eq, ◌&&◌, Bool, if◌then◌else◌, List, [], ◌∷◌, Option, Some, None, unwrap_or, is_none, slice_get, slice_set, get_or, bit_and, bit_or, bit_xor}
use Rattle.clv_num.specs.Numbers.{add_of, sub_of}
use Rattle.clv_worlds.specs.Worlds.{Shared as Common}
use Rattle.cl_types.specs.declared.builtin.Builtin.{Builtin}
use Rattle.cl_types.specs.declared.builtin.Builtin.TheVariants as builtin
use Rattle.cl_tree.specs.declared.event.Shared.{Shared}
use Rattle.cl_tree.specs.declared.event.Shared.TheVariants as shared
use Rattle.cl_tree.specs.declared.event.Spot.{Spot}
use Rattle.cl_tree.specs.declared.event.Event.{Event}
use Rattle.cl_tree.specs.declared.event.Event.TheVariants as event
use Rattle.cl_tree.specs.declared.unit.ConstantVar.{ConstantVar}
use Rattle.cl_tree.specs.Constants.{is_less}
use Rattle.launch_text.specs.Rules.{LoadedLaunch}
use Rattle.launch_text.specs.WorkItems.{volume, group_of}
use Rattle.cl_common.specs.Bytes.{Bytes, no_bytes, number_at, with_number}
use Rattle.cl_common.specs.Events.{Asked, same_shared}

-- The bytes of the buffers, by their numbers in the launch, and of each group's objects in local memory. Those of constants never change.
pub record SharedMemory : Type 0 where
  pub buffers : List (List ℕ)
  pub locals : (group : ℕ) → Shared → Bytes

-- at first local memory is unset
abbrev pub opening_memory : List (List ℕ) → SharedMemory
opening_memory buffers = record { buffers = buffers; locals = λ group object. no_bytes }

abbrev pub constant_bytes : Option ConstantVar → Bytes
constant_bytes None = no_bytes
constant_bytes (Some c) = slice_get c.bytes

abbrev pub bytes_of : List ConstantVar → ℕ → Shared → SharedMemory → Bytes
bytes_of cs group (shared.Buffer k) m = slice_get (get_or m.buffers k [])
bytes_of cs group (shared.Constant k) m = constant_bytes (slice_get cs k)
bytes_of cs group object m = m.locals group object

-- ---- writing

abbrev pub with_group : ℕ → Shared → Bytes → (ℕ → Shared → Bytes) → ℕ → Shared → Bytes
with_group group object bytes locals g o = if nat_eq g group && same_shared o object then bytes else locals g o

abbrev pub put_at : ℕ → ℕ → ℕ → List ℕ → List ℕ
put_at at zero n bytes = bytes
put_at at (suc count) n bytes = put_at (suc at) count (n / 256) (slice_set bytes at (n % 256))

abbrev pub put_in : ℕ → (List ℕ → List ℕ) → List (List ℕ) → List (List ℕ)
put_in k put [] = []
put_in zero put (b ∷ bs) = put b ∷ bs
put_in (suc k) put (b ∷ bs) = b ∷ put_in k put bs

-- memory where a scalar was written
abbrev pub written : ℕ → Spot → ℕ → Shared → SharedMemory → SharedMemory
written group at n (shared.Buffer k) m = record m { buffers = put_in k (put_at at.offset (at.bits / 8) n) m.buffers }
written group at n (shared.Constant k) m = m
written group at n object m = record m { locals = with_group group object (with_number at.offset (at.bits / 8) n (m.locals group object)) m.locals }

-- ---- events

-- the new value that an atomic leaves, by the old one (6.12.11)
abbrev pub atomic_of : Builtin → Bool → ℕ → List ℕ → ℕ
atomic_of builtin.AtomicAdd signed old (n ∷ ns) = add_of 32 old n
atomic_of builtin.AtomicSub signed old (n ∷ ns) = sub_of 32 old n
atomic_of builtin.AtomicXchg signed old (n ∷ ns) = n
atomic_of builtin.AtomicMin signed old (n ∷ ns) = if is_less 32 signed n old then n else old
atomic_of builtin.AtomicMax signed old (n ∷ ns) = if is_less 32 signed old n then n else old
atomic_of builtin.AtomicAnd signed old (n ∷ ns) = bit_and old n
atomic_of builtin.AtomicOr signed old (n ∷ ns) = bit_or old n
atomic_of builtin.AtomicXor signed old (n ∷ ns) = bit_xor old n
atomic_of builtin.AtomicInc signed old ns = add_of 32 old 1
atomic_of builtin.AtomicDec signed old ns = sub_of 32 old 1
atomic_of builtin.AtomicCmpxchg signed old (compared ∷ n ∷ ns) = if nat_eq old compared then n else old
atomic_of _ signed old ns = old

-- what stands at a spot; None where a byte of it was never set
abbrev pub stands_at : List ConstantVar → ℕ → Spot → SharedMemory → Option ℕ
stands_at cs group at m = number_at (bytes_of cs group at.object m) at.offset (at.bits / 8)

-- What an event asks for. A write and a barrier are answered by 0, which nobody reads.
abbrev pub asked_for : List ConstantVar → ℕ → Event → SharedMemory → Option ℕ
asked_for cs group (event.Read at) m = stands_at cs group at m
asked_for cs group (event.Atomic op signed at args) m = stands_at cs group at m
asked_for cs group _ m = Some 0

-- memory after an event, by its answer
abbrev pub memory_after : ℕ → Event → ℕ → SharedMemory → SharedMemory
memory_after group (event.Write at n) x m = written group at n at.object m
memory_after group (event.Atomic op signed at args) x m = written group at (atomic_of op signed x args) at.object m
memory_after group _ x m = m

-- ---- the items of a launch over this memory

-- A read or an atomic of what was never set has no answer.
abbrev pub shared_by : List ConstantVar → LoadedLaunch → Common Asked SharedMemory
shared_by cs l = record {
  count = volume l.global;
  group = group_of l.global l.local;
  denies = λ item a m. is_none (asked_for cs (group_of l.global l.local item) a.event m);
  reply = λ item a m. unwrap_or (asked_for cs (group_of l.global l.local item) a.event m) 0;
  leave = λ item a x m. memory_after (group_of l.global l.local item) a.event x m;
}
