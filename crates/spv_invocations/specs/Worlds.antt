-- All invocations of a launch over what they share, in any order (SPIR-V 1.3, section 2.20; Vulkan, 8 and 9.5).
use Rattle.std.specs.Prelude.{ℕ, zero, suc, ◌+◌, ◌/◌, ◌%◌, ◌^◌, Bool, true, false, nat_eq, if◌then◌else◌, List, [], ◌∷◌, replicate, slice_set, slice_index_or, Option, Some, None}
use Rattle.launch_text.specs.WorkItems.{Sizes, volume, group_of}
use Rattle.spv_module.specs.declared.module.Inst.{Inst}
use Rattle.spv_module.specs.declared.enumerant.storage_class.TheConstants as storage_class
use Rattle.spv_module.specs.Options.{◌>>=◌}
use Rattle.spv_module.specs.Instructions.{Said, Variable, said}
use Rattle.spv_value.specs.Views.{number_at}
use Rattle.clv_worlds.specs.Worlds.{Shared, Program}
use Rattle.spv_invocations.specs.Events.{Spot, InBuffer, InGroup, Event, Read, Write, Atomic, Barrier, Asked}
use Rattle.spv_invocations.specs.Start.{Start, Given}
use Rattle.spv_invocations.specs.Values.{Value, Number, Unset, part_at, with_part}
use Rattle.spv_invocations.specs.Operations.{after_atomic}
use Rattle.spv_invocations.specs.Invocation.{Run, invocation, first_run, given_of, shape_of_variable}

-- The bytes of each buffer of the start, by its number; and the variables of each group, by its number.
abbrev pub Buffers : Type 0
Buffers = List (List ℕ)

abbrev pub Locals : Type 0
Locals = List (ℕ × Value)

pub record Memory : Type 0 where
  pub buffers : Buffers
  pub groups : List Locals

-- ---- bytes

-- the n lowest bytes of a number, the lowest first
abbrev pub low_bytes : ℕ → ℕ → List ℕ
low_bytes zero value = []
low_bytes (suc n) value = value % 256 ∷ low_bytes n (value / 256)

-- bytes in the place of those from an offset on; what is past the end is not there
abbrev pub put_at : ℕ → List ℕ → List ℕ → List ℕ
put_at offset [] old = old
put_at offset (b ∷ bs) old = put_at (offset + 1) bs (slice_set old offset b)

abbrev pub put_in : ℕ → ℕ → List ℕ → Buffers → Buffers
put_in n offset bytes [] = []
put_in zero offset bytes (b ∷ bs) = put_at offset bytes b ∷ bs
put_in (suc n) offset bytes (b ∷ bs) = b ∷ put_in n offset bytes bs

-- ---- variables of groups

abbrev pub local_among : Locals → ℕ → Option Value
local_among [] v = None
local_among (l ∷ ls) v = if nat_eq l.0 v then Some l.1 else local_among ls v

abbrev pub with_local : Locals → ℕ → List ℕ → ℕ → Locals
with_local [] v path n = []
with_local (l ∷ ls) v path n = if nat_eq l.0 v then (l.0, with_part l.1 path (Number n)) ∷ ls else l ∷ with_local ls v path n

abbrev pub locals_of : Memory → ℕ → Locals
locals_of m group = slice_index_or m.groups group []

-- what one scalar of a group's variables holds
abbrev pub held_in : Memory → ℕ → ℕ → List ℕ → Option Value
held_in m group v path = local_among (locals_of m group) v >>= λ whole. part_at whole path

-- the variables of a group when a launch begins: those of the module, with nothing set
abbrev pub and_local : ℕ → Option Value → Locals → Locals
and_local v (Some shape) ls = (v, shape) ∷ ls
and_local v None ls = ls

abbrev pub local_by : Given → Said → Locals → Locals
local_by g (Variable t r storage) ls = if nat_eq storage storage_class.WORKGROUP then and_local r (shape_of_variable g t) ls else ls
local_by g _ ls = ls

abbrev pub locals_in : Given → List Inst → Locals
locals_in g [] = []
locals_in g (i ∷ is) = local_by g (said i) (locals_in g is)

-- ---- events

abbrev pub number_of_bytes : Buffers → ℕ → ℕ → ℕ → ℕ
number_of_bytes buffers buffer offset bits = number_at (slice_index_or buffers buffer []) offset (bits / 8)

abbrev pub number_held : Option Value → ℕ
number_held (Some (Number n)) = n
number_held _ = 0

-- the number that a scalar has, in the memory of a group
abbrev pub number_at_spot : Memory → ℕ → Spot → ℕ
number_at_spot m group (InBuffer buffer offset bits) = number_of_bytes m.buffers buffer offset bits
number_at_spot m group (InGroup v path bits) = number_held (held_in m group v path)

abbrev pub with_number : Memory → ℕ → Spot → ℕ → Memory
with_number m group (InBuffer buffer offset bits) n = record m { buffers = put_in buffer offset (low_bytes (bits / 8) n) m.buffers }
with_number m group (InGroup v path bits) n = record m { groups = slice_set m.groups group (with_local (locals_of m group) v path n) }

-- Only variables of groups have scalars that were never set.
abbrev pub is_unset : Option Value → Bool
is_unset (Some (Unset bits)) = true
is_unset _ = false

abbrev pub is_unset_at : Memory → ℕ → Spot → Bool
is_unset_at m group (InBuffer buffer offset bits) = false
is_unset_at m group (InGroup v path bits) = is_unset (held_in m group v path)

-- An event that needs a number which was never set has no answer in memory.
abbrev pub denied : Memory → ℕ → Event → Bool
denied m group (Read at) = is_unset_at m group at
denied m group (Atomic code at ns) = is_unset_at m group at
denied m group _ = false

-- A write and a barrier are answered by 0, which nobody reads.
abbrev pub answer_of : Memory → ℕ → Event → ℕ
answer_of m group (Read at) = number_at_spot m group at
answer_of m group (Atomic code at ns) = number_at_spot m group at
answer_of m group _ = 0

-- the memory after an event and its answer
abbrev pub after_event : ℕ → Event → ℕ → Memory → Memory
after_event group (Write at n) x m = with_number m group at n
after_event group (Atomic code at ns) x m = with_number m group at (after_atomic code (x % 2 ^ 32) ns)
after_event group _ x m = m

-- ---- the world

abbrev pub group_count : Start → ℕ
group_count start = volume start.global / volume start.local

-- what the invocations share when a launch begins
abbrev pub first_memory : List Inst → Start → Memory
first_memory body start = record { buffers = start.buffers; groups = replicate (group_count start) (locals_in (given_of body start 0) body) }

-- The invocations of a grid share the buffers, whose bytes are all set, and those of a group its variables.
abbrev pub shared_over : Sizes → Sizes → Shared Asked Memory
shared_over global local =
    record {
      count = volume global;
      group = group_of global local;
      denies = λ item asked m. denied m (group_of global local item) asked.event;
      reply = λ item asked m. answer_of m (group_of global local item) asked.event;
      leave = λ item asked x m. after_event (group_of global local item) asked.event x m;
    }

-- the chain of a barrier
abbrev pub chain_by : Event → Option (List ℕ)
chain_by (Barrier words) = Some words
chain_by _ = None

abbrev pub gate_of : Asked → Option (List ℕ)
gate_of asked = chain_by asked.event

-- The module's world. Each move of an invocation is a step, and what was never set has any value.
abbrev pub module_world : List Inst → Start → Program Run Asked Asked
module_world body start = record { machine = λ item. invocation (given_of body start item); start = λ item. first_run (given_of body start item); weight = λ run. 1; word = λ asked. asked; gate = gate_of; takes_any = true }
