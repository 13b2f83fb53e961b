-- All invocations of a launch over its buffers, in any order.
use Rattle.std.specs.Prelude.{ℕ, zero, suc, ◌+◌, ◌/◌, ◌%◌, true, false, List, [], ◌∷◌, slice_set, Option, None}
use Rattle.launch_text.specs.WorkItems.{Sizes, volume, group_of}
use Rattle.spv_module.specs.declared.module.Inst.{Inst}
use Rattle.clv_worlds.specs.Worlds.{Shared, Program}
use Rattle.spv_meaning.specs.Events.{Event, Write, Asked}
use Rattle.spv_meaning.specs.Start.{Start}
use Rattle.spv_meaning.specs.Invocation.{Run, invocation, first_run, given_of}

-- The bytes of each buffer of the launch, by its number.
abbrev pub Buffers : Type 0
Buffers = List (List ℕ)

-- the n lowest bytes of a number, the lowest first
abbrev pub low_bytes : ℕ → ℕ → List ℕ
low_bytes zero value = []
low_bytes (suc n) value = value % 256 ∷ low_bytes n (value / 256)

-- bytes in the place of those from an offset on; what is past the end is not there
abbrev pub put_at : ℕ → List ℕ → List ℕ → List ℕ
put_at offset [] old = old
put_at offset (b ∷ bs) old = put_at (offset + 1) bs (slice_set old offset b)

abbrev pub put_in : ℕ → ℕ → List ℕ → Buffers → Buffers
put_in n offset bytes [] = []
put_in zero offset bytes (b ∷ bs) = put_at offset bytes b ∷ bs
put_in (suc n) offset bytes (b ∷ bs) = b ∷ put_in n offset bytes bs

-- the buffers after an event
abbrev pub after_event : Event → Buffers → Buffers
after_event (Write at value) bs = put_in at.buffer at.offset (low_bytes (at.bits / 8) value) bs

-- The invocations of a grid share the buffers, whose bytes are all set. A write is answered by 0, which nobody reads.
abbrev pub shared_over : Sizes → Sizes → Shared Asked Buffers
shared_over global local = record { count = volume global; group = group_of global local; denies = λ item asked buffers. false; reply = λ item asked buffers. 0; leave = λ item asked answer buffers. after_event asked.event buffers }

-- No question so far is a barrier.
abbrev pub no_gate : Asked → Option (List ℕ)
no_gate asked = None

-- The module's world. Each move of an invocation is a step.
abbrev pub module_world : List Inst → Start → Program Run Asked Asked
module_world body start = record { machine = λ item. invocation (given_of body start item); start = λ item. first_run (given_of body start item); weight = λ run. 1; word = λ asked. asked; gate = no_gate; takes_any = true }
