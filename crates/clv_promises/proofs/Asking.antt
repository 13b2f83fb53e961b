-- What the work-items of the unit of the samples ask, in the words of its module's invocations.
use Rattle.std.proofs.Common.{◌≡◌, ℕ, true, false, [], ◌∷◌, refl}
use Rattle.cl_types.specs.declared.builtin.Builtin.TheVariants as builtin
use Rattle.cl_tree.specs.declared.event.NodeId.{NodeId}
use Rattle.cl_tree.specs.declared.event.Shared.{Shared}
use Rattle.cl_tree.specs.declared.event.Shared.TheVariants as shared
use Rattle.cl_tree.specs.declared.event.Spot.{Spot}
use Rattle.cl_tree.specs.declared.event.Event.TheVariants as event
use Rattle.spv_module.specs.declared.op.TheConstants as op
use Rattle.spv_invocations.specs.Events as invocation
use Rattle.clv_promises.specs.Questions.{Meeting, asked_of}
use Rattle.clv_promises.proofs.Samples.{u, m}

-- The kernel is the second function. Its variables are those of a, s and c, the block of n, and that of l; the launch has two buffers.
abbrev here : Meeting
here = record { unit = u; whole = m; kernel = 1; variables = 23 ∷ 30 ∷ 36 ∷ 26 ∷ 39 ∷ []; buffers = 2; words = λ nodes. 99 ∷ nodes }

abbrev spot : Shared → ℕ → ℕ → Spot
spot object offset bits = record { object = object; offset = offset; bits = bits }

abbrev node : ℕ → NodeId
node n = record { function = 1; node = n }

abbrev by : ℕ → invocation.Event → invocation.Asked
by function e = record { function = function; event = e }

-- a write to a buffer, in the kernel itself and in the copy that the call at node 6 reaches
write : asked_of here (record { calls = []; event = event.Write (spot (shared.Buffer 1) 4 32) 9 }) ≡ by 60 (invocation.Write (invocation.InBuffer 1 4 32) 9)
write = refl

write_below : asked_of here (record { calls = node 6 ∷ []; event = event.Write (spot (shared.Buffer 0) 8 32) 9 }) ≡ by 50 (invocation.Write (invocation.InBuffer 0 8 32) 9)
write_below = refl

-- t[2], s[3] and l[1]
constant : asked_of here (record { calls = []; event = event.Read (spot (shared.Constant 0) 2 8) }) ≡ by 60 (invocation.Read (invocation.InBuffer 2 2 8))
constant = refl

sized : asked_of here (record { calls = []; event = event.Read (spot (shared.LocalArgument 2) 12 32) }) ≡ by 60 (invocation.Read (invocation.InGroup 30 (3 ∷ []) 32))
sized = refl

local : asked_of here (record { calls = []; event = event.Read (spot (shared.LocalVariable 0) 2 16) }) ≡ by 60 (invocation.Read (invocation.InGroup 39 (1 ∷ []) 16))
local = refl

-- atomics
least : asked_of here (record { calls = []; event = event.Atomic builtin.AtomicMin true (spot (shared.Buffer 0) 0 32) (5 ∷ []) }) ≡ by 60 (invocation.Atomic op.ATOMIC_S_MIN (invocation.InBuffer 0 0 32) (5 ∷ []))
least = refl

exchanged : asked_of here (record { calls = []; event = event.Atomic builtin.AtomicCmpxchg false (spot (shared.Buffer 0) 0 32) (5 ∷ 6 ∷ []) }) ≡ by 60 (invocation.Atomic op.ATOMIC_COMPARE_EXCHANGE (invocation.InBuffer 0 0 32) (6 ∷ 5 ∷ []))
exchanged = refl

-- a barrier, by the words for the nodes of its chain
barrier : asked_of here (record { calls = node 6 ∷ []; event = event.Barrier (node 6 ∷ record { function = 0; node = 2 } ∷ []) }) ≡ by 50 (invocation.Barrier (99 ∷ 1 ∷ 6 ∷ 0 ∷ 2 ∷ []))
barrier = refl
