-- The state of a work-item, and its private memory (C99, 6.2.4 and 6.9.1; OpenCL C 1.2, 6.5).
use Rattle.std.specs.Prelude.{ℕ, suc, ◌/◌, Bool, true, if◌then◌else◌, List, [], ◌∷◌, Option, Some, None}
use Rattle.cl_types.specs.declared.types.ClType.{ClType}
use Rattle.cl_types.specs.declared.types.TypeId.{TypeId}
use Rattle.cl_types.specs.declared.scalars.Scalar.{Scalar as Slot}
use Rattle.launch_text.specs.declared.launch.LaunchSizes.{LaunchSizes}
use Rattle.cl_meaning.specs.Code.{Code}
use Rattle.cl_tree.specs.declared.event.NodeId.{NodeId}
use Rattle.cl_common.specs.Bytes.{Bytes, no_bytes, with_number}
use Rattle.cl_common.specs.Events.{same_nodes}
use Rattle.cl_common.specs.Types.{slots_at}
use Rattle.cl_meaning.specs.Values.{Name, same_name, Pointer, Scalar, Points, patterns_in, Entry}
use Rattle.cl_meaning.specs.Tasks.{Task}
pub use Rattle.cl_meaning.specs.declared.item.Frame.{Frame}

-- ---- states

-- What an item sees: the types and functions of its unit, the sizes and plain arguments of the launch, and its own number there.
pub record Surroundings : Type 0 where
  pub types : List ClType
  pub functions : List Code
  pub launch : LaunchSizes
  pub item : ℕ

-- The private objects of an item: bytes, and the pointers in pointer variables. None is unset.
pub record Memory : Type 0 where
  pub bytes : Name → Bytes
  pub pointers : Name → Option Pointer

-- A loop or a switch of this call: what is done after `break`; of a loop also what is done after `continue`.
pub data Around : Type 0 where
  InLoop : (again behind : List Task) → Around
  InSwitch : (behind : List Task) → Around

-- A call that is pending: what its caller goes on with, and the steps that its node takes at least behind it.
pub record Caller : Type 0 where
  pub todo : List Task
  pub around : List Around
  pub frame : Frame
  pub least : ℕ

-- What is left to do in this call; what was evaluated, the newest first; the private objects; where it is; and the loops and switches around
-- it and the pending calls, the innermost first.
pub record Item : Type 0 where
  pub todo : List Task
  pub stack : List Entry
  pub memory : Memory
  pub frame : Frame
  pub around : List Around
  pub callers : List Caller

-- ---- private memory

-- a variable or parameter of the call that runs
abbrev pub own : Item → Bool → ℕ → Name
own i is_param k = record { calls = i.frame.calls; is_param = is_param; number = k }

abbrev pub with_bytes : Name → Bytes → Memory → Memory
with_bytes name bytes m = record m { bytes = λ n. if same_name n name then bytes else m.bytes n }

abbrev pub with_pointer : Name → Option Pointer → Memory → Memory
with_pointer name p m = record m { pointers = λ n. if same_name n name then p else m.pointers n }

-- nothing of a variable is set
abbrev pub without : Name → Memory → Memory
without name m = with_pointer name None (with_bytes name no_bytes m)

-- nothing is set of what these calls lead to
abbrev pub without_own : List NodeId → Memory → Memory
without_own calls m = record {
  bytes = λ n. if same_nodes n.calls calls then no_bytes else m.bytes n;
  pointers = λ n. if same_nodes n.calls calls then None else m.pointers n;
}

-- Scalars at their offsets; padding keeps its state.
abbrev pub with_scalars : List Slot → List ℕ → Bytes → Bytes
with_scalars (s ∷ ss) (n ∷ ns) bytes = with_scalars ss ns (with_number s.offset (s.bits / 8) n bytes)
with_scalars _ _ bytes = bytes

-- a variable or parameter is set to a value
abbrev pub with_value : List ClType → Name → TypeId → List Scalar → Memory → Memory
with_value cs name ty (Points p ∷ []) m = with_pointer name (Some p) m
with_value cs name ty v m = with_bytes name (with_scalars (slots_at cs ty) (patterns_in v) (m.bytes name)) m

abbrev pub with_params : List ClType → List NodeId → ℕ → List TypeId → List (List Scalar) → Memory → Memory
with_params cs calls k (t ∷ ts) (v ∷ vs) m = with_params cs calls (suc k) ts vs (with_value cs (record { calls = calls; is_param = true; number = k }) t v m)
with_params cs calls k _ _ m = m
