-- The built-in functions of which each component is made by one operator.
use Rattle.std.proofs.Common.{◌≡◌, ℕ, List, refl}
use Rattle.cl_types.specs.declared.types.ClType.{ClType}
use Rattle.cl_types.specs.declared.types.TypeId.{TypeId}
use Rattle.cl_types.specs.declared.builtin.Builtin.{Builtin}
use Rattle.cl_types.specs.declared.builtin.Builtin.TheVariants as builtin
use Rattle.cl_meaning.specs.Expressions.{Operand}
use Rattle.cl_meaning.specs.Endings.{built_in_end, applied_end}

-- none that has tasks of its own
pub record IsApplied (f : Builtin) : Type 0 where
  pub no_get_work_dim : f ≡ builtin.GetWorkDim → ⊥
  pub no_get_global_size : f ≡ builtin.GetGlobalSize → ⊥
  pub no_get_global_id : f ≡ builtin.GetGlobalId → ⊥
  pub no_get_local_size : f ≡ builtin.GetLocalSize → ⊥
  pub no_get_local_id : f ≡ builtin.GetLocalId → ⊥
  pub no_get_num_groups : f ≡ builtin.GetNumGroups → ⊥
  pub no_get_group_id : f ≡ builtin.GetGroupId → ⊥
  pub no_get_global_offset : f ≡ builtin.GetGlobalOffset → ⊥
  pub no_vload : (n : ℕ) → f ≡ builtin.Vload n → ⊥
  pub no_vstore : (n : ℕ) → f ≡ builtin.Vstore n → ⊥
  pub no_barrier : f ≡ builtin.Barrier → ⊥
  pub no_mem_fence : f ≡ builtin.MemFence → ⊥
  pub no_read_mem_fence : f ≡ builtin.ReadMemFence → ⊥
  pub no_write_mem_fence : f ≡ builtin.WriteMemFence → ⊥
  pub no_atomic_add : f ≡ builtin.AtomicAdd → ⊥
  pub no_atomic_sub : f ≡ builtin.AtomicSub → ⊥
  pub no_atomic_xchg : f ≡ builtin.AtomicXchg → ⊥
  pub no_atomic_min : f ≡ builtin.AtomicMin → ⊥
  pub no_atomic_max : f ≡ builtin.AtomicMax → ⊥
  pub no_atomic_and : f ≡ builtin.AtomicAnd → ⊥
  pub no_atomic_or : f ≡ builtin.AtomicOr → ⊥
  pub no_atomic_xor : f ≡ builtin.AtomicXor → ⊥
  pub no_atomic_inc : f ≡ builtin.AtomicInc → ⊥
  pub no_atomic_dec : f ≡ builtin.AtomicDec → ⊥
  pub no_atomic_cmpxchg : f ≡ builtin.AtomicCmpxchg → ⊥

pub is_applied : (cs : List ClType) (f : Builtin) (ty : TypeId) (number : ℕ) (os : List Operand) → IsApplied f → built_in_end cs f ty number os ≡ applied_end cs f ty os
is_applied cs builtin.GetWorkDim ty number os h = absurd (h.no_get_work_dim refl)
is_applied cs builtin.GetGlobalSize ty number os h = absurd (h.no_get_global_size refl)
is_applied cs builtin.GetGlobalId ty number os h = absurd (h.no_get_global_id refl)
is_applied cs builtin.GetLocalSize ty number os h = absurd (h.no_get_local_size refl)
is_applied cs builtin.GetLocalId ty number os h = absurd (h.no_get_local_id refl)
is_applied cs builtin.GetNumGroups ty number os h = absurd (h.no_get_num_groups refl)
is_applied cs builtin.GetGroupId ty number os h = absurd (h.no_get_group_id refl)
is_applied cs builtin.GetGlobalOffset ty number os h = absurd (h.no_get_global_offset refl)
is_applied cs (builtin.Vload n) ty number os h = absurd (h.no_vload n refl)
is_applied cs (builtin.Vstore n) ty number os h = absurd (h.no_vstore n refl)
is_applied cs builtin.Barrier ty number os h = absurd (h.no_barrier refl)
is_applied cs builtin.MemFence ty number os h = absurd (h.no_mem_fence refl)
is_applied cs builtin.ReadMemFence ty number os h = absurd (h.no_read_mem_fence refl)
is_applied cs builtin.WriteMemFence ty number os h = absurd (h.no_write_mem_fence refl)
is_applied cs builtin.AtomicAdd ty number os h = absurd (h.no_atomic_add refl)
is_applied cs builtin.AtomicSub ty number os h = absurd (h.no_atomic_sub refl)
is_applied cs builtin.AtomicXchg ty number os h = absurd (h.no_atomic_xchg refl)
is_applied cs builtin.AtomicMin ty number os h = absurd (h.no_atomic_min refl)
is_applied cs builtin.AtomicMax ty number os h = absurd (h.no_atomic_max refl)
is_applied cs builtin.AtomicAnd ty number os h = absurd (h.no_atomic_and refl)
is_applied cs builtin.AtomicOr ty number os h = absurd (h.no_atomic_or refl)
is_applied cs builtin.AtomicXor ty number os h = absurd (h.no_atomic_xor refl)
is_applied cs builtin.AtomicInc ty number os h = absurd (h.no_atomic_inc refl)
is_applied cs builtin.AtomicDec ty number os h = absurd (h.no_atomic_dec refl)
is_applied cs builtin.AtomicCmpxchg ty number os h = absurd (h.no_atomic_cmpxchg refl)
is_applied cs f ty number os h = refl
