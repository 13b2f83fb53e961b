-- The names of the built-in functions (OpenCL C 1.2, 6.12), each with how its arguments fit it.
use Rattle.std.specs.Prelude.{ℕ, Bool, true, false, if◌then◌else◌, List, [], ◌∷◌, ◌++◌, map, Option, Some, None, codes, bytes_eq}
use Rattle.cl_types.specs.declared.builtin.Builtin.{Builtin}
use Rattle.cl_types.specs.declared.builtin.Builtin.TheVariants as builtin
use Rattle.cl_builtins.specs.declared.kind.Gentype.{Gentype}
use Rattle.cl_builtins.specs.declared.name.Rule.{Rule}
use Rattle.cl_builtins.specs.declared.name.Rule.TheVariants as rule

abbrev pub Entry : Type 0
Entry = Builtin × Rule

-- what stands beside a name in a table
abbrev pub lookup : {A : Type 0} → List (List ℕ × A) → List ℕ → Option A
lookup [] name = None
lookup (e ∷ es) name = if bytes_eq name e.0 then Some e.1 else lookup es name

-- the table with this before each name; with this behind each, and something else beside it; and with something else alone
abbrev pub before : {A : Type 0} → List ℕ → List (List ℕ × A) → List (List ℕ × A)
before word es = map (λ e. (word ++ e.0, e.1)) es

abbrev pub behind : {A B : Type 0} → List ℕ → (A → B) → List (List ℕ × A) → List (List ℕ × B)
behind word f es = map (λ e. (e.0 ++ word, f e.1)) es

abbrev pub beside : {A B : Type 0} → (A → B) → List (List ℕ × A) → List (List ℕ × B)
beside f es = map (λ e. (e.0, f e.1)) es

-- ---- the integer types by their names: scalars, and vectors of 2, 3 and 4

abbrev pub integer : ℕ → Bool → Gentype
integer bits signed = record { bits = bits; signed = signed; count = 1 }

unfoldable pub scalars : List (List ℕ × Gentype)
scalars =
    (codes "char", integer 8 true) ∷ (codes "uchar", integer 8 false) ∷ (codes "short", integer 16 true) ∷ (codes "ushort", integer 16 false) ∷
    (codes "int", integer 32 true) ∷ (codes "uint", integer 32 false) ∷ (codes "long", integer 64 true) ∷ (codes "ulong", integer 64 false) ∷ []

abbrev pub many : ℕ → Gentype → Gentype
many n t = record t { count = n }

unfoldable pub with_count : List ℕ → ℕ → List (List ℕ × Gentype)
with_count digits n = behind digits (many n) scalars

unfoldable pub types : List (List ℕ × Gentype)
types = scalars ++ (with_count (codes "2") 2 ++ (with_count (codes "3") 3 ++ with_count (codes "4") 4))

-- ---- the functions

-- work-items (OpenCL C 1.2, 6.12.1)
unfoldable pub work_items : List (List ℕ × Entry)
work_items =
    (codes "get_work_dim", (builtin.GetWorkDim, rule.Nothing)) ∷
    (codes "get_global_size", (builtin.GetGlobalSize, rule.Dimension)) ∷
    (codes "get_global_id", (builtin.GetGlobalId, rule.Dimension)) ∷
    (codes "get_local_size", (builtin.GetLocalSize, rule.Dimension)) ∷
    (codes "get_local_id", (builtin.GetLocalId, rule.Dimension)) ∷
    (codes "get_num_groups", (builtin.GetNumGroups, rule.Dimension)) ∷
    (codes "get_group_id", (builtin.GetGroupId, rule.Dimension)) ∷
    (codes "get_global_offset", (builtin.GetGlobalOffset, rule.Dimension)) ∷
    []

-- integers (6.12.3)
unfoldable pub arithmetic : List (List ℕ × Entry)
arithmetic =
    (codes "abs", (builtin.Abs, (rule.Unsigned 1))) ∷
    (codes "abs_diff", (builtin.AbsDiff, (rule.Unsigned 2))) ∷
    (codes "add_sat", (builtin.AddSat, (rule.Alike 2))) ∷
    (codes "sub_sat", (builtin.SubSat, (rule.Alike 2))) ∷
    (codes "mad_sat", (builtin.MadSat, (rule.Alike 3))) ∷
    (codes "hadd", (builtin.Hadd, (rule.Alike 2))) ∷
    (codes "rhadd", (builtin.Rhadd, (rule.Alike 2))) ∷
    (codes "min", (builtin.Min, (rule.Limited 2))) ∷
    (codes "max", (builtin.Max, (rule.Limited 2))) ∷
    (codes "clamp", (builtin.Clamp, (rule.Limited 3))) ∷
    []

-- more of them
unfoldable pub bitwise : List (List ℕ × Entry)
bitwise =
    (codes "clz", (builtin.Clz, (rule.Alike 1))) ∷
    (codes "popcount", (builtin.Popcount, (rule.Alike 1))) ∷
    (codes "mul_hi", (builtin.MulHi, (rule.Alike 2))) ∷
    (codes "mad_hi", (builtin.MadHi, (rule.Alike 3))) ∷
    (codes "mul24", (builtin.Mul24, (rule.Narrow 2))) ∷
    (codes "mad24", (builtin.Mad24, (rule.Narrow 3))) ∷
    (codes "rotate", (builtin.Rotate, (rule.Alike 2))) ∷
    (codes "upsample", (builtin.Upsample, rule.Upsample)) ∷
    []

-- relations (6.12.6)
unfoldable pub relations : List (List ℕ × Entry)
relations =
    (codes "any", (builtin.Any, rule.Test)) ∷
    (codes "all", (builtin.All, rule.Test)) ∷
    (codes "select", ((builtin.Select false), rule.Select)) ∷
    []

-- vectors in memory (6.12.7)
unfoldable pub vectors : List (List ℕ × Entry)
vectors =
    (codes "vload2", ((builtin.Vload 2), (rule.Load 2))) ∷
    (codes "vload3", ((builtin.Vload 3), (rule.Load 3))) ∷
    (codes "vload4", ((builtin.Vload 4), (rule.Load 4))) ∷
    (codes "vstore2", ((builtin.Vstore 2), (rule.Store 2))) ∷
    (codes "vstore3", ((builtin.Vstore 3), (rule.Store 3))) ∷
    (codes "vstore4", ((builtin.Vstore 4), (rule.Store 4))) ∷
    []

-- barriers and fences (6.12.8 and 6.12.9)
unfoldable pub fences : List (List ℕ × Entry)
fences =
    (codes "barrier", (builtin.Barrier, rule.Fence)) ∷
    (codes "mem_fence", (builtin.MemFence, rule.Fence)) ∷
    (codes "read_mem_fence", (builtin.ReadMemFence, rule.Fence)) ∷
    (codes "write_mem_fence", (builtin.WriteMemFence, rule.Fence)) ∷
    []

-- atomics (6.12.11)
unfoldable pub atomics : List (List ℕ × Entry)
atomics =
    (codes "atomic_add", (builtin.AtomicAdd, (rule.Atomic 1))) ∷
    (codes "atomic_sub", (builtin.AtomicSub, (rule.Atomic 1))) ∷
    (codes "atomic_xchg", (builtin.AtomicXchg, (rule.Atomic 1))) ∷
    (codes "atomic_min", (builtin.AtomicMin, (rule.Atomic 1))) ∷
    (codes "atomic_max", (builtin.AtomicMax, (rule.Atomic 1))) ∷
    (codes "atomic_and", (builtin.AtomicAnd, (rule.Atomic 1))) ∷
    (codes "atomic_or", (builtin.AtomicOr, (rule.Atomic 1))) ∷
    (codes "atomic_xor", (builtin.AtomicXor, (rule.Atomic 1))) ∷
    (codes "atomic_inc", (builtin.AtomicInc, (rule.Atomic 0))) ∷
    (codes "atomic_dec", (builtin.AtomicDec, (rule.Atomic 0))) ∷
    (codes "atomic_cmpxchg", (builtin.AtomicCmpxchg, (rule.Atomic 2))) ∷
    []

unfoldable pub plain : List (List ℕ × Entry)
plain = work_items ++ (arithmetic ++ (bitwise ++ (relations ++ (vectors ++ (fences ++ atomics)))))

-- convert_R and convert_R_sat (6.2.3), and as_R (6.2.4), for each integer type R
abbrev pub convert_to : Bool → Gentype → Entry
convert_to sat to = (builtin.Convert to.bits to.signed sat, rule.Convert to)

abbrev pub read_as : Gentype → Entry
read_as to = (builtin.As, rule.Reread to)

unfoldable pub conversions : List (List ℕ × Entry)
conversions = beside (convert_to false) types ++ behind (codes "_sat") (convert_to true) types

unfoldable pub rereadings : List (List ℕ × Entry)
rereadings = beside read_as types

unfoldable pub entries : List (List ℕ × Entry)
entries = plain ++ (before (codes "convert_") conversions ++ before (codes "as_") rereadings)
