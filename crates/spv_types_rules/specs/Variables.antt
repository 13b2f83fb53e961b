-- Rules 16 to 24: variables, decorations, memory that isn't changed, pointers (SPIR-V 2.16.1 and 3.20; Vulkan, A.1 and 15.6).
use Rattle.std.specs.Prelude.{ℕ, Bool, true, false, not, ◌==◌, ◌&&◌, ◌||◌, nat_lt, nat_le, length, if◌then◌else◌, List, [], ◌∷◌, slice_get, Option, Some, None}
use Rattle.std.specs.List.{list_any}
use Rattle.spv_module.specs.declared.op.TheConstants as op
use Rattle.spv_module.specs.declared.enumerant.storage_class.TheConstants as storage_class
use Rattle.spv_module.specs.declared.enumerant.decoration.TheConstants as decoration
use Rattle.spv_module.specs.declared.enumerant.built_in.TheConstants as built_in
use Rattle.spv_module.specs.Grammar.{is_among}
use Rattle.spv_types_rules.specs.Lines.{Line, Whole, Spot, only, on, has_op, has_op_among, array_opcodes, atomic_opcodes, id_of, first, second, rest, names, is_some_of, defined, function_of, is_op, is_op_of, is_int, storage, pointee, held, within, is_under, decorations, is_decorated, is_member_decorated, literal, below}

-- Rule 16. A variable has the storage class of its pointer type. Outside functions that is Input, Workgroup, StorageBuffer or PushConstant; inside it is Function, and the variables stand first in the first block.
abbrev pub is_storage : ℕ → Option ℕ → Bool
is_storage n None = false
is_storage n (Some m) = m == n

-- no label stands on the way back to the OpFunction
abbrev pub is_first_block : List Line → Bool
is_first_block [] = false
is_first_block (l ∷ ls) = if has_op op.FUNCTION l then true else (not (has_op op.LABEL l) && is_first_block ls)

abbrev pub stands_first : List Line → Bool
stands_first [] = false
stands_first (l ∷ ls) = if has_op op.VARIABLE l then stands_first ls else (has_op op.LABEL l && is_first_block ls)

abbrev pub is_in_place : Spot → Bool
is_in_place s = if s.here.inside then (first s.here.numbers == storage_class.FUNCTION) && stands_first s.before else not (first s.here.numbers == storage_class.FUNCTION)

abbrev pub keeps_storage : Spot → Bool
keeps_storage = on op.VARIABLE (λ s. is_storage (first s.here.numbers) (storage s.whole s.here.type) && is_in_place s)

-- Rule 17. A StorageBuffer variable points to a Block struct, and has one descriptor set and one binding (Vulkan, 15.6.3).
abbrev pub is_block_struct : Whole → Option ℕ → Bool
is_block_struct w None = false
is_block_struct w (Some t) = is_op w op.TYPE_STRUCT t && is_decorated w t decoration.BLOCK

abbrev pub is_one : List (List ℕ) → Bool
is_one (_ ∷ []) = true
is_one _ = false

abbrev pub is_buffer : Line → Bool
is_buffer l = has_op op.VARIABLE l && (first l.numbers == storage_class.STORAGE_BUFFER)

abbrev pub is_bound : Whole → Line → Bool
is_bound w v = is_block_struct w (pointee w v.type) && is_one (decorations w (id_of v) decoration.DESCRIPTOR_SET) && is_one (decorations w (id_of v) decoration.BINDING)

abbrev pub keeps_bound : Spot → Bool
keeps_bound s = only (is_buffer s.here) (λ s. is_bound s.whole s.here) s

-- Rule 18. No two of them have the same set and binding.
abbrev pub first_literal : List (List ℕ) → ℕ
first_literal [] = 0
first_literal (literals ∷ _) = first literals

abbrev pub is_same_place : Whole → ℕ → ℕ → Bool
is_same_place w v u =
    (first_literal (decorations w v decoration.DESCRIPTOR_SET) == first_literal (decorations w u decoration.DESCRIPTOR_SET))
    && (first_literal (decorations w v decoration.BINDING) == first_literal (decorations w u decoration.BINDING))

abbrev pub keeps_apart : Spot → Bool
keeps_apart s = only (is_buffer s.here) (λ s. not (list_any (λ l. is_buffer l && is_same_place s.whole (id_of s.here) (id_of l)) s.before)) s

-- whether the lines of a function name an id
abbrev pub function_names : Whole → ℕ → ℕ → Bool
function_names w id f = list_any (names id) (function_of w f)

-- the ids of the variables outside functions, of one storage class, that a function or one below it names
abbrev pub is_used : Whole → ℕ → ℕ → Line → Bool
is_used w f storage v = not v.inside && (first v.numbers == storage) && list_any (function_names w (id_of v)) (below w f)

abbrev pub used_in : Whole → ℕ → ℕ → List Line → List ℕ
used_in w f storage [] = []
used_in w f storage (v ∷ vs) = if is_used w f storage v then id_of v ∷ used_in w f storage vs else used_in w f storage vs

abbrev pub used : Whole → ℕ → ℕ → List ℕ
used w f storage = used_in w f storage w.variables

-- Rule 19. A PushConstant variable points to a Block struct, and an entry point uses at most one (Vulkan, A.1). It uses what its function names, or one that this calls, directly or not.
abbrev pub keeps_push : Spot → Bool
keeps_push s =
    on op.VARIABLE (λ s. only (first s.here.numbers == storage_class.PUSH_CONSTANT) (λ s. is_block_struct s.whole (pointee s.whole s.here.type)) s) s
    && on op.ENTRY_POINT (λ s. nat_le (length (used s.whole (first s.here.ids) storage_class.PUSH_CONSTANT)) 1) s

-- Rule 20. An Input variable is a vector of three 32-bit ints, and has one built-in: NumWorkgroups, WorkgroupId, LocalInvocationId or GlobalInvocationId (Vulkan, 15.9).
abbrev pub input_built_ins : List ℕ
input_built_ins = built_in.NUM_WORKGROUPS ∷ built_in.WORKGROUP_ID ∷ built_in.LOCAL_INVOCATION_ID ∷ built_in.GLOBAL_INVOCATION_ID ∷ []

abbrev pub is_ids_vector_line : Whole → Line → Bool
is_ids_vector_line w l = has_op op.TYPE_VECTOR l && (first l.numbers == 3) && is_int w 32 (first l.ids)

abbrev pub is_ids_vector : Whole → Option ℕ → Bool
is_ids_vector w None = false
is_ids_vector w (Some t) = is_some_of (defined w t) (is_ids_vector_line w)

abbrev pub is_built_in_of : List ℕ → List (List ℕ) → Bool
is_built_in_of ns (literals ∷ []) = is_among ns (first literals)
is_built_in_of ns _ = false

abbrev pub keeps_input : Spot → Bool
keeps_input = on op.VARIABLE (λ s. only (first s.here.numbers == storage_class.INPUT) (λ s.
    is_ids_vector s.whole (pointee s.whole s.here.type) && is_built_in_of input_built_ins (decorations s.whole (id_of s.here) decoration.BUILT_IN)) s)

-- Rule 21. A decoration stands on a target of its kind, once (SPIR-V 3.20).
abbrev pub is_variable_of : ℕ → Line → Bool
is_variable_of storage l = has_op op.VARIABLE l && (first l.numbers == storage)

-- a variable, or a parameter that is a pointer
abbrev pub is_memory : Whole → Line → Bool
is_memory w l = has_op op.VARIABLE l || (has_op op.FUNCTION_PARAMETER l && is_op_of w op.TYPE_POINTER l.type)

abbrev pub is_target : Whole → ℕ → List ℕ → Line → Bool
is_target w kind literals l =
    if kind == decoration.SPEC_ID then has_op op.SPEC_CONSTANT l else (
    if kind == decoration.BLOCK then has_op op.TYPE_STRUCT l else (
    if kind == decoration.ARRAY_STRIDE then has_op_among array_opcodes l else (
    if kind == decoration.BUILT_IN then (if first literals == built_in.WORKGROUP_SIZE then has_op_among (op.CONSTANT_COMPOSITE ∷ op.SPEC_CONSTANT_COMPOSITE ∷ []) l else is_variable_of storage_class.INPUT l) else (
    if is_among (decoration.RESTRICT ∷ decoration.ALIASED ∷ decoration.NON_WRITABLE ∷ []) kind then is_memory w l else
    is_among (decoration.BINDING ∷ decoration.DESCRIPTOR_SET ∷ []) kind && is_buffer l))))

abbrev pub is_member_target : ℕ → ℕ → Line → Bool
is_member_target member kind l = has_op op.TYPE_STRUCT l && nat_lt member (length l.ids) && is_among (decoration.OFFSET ∷ decoration.NON_WRITABLE ∷ []) kind

abbrev pub is_same_mark : Line → Line → Bool
is_same_mark l m = has_op l.op m && (first l.ids == first m.ids) && (first l.numbers == first m.numbers) && (has_op op.DECORATE l || (second l.numbers == second m.numbers))

abbrev pub keeps_marks : Spot → Bool
keeps_marks s =
    on op.DECORATE (λ s. is_some_of (defined s.whole (first s.here.ids)) (is_target s.whole (first s.here.numbers) (rest s.here.numbers)) && not (list_any (is_same_mark s.here) s.before)) s
    && on op.MEMBER_DECORATE (λ s. is_some_of (defined s.whole (first s.here.ids)) (is_member_target (first s.here.numbers) (second s.here.numbers)) && not (list_any (is_same_mark s.here) s.before)) s

-- Rule 22. Memory in Input or PushConstant, or decorated NonWritable, isn't changed: no store and no atomic names it. What a pointer names is reached from a variable or parameter by its chains' indices; a member on the way or below may be decorated too.
-- what a pointer leads to: whether it is read-only by what was on the way, and the type, if there is one
pub record Place : Type 0 where
  pub fixed : Bool
  pub type : Option ℕ

abbrev pub member_by : Line → Option ℕ → Option ℕ
member_by l None = None
member_by l (Some n) = slice_get l.ids n

abbrev pub is_fixed_member : Whole → ℕ → Option ℕ → Bool
is_fixed_member w t None = false
is_fixed_member w t (Some n) = is_member_decorated w t n decoration.NON_WRITABLE

abbrev pub head_of : List ℕ → Option ℕ
head_of [] = None
head_of (a ∷ _) = Some a

abbrev pub step_in : Whole → Bool → ℕ → Option Line → ℕ → Place
step_in w fixed t None index = record { fixed = fixed; type = None }
step_in w fixed t (Some l) index =
    if has_op op.TYPE_STRUCT l then record { fixed = fixed || is_fixed_member w t (literal w index); type = member_by l (literal w index) }
    else record { fixed = fixed; type = head_of (held l) }

abbrev pub step_from : Whole → Bool → Option ℕ → ℕ → Place
step_from w fixed None index = record { fixed = fixed; type = None }
step_from w fixed (Some t) index = step_in w fixed t (defined w t) index

abbrev pub steps_from : Whole → Place → List ℕ → Place
steps_from w p [] = p
steps_from w p (index ∷ is) = steps_from w (step_from w p.fixed p.type index) is

abbrev pub root : Whole → ℕ → Option Line → Place
root w id None = record { fixed = false; type = None }
root w id (Some l) = record {
  fixed = is_storage storage_class.INPUT (storage w l.type) || is_storage storage_class.PUSH_CONSTANT (storage w l.type) || is_decorated w id decoration.NON_WRITABLE;
  type = pointee w l.type;
}

abbrev pub chain_base : Option Line → Option ℕ
chain_base None = None
chain_base (Some l) = if has_op op.ACCESS_CHAIN l then head_of l.ids else None

abbrev pub indices : Option Line → List ℕ
indices None = []
indices (Some l) = rest l.ids

abbrev pub place_by : Whole → (ℕ → Place) → ℕ → Option ℕ → Place
place_by w place id None = root w id (defined w id)
place_by w place id (Some base) = steps_from w (place base) (indices (defined w id))

-- A chain begins at another, or at no chain; no way back is longer than the module.
abbrev pub place_from : Whole → List Line → ℕ → Place
place_from w [] id = root w id (defined w id)
place_from w (_ ∷ fuel) id = place_by w (place_from w fuel) id (chain_base (defined w id))

abbrev pub has_fixed_member : Whole → ℕ → Line → Bool
has_fixed_member w t m = has_op op.MEMBER_DECORATE m && (first m.ids == t) && (second m.numbers == decoration.NON_WRITABLE)

abbrev pub holds_fixed : Whole → Option ℕ → Bool
holds_fixed w None = false
holds_fixed w (Some t) = list_any (λ u. list_any (has_fixed_member w u) w.marks) (within w t)

abbrev pub is_fixed : Whole → Place → Bool
is_fixed w p = p.fixed || holds_fixed w p.type

abbrev pub keeps_fixed : Spot → Bool
keeps_fixed s = only (has_op_among (op.STORE ∷ atomic_opcodes) s.here) (λ s. not (is_fixed s.whole (place_from s.whole s.whole.lines (first s.here.ids)))) s

-- Rule 23. No bool stands under StorageBuffer, PushConstant or Workgroup (SPIR-V 2.16.1).
abbrev pub shared_storage : List ℕ
shared_storage = storage_class.STORAGE_BUFFER ∷ storage_class.PUSH_CONSTANT ∷ storage_class.WORKGROUP ∷ []

abbrev pub keeps_bools : Spot → Bool
keeps_bools = on op.TYPE_BOOL (λ s. not (is_under s.whole shared_storage (id_of s.here)))

-- Rule 24. Pointers come from variables, parameters and access chains alone. (A function whose result type is a pointer makes none.)
abbrev pub keeps_pointers : Spot → Bool
keeps_pointers s = not (is_op_of s.whole op.TYPE_POINTER s.here.type) || has_op_among (op.FUNCTION ∷ op.VARIABLE ∷ op.ACCESS_CHAIN ∷ op.FUNCTION_PARAMETER ∷ []) s.here
