-- Rules 36 to 38, 40 to 42 and 44: what instructions take and make (SPIR-V 3.32).
use Rattle.std.specs.Prelude.{ℕ, ◌+◌, ◌*◌, ◌^◌, Bool, true, false, not, ◌==◌, ◌&&◌, ◌||◌, nat_lt, length, if◌then◌else◌, List, [], ◌∷◌, slice_get, Option, Some, None}
use Rattle.std.specs.List.{list_all}
use Rattle.spv_module.specs.declared.op.TheConstants as op
use Rattle.spv_module.specs.declared.enumerant.storage_class.TheConstants as storage_class
use Rattle.spv_module.specs.declared.enumerant.scope.TheConstants as scope
use Rattle.spv_module.specs.declared.enumerant.memory_semantics.TheConstants as semantics
use Rattle.spv_module.specs.Options.{◌>>=◌, only_if}
use Rattle.spv_module.specs.Grammar.{is_among}
use Rattle.spv_types_rules.specs.Lines.{Line, Whole, Spot, only, on, has_op, has_op_among, data_opcodes, array_opcodes, arithmetic_opcodes, logic_opcodes, comparison_opcodes, shift_opcodes, conversion_opcodes, atomic_opcodes, first, second, rest, is_some_of, defined, is_op, is_op_of, is_int_of, is_bool_of, type_of, same_id, storage, pointee, literal, length_of}
use Rattle.spv_types_rules.specs.Variables.{member_by}
use Rattle.spv_types_rules.specs.Entries.{are_distinct}

-- ---- shapes

-- of scalars and vectors: whether they are ints or bools (by the opcode of that type), the width, and the count
pub record Shape : Type 0 where
  pub of : ℕ
  pub width : ℕ
  pub count : ℕ

abbrev pub scalar_by : Option Line → Option Shape
scalar_by None = None
scalar_by (Some l) =
    if has_op op.TYPE_INT l then Some (record { of = op.TYPE_INT; width = first l.numbers; count = 1 }) else (
    if has_op op.TYPE_BOOL l then Some (record { of = op.TYPE_BOOL; width = 1; count = 1 }) else None)

abbrev pub with_count : ℕ → Option Shape → Option Shape
with_count n None = None
with_count n (Some s) = Some (record { of = s.of; width = s.width; count = n })

abbrev pub shape_by : Whole → Option Line → Option Shape
shape_by w None = None
shape_by w (Some l) = if has_op op.TYPE_VECTOR l then with_count (first l.numbers) (scalar_by (defined w (first l.ids))) else scalar_by (Some l)

abbrev pub shape_of : Whole → Option ℕ → Option Shape
shape_of w None = None
shape_of w (Some t) = shape_by w (defined w t)

abbrev pub is_same_shape : Option Shape → Option Shape → Bool
is_same_shape (Some s) (Some t) = (s.of == t.of) && (s.width == t.width) && (s.count == t.count)
is_same_shape _ _ = false

abbrev pub has_shape : Whole → Option ℕ → ℕ → Bool
has_shape w t id = is_same_shape (shape_of w t) (shape_of w (type_of w id))

abbrev pub is_shape_of : ℕ → Option Shape → Bool
is_shape_of code None = false
is_shape_of code (Some s) = s.of == code

abbrev pub makes_ints : Whole → Line → Bool
makes_ints w l = is_shape_of op.TYPE_INT (shape_of w l.type)

abbrev pub makes_bools : Whole → Line → Bool
makes_bools w l = is_shape_of op.TYPE_BOOL (shape_of w l.type)

-- ints or bools, as many as the other has, of such widths
abbrev pub is_like : ℕ → (ℕ → ℕ → Bool) → Option Shape → Option Shape → Bool
is_like code widths (Some s) (Some t) = (s.of == code) && (s.count == t.count) && widths s.width t.width
is_like code widths _ _ = false

abbrev pub any_widths : ℕ → ℕ → Bool
any_widths a b = true

abbrev pub other_widths : ℕ → ℕ → Bool
other_widths a b = not (a == b)

abbrev pub has_bits : Option Shape → Option Shape → Bool
has_bits (Some s) (Some t) = (s.of == op.TYPE_INT) && (t.of == op.TYPE_INT) && (s.width * s.count == t.width * t.count)
has_bits _ _ = false

-- ---- Rule 36. The operands and the result have the types of the operation.

-- ints of one width and count, in operands and result; bools of one count
abbrev pub is_arithmetic : Whole → Line → Bool
is_arithmetic w l = makes_ints w l && list_all (has_shape w l.type) l.ids

abbrev pub is_logic : Whole → Line → Bool
is_logic w l = makes_bools w l && list_all (has_shape w l.type) l.ids

-- bools, as many as the operands have ints, which are of one width
abbrev pub is_comparison : Whole → Line → Bool
is_comparison w l =
    let left = type_of w (first l.ids) in
    makes_bools w l && is_like op.TYPE_INT any_widths (shape_of w left) (shape_of w l.type) && list_all (has_shape w left) l.ids

-- ints like the first operand, by as many amounts of any width
abbrev pub is_shift : Whole → Line → Bool
is_shift w l = makes_ints w l && has_shape w l.type (first l.ids) && is_like op.TYPE_INT any_widths (shape_of w (type_of w (second l.ids))) (shape_of w l.type)

-- the bools of the condition are as many as the other two operands have parts, which are like the result
abbrev pub is_selection : Whole → Line → Bool
is_selection w l = is_like op.TYPE_BOOL any_widths (shape_of w (type_of w (first l.ids))) (shape_of w l.type) && list_all (has_shape w l.type) (rest l.ids)

-- as many ints of another width; ints of as many bits in all
abbrev pub is_conversion : Whole → Line → Bool
is_conversion w l = makes_ints w l && is_like op.TYPE_INT other_widths (shape_of w (type_of w (first l.ids))) (shape_of w l.type)

abbrev pub is_bitcast : Whole → Line → Bool
is_bitcast w l = has_bits (shape_of w (type_of w (first l.ids))) (shape_of w l.type)

abbrev pub is_operation : Whole → Line → Bool
is_operation w l =
    if has_op_among arithmetic_opcodes l then is_arithmetic w l else (
    if has_op_among logic_opcodes l then is_logic w l else (
    if has_op_among comparison_opcodes l then is_comparison w l else (
    if has_op_among shift_opcodes l then is_shift w l else (
    if has_op_among conversion_opcodes l then is_conversion w l else (
    if has_op op.SELECT l then is_selection w l else (
    if has_op op.BITCAST l then is_bitcast w l else true))))))

abbrev pub keeps_operands : Spot → Bool
keeps_operands s = is_operation s.whole s.here

-- Rule 37. A load's result and a store's value have the type that the pointer points to.
abbrev pub stores_well : Whole → List ℕ → Bool
stores_well w (p ∷ v ∷ []) = same_id (pointee w (type_of w p)) (type_of w v)
stores_well w _ = false

abbrev pub keeps_accesses : Spot → Bool
keeps_accesses s =
    on op.LOAD (λ s. same_id (pointee s.whole (type_of s.whole (first s.here.ids))) s.here.type) s
    && on op.STORE (λ s. stores_well s.whole s.here.ids) s

-- Rule 38. A chain's indices are, into structs, OpConstants in range, and elsewhere 32-bit ints, constant ones into vectors and arrays of a constant length in range. Its result type is a pointer type, in the base's storage class, to the type that the indices reach.
abbrev pub is_below_if : Option ℕ → ℕ → Bool
is_below_if None n = true
is_below_if (Some i) n = nat_lt i n

-- the members or elements among which an index chooses, where their number is known
abbrev pub is_in_range : Whole → ℕ → Line → Bool
is_in_range w index l =
    if has_op op.TYPE_VECTOR l then is_below_if (literal w index) (first l.numbers) else (
    if has_op op.TYPE_ARRAY l && not (is_op w op.SPEC_CONSTANT (second l.ids)) then is_below_if (literal w index) (length_of w l) else true)

abbrev pub reached_in : Whole → ℕ → Line → Option ℕ
reached_in w index l =
    if has_op op.TYPE_STRUCT l then (if is_op w op.CONSTANT index then member_by l (literal w index) else None) else (
    if has_op_among (op.TYPE_VECTOR ∷ array_opcodes) l then only_if (is_int_of w 32 (type_of w index) && is_in_range w index l) (first l.ids) else None)

abbrev pub reached_from : Whole → Option ℕ → List ℕ → Option ℕ
reached_from w t [] = t
reached_from w t (index ∷ is) = reached_from w (t >>= λ u. defined w u >>= reached_in w index) is

abbrev pub is_reached : Whole → Option ℕ → Option ℕ → Option ℕ → Bool
is_reached w result base t = same_id (pointee w result) t && same_id (storage w result) (storage w base)

abbrev pub keeps_chains : Spot → Bool
keeps_chains = on op.ACCESS_CHAIN (λ s.
    let base = type_of s.whole (first s.here.ids) in
    is_reached s.whole s.here.type base (reached_from s.whole (pointee s.whole base) (rest s.here.ids)))

-- Rule 40. Atomics act on 32-bit ints in StorageBuffer, with scope Device, or in Workgroup, with scope Workgroup, and order nothing else. Barriers are of scope Workgroup, and order memory of the group, of buffers, or of both. Scopes and semantics are constants.
abbrev pub is_number : Option ℕ → List ℕ → Bool
is_number None ns = false
is_number (Some n) ns = is_among ns n

-- a 32-bit constant with one of some numbers
abbrev pub is_one_of : Whole → List ℕ → ℕ → Bool
is_one_of w ns id = is_int_of w 32 (type_of w id) && is_number (literal w id) ns

abbrev pub is_scope_of : Whole → ℕ → Option ℕ → Bool
is_scope_of w id None = false
is_scope_of w id (Some class) =
    ((class == storage_class.STORAGE_BUFFER) && is_one_of w (scope.DEVICE ∷ []) id)
    || ((class == storage_class.WORKGROUP) && is_one_of w (scope.WORKGROUP ∷ []) id)

abbrev pub has_type : Whole → Option ℕ → ℕ → Bool
has_type w t id = same_id (type_of w id) t

-- the semantics of an atomic, and the values behind them
abbrev pub are_ordered : Whole → Line → List ℕ → Bool
are_ordered w l [] = false
are_ordered w l (s ∷ values) =
    if has_op op.ATOMIC_COMPARE_EXCHANGE l
    then is_one_of w (semantics.NONE ∷ []) s && is_one_of w (semantics.NONE ∷ []) (first values) && list_all (has_type w l.type) (rest values)
    else is_one_of w (semantics.NONE ∷ []) s && list_all (has_type w l.type) values

abbrev pub is_atomic : Whole → Line → List ℕ → Bool
is_atomic w l (p ∷ s ∷ others) =
    same_id (pointee w (type_of w p)) l.type && is_int_of w 32 l.type && is_scope_of w s (storage w (type_of w p)) && are_ordered w l others
is_atomic w l _ = false

abbrev pub barrier_semantics : List ℕ
barrier_semantics =
    (semantics.ACQUIRE_RELEASE + semantics.WORKGROUP_MEMORY) ∷ (semantics.ACQUIRE_RELEASE + semantics.UNIFORM_MEMORY)
    ∷ (semantics.ACQUIRE_RELEASE + semantics.WORKGROUP_MEMORY + semantics.UNIFORM_MEMORY) ∷ []

abbrev pub is_barrier : Whole → List ℕ → Bool
is_barrier w (e ∷ m ∷ s ∷ []) = is_one_of w (scope.WORKGROUP ∷ []) e && is_one_of w (scope.WORKGROUP ∷ []) m && is_one_of w barrier_semantics s
is_barrier w _ = false

abbrev pub is_fence : Whole → List ℕ → Bool
is_fence w (m ∷ s ∷ []) = is_one_of w (scope.WORKGROUP ∷ []) m && is_one_of w barrier_semantics s
is_fence w _ = false

abbrev pub keeps_atomics : Spot → Bool
keeps_atomics s =
    only (has_op_among atomic_opcodes s.here) (λ s. is_atomic s.whole s.here s.here.ids) s
    && on op.CONTROL_BARRIER (λ s. is_barrier s.whole s.here.ids) s
    && on op.MEMORY_BARRIER (λ s. is_fence s.whole s.here.ids) s

-- Rule 41. Constants are of the types that they should, ints with as many words as these have, and no bits above their width. The parts of composites, and what is extracted, inserted or shuffled, have the types that they should, in range. An array's length that is a spec constant counts at its default.
abbrev pub fits_width : List ℕ → Line → Bool
fits_width ns l = has_op op.TYPE_INT l && (length ns == (if first l.numbers == 64 then 2 else 1)) && ((not (nat_lt (first l.numbers) 32)) || nat_lt (first ns) (2 ^ first l.numbers))

abbrev pub is_type_where : Whole → (Line → Bool) → Option ℕ → Bool
is_type_where w test None = false
is_type_where w test (Some t) = is_some_of (defined w t) test

abbrev pub is_constant_of : Whole → List ℕ → Option ℕ → Bool
is_constant_of w ns t = is_type_where w (fits_width ns) t

abbrev pub are_types : Whole → List ℕ → List ℕ → Bool
are_types w [] [] = true
are_types w (t ∷ ts) (v ∷ vs) = same_id (type_of w v) (Some t) && are_types w ts vs
are_types w _ _ = false

abbrev pub is_made_of : Whole → List ℕ → Line → Bool
is_made_of w vs l =
    if has_op op.TYPE_VECTOR l then (length vs == first l.numbers) && list_all (λ v. same_id (type_of w v) (Some (first l.ids))) vs else (
    if has_op op.TYPE_ARRAY l then (length vs == length_of w l) && list_all (λ v. same_id (type_of w v) (Some (first l.ids))) vs else
    (has_op op.TYPE_STRUCT l && are_types w l.ids vs))

abbrev pub is_composite_of : Whole → List ℕ → Option ℕ → Bool
is_composite_of w vs t = is_type_where w (is_made_of w vs) t

-- how many components of a type a value gives to a vector: one of that type, or those of a vector of it
abbrev pub components_by : ℕ → Option Line → Option ℕ
components_by t None = None
components_by t (Some l) = if has_op op.TYPE_VECTOR l && (first l.ids == t) then Some (first l.numbers) else None

abbrev pub components : Whole → ℕ → Option ℕ → Option ℕ
components w t None = None
components w t (Some u) = if u == t then Some 1 else components_by t (defined w u)

abbrev pub components_in : Whole → ℕ → List ℕ → Option ℕ
components_in w t [] = Some 0
components_in w t (v ∷ vs) = components w t (type_of w v) >>= λ n. components_in w t vs >>= λ m. Some (n + m)

-- the parts of a vector that is made anew may be vectors
abbrev pub is_built_of : Whole → List ℕ → Line → Bool
is_built_of w vs l = if has_op op.TYPE_VECTOR l then same_id (components_in w (first l.ids) vs) (Some (first l.numbers)) else is_made_of w vs l

abbrev pub part_in : Whole → ℕ → Line → Option ℕ
part_in w n l =
    if has_op op.TYPE_STRUCT l then slice_get l.ids n else (
    if has_op op.TYPE_VECTOR l then only_if (nat_lt n (first l.numbers)) (first l.ids) else (
    if has_op op.TYPE_ARRAY l then only_if (nat_lt n (length_of w l)) (first l.ids) else None))

abbrev pub part_from : Whole → Option ℕ → List ℕ → Option ℕ
part_from w t [] = t
part_from w t (n ∷ ns) = part_from w (t >>= λ u. defined w u >>= part_in w n) ns

-- the type of a vector's components, and their count
abbrev pub component_by : Option Line → Option ℕ
component_by None = None
component_by (Some l) = if has_op op.TYPE_VECTOR l then Some (first l.ids) else None

abbrev pub component : Whole → Option ℕ → Option ℕ
component w None = None
component w (Some t) = component_by (defined w t)

abbrev pub count_by : Option Line → ℕ
count_by None = 0
count_by (Some l) = first l.numbers

abbrev pub count : Whole → Option ℕ → ℕ
count w None = 0
count w (Some t) = count_by (defined w t)

abbrev pub is_dynamic : Whole → ℕ → Option ℕ → ℕ → Bool
is_dynamic w v t index = same_id (component w (type_of w v)) t && is_op_of w op.TYPE_INT (type_of w index)

abbrev pub is_insertion : Whole → Option ℕ → List ℕ → Bool
is_insertion w t (v ∷ c ∷ index ∷ []) = same_id (type_of w v) t && is_dynamic w v (type_of w c) index
is_insertion w t _ = false

abbrev pub is_shuffle : Whole → Option ℕ → List ℕ → List ℕ → Bool
is_shuffle w t (a ∷ b ∷ []) ns =
    same_id (component w (type_of w a)) (component w t) && same_id (component w (type_of w b)) (component w t)
    && (length ns == count w t) && list_all (λ n. nat_lt n (count w (type_of w a) + count w (type_of w b))) ns
is_shuffle w t _ ns = false

abbrev pub is_inserted : Whole → Option ℕ → List ℕ → List ℕ → Bool
is_inserted w t (part ∷ v ∷ []) ns = same_id (type_of w v) t && same_id (part_from w (type_of w v) ns) (type_of w part)
is_inserted w t _ ns = false

abbrev pub is_composite : Whole → Line → Bool
is_composite w l =
    if has_op_among (op.CONSTANT ∷ op.SPEC_CONSTANT ∷ []) l then is_constant_of w l.numbers l.type else (
    if has_op_among (op.CONSTANT_TRUE ∷ op.CONSTANT_FALSE ∷ []) l then is_bool_of w l.type else (
    if has_op op.CONSTANT_NULL l then is_type_where w (has_op_among data_opcodes) l.type else (
    if has_op_among (op.CONSTANT_COMPOSITE ∷ op.SPEC_CONSTANT_COMPOSITE ∷ []) l then is_composite_of w l.ids l.type else (
    if has_op op.COMPOSITE_CONSTRUCT l then is_type_where w (is_built_of w l.ids) l.type else (
    if has_op op.COMPOSITE_EXTRACT l then same_id (part_from w (type_of w (first l.ids)) l.numbers) l.type else (
    if has_op op.COMPOSITE_INSERT l then is_inserted w l.type l.ids l.numbers else (
    if has_op op.VECTOR_EXTRACT_DYNAMIC l then is_dynamic w (first l.ids) l.type (second l.ids) else (
    if has_op op.VECTOR_INSERT_DYNAMIC l then is_insertion w l.type l.ids else (
    if has_op op.VECTOR_SHUFFLE l then is_shuffle w l.type l.ids l.numbers else true)))))))))

abbrev pub keeps_composites : Spot → Bool
keeps_composites s = is_composite s.whole s.here

-- Rule 42. A switch is on a 32-bit int, with distinct literals; a conditional branch is on a bool.
abbrev pub keeps_selectors : Spot → Bool
keeps_selectors s =
    on op.BRANCH_CONDITIONAL (λ s. is_bool_of s.whole (type_of s.whole (first s.here.ids))) s
    && on op.SWITCH (λ s. is_int_of s.whole 32 (type_of s.whole (first s.here.ids)) && are_distinct s.here.numbers) s

-- Rule 44. The result type of an OpExtInst is void. (That it is one of the import is rule 7's.)
abbrev pub keeps_reflection : Spot → Bool
keeps_reflection = on op.EXT_INST (λ s. is_op_of s.whole op.TYPE_VOID s.here.type)
