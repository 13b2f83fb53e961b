-- Rules 10 to 15: types and their layout (SPIR-V 2.16.1 and 3.32.6; Vulkan, 15.6.4).
use Rattle.std.specs.Prelude.{ℕ, ◌+◌, ◌%◌, Bool, true, false, not, ◌==◌, ◌&&◌, ◌||◌, nat_le, List, [], ◌∷◌, bytes_eq}
use Rattle.std.specs.List.{list_any, list_all}
use Rattle.spv_module.specs.declared.op.TheConstants as op
use Rattle.spv_module.specs.declared.enumerant.storage_class.TheConstants as storage_class
use Rattle.spv_module.specs.declared.enumerant.decoration.TheConstants as decoration
use Rattle.spv_module.specs.Grammar.{is_among}
use Rattle.spv_types_rules.specs.Lines.{Line, Whole, Spot, only, on, has_op, has_op_among, data_opcodes, array_opcodes, id_of, first, second, names, is_mark, is_some_of, defined, is_op, is_op_among, is_int_of, held, is_under, decorations, is_decorated, is_member_decorated, member_decorations}
use Rattle.spv_types_rules.specs.Layout.{alignment, size, scalars, depth}

-- Rule 10. No two types of void, bools, ints, vectors or functions are equal (SPIR-V 2.8).
abbrev pub plain_types : List ℕ
plain_types = op.TYPE_VOID ∷ op.TYPE_BOOL ∷ op.TYPE_INT ∷ op.TYPE_VECTOR ∷ op.TYPE_FUNCTION ∷ []

abbrev pub is_same_type : Line → Line → Bool
is_same_type l m = has_op l.op m && bytes_eq l.ids m.ids && bytes_eq l.numbers m.numbers

abbrev pub is_new_type : Spot → Bool
is_new_type s = only (has_op_among plain_types s.here) (λ s. not (list_any (is_same_type s.here) s.before)) s

-- Rule 11. Ints have 8, 16, 32 or 64 bits and signedness 0. Vectors have 2 to 4 ints or bools. A struct has a member. Members, elements, and what pointer types point to are bools, ints, vectors, arrays, runtime arrays or structs.
abbrev pub is_int_type : Line → Bool
is_int_type l = is_among (8 ∷ 16 ∷ 32 ∷ 64 ∷ []) (first l.numbers) && (second l.numbers == 0)

abbrev pub is_vector_type : Whole → Line → Bool
is_vector_type w l = list_all (is_op_among w (op.TYPE_INT ∷ op.TYPE_BOOL ∷ [])) l.ids && is_among (2 ∷ 3 ∷ 4 ∷ []) (first l.numbers)

abbrev pub holds_data : Whole → List ℕ → Bool
holds_data w [] = false
holds_data w (t ∷ ts) = list_all (is_op_among w data_opcodes) (t ∷ ts)

abbrev pub is_good_type : Spot → Bool
is_good_type s =
    on op.TYPE_INT (λ s. is_int_type s.here) s
    && on op.TYPE_VECTOR (λ s. is_vector_type s.whole s.here) s
    && only (has_op_among (op.TYPE_ARRAY ∷ op.TYPE_RUNTIME_ARRAY ∷ op.TYPE_STRUCT ∷ []) s.here) (λ s. holds_data s.whole (held s.here)) s
    && on op.TYPE_POINTER (λ s. holds_data s.whole s.here.ids) s

-- Rule 12. An array's length is a positive 32-bit constant or spec constant. Names and decorations aside, an array whose length is a spec constant is named by pointer types to Workgroup alone; a runtime array by its Block struct, as the last member alone, and by pointer types to StorageBuffer; a struct that ends in one, by pointer types to StorageBuffer alone (Vulkan, A.1). The type that is named elsewhere breaks the rule.
abbrev pub is_length_line : Whole → Line → Bool
is_length_line w l = has_op_among (op.CONSTANT ∷ op.SPEC_CONSTANT ∷ []) l && is_int_of w 32 l.type && not (first l.numbers == 0)

abbrev pub has_length : Whole → Line → Bool
has_length w l = is_some_of (defined w (second l.ids)) (is_length_line w)

abbrev pub is_open_length : Whole → Line → Bool
is_open_length w l = is_op w op.SPEC_CONSTANT (second l.ids)

abbrev pub is_pointer_in : ℕ → Line → Bool
is_pointer_in storage l = has_op op.TYPE_POINTER l && (first l.numbers == storage)

abbrev pub may_name_open : ℕ → Line → Bool
may_name_open t l = not (names t l) || is_mark l || is_pointer_in storage_class.WORKGROUP l

abbrev pub is_last_alone : ℕ → List ℕ → Bool
is_last_alone t [] = false
is_last_alone t (m ∷ []) = m == t
is_last_alone t (m ∷ n ∷ ms) = not (m == t) && is_last_alone t (n ∷ ms)

abbrev pub may_name_array : Whole → ℕ → Line → Bool
may_name_array w t l = not (names t l) || is_mark l || is_pointer_in storage_class.STORAGE_BUFFER l || (has_op op.TYPE_STRUCT l && is_last_alone t l.ids && is_decorated w (id_of l) decoration.BLOCK)

abbrev pub may_name_struct : ℕ → Line → Bool
may_name_struct t l = not (names t l) || is_mark l || is_pointer_in storage_class.STORAGE_BUFFER l

abbrev pub last : List ℕ → ℕ
last [] = 0
last (m ∷ []) = m
last (_ ∷ n ∷ ms) = last (n ∷ ms)

abbrev pub ends_open : Whole → Line → Bool
ends_open w l = is_op w op.TYPE_RUNTIME_ARRAY (last l.ids)

abbrev pub keeps_arrays : Spot → Bool
keeps_arrays s =
    on op.TYPE_ARRAY (λ s. has_length s.whole s.here && only (is_open_length s.whole s.here) (λ s. list_all (may_name_open (id_of s.here)) s.whole.lines) s) s
    && on op.TYPE_RUNTIME_ARRAY (λ s. list_all (may_name_array s.whole (id_of s.here)) s.whole.lines) s
    && on op.TYPE_STRUCT (λ s. only (ends_open s.whole s.here) (λ s. list_all (may_name_struct (id_of s.here)) s.whole.lines) s) s

-- Rule 13. The members of structs under StorageBuffer and PushConstant all have an Offset, and the arrays an ArrayStride; types under Workgroup and Function have neither (Vulkan, 15.6.4).
abbrev pub have_offsets : Whole → ℕ → ℕ → List ℕ → Bool
have_offsets w t n [] = true
have_offsets w t n (_ ∷ ms) = is_member_decorated w t n decoration.OFFSET && have_offsets w t (n + 1) ms

abbrev pub is_laid_out : Spot → Bool
is_laid_out s =
    on op.TYPE_STRUCT (λ s. have_offsets s.whole (id_of s.here) 0 s.here.ids) s
    && only (has_op_among array_opcodes s.here) (λ s. is_decorated s.whole (id_of s.here) decoration.ARRAY_STRIDE) s

abbrev pub layout_marks : List ℕ
layout_marks = decoration.OFFSET ∷ decoration.ARRAY_STRIDE ∷ []

abbrev pub lays_out : ℕ → Line → Bool
lays_out t l = (first l.ids == t) && ((has_op op.DECORATE l && is_among layout_marks (first l.numbers)) || (has_op op.MEMBER_DECORATE l && is_among layout_marks (second l.numbers)))

abbrev pub keeps_layout : Spot → Bool
keeps_layout s = only (has_op_among data_opcodes s.here) (λ s.
    only (is_under s.whole (storage_class.STORAGE_BUFFER ∷ storage_class.PUSH_CONSTANT ∷ []) (id_of s.here)) is_laid_out s
    && only (is_under s.whole (storage_class.WORKGROUP ∷ storage_class.FUNCTION ∷ []) (id_of s.here)) (λ s. not (list_any (lays_out (id_of s.here)) s.whole.marks)) s) s

-- Rule 14. Offsets ascend, are aligned and don't overlap; strides are aligned, and at least the element's size (Vulkan, 15.6.4). A vector of three takes the room of one of four.
abbrev pub is_multiple : ℕ → ℕ → Bool
is_multiple n m = (n % m) == 0

abbrev pub are_placed : ℕ → ℕ → List (List ℕ) → Bool
are_placed end align [] = true
are_placed end align (literals ∷ more) = is_multiple (first literals) align && nat_le end (first literals) && are_placed end align more

abbrev pub end_after : ℕ → ℕ → List (List ℕ) → ℕ
end_after end bytes [] = end
end_after end bytes (literals ∷ _) = first literals + bytes

abbrev pub are_members_placed : Whole → ℕ → ℕ → ℕ → List ℕ → Bool
are_members_placed w t n end [] = true
are_members_placed w t n end (m ∷ ms) =
    are_placed end (alignment w m) (member_decorations w t n decoration.OFFSET)
    && are_members_placed w t (n + 1) (end_after end (size w m) (member_decorations w t n decoration.OFFSET)) ms

abbrev pub is_stride : Whole → ℕ → List ℕ → Bool
is_stride w element literals = is_multiple (first literals) (alignment w element) && nat_le (size w element) (first literals)

abbrev pub keeps_places : Spot → Bool
keeps_places s =
    on op.TYPE_STRUCT (λ s. are_members_placed s.whole (id_of s.here) 0 0 s.here.ids) s
    && only (has_op_among array_opcodes s.here) (λ s. list_all (is_stride s.whole (first s.here.ids)) (decorations s.whole (id_of s.here) decoration.ARRAY_STRIDE)) s

-- Rule 15. Types, those of pointers and functions aside, nest at most 18 deep and have at most 65,536 scalars, those of runtime arrays aside. A length that is a spec constant counts at its default.
abbrev pub measured_types : List ℕ
measured_types = op.TYPE_VOID ∷ data_opcodes

abbrev pub is_small_type : Spot → Bool
is_small_type s = only (has_op_among measured_types s.here) (λ s. nat_le (depth s.whole (id_of s.here)) 18 && nat_le (scalars s.whole (id_of s.here)) 65536) s
