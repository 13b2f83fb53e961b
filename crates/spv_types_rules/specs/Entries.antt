-- Rules 25 to 29: entry points, the size of groups, specialisation (SPIR-V 2.16.1 and 3.32.5; Vulkan, A.1).
use Rattle.std.specs.Prelude.{ℕ, ◌*◌, Bool, true, false, not, ◌==◌, ◌&&◌, ◌||◌, nat_le, if◌then◌else◌, List, [], ◌∷◌, filter, bytes_eq}
use Rattle.std.specs.List.{list_any, list_all}
use Rattle.spv_module.specs.declared.op.TheConstants as op
use Rattle.spv_module.specs.declared.enumerant.storage_class.TheConstants as storage_class
use Rattle.spv_module.specs.declared.enumerant.decoration.TheConstants as decoration
use Rattle.spv_module.specs.declared.enumerant.built_in.TheConstants as built_in
use Rattle.spv_module.specs.declared.enumerant.execution_model.TheConstants as execution_model
use Rattle.spv_module.specs.Grammar.{is_among}
use Rattle.spv_types_rules.specs.Lines.{Line, Whole, Spot, only, on, has_op, id_of, is_empty, first, second, rest, is_some_of, defined, to_end, is_op_of, is_int_of, decorations}
use Rattle.spv_types_rules.specs.Ids.{is_entry_of, is_entry}
use Rattle.spv_types_rules.specs.Variables.{used, first_literal}

abbrev pub name_of : List (List ℕ) → List ℕ
name_of [] = []
name_of (t ∷ _) = t

-- Rule 25. There is an entry point. The models are GLCompute, and no two entry points have the same name or the same function.
abbrev pub is_same_entry : Line → Line → Bool
is_same_entry l m = has_op op.ENTRY_POINT m && (bytes_eq (name_of l.texts) (name_of m.texts) || (first l.ids == first m.ids))

abbrev pub keeps_entries : Spot → Bool
keeps_entries = on op.ENTRY_POINT (λ s. (first s.here.numbers == execution_model.GL_COMPUTE) && not (list_any (is_same_entry s.here) s.before))

abbrev pub has_entry : Whole → Bool
has_entry w = list_any (has_op op.ENTRY_POINT) w.lines

-- Rule 26. An entry point's function returns void, has no parameter and isn't called (SPIR-V 2.16.1).
abbrev pub has_no_parameter : List Line → Bool
has_no_parameter lines = not (list_any (has_op op.FUNCTION_PARAMETER) lines)

abbrev pub calls : ℕ → Line → Bool
calls f l = first l.ids == f

abbrev pub is_called : Whole → ℕ → Bool
is_called w f = list_any (calls f) w.calls

abbrev pub keeps_entry_functions : Spot → Bool
keeps_entry_functions = on op.FUNCTION (λ s. only (is_entry s.whole (id_of s.here)) (λ s.
    is_op_of s.whole op.TYPE_VOID s.here.type && not (is_called s.whole (id_of s.here)) && has_no_parameter (to_end s.after)) s)

-- Rule 27. An entry point's interface lists exactly the Input variables that its function uses, or one that this calls, directly or not, each once.
abbrev pub are_distinct : List ℕ → Bool
are_distinct [] = true
are_distinct (n ∷ ns) = not (is_among ns n) && are_distinct ns

abbrev pub are_the_same : List ℕ → List ℕ → Bool
are_the_same ns ms = are_distinct ns && list_all (is_among ms) ns && list_all (is_among ns) ms

abbrev pub keeps_interfaces : Spot → Bool
keeps_interfaces = on op.ENTRY_POINT (λ s. are_the_same (rest s.here.ids) (used s.whole (first s.here.ids) storage_class.INPUT))

-- Rule 28. Either every entry point has one LocalSize, positive and of at most 1,024 in product, and nothing is decorated WorkgroupSize; or there is no mode, and exactly one id is decorated WorkgroupSize, an OpSpecConstantComposite of three 32-bit OpSpecConstants with the SpecIds 0, 1 and 2.
abbrev pub is_product : List ℕ → Bool
is_product (mode ∷ x ∷ y ∷ z ∷ []) = not (x == 0) && not (y == 0) && not (z == 0) && nat_le (x * y * z) 1024
is_product _ = false

abbrev pub is_one_size : List Line → Bool
is_one_size (m ∷ []) = is_product m.numbers
is_one_size _ = false

abbrev pub has_one_size : Whole → Line → Bool
has_one_size w e = is_one_size (filter (is_entry_of (first e.ids)) w.modes)

abbrev pub is_size_mark : Line → Bool
is_size_mark l = has_op op.DECORATE l && (first l.numbers == decoration.BUILT_IN) && (second l.numbers == built_in.WORKGROUP_SIZE)

abbrev pub sized : List Line → List ℕ
sized [] = []
sized (l ∷ ls) = if is_size_mark l then first l.ids ∷ sized ls else sized ls

abbrev pub is_spec_id : ℕ → List (List ℕ) → Bool
is_spec_id n ((m ∷ []) ∷ []) = m == n
is_spec_id n _ = false

abbrev pub is_size_line : Whole → Line → Bool
is_size_line w l = has_op op.SPEC_CONSTANT l && is_int_of w 32 l.type

abbrev pub is_size : Whole → ℕ → ℕ → Bool
is_size w n id = is_some_of (defined w id) (is_size_line w) && is_spec_id n (decorations w id decoration.SPEC_ID)

abbrev pub are_sizes : Whole → List ℕ → Bool
are_sizes w (x ∷ y ∷ z ∷ []) = is_size w 0 x && is_size w 1 y && is_size w 2 z
are_sizes w _ = false

abbrev pub is_group_size : Whole → Line → Bool
is_group_size w l = has_op op.SPEC_CONSTANT_COMPOSITE l && are_sizes w l.ids

abbrev pub is_sized_by : Whole → List ℕ → Bool
is_sized_by w (id ∷ []) = is_some_of (defined w id) (is_group_size w)
is_sized_by w _ = false

abbrev pub has_group_size : Whole → Bool
has_group_size w = (is_empty (sized w.marks) && list_all (has_one_size w) w.entries) || (is_empty w.modes && is_sized_by w (sized w.marks))

-- Rule 29. Each OpSpecConstant has one SpecId, and no two have the same.
abbrev pub has_spec_id : Whole → ℕ → Line → Bool
has_spec_id w n l = has_op op.SPEC_CONSTANT l && list_any (λ literals. first literals == n) (decorations w (id_of l) decoration.SPEC_ID)

abbrev pub has_one : List (List ℕ) → Bool
has_one (_ ∷ []) = true
has_one _ = false

abbrev pub keeps_spec_ids : Spot → Bool
keeps_spec_ids = on op.SPEC_CONSTANT (λ s.
    has_one (decorations s.whole (id_of s.here) decoration.SPEC_ID)
    && not (list_any (has_spec_id s.whole (first_literal (decorations s.whole (id_of s.here) decoration.SPEC_ID))) s.before))
