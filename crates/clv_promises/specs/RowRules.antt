-- The rules that the reflection lines of a module keep, by their numbers F1 to F7 (docs/MODULE.md).
use Rattle.std.specs.Prelude.{◌≡◌, ℕ, ◌+◌, ◌*◌, ◌/◌, ◌==◌, nat_eq, nat_le, Bool, true, false, not, ◌&&◌, ◌||◌, if◌then◌else◌, List, [], ◌∷◌, ◌++◌, length, sum, filter, bytes_eq, Option, Some, None}
use Rattle.std.specs.List.{list_any, list_all}
use Rattle.spv_module.specs.declared.op.TheConstants as op
use Rattle.spv_module.specs.declared.enumerant.storage_class.TheConstants as storage_class
use Rattle.spv_module.specs.declared.enumerant.decoration.TheConstants as decoration
use Rattle.spv_types_rules.specs.Lines.{Line, Whole, has_op, id_of, first, second, defined, is_op, is_int_of, is_some_of, within, pointee, type_of, length_of, decorations, member_decorations, is_decorated, parts_by}
use Rattle.spv_types_rules.specs.Layout.{size, measured}
use Rattle.spv_types_rules.specs.Variables.{used}
use Rattle.spv_types_rules.specs.Entries.{name_of, are_distinct, sized}
use Rattle.spv_reflect.specs.declared.rows.ArgKindRow.{ArgKindRow}
use Rattle.spv_reflect.specs.declared.rows.ArgKindRow.TheVariants as kind
use Rattle.vk_layout.specs.Types.{is_one}
use Rattle.vk_layout.specs.Interface.{is_at}
use Rattle.clv_promises.specs.Rows.{Says, Kernel, Name, Argument, Sizes, Dimension, Constants, Required, Wrong, Unknown, Reflecting, reflects, reflection_lines, bytes_of}

-- ---- words

abbrev pub says_of : Reflecting → Says
says_of (reflects r says) = says

abbrev pub result_of : Reflecting → ℕ
result_of (reflects r says) = r

abbrev pub each_says : (Says → Bool) → List Reflecting → Bool
each_says test = list_all (λ l. test (says_of l))

abbrev pub count_of : (Says → Bool) → List Reflecting → ℕ
count_of test ls = length (filter (λ l. test (says_of l)) ls)

abbrev pub is_kernel : Says → Bool
is_kernel (Kernel function name) = true
is_kernel _ = false

abbrev pub is_name : Says → Bool
is_name (Name text) = true
is_name _ = false

-- a line with this result that says such a thing
abbrev pub has_line : (Says → Bool) → ℕ → List Reflecting → Bool
has_line test id = list_any (λ l. test (says_of l) && nat_eq (result_of l) id)

-- ---- F1: its number is one of these; F2: its operands are right, and a kernel is named by its line, and a name by its own

abbrev pub is_known : Says → Bool
is_known Unknown = false
is_known _ = true

abbrev pub has_operands : List Reflecting → Says → Bool
has_operands all Wrong = false
has_operands all (Argument k ordinal kind name) = has_line is_kernel k all && has_line is_name name all
has_operands all (Required k x y z) = has_line is_kernel k all
has_operands all _ = true

-- ---- F3: a kernel's function is an entry point of that name and comes once; each entry point has a kernel's line

abbrev pub is_of_function : ℕ → Says → Bool
is_of_function f (Kernel function name) = nat_eq function f
is_of_function f _ = false

abbrev pub is_entry_named : ℕ → List ℕ → Line → Bool
is_entry_named f name e = nat_eq (first e.ids) f && bytes_eq (name_of e.texts) name

module _ (w : Whole) where
  abbrev pub is_entry : List Reflecting → Says → Bool
  is_entry all (Kernel function name) = list_any (is_entry_named function name) w.entries && (count_of (is_of_function function) all == 1)
  is_entry all _ = true

  abbrev pub has_kernel : List Reflecting → Line → Bool
  has_kernel all e = count_of (is_of_function (first e.ids)) all == 1

-- ---- F4: the ordinals of a kernel are 0, 1, 2 and so on, in order

abbrev pub ordinal_of : ℕ → Says → List ℕ
ordinal_of k (Argument kernel ordinal kind name) = if nat_eq kernel k then ordinal ∷ [] else []
ordinal_of k _ = []

abbrev pub ordinals_of : ℕ → List Reflecting → List ℕ
ordinals_of k [] = []
ordinals_of k (l ∷ ls) = ordinal_of k (says_of l) ++ ordinals_of k ls

abbrev pub count_up : ℕ → List ℕ → Bool
count_up n [] = true
count_up n (o ∷ os) = nat_eq o n && count_up (n + 1) os

abbrev pub has_order : List Reflecting → Reflecting → Bool
has_order all l = not (is_kernel (says_of l)) || count_up 0 (ordinals_of (result_of l) all)

-- ---- F5: what a line names is there, in the form that it has there

abbrev pub gathered : {A : Type 0} → (Says → List A) → List Reflecting → List A
gathered of [] = []
gathered of (l ∷ ls) = of (says_of l) ++ gathered of ls

module _ (w : Whole) where
  abbrev pub is_of : (ℕ → Bool) → Option ℕ → Bool
  is_of test None = false
  is_of test (Some t) = test t

  -- a variable of a storage class that points to such a type, and one in a buffer at a set and binding
  abbrev pub is_variable : ℕ → (ℕ → Bool) → Line → Bool
  is_variable storage test v = not v.inside && (first v.numbers == storage) && is_of test (pointee w v.type)

  abbrev pub is_block_at : (ℕ → Bool) → ℕ → ℕ → Line → Bool
  is_block_at test set binding v = is_variable storage_class.STORAGE_BUFFER test v && is_at w set binding (id_of v)

  abbrev pub has_block_at : (ℕ → Bool) → ℕ → ℕ → Bool
  has_block_at test set binding = list_any (is_block_at test set binding) w.variables

  -- a block that is a runtime array at offset 0, and one that holds none
  abbrev pub is_one_array : List ℕ → Bool
  is_one_array (a ∷ []) = is_op w op.TYPE_RUNTIME_ARRAY a
  is_one_array _ = false

  abbrev pub is_array_block : ℕ → Bool
  is_array_block b = is_decorated w b decoration.BLOCK && is_one (member_decorations w b 0 decoration.OFFSET) 0 && is_one_array (parts_by (defined w b))

  abbrev pub is_sized_block : ℕ → Bool
  is_sized_block b = is_decorated w b decoration.BLOCK && not (list_any (is_op w op.TYPE_RUNTIME_ARRAY) (within w b))

  -- a 32-bit specialisation constant of a SpecId, and a variable in workgroup memory that is an array of this length
  abbrev pub is_spec : ℕ → Line → Bool
  is_spec spec l = has_op op.SPEC_CONSTANT l && is_int_of w 32 l.type && is_one (decorations w (id_of l) decoration.SPEC_ID) spec

  abbrev pub has_spec : ℕ → Bool
  has_spec spec = list_any (is_spec spec) w.lines

  abbrev pub is_array_by : ℕ → ℕ → Bool
  is_array_by spec t = is_some_of (defined w t) (λ l. has_op op.TYPE_ARRAY l && is_some_of (defined w (second l.ids)) (is_spec spec))

  abbrev pub sized_variables : ℕ → List Line
  sized_variables spec = filter (is_variable storage_class.WORKGROUP (is_array_by spec)) w.variables

  -- the bytes of the scalars of a type, without what lies between them
  abbrev pub bytes_by : Line → List ℕ → ℕ
  bytes_by l ns =
      if has_op op.TYPE_BOOL l then 1 else (
      if has_op op.TYPE_INT l then first l.numbers / 8 else (
      if has_op op.TYPE_VECTOR l then first l.numbers * first ns else (
      if has_op op.TYPE_ARRAY l then length_of w l * first ns else sum ns)))

  abbrev pub element_bytes : Option ℕ → ℕ
  element_bytes None = 0
  element_bytes (Some t) = measured bytes_by w w.types (first (parts_by (defined w t)))

  abbrev pub is_element_size : ℕ → List Line → Bool
  is_element_size bytes (v ∷ []) = nat_le 1 bytes && nat_le bytes 65536 && nat_le (element_bytes (pointee w v.type)) bytes
  is_element_size bytes _ = false

  abbrev pub argument_stands : ArgKindRow → Bool
  argument_stands (kind.Buffer set binding) = has_block_at is_array_block set binding
  argument_stands (kind.PlainStorage set binding offset bytes) = has_block_at is_sized_block set binding
  argument_stands (kind.PlainPush offset bytes) = true
  argument_stands (kind.Local spec bytes) = is_element_size bytes (sized_variables spec)

  abbrev pub stands : Says → Bool
  stands (Argument k ordinal a name) = argument_stands a
  stands (Sizes x y z) = has_spec x && has_spec y && has_spec z
  stands (Dimension id) = has_spec id
  stands (Constants set binding hex) = has_block_at is_sized_block set binding
  stands _ = true

  -- what the lines of a kernel name, and those without a kernel: buffers by set and binding, blocks of plain arguments, SpecIds
  abbrev pub when_of : {A : Type 0} → ℕ → ℕ → A → List A
  when_of kernel k a = if nat_eq kernel k then a ∷ [] else []

  abbrev pub pair_in : ℕ → Says → List (ℕ × ℕ)
  pair_in k (Argument kernel ordinal (kind.Buffer set binding) name) = when_of kernel k (set, binding)
  pair_in k (Constants set binding hex) = (set, binding) ∷ []
  pair_in k _ = []

  abbrev pub plain_in : ℕ → Says → List (ℕ × ℕ)
  plain_in k (Argument kernel ordinal (kind.PlainStorage set binding offset bytes) name) = when_of kernel k (set, binding)
  plain_in k _ = []

  abbrev pub push_in : ℕ → Says → List ℕ
  push_in k (Argument kernel ordinal (kind.PlainPush offset bytes) name) = when_of kernel k offset
  push_in k _ = []

  abbrev pub spec_in : ℕ → Says → List ℕ
  spec_in k (Argument kernel ordinal (kind.Local spec bytes) name) = when_of kernel k spec
  spec_in k (Sizes x y z) = x ∷ y ∷ z ∷ []
  spec_in k (Dimension id) = id ∷ []
  spec_in k _ = []

  -- no two name one
  abbrev pub same_pair : ℕ × ℕ → ℕ × ℕ → Bool
  same_pair a b = nat_eq a.0 b.0 && nat_eq a.1 b.1

  abbrev pub distinct_pairs : List (ℕ × ℕ) → Bool
  distinct_pairs [] = true
  distinct_pairs (a ∷ as_) = not (list_any (same_pair a) as_) && distinct_pairs as_

  abbrev pub is_apart : List (ℕ × ℕ) → ℕ × ℕ → Bool
  is_apart as_ b = not (list_any (same_pair b) as_)

  abbrev pub keeps_apart : List Reflecting → ℕ → Bool
  keeps_apart all k =
      distinct_pairs (gathered (pair_in k) all) && list_all (is_apart (gathered (pair_in k) all)) (gathered (plain_in k) all) && are_distinct (gathered (spec_in k) all)

  -- each buffer and the push constants that the entry point uses are named
  abbrev pub is_at_some : List (ℕ × ℕ) → ℕ → Bool
  is_at_some as_ v = list_any (λ a. is_at w a.0 a.1 v) as_

  abbrev pub is_some_number : List ℕ → Bool
  is_some_number [] = false
  is_some_number (n ∷ ns) = true

  abbrev pub names_used : List Reflecting → ℕ → ℕ → Bool
  names_used all k function =
      list_all (is_at_some (gathered (pair_in k) all ++ gathered (plain_in k) all)) (used w function storage_class.STORAGE_BUFFER)
      && (not (is_some_number (used w function storage_class.PUSH_CONSTANT)) || is_some_number (gathered (push_in k) all))

  abbrev pub kernel_stands : List Reflecting → Reflecting → Bool
  kernel_stands all (reflects r (Kernel function name)) = keeps_apart all r && names_used all r function
  kernel_stands all l = true

-- ---- F6: a plain argument stands inside of its block, and no two of a kernel meet

-- the bytes of a plain argument: its block by set and binding, or the push constants; where they begin, and how many they are
pub data Range : Type 0 where
  range : (block : List ℕ) (offset bytes : ℕ) → Range

abbrev pub same_block : List ℕ → List ℕ → Bool
same_block (s ∷ b ∷ []) (t ∷ c ∷ []) = nat_eq s t && nat_eq b c
same_block [] [] = true
same_block _ _ = false

abbrev pub is_behind : ℕ → ℕ → ℕ → Bool
is_behind offset bytes at = nat_le (offset + bytes) at

abbrev pub is_clear : Range → Range → Bool
is_clear (range a offset bytes) (range b at more) = not (same_block a b) || (nat_eq bytes 0 || nat_eq more 0) || is_behind offset bytes at || is_behind at more offset

abbrev pub are_clear : List Range → Bool
are_clear [] = true
are_clear (a ∷ as_) = list_all (is_clear a) as_ && are_clear as_

abbrev pub range_in : ℕ → Says → List Range
range_in k (Argument kernel ordinal (kind.PlainStorage set binding offset bytes) name) = if nat_eq kernel k then range (set ∷ binding ∷ []) offset bytes ∷ [] else []
range_in k (Argument kernel ordinal (kind.PlainPush offset bytes) name) = if nat_eq kernel k then range [] offset bytes ∷ [] else []
range_in k _ = []

module _ (w : Whole) where
  -- the bytes of the block that a variable points to, and of the block at a set and binding
  abbrev pub pointed_size : Option ℕ → ℕ
  pointed_size None = 0
  pointed_size (Some t) = size w t

  abbrev pub block_sizes : ℕ → ℕ → List Line → ℕ
  block_sizes set binding [] = 0
  block_sizes set binding (v ∷ vs) = if is_block_at w (is_sized_block w) set binding v then pointed_size (pointee w v.type) else block_sizes set binding vs

  abbrev pub block_size : ℕ → ℕ → ℕ
  block_size set binding = block_sizes set binding w.variables

  abbrev pub push_size : List ℕ → ℕ
  push_size [] = 0
  push_size (v ∷ vs) = pointed_size (pointee w (type_of w v))

  abbrev pub size_of_block : ℕ → List ℕ → ℕ
  size_of_block function (set ∷ binding ∷ []) = block_size set binding
  size_of_block function _ = push_size (used w function storage_class.PUSH_CONSTANT)

  abbrev pub is_within : ℕ → Range → Bool
  is_within function (range block offset bytes) = nat_le (offset + bytes) (size_of_block function block)

  -- a range in push constants that the entry point doesn't use leaves its block
  abbrev pub has_push : ℕ → Range → Bool
  has_push function (range [] offset bytes) = is_some_number w (used w function storage_class.PUSH_CONSTANT)
  has_push function (range (s ∷ b) offset bytes) = true

  abbrev pub ranges_stand : List Reflecting → Reflecting → Bool
  ranges_stand all (reflects r (Kernel function name)) = list_all (is_within function) (gathered (range_in r) all) && list_all (has_push function) (gathered (range_in r) all) && are_clear (gathered (range_in r) all)
  ranges_stand all l = true

  -- ---- F7: some lines come but once, the sizes are there where the module leaves a group's size open, and the constant data fills its block

  abbrev pub are_open : Says → Bool
  are_open (Sizes x y z) = nat_eq x 0 && nat_eq y 1 && nat_eq z 2
  are_open _ = false

  abbrev pub is_sizes : Says → Bool
  is_sizes (Sizes x y z) = true
  is_sizes _ = false

  abbrev pub is_dimension : Says → Bool
  is_dimension (Dimension id) = true
  is_dimension _ = false

  abbrev pub is_constants : Says → Bool
  is_constants (Constants set binding hex) = true
  is_constants _ = false

  abbrev pub is_required : ℕ → Says → Bool
  is_required k (Required kernel x y z) = nat_eq kernel k
  is_required k _ = false

  abbrev pub are_sizes : List Reflecting → Bool
  are_sizes all = if is_some_number w (sized w.marks) then (count_of is_sizes all == 1) && (count_of are_open all == 1) else (count_of is_sizes all == 0)

  abbrev pub has_length : ℕ → Option (List ℕ) → Bool
  has_length n (Some bytes) = nat_eq (length bytes) n
  has_length n None = false

  abbrev pub fills : Says → Bool
  fills (Constants set binding hex) = has_length (block_size set binding) (bytes_of hex)
  fills _ = true

  abbrev pub once_required : List Reflecting → Reflecting → Bool
  once_required all l = nat_le (count_of (is_required (result_of l)) all) 1

-- The rules on rows.
pub record KeepsRowRules (w : Whole) : Type 0 where
  -- F1 to F4
  pub known : each_says is_known (reflection_lines w) ≡ true
  pub operands : each_says (has_operands (reflection_lines w)) (reflection_lines w) ≡ true
  pub kernels : each_says (is_entry w (reflection_lines w)) (reflection_lines w) ≡ true
  pub entries : list_all (has_kernel w (reflection_lines w)) w.entries ≡ true
  pub ordinals : list_all (has_order (reflection_lines w)) (reflection_lines w) ≡ true
  -- F5
  pub forms : each_says (stands w) (reflection_lines w) ≡ true
  pub uses : list_all (kernel_stands w (reflection_lines w)) (reflection_lines w) ≡ true
  -- F6
  pub ranges : list_all (ranges_stand w (reflection_lines w)) (reflection_lines w) ≡ true
  -- F7
  pub sizes : are_sizes w (reflection_lines w) ≡ true
  pub one_dimension : nat_le (count_of (is_dimension w) (reflection_lines w)) 1 ≡ true
  pub one_constants : nat_le (count_of (is_constants w) (reflection_lines w)) 1 ≡ true
  pub data_fills : each_says (fills w) (reflection_lines w) ≡ true
  pub one_required : list_all (once_required w (reflection_lines w)) (reflection_lines w) ≡ true
