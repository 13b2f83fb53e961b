-- What the reflection lines of a module say, and the rows that they make (NonSemantic.ClspvReflection.1). By rule 44 each OpExtInst is one of them.
use Rattle.std.specs.Prelude.{ℕ, ◌+◌, ◌-◌, ◌*◌, ◌==◌, nat_eq, nat_le, Bool, ◌&&◌, if◌then◌else◌, List, [], ◌∷◌, ◌++◌, Option, Some, None}
use Rattle.spv_module.specs.declared.op.TheConstants as op
use Rattle.spv_module.specs.Options.{◌>>=◌, only_if, or_default, for_each}
use Rattle.spv_types_rules.specs.Lines.{Line, Whole, has_op, id_of, first, rest, defined, is_op, is_int_of, type_of, literal}
use Rattle.spv_reflect.specs.declared.rows.ArgKindRow.{ArgKindRow}
use Rattle.spv_reflect.specs.declared.rows.ArgKindRow.TheVariants as kind
use Rattle.spv_reflect.specs.declared.rows.ArgRow.{ArgRow}
use Rattle.spv_reflect.specs.declared.rows.ConstantRow.{ConstantRow}
use Rattle.spv_reflect.specs.declared.rows.KernelRow.{KernelRow}
use Rattle.spv_reflect.specs.declared.rows.Reflection.{Reflection}

-- A kernel (1), the name of an argument (2), an argument (3, 5, 7, 11) by the results of its kernel's line and its name's, the SpecIds of the sizes (12) and of the work dimension (14), the constant data in hexadecimal (21), and the size of group that a kernel requires (24). The operands may be wrong, and there are other numbers.
pub data Says : Type 0 where
  Kernel : (function : ℕ) (name : List ℕ) → Says
  Name : (text : List ℕ) → Says
  Argument : (kernel ordinal : ℕ) (kind : ArgKindRow) (name : ℕ) → Says
  Sizes : (x y z : ℕ) → Says
  Dimension : (id : ℕ) → Says
  Constants : (set binding : ℕ) (hex : List ℕ) → Says
  Required : (kernel x y z : ℕ) → Says
  Wrong : Says
  Unknown : Says

-- a line by its result
pub data Reflecting : Type 0 where
  reflects : (result : ℕ) (says : Says) → Reflecting

-- ---- operands

abbrev pub first_text : List (List ℕ) → Option (List ℕ)
first_text (t ∷ []) = Some t
first_text _ = None

abbrev pub text_by : Option Line → Option (List ℕ)
text_by None = None
text_by (Some l) = only_if (has_op op.STRING l) l.texts >>= first_text

module _ (w : Whole) where
  -- the number of a 32-bit constant, and the bytes of a string
  abbrev pub number_at : ℕ → Option ℕ
  number_at id = only_if (is_int_of w 32 (type_of w id)) id >>= literal w

  abbrev pub numbers_at : List ℕ → Option (List ℕ)
  numbers_at ids = for_each number_at ids

  abbrev pub text_at : ℕ → Option (List ℕ)
  text_at id = text_by (defined w id)

  -- ---- lines by their numbers

  abbrev pub kernel_line : List ℕ → Option Says
  kernel_line (f ∷ n ∷ []) = text_at n >>= λ name. only_if (is_op w op.FUNCTION f) (Kernel f name)
  kernel_line _ = None

  abbrev pub name_line : List ℕ → Option Says
  name_line (n ∷ []) = text_at n >>= λ text. Some (Name text)
  name_line _ = None

  abbrev pub buffer_by : ℕ → ℕ → List ℕ → Option Says
  buffer_by k i (ordinal ∷ set ∷ binding ∷ []) = Some (Argument k ordinal (kind.Buffer set binding) i)
  buffer_by k i _ = None

  abbrev pub buffer_line : List ℕ → Option Says
  buffer_line (k ∷ o ∷ s ∷ b ∷ i ∷ []) = numbers_at (o ∷ s ∷ b ∷ []) >>= buffer_by k i
  buffer_line _ = None

  abbrev pub plain_by : ℕ → ℕ → List ℕ → Option Says
  plain_by k i (ordinal ∷ set ∷ binding ∷ offset ∷ size ∷ []) = Some (Argument k ordinal (kind.PlainStorage set binding offset size) i)
  plain_by k i _ = None

  abbrev pub plain_line : List ℕ → Option Says
  plain_line (k ∷ o ∷ s ∷ b ∷ at ∷ n ∷ i ∷ []) = numbers_at (o ∷ s ∷ b ∷ at ∷ n ∷ []) >>= plain_by k i
  plain_line _ = None

  abbrev pub push_by : ℕ → ℕ → List ℕ → Option Says
  push_by k i (ordinal ∷ offset ∷ size ∷ []) = Some (Argument k ordinal (kind.PlainPush offset size) i)
  push_by k i _ = None

  abbrev pub push_line : List ℕ → Option Says
  push_line (k ∷ o ∷ at ∷ n ∷ i ∷ []) = numbers_at (o ∷ at ∷ n ∷ []) >>= push_by k i
  push_line _ = None

  abbrev pub local_by : ℕ → ℕ → List ℕ → Option Says
  local_by k i (ordinal ∷ spec ∷ size ∷ []) = Some (Argument k ordinal (kind.Local spec size) i)
  local_by k i _ = None

  abbrev pub local_line : List ℕ → Option Says
  local_line (k ∷ o ∷ spec ∷ n ∷ i ∷ []) = numbers_at (o ∷ spec ∷ n ∷ []) >>= local_by k i
  local_line _ = None

  abbrev pub sizes_by : List ℕ → Option Says
  sizes_by (x ∷ y ∷ z ∷ []) = Some (Sizes x y z)
  sizes_by _ = None

  abbrev pub dimension_by : List ℕ → Option Says
  dimension_by (id ∷ []) = Some (Dimension id)
  dimension_by _ = None

  abbrev pub constants_by : List ℕ → List ℕ → Option Says
  constants_by hex (set ∷ binding ∷ []) = Some (Constants set binding hex)
  constants_by hex _ = None

  abbrev pub constants_line : List ℕ → Option Says
  constants_line (s ∷ b ∷ h ∷ []) = text_at h >>= λ hex. numbers_at (s ∷ b ∷ []) >>= constants_by hex
  constants_line _ = None

  abbrev pub required_by : ℕ → List ℕ → Option Says
  required_by k (x ∷ y ∷ z ∷ []) = Some (Required k x y z)
  required_by k _ = None

  abbrev pub required_line : List ℕ → Option Says
  required_line (k ∷ sizes) = numbers_at sizes >>= required_by k
  required_line [] = None

  abbrev pub says_by : ℕ → List ℕ → Says
  says_by number ids =
      if number == 1 then or_default (kernel_line ids) Wrong
      else if number == 2 then or_default (name_line ids) Wrong
      else if number == 3 then or_default (buffer_line ids) Wrong
      else if number == 5 then or_default (plain_line ids) Wrong
      else if number == 7 then or_default (push_line ids) Wrong
      else if number == 11 then or_default (local_line ids) Wrong
      else if number == 12 then or_default (numbers_at ids >>= sizes_by) Wrong
      else if number == 14 then or_default (numbers_at ids >>= dimension_by) Wrong
      else if number == 21 then or_default (constants_line ids) Wrong
      else if number == 24 then or_default (required_line ids) Wrong
      else Unknown

  abbrev pub reflecting : Line → List Reflecting
  reflecting l = if has_op op.EXT_INST l then reflects (id_of l) (says_by (first l.numbers) (rest l.ids)) ∷ [] else []

  abbrev pub reflecting_in : List Line → List Reflecting
  reflecting_in [] = []
  reflecting_in (l ∷ ls) = reflecting l ++ reflecting_in ls

  -- the reflection lines of the module
  abbrev pub reflection_lines : List Reflecting
  reflection_lines = reflecting_in w.lines

-- ---- hexadecimal, in either case

abbrev pub between : ℕ → ℕ → ℕ → Bool
between low high b = nat_le low b && nat_le b high

abbrev pub digit_of : ℕ → Option ℕ
digit_of b = if between 48 57 b then Some (b - 48) else if between 97 102 b then Some (b - 87) else if between 65 70 b then Some (b - 55) else None

abbrev pub bytes_of : List ℕ → Option (List ℕ)
bytes_of [] = Some []
bytes_of (a ∷ b ∷ more) = digit_of a >>= λ high. digit_of b >>= λ low. bytes_of more >>= λ bytes. Some ((16 * high + low) ∷ bytes)
bytes_of (a ∷ []) = None

-- ---- rows

abbrev pub name_among : List Reflecting → ℕ → List ℕ
name_among [] id = []
name_among (reflects r (Name text) ∷ ls) id = if nat_eq r id then text else name_among ls id
name_among (l ∷ ls) id = name_among ls id

abbrev pub argument_of : List Reflecting → ℕ → Says → List ArgRow
argument_of all kernel (Argument k ordinal kind name) = if nat_eq k kernel then record { name = name_among all name; kind = kind } ∷ [] else []
argument_of all kernel _ = []

-- the arguments of a kernel's line; by rule F4 they stand in their order
abbrev pub arguments_of : List Reflecting → ℕ → List Reflecting → List ArgRow
arguments_of all kernel [] = []
arguments_of all kernel (reflects r says ∷ ls) = argument_of all kernel says ++ arguments_of all kernel ls

abbrev pub required_of : ℕ → List Reflecting → Option (List ℕ)
required_of kernel [] = None
required_of kernel (reflects r (Required k x y z) ∷ ls) = if nat_eq k kernel then Some (x ∷ y ∷ z ∷ []) else required_of kernel ls
required_of kernel (l ∷ ls) = required_of kernel ls

abbrev pub kernel_of : List Reflecting → ℕ → Says → List KernelRow
kernel_of all r (Kernel function name) = record { function = function; name = name; args = arguments_of all r all; required = required_of r all } ∷ []
kernel_of all r _ = []

abbrev pub kernels_of : List Reflecting → List Reflecting → List KernelRow
kernels_of all [] = []
kernels_of all (reflects r says ∷ ls) = kernel_of all r says ++ kernels_of all ls

abbrev pub sizes_of : List Reflecting → Option (List ℕ)
sizes_of [] = None
sizes_of (reflects r (Sizes x y z) ∷ ls) = Some (x ∷ y ∷ z ∷ [])
sizes_of (l ∷ ls) = sizes_of ls

abbrev pub dimension_of : List Reflecting → Option ℕ
dimension_of [] = None
dimension_of (reflects r (Dimension id) ∷ ls) = Some id
dimension_of (l ∷ ls) = dimension_of ls

abbrev pub constants_of : List Reflecting → Option ConstantRow
constants_of [] = None
constants_of (reflects r (Constants set binding hex) ∷ ls) = Some (record { set = set; binding = binding; bytes = or_default (bytes_of hex) [] })
constants_of (l ∷ ls) = constants_of ls

-- The rows of a module.
abbrev pub rows_of : Whole → Reflection
rows_of w =
    let all = reflection_lines w in
    record { kernels = kernels_of all all; sizes = sizes_of all; dim = dimension_of all; constants = constants_of all }
