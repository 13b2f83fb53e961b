-- What the reflection lines of a module say of its kernels (NonSemantic.ClspvReflection.1).
use Rattle.std.specs.Prelude.{◌≡◌, ℕ, suc, ◌≤◌, Bool, true, false, ◌==◌, ◌&&◌, ◌||◌, nat_eq, if◌then◌else◌, List, [], ◌∷◌, ◌++◌, length, codes, count_by, Option, Some, None, Contains, slice_get}
use Rattle.std.specs.Str.{bytes_eq}
use Rattle.spv_module.specs.declared.module.Inst.{Inst}
use Rattle.spv_module.specs.declared.enumerant.storage_class.TheConstants as storage_class
use Rattle.spv_module.specs.Options.{◌>>=◌, only_if}
use Rattle.spv_reflect.specs.declared.rows.ArgKindRow.TheVariants.{Buffer}
use Rattle.spv_reflect.specs.declared.rows.ArgRow.{ArgRow}
use Rattle.spv_reflect.specs.declared.rows.KernelRow.{KernelRow}
use Rattle.spv_reflect.specs.declared.rows.Reflection.{Reflection}
use Rattle.spv_module.specs.Instructions.{Said, String, Import, Extended, IntType, Constant, Function, said, definition_in}
use Rattle.spv_module.specs.declared.enumerant.execution_model.TheConstants as execution_model
use Rattle.spv_module.specs.Interface.{IsBufferVariable, HasGroupSize, Entry, is_bound_at, variables_in, entry_points_in}

-- A reflection line, by the id of its result and what its operands say: a kernel's function and name (1), an argument's name (2), a buffer argument (3: its kernel's line, its ordinal, its set and binding, its name's line), and the SpecIds of the sizes (12). A line of one of these numbers may have wrong operands, and there are other numbers.
pub data Line : Type 0 where
  KernelLine : (r function : ℕ) (name : List ℕ) → Line
  NameLine : (r : ℕ) (name : List ℕ) → Line
  BufferLine : (r kernel ordinal set binding name : ℕ) → Line
  SizesLine : (r x y z : ℕ) → Line
  WrongLine : (r number : ℕ) → Line
  UnknownLine : Line

-- a 32-bit constant's number, and a string's bytes
abbrev pub is_word_type : Option Said → Bool
is_word_type (Some (IntType r width signedness)) = width == 32
is_word_type _ = false

abbrev pub number_by : List Inst → Option Said → Option ℕ
number_by body (Some (Constant t r value)) = only_if (is_word_type (definition_in body t)) value
number_by body _ = None

abbrev pub number_at : List Inst → ℕ → Option ℕ
number_at body id = number_by body (definition_in body id)

abbrev pub text_by : Option Said → Option (List ℕ)
text_by (Some (String r text)) = Some text
text_by _ = None

abbrev pub text_at : List Inst → ℕ → Option (List ℕ)
text_at body id = text_by (definition_in body id)

abbrev pub function_by : Option Said → Option ℕ
function_by (Some (Function t r type)) = Some r
function_by _ = None

abbrev pub or_wrong : ℕ → ℕ → Option Line → Line
or_wrong r number (Some l) = l
or_wrong r number None = WrongLine r number

abbrev pub kernel_line : List Inst → ℕ → List ℕ → Line
kernel_line body r (f ∷ n ∷ []) = or_wrong r 1 (function_by (definition_in body f) >>= λ function. text_at body n >>= λ name. Some (KernelLine r function name))
kernel_line body r _ = WrongLine r 1

abbrev pub name_line : List Inst → ℕ → List ℕ → Line
name_line body r (n ∷ []) = or_wrong r 2 (text_at body n >>= λ name. Some (NameLine r name))
name_line body r _ = WrongLine r 2

abbrev pub buffer_line : List Inst → ℕ → List ℕ → Line
buffer_line body r (k ∷ o ∷ s ∷ b ∷ n ∷ []) = or_wrong r 3 (number_at body o >>= λ ordinal. number_at body s >>= λ set. number_at body b >>= λ binding. Some (BufferLine r k ordinal set binding n))
buffer_line body r _ = WrongLine r 3

abbrev pub sizes_line : List Inst → ℕ → List ℕ → Line
sizes_line body r (a ∷ b ∷ c ∷ []) = or_wrong r 12 (number_at body a >>= λ x. number_at body b >>= λ y. number_at body c >>= λ z. Some (SizesLine r x y z))
sizes_line body r _ = WrongLine r 12

abbrev pub line_by : List Inst → ℕ → ℕ → List ℕ → Line
line_by body number r os =
    if number == 1 then kernel_line body r os else (if number == 2 then name_line body r os else (if number == 3 then buffer_line body r os else (if number == 12 then sizes_line body r os else UnknownLine)))

abbrev pub is_reflection : Option Said → Bool
is_reflection (Some (Import r name)) = bytes_eq name (codes "NonSemantic.ClspvReflection.1")
is_reflection _ = false

abbrev pub line_of : List Inst → Said → Option Line
line_of body (Extended t r set number os) = only_if (is_reflection (definition_in body set)) (line_by body number r os)
line_of body _ = None

abbrev pub with_line : Option Line → List Line → List Line
with_line (Some l) ls = l ∷ ls
with_line None ls = ls

-- the lines among some instructions of a module
abbrev pub lines_in : List Inst → List Inst → List Line
lines_in body [] = []
lines_in body (i ∷ is) = with_line (line_of body (said i)) (lines_in body is)

-- ---- the rules that a line keeps or breaks

-- whether it is a line of this number with this result, and whether there is one
abbrev pub is_line : ℕ → ℕ → Line → Bool
is_line number id (KernelLine r function name) = (number == 1) && nat_eq r id
is_line number id (NameLine r name) = (number == 2) && nat_eq r id
is_line number id (BufferLine r kernel ordinal set binding name) = (number == 3) && nat_eq r id
is_line number id (SizesLine r x y z) = (number == 12) && nat_eq r id
is_line number id (WrongLine r n) = (number == n) && nat_eq r id
is_line number id UnknownLine = false

abbrev pub has_line : ℕ → ℕ → List Line → Bool
has_line number id [] = false
has_line number id (l ∷ ls) = is_line number id l || has_line number id ls

-- F1: its number is one of these
abbrev pub is_known : Line → Bool
is_known UnknownLine = false
is_known _ = true

-- F2: its operands are right. A kernel is named by a kernel's line, and a name by a name's line, wherever these stand.
abbrev pub has_operands : List Line → Line → Bool
has_operands all (WrongLine r number) = false
has_operands all (BufferLine r kernel ordinal set binding name) = has_line 1 kernel all && has_line 2 name all
has_operands all _ = true

-- how many of these lines are an argument of a kernel's line
abbrev pub is_argument : ℕ → Line → Bool
is_argument kernel (BufferLine r k ordinal set binding name) = nat_eq k kernel
is_argument kernel _ = false

abbrev pub arguments_among : ℕ → List Line → ℕ
arguments_among kernel [] = 0
arguments_among kernel (l ∷ ls) = if is_argument kernel l then suc (arguments_among kernel ls) else arguments_among kernel ls

-- F4: an argument's ordinal is the number of its kernel's arguments before it
abbrev pub is_in_order : List Line → Line → Bool
is_in_order before (BufferLine r kernel ordinal set binding name) = nat_eq ordinal (arguments_among kernel before)
is_in_order before _ = true

-- whether a line keeps the rule of this number, among all lines and behind those before it
abbrev pub keeps : ℕ → List Line → List Line → Line → Bool
keeps rule all before l = if rule == 1 then is_known l else (if rule == 2 then has_operands all l else (if rule == 4 then is_in_order before l else true))

-- whether each of the lines does that stand behind some others
abbrev pub each_keeps : ℕ → List Line → List Line → List Line → Bool
each_keeps rule all before [] = true
each_keeps rule all before (l ∷ ls) = keeps rule all before l && each_keeps rule all (before ++ l ∷ []) ls

abbrev pub are_right : List Line → Bool
are_right lines = each_keeps 1 lines [] lines && each_keeps 2 lines [] lines && each_keeps 4 lines [] lines

-- The instruction at this place is a reflection line that breaks the rule of this number.
pub record Breaks (body : List Inst) (rule place : ℕ) : Type 0 where
  pub before : List Inst
  pub inst : Inst
  pub after : List Inst
  pub line : Line
  pub split : body ≡ before ++ inst ∷ after
  pub stands : place ≡ length before
  pub reads : line_of body (said inst) ≡ Some line
  pub broken : keeps rule (lines_in body body) (lines_in body before) line ≡ false

-- No rule of a lesser number is broken, and this one nowhere earlier.
pub record IsFirstBreak (body : List Inst) (rule place : ℕ) : Type 0 where
  pub breaks : Breaks body rule place
  pub least : (other at : ℕ) → Breaks body other at → rule ≤ other
  pub first : (at : ℕ) → Breaks body rule at → place ≤ at

-- ---- the rows

-- the name of the line with this result
abbrev pub name_in : List Line → ℕ → List ℕ
name_in [] id = []
name_in (NameLine r name ∷ ls) id = if nat_eq r id then name else name_in ls id
name_in (_ ∷ ls) id = name_in ls id

-- the arguments of a kernel's line
abbrev pub arguments_in : List Line → ℕ → List Line → List ArgRow
arguments_in all kernel [] = []
arguments_in all kernel (BufferLine r k ordinal set binding info ∷ ls) =
    if nat_eq k kernel then (record { name = name_in all info; kind = Buffer set binding } ∷ arguments_in all kernel ls) else arguments_in all kernel ls
arguments_in all kernel (_ ∷ ls) = arguments_in all kernel ls

abbrev pub kernels_in : List Line → List Line → List KernelRow
kernels_in all [] = []
kernels_in all (KernelLine r function name ∷ ls) = record { function = function; name = name; args = arguments_in all r all; required = None } ∷ kernels_in all ls
kernels_in all (_ ∷ ls) = kernels_in all ls

abbrev pub sizes_in : List Line → Option (List ℕ)
sizes_in [] = None
sizes_in (SizesLine r x y z ∷ ls) = Some (x ∷ y ∷ z ∷ [])
sizes_in (_ ∷ ls) = sizes_in ls

abbrev pub rows_in : List Line → Reflection
rows_in lines = record { kernels = kernels_in lines lines; sizes = sizes_in lines; dim = None; constants = None }

abbrev pub rows_by : List Line → Option Reflection
rows_by lines = only_if (are_right lines) (rows_in lines)

-- The rows of a module. None where a line breaks one of these rules.
abbrev pub rows_of : List Inst → Option Reflection
rows_of body = rows_by (lines_in body body)

abbrev pub is_row_of : ℕ → KernelRow → Bool
is_row_of function row = nat_eq row.function function

-- The rules that the rows keep beside, by their numbers.
pub record KeepsReflectionRules (body : List Inst) (r : Reflection) : Type 0 where
  -- F3: a row is an entry point of that name, and each entry point has one row
  pub entries : (row : KernelRow) → Contains r.kernels row → Contains (entry_points_in body) (record { model = execution_model.GL_COMPUTE; function = row.function; name = row.name })
  pub one_row : (e : Entry) → Contains (entry_points_in body) e → count_by (is_row_of e.function) r.kernels ≡ 1
  -- F5: each pair is that of a buffer variable; no two rows of a kernel have one pair; each storage buffer has a row
  pub variables : (row : KernelRow) (a : ArgRow) (set binding : ℕ) → Contains r.kernels row → Contains row.args a → a.kind ≡ Buffer set binding → (v element stride : ℕ) × (is_bound_at body v set binding ≡ true) × IsBufferVariable body v element stride
  pub pairs : (row : KernelRow) (m n : ℕ) (a b : ArgRow) → Contains r.kernels row → slice_get row.args m ≡ Some a → slice_get row.args n ≡ Some b → a.kind ≡ b.kind → m ≡ n
  pub named : (v : ℕ) → Contains (variables_in body) (v, storage_class.STORAGE_BUFFER) → (row : KernelRow) × (a : ArgRow) × (set : ℕ) × (binding : ℕ) × Contains r.kernels row × Contains row.args a × (a.kind ≡ Buffer set binding) × (is_bound_at body v set binding ≡ true)
  -- F7: the sizes are there, as the module has them
  pub sizes : (r.sizes ≡ Some (0 ∷ 1 ∷ 2 ∷ [])) × HasGroupSize body
