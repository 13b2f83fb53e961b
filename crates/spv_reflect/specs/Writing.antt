-- The reflection lines that are written for some rows, what they name, and where they stand in the module.
use Rattle.std.specs.Prelude.{◌≡◌, ℕ, ◌+◌, ◌*◌, ◌≤◌, ◌<◌, ◌||◌, ◌==◌, Bool, true, false, not, if◌then◌else◌, List, [], ◌∷◌, ◌++◌, length, codes, Option, Some, None, All}
use Rattle.spv_module.specs.declared.module.Inst.{Inst}
use Rattle.spv_module.specs.declared.module.Module.{Module}
use Rattle.spv_module.specs.declared.module.Operand.{Operand}
use Rattle.spv_module.specs.declared.module.Operand.TheVariants.{Id, Word, Str}
use Rattle.spv_module.specs.declared.module.TheConstants.{MAX_BOUND, MAX_BYTES}
use Rattle.spv_module.specs.declared.op.TheConstants as op
use Rattle.spv_module.specs.Instructions.{Said, VoidType, result_of, said, definition_in}
use Rattle.spv_module.specs.Options.{◌>>=◌, or_else, only_if, or_default}
use Rattle.spv_module.specs.Words.{IsString, AreSpelled, IsSpelled, HasCount, module_words}
use Rattle.spv_reflect.specs.declared.line.number.TheConstants as line_number
use Rattle.spv_reflect.specs.declared.choice.Wanted.{Wanted}
use Rattle.spv_reflect.specs.declared.choice.Wanted.TheVariants as wanted
use Rattle.spv_reflect.specs.declared.copying.Section.{Section}
use Rattle.spv_reflect.specs.declared.copying.Section.TheVariants.{Imports, Strings, Types}
use Rattle.spv_reflect.specs.declared.writing.Layout.{Layout}
use Rattle.spv_reflect.specs.declared.rows.ArgKindRow.{ArgKindRow}
use Rattle.spv_reflect.specs.declared.rows.ArgKindRow.TheVariants.{Buffer}
use Rattle.spv_reflect.specs.declared.rows.ArgRow.{ArgRow}
use Rattle.spv_reflect.specs.declared.rows.KernelRow.{KernelRow}
use Rattle.spv_reflect.specs.declared.rows.Reflection.{Reflection}
use Rattle.spv_reflect.specs.Reflection.{function_by, is_reflection, is_word_type}

-- ---- instructions

abbrev pub inst : ℕ → List Operand → Inst
inst code operands = record { op = code; operands = operands }

abbrev pub import_line : ℕ → Inst
import_line id = inst op.EXT_INST_IMPORT (Id id ∷ Str (codes "NonSemantic.ClspvReflection.1") ∷ [])

abbrev pub string_line : ℕ → List ℕ → Inst
string_line id text = inst op.STRING (Id id ∷ Str text ∷ [])

abbrev pub void_line : ℕ → Inst
void_line id = inst op.TYPE_VOID (Id id ∷ [])

abbrev pub word_type_line : ℕ → Inst
word_type_line id = inst op.TYPE_INT (Id id ∷ Word 32 ∷ Word 0 ∷ [])

abbrev pub constant_line : ℕ → ℕ → ℕ → Inst
constant_line type id value = inst op.CONSTANT (Id type ∷ Id id ∷ Word value ∷ [])

abbrev pub all_ids : List ℕ → List Operand
all_ids [] = []
all_ids (i ∷ is) = Id i ∷ all_ids is

abbrev pub extended_line : ℕ → ℕ → ℕ → ℕ → List ℕ → Inst
extended_line void set id number ids = inst op.EXT_INST (Id void ∷ Id id ∷ Id set ∷ Word number ∷ all_ids ids)

-- ---- what the lines of some rows name: texts, and numbers

abbrev pub set_of : ArgKindRow → ℕ
set_of (Buffer set binding) = set
set_of _ = 0

abbrev pub binding_of : ArgKindRow → ℕ
binding_of (Buffer set binding) = binding
binding_of _ = 0

abbrev pub texts_of_args : List ArgRow → List (List ℕ)
texts_of_args [] = []
texts_of_args (a ∷ as_) = a.name ∷ texts_of_args as_

abbrev pub texts_of : List KernelRow → List (List ℕ)
texts_of [] = []
texts_of (k ∷ ks) = k.name ∷ (texts_of_args k.args ++ texts_of ks)

abbrev pub numbers_of_args : ℕ → List ArgRow → List ℕ
numbers_of_args ordinal [] = []
numbers_of_args ordinal (a ∷ as_) = ordinal ∷ set_of a.kind ∷ binding_of a.kind ∷ numbers_of_args (ordinal + 1) as_

abbrev pub numbers_of_kernels : List KernelRow → List ℕ
numbers_of_kernels [] = []
numbers_of_kernels (k ∷ ks) = numbers_of_args 0 k.args ++ numbers_of_kernels ks

abbrev pub numbers_of_sizes : Option (List ℕ) → List ℕ
numbers_of_sizes (Some sizes) = sizes
numbers_of_sizes None = []

-- sizes, where there are some, are three
abbrev pub AreThree : Option (List ℕ) → Type 0
AreThree (Some sizes) = length sizes ≡ 3
AreThree None = Unit {0}

abbrev pub numbers_of : Reflection → List ℕ
numbers_of r = numbers_of_kernels r.kernels ++ numbers_of_sizes r.sizes

-- ---- their definitions, by ids in order

abbrev pub strings_from : ℕ → List (List ℕ) → List Inst
strings_from id [] = []
strings_from id (t ∷ ts) = string_line id t ∷ strings_from (id + 1) ts

abbrev pub constants_from : ℕ → ℕ → List ℕ → List Inst
constants_from type id [] = []
constants_from type id (n ∷ ns) = constant_line type id n ∷ constants_from type (id + 1) ns

-- ---- the lines

-- the line of an argument that is a buffer: its ordinal, its set and its binding are numbers in a row
abbrev pub buffer_line : (void set kernel number line : ℕ) → Inst
buffer_line void set kernel number line = extended_line void set (line + 1) line_number.ARGUMENT_STORAGE_BUFFER (kernel ∷ number ∷ (number + 1) ∷ (number + 2) ∷ line ∷ [])

-- An argument's lines: its name, and the numbers that are its place. A text's id stands before a number's and a line's.
abbrev pub lines_of_arg : (void set kernel text number line : ℕ) → List Inst
lines_of_arg void set kernel text number line =
    extended_line void set line line_number.ARGUMENT_INFO (text ∷ [])
    ∷ buffer_line void set kernel number line
    ∷ []

abbrev pub lines_of_args : (void set kernel text number line : ℕ) → List ArgRow → List Inst
lines_of_args void set kernel text number line [] = []
lines_of_args void set kernel text number line (a ∷ as_) = lines_of_arg void set kernel text number line ++ lines_of_args void set kernel (text + 1) (number + 3) (line + 2) as_

abbrev pub lines_of_kernel : (void set text number line : ℕ) → KernelRow → List Inst
lines_of_kernel void set text number line k = extended_line void set line line_number.KERNEL (k.function ∷ text ∷ []) ∷ lines_of_args void set line (text + 1) number (line + 1) k.args

abbrev pub lines_of_kernels : (void set text number line : ℕ) → List KernelRow → List Inst
lines_of_kernels void set text number line [] = []
lines_of_kernels void set text number line (k ∷ ks) =
    lines_of_kernel void set text number line k ++ lines_of_kernels void set (text + 1 + length k.args) (number + 3 * length k.args) (line + 1 + 2 * length k.args) ks

abbrev pub line_of_sizes : (void set number line : ℕ) → Option (List ℕ) → List Inst
line_of_sizes void set number line None = []
line_of_sizes void set number line (Some sizes) = extended_line void set line line_number.SPEC_CONSTANT_WORKGROUP_SIZE (number ∷ (number + 1) ∷ (number + 2) ∷ []) ∷ []

abbrev pub args_in : List KernelRow → ℕ
args_in [] = 0
args_in (k ∷ ks) = length k.args + args_in ks

abbrev pub other_rows : Option (List ℕ) → ℕ
other_rows None = 0
other_rows (Some sizes) = 1

-- the kernels, the arguments and the other rows
abbrev pub rows_among : Reflection → ℕ
rows_among r = length r.kernels + args_in r.kernels + other_rows r.sizes

abbrev pub lines_of : (void set text number line : ℕ) → Reflection → List Inst
lines_of void set text number line r =
    lines_of_kernels void set text number line r.kernels
    ++ line_of_sizes void set (number + 3 * args_in r.kernels) (line + length r.kernels + 2 * args_in r.kernels) r.sizes

-- how many lines these are
abbrev pub lines_among : Reflection → ℕ
lines_among r = length r.kernels + 2 * args_in r.kernels + other_rows r.sizes

-- ---- sections

abbrev pub is_in : Section → ℕ → Bool
is_in Imports code = (code == op.CAPABILITY) || (code == op.EXTENSION) || (code == op.EXT_INST_IMPORT)
is_in Strings code = (code == op.MEMORY_MODEL) || (code == op.ENTRY_POINT) || (code == op.EXECUTION_MODE) || (code == op.STRING)
is_in Types code = not (code == op.FUNCTION)

-- the instructions that stand first in a section, and those behind them
abbrev pub leading : Section → List Inst → List Inst
leading section [] = []
leading section (i ∷ is) = if is_in section i.op then i ∷ leading section is else []

abbrev pub behind : Section → List Inst → List Inst
behind section [] = []
behind section (i ∷ is) = if is_in section i.op then behind section is else i ∷ is

-- ---- what the module has already

abbrev pub op_of : Wanted → ℕ
op_of wanted.Import = op.EXT_INST_IMPORT
op_of wanted.Void = op.TYPE_VOID
op_of wanted.WordType = op.TYPE_INT

abbrev pub is_void : Option Said → Bool
is_void (Some (VoidType r)) = true
is_void _ = false

abbrev pub is_wanted : Wanted → Option Said → Bool
is_wanted wanted.Import = is_reflection
is_wanted wanted.Void = is_void
is_wanted wanted.WordType = is_word_type

-- the id that an instruction defines, where it is what is wanted, and the first such id
abbrev pub made_by : List Inst → Wanted → Inst → Option ℕ
made_by body w i = if i.op == op_of w then (result_of (said i) >>= λ id. only_if (is_wanted w (definition_in body id)) id) else None

abbrev pub find_in : List Inst → Wanted → List Inst → Option ℕ
find_in body w [] = None
find_in body w (i ∷ is) = or_else (made_by body w i) (find_in body w is)

-- ---- the module with the lines

-- what is added where something wanted isn't there
abbrev pub new_one : Option ℕ → Inst → List Inst
new_one (Some id) i = []
new_one None i = i ∷ []

abbrev pub count_new : Option ℕ → ℕ
count_new (Some id) = 0
count_new None = 1

-- Ids in order from a bound on: the import's, the texts', the types', the numbers' and the lines'.
abbrev pub first_text : Layout → ℕ
first_text l = l.bound + count_new l.import

abbrev pub void_id : Layout → ℕ
void_id l = first_text l + l.texts

abbrev pub word_id : Layout → ℕ
word_id l = void_id l + count_new l.void

abbrev pub first_number : Layout → ℕ
first_number l = word_id l + count_new l.word

abbrev pub first_line : Layout → ℕ
first_line l = first_number l + l.numbers

abbrev pub layout_of : List Inst → ℕ → Reflection → Layout
layout_of body bound r = record {
  import = find_in body wanted.Import body;
  void = find_in body wanted.Void body;
  word = find_in body wanted.WordType body;
  bound = bound;
  texts = length (texts_of r.kernels);
  numbers = length (numbers_of r);
}

abbrev pub front_with : Layout → List (List ℕ) → List Inst → List Inst
front_with l texts body = leading Imports body ++ (new_one l.import (import_line l.bound) ++ (leading Strings (behind Imports body) ++ strings_from (first_text l) texts))

abbrev pub types_with : Layout → List ℕ → List Inst → List Inst
types_with l numbers body = leading Types body ++ (new_one l.void (void_line (void_id l)) ++ (new_one l.word (word_type_line (word_id l)) ++ constants_from (or_default l.word (word_id l)) (first_number l) numbers))

abbrev pub lines_with : Layout → Reflection → List Inst
lines_with l r = lines_of (or_default l.void (void_id l)) (or_default l.import l.bound) (first_text l) (first_number l) (first_line l) r

abbrev pub body_with : Layout → Reflection → List Inst → List Inst
body_with l r body =
    front_with l (texts_of r.kernels) body
    ++ (types_with l (numbers_of r) (behind Strings (behind Imports body)) ++ (behind Types (behind Strings (behind Imports body)) ++ lines_with l r))

abbrev pub new_body : List Inst → ℕ → Reflection → List Inst
new_body body bound r = body_with (layout_of body bound r) r body

abbrev pub new_bound : List Inst → ℕ → Reflection → ℕ
new_bound body bound r = first_line (layout_of body bound r) + lines_among r

-- ---- which rows can be written

pub record IsBuffer (a : ArgRow) : Type 0 where
  pub set : ℕ
  pub binding : ℕ
  pub kind : a.kind ≡ Buffer set binding

pub record IsOfBuffers (k : KernelRow) : Type 0 where
  pub args : All IsBuffer k.args
  pub required : k.required ≡ None

-- Kernels whose arguments are buffers, with or without the SpecIds of the sizes.
pub record AreOfBuffers (r : Reflection) : Type 0 where
  pub kernels : All IsOfBuffers r.kernels
  pub dim : r.dim ≡ None
  pub constants : r.constants ≡ None

-- a text that fits in one OpString
pub record IsShortString (text : List ℕ) : Type 0 where
  pub string : IsString text
  pub short : HasCount (string_line 0 text)

-- what defines the row's function is a function
abbrev pub IsFunctionRow : List Inst → KernelRow → Type 0
IsFunctionRow body k = function_by (definition_in body k.function) ≡ Some k.function

-- A module that some bytes stood for, with other instructions and another bound: some still do, where it isn't too large a file.
pub record StaysSpelled (old new : Module) : Type 0 where
  pub version : new.version ≡ old.version
  pub generator : new.generator ≡ old.generator
  pub body : AreSpelled new.bound new.body
  pub spelled : 4 * length (module_words new) ≤ MAX_BYTES → IsSpelled new

-- ---- what stands where

pub record HasCode (code : ℕ) (i : Inst) : Type 0 where
  pub is : i.op ≡ code

-- the void type, a type of numbers, or a constant
abbrev pub is_type_code : ℕ → Bool
is_type_code code = (code == op.TYPE_VOID) || (code == op.TYPE_INT) || (code == op.CONSTANT)

pub record IsTypeOrConstant (i : Inst) : Type 0 where
  pub is : is_type_code i.op ≡ true

-- The old instructions in their order, with imports, strings, types and constants behind those of their sections, and lines at the end.
pub record IsWidened (old new : List Inst) : Type 0 where
  pub imports : List Inst
  pub strings : List Inst
  pub types : List Inst
  pub lines : List Inst
  pub are_imports : All (HasCode op.EXT_INST_IMPORT) imports
  pub are_strings : All (HasCode op.STRING) strings
  pub are_types : All IsTypeOrConstant types
  pub are_lines : All (HasCode op.EXT_INST) lines
  pub parts : old ≡ leading Imports old ++ (leading Strings (behind Imports old) ++ (leading Types (behind Strings (behind Imports old)) ++ behind Types (behind Strings (behind Imports old))))
  pub joined : new ≡ (leading Imports old ++ (imports ++ (leading Strings (behind Imports old) ++ strings))) ++ ((leading Types (behind Strings (behind Imports old)) ++ types) ++ (behind Types (behind Strings (behind Imports old)) ++ lines))
