-- The operands of each instruction that the compiler knows (SPIR-V 3, Instructions), in one table.
use Rattle.std.specs.Prelude.{ℕ, ◌==◌, ◌&&◌, ◌||◌, Bool, true, false, List, [], ◌∷◌, ◌++◌, map, take, length, Option, None, Some, find, option_map}
use Rattle.spv_module.specs.declared.op.TheConstants as op
use Rattle.spv_module.specs.declared.enumerant.capability.TheConstants as capability
use Rattle.spv_module.specs.declared.enumerant.storage_class.TheConstants as storage_class
use Rattle.spv_module.specs.declared.enumerant.decoration.TheConstants as decoration
use Rattle.spv_module.specs.declared.enumerant.built_in.TheConstants as built_in
use Rattle.spv_module.specs.declared.enumerant.execution_model.TheConstants as execution_model
use Rattle.spv_module.specs.declared.enumerant.execution_mode.TheConstants as execution_mode
use Rattle.spv_module.specs.declared.enumerant.addressing_model.TheConstants as addressing_model
use Rattle.spv_module.specs.declared.enumerant.memory_model.TheConstants as memory_model
use Rattle.spv_module.specs.declared.enumerant.control.TheConstants as control
use Rattle.spv_module.specs.declared.module.Operand.{Operand}
use Rattle.spv_module.specs.declared.module.Operand.TheVariants.{Id, Word, Str}
use Rattle.spv_module.specs.declared.forms.Form.{Form}
use Rattle.spv_module.specs.declared.forms.Slot.{Slot}
use Rattle.spv_module.specs.declared.forms.Slot.TheVariants as slot
use Rattle.spv_module.specs.declared.forms.Last.{Last}
use Rattle.spv_module.specs.declared.forms.Last.TheVariants as last

-- ---- what one operand may be

-- an id, any literal word, an enumerant out of a list, a string
pub data Kind : Type 0 where
  AnId : Kind
  AnyWord : Kind
  OneOf : List ℕ → Kind
  AText : Kind

abbrev pub is_among : List ℕ → ℕ → Bool
is_among [] n = false
is_among (m ∷ ms) n = (m == n) || is_among ms n

abbrev pub is_kind : Kind → Operand → Bool
is_kind AnId (Id n) = true
is_kind AnyWord (Word n) = true
is_kind (OneOf ns) (Word n) = is_among ns n
is_kind AText (Str s) = true
is_kind _ _ = false

-- operands, one of each kind and no more
abbrev pub are_kinds : List Kind → List Operand → Bool
are_kinds [] [] = true
are_kinds [] (o ∷ os) = false
are_kinds (k ∷ ks) [] = false
are_kinds (k ∷ ks) (o ∷ os) = is_kind k o && are_kinds ks os

-- ---- enumerants

abbrev pub capabilities : List ℕ
capabilities = capability.SHADER ∷ capability.INT64 ∷ capability.INT16 ∷ capability.INT8 ∷ capability.STORAGE_BUFFER16_BIT_ACCESS ∷ capability.STORAGE_PUSH_CONSTANT16 ∷ capability.STORAGE_BUFFER8_BIT_ACCESS ∷ capability.STORAGE_PUSH_CONSTANT8 ∷ []

abbrev pub storage_classes : List ℕ
storage_classes = storage_class.INPUT ∷ storage_class.WORKGROUP ∷ storage_class.FUNCTION ∷ storage_class.PUSH_CONSTANT ∷ storage_class.STORAGE_BUFFER ∷ []

abbrev pub built_ins : List ℕ
built_ins = built_in.NUM_WORKGROUPS ∷ built_in.WORKGROUP_SIZE ∷ built_in.WORKGROUP_ID ∷ built_in.LOCAL_INVOCATION_ID ∷ built_in.GLOBAL_INVOCATION_ID ∷ []

abbrev pub execution_models : List ℕ
execution_models = execution_model.GL_COMPUTE ∷ []

abbrev pub execution_modes : List ℕ
execution_modes = execution_mode.LOCAL_SIZE ∷ []

abbrev pub addressing_models : List ℕ
addressing_models = addressing_model.LOGICAL ∷ []

abbrev pub memory_models : List ℕ
memory_models = memory_model.GLSL450 ∷ []

abbrev pub controls : List ℕ
controls = control.NONE ∷ []

-- a decoration, and the kinds of the literals behind it
pub record Decoration : Type 0 where
  pub number : ℕ
  pub literals : List Kind

abbrev pub decorated : ℕ → List Kind → Decoration
decorated n ks = record { number = n; literals = ks }

abbrev pub decorations : List Decoration
decorations =
    decorated decoration.SPEC_ID (AnyWord ∷ [])
    ∷ decorated decoration.BLOCK []
    ∷ decorated decoration.ARRAY_STRIDE (AnyWord ∷ [])
    ∷ decorated decoration.BUILT_IN (OneOf built_ins ∷ [])
    ∷ decorated decoration.RESTRICT []
    ∷ decorated decoration.ALIASED []
    ∷ decorated decoration.NON_WRITABLE []
    ∷ decorated decoration.BINDING (AnyWord ∷ [])
    ∷ decorated decoration.DESCRIPTOR_SET (AnyWord ∷ [])
    ∷ decorated decoration.OFFSET (AnyWord ∷ [])
    ∷ []

abbrev pub is_decoration : ℕ → Decoration → Bool
is_decoration n d = d.number == n

-- ---- the table

-- what may follow the operands that always stand
pub data Rest : Type 0 where
  -- nothing
  End : Rest
  -- one literal word or none
  MaybeWord : Rest
  -- any number of literal words, of ids, of pairs of a literal word and an id
  AnyWords : Rest
  AnyIds : Rest
  AnyPairs : Rest
  -- a decoration and its literals
  ADecoration : Rest

-- an opcode; whether a result type and a result stand first; what stands next, and what may follow
pub record Row : Type 0 where
  pub opcode : ℕ
  pub typed : Bool
  pub makes : Bool
  pub kinds : List Kind
  pub rest : Rest

-- rows with no result, with a result alone, and with a result of a type
abbrev pub plain : ℕ → List Kind → Rest → Row
plain n ks r = record { opcode = n; typed = false; makes = false; kinds = ks; rest = r }

abbrev pub result : ℕ → List Kind → Rest → Row
result n ks r = record { opcode = n; typed = false; makes = true; kinds = ks; rest = r }

abbrev pub value : ℕ → List Kind → Rest → Row
value n ks r = record { opcode = n; typed = true; makes = true; kinds = ks; rest = r }

abbrev pub table : List Row
table =
    value op.UNDEF [] End
    ∷ plain op.NAME (AnId ∷ AText ∷ []) End
    ∷ plain op.MEMBER_NAME (AnId ∷ AnyWord ∷ AText ∷ []) End
    ∷ result op.STRING (AText ∷ []) End
    ∷ plain op.EXTENSION (AText ∷ []) End
    ∷ result op.EXT_INST_IMPORT (AText ∷ []) End
    ∷ value op.EXT_INST (AnId ∷ AnyWord ∷ []) AnyIds
    ∷ plain op.MEMORY_MODEL (OneOf addressing_models ∷ OneOf memory_models ∷ []) End
    ∷ plain op.ENTRY_POINT (OneOf execution_models ∷ AnId ∷ AText ∷ []) AnyIds
    ∷ plain op.EXECUTION_MODE (AnId ∷ OneOf execution_modes ∷ AnyWord ∷ AnyWord ∷ AnyWord ∷ []) End
    ∷ plain op.CAPABILITY (OneOf capabilities ∷ []) End
    ∷ result op.TYPE_VOID [] End
    ∷ result op.TYPE_BOOL [] End
    ∷ result op.TYPE_INT (AnyWord ∷ AnyWord ∷ []) End
    ∷ result op.TYPE_VECTOR (AnId ∷ AnyWord ∷ []) End
    ∷ result op.TYPE_ARRAY (AnId ∷ AnId ∷ []) End
    ∷ result op.TYPE_RUNTIME_ARRAY (AnId ∷ []) End
    ∷ result op.TYPE_STRUCT [] AnyIds
    ∷ result op.TYPE_POINTER (OneOf storage_classes ∷ AnId ∷ []) End
    ∷ result op.TYPE_FUNCTION (AnId ∷ []) AnyIds
    ∷ value op.CONSTANT_TRUE [] End
    ∷ value op.CONSTANT_FALSE [] End
    ∷ value op.CONSTANT (AnyWord ∷ []) MaybeWord
    ∷ value op.CONSTANT_COMPOSITE [] AnyIds
    ∷ value op.CONSTANT_NULL [] End
    ∷ value op.SPEC_CONSTANT (AnyWord ∷ []) End
    ∷ value op.SPEC_CONSTANT_COMPOSITE [] AnyIds
    ∷ value op.FUNCTION (OneOf controls ∷ AnId ∷ []) End
    ∷ value op.FUNCTION_PARAMETER [] End
    ∷ plain op.FUNCTION_END [] End
    ∷ value op.FUNCTION_CALL (AnId ∷ []) AnyIds
    ∷ value op.VARIABLE (OneOf storage_classes ∷ []) End
    ∷ value op.LOAD (AnId ∷ []) End
    ∷ plain op.STORE (AnId ∷ AnId ∷ []) End
    ∷ value op.ACCESS_CHAIN (AnId ∷ []) AnyIds
    ∷ plain op.DECORATE (AnId ∷ []) ADecoration
    ∷ plain op.MEMBER_DECORATE (AnId ∷ AnyWord ∷ []) ADecoration
    ∷ value op.VECTOR_EXTRACT_DYNAMIC (AnId ∷ AnId ∷ []) End
    ∷ value op.VECTOR_INSERT_DYNAMIC (AnId ∷ AnId ∷ AnId ∷ []) End
    ∷ value op.VECTOR_SHUFFLE (AnId ∷ AnId ∷ []) AnyWords
    ∷ value op.COMPOSITE_CONSTRUCT [] AnyIds
    ∷ value op.COMPOSITE_EXTRACT (AnId ∷ []) AnyWords
    ∷ value op.COMPOSITE_INSERT (AnId ∷ AnId ∷ []) AnyWords
    ∷ value op.U_CONVERT (AnId ∷ []) End
    ∷ value op.S_CONVERT (AnId ∷ []) End
    ∷ value op.BITCAST (AnId ∷ []) End
    ∷ value op.S_NEGATE (AnId ∷ []) End
    ∷ value op.I_ADD (AnId ∷ AnId ∷ []) End
    ∷ value op.I_SUB (AnId ∷ AnId ∷ []) End
    ∷ value op.I_MUL (AnId ∷ AnId ∷ []) End
    ∷ value op.U_DIV (AnId ∷ AnId ∷ []) End
    ∷ value op.S_DIV (AnId ∷ AnId ∷ []) End
    ∷ value op.U_MOD (AnId ∷ AnId ∷ []) End
    ∷ value op.S_REM (AnId ∷ AnId ∷ []) End
    ∷ value op.LOGICAL_OR (AnId ∷ AnId ∷ []) End
    ∷ value op.LOGICAL_AND (AnId ∷ AnId ∷ []) End
    ∷ value op.LOGICAL_NOT (AnId ∷ []) End
    ∷ value op.SELECT (AnId ∷ AnId ∷ AnId ∷ []) End
    ∷ value op.I_EQUAL (AnId ∷ AnId ∷ []) End
    ∷ value op.I_NOT_EQUAL (AnId ∷ AnId ∷ []) End
    ∷ value op.U_GREATER_THAN (AnId ∷ AnId ∷ []) End
    ∷ value op.S_GREATER_THAN (AnId ∷ AnId ∷ []) End
    ∷ value op.U_GREATER_THAN_EQUAL (AnId ∷ AnId ∷ []) End
    ∷ value op.S_GREATER_THAN_EQUAL (AnId ∷ AnId ∷ []) End
    ∷ value op.U_LESS_THAN (AnId ∷ AnId ∷ []) End
    ∷ value op.S_LESS_THAN (AnId ∷ AnId ∷ []) End
    ∷ value op.U_LESS_THAN_EQUAL (AnId ∷ AnId ∷ []) End
    ∷ value op.S_LESS_THAN_EQUAL (AnId ∷ AnId ∷ []) End
    ∷ value op.SHIFT_RIGHT_LOGICAL (AnId ∷ AnId ∷ []) End
    ∷ value op.SHIFT_RIGHT_ARITHMETIC (AnId ∷ AnId ∷ []) End
    ∷ value op.SHIFT_LEFT_LOGICAL (AnId ∷ AnId ∷ []) End
    ∷ value op.BITWISE_OR (AnId ∷ AnId ∷ []) End
    ∷ value op.BITWISE_XOR (AnId ∷ AnId ∷ []) End
    ∷ value op.BITWISE_AND (AnId ∷ AnId ∷ []) End
    ∷ value op.NOT (AnId ∷ []) End
    ∷ plain op.CONTROL_BARRIER (AnId ∷ AnId ∷ AnId ∷ []) End
    ∷ plain op.MEMORY_BARRIER (AnId ∷ AnId ∷ []) End
    ∷ value op.ATOMIC_EXCHANGE (AnId ∷ AnId ∷ AnId ∷ AnId ∷ []) End
    ∷ value op.ATOMIC_COMPARE_EXCHANGE (AnId ∷ AnId ∷ AnId ∷ AnId ∷ AnId ∷ AnId ∷ []) End
    ∷ value op.ATOMIC_I_INCREMENT (AnId ∷ AnId ∷ AnId ∷ []) End
    ∷ value op.ATOMIC_I_DECREMENT (AnId ∷ AnId ∷ AnId ∷ []) End
    ∷ value op.ATOMIC_I_ADD (AnId ∷ AnId ∷ AnId ∷ AnId ∷ []) End
    ∷ value op.ATOMIC_I_SUB (AnId ∷ AnId ∷ AnId ∷ AnId ∷ []) End
    ∷ value op.ATOMIC_S_MIN (AnId ∷ AnId ∷ AnId ∷ AnId ∷ []) End
    ∷ value op.ATOMIC_U_MIN (AnId ∷ AnId ∷ AnId ∷ AnId ∷ []) End
    ∷ value op.ATOMIC_S_MAX (AnId ∷ AnId ∷ AnId ∷ AnId ∷ []) End
    ∷ value op.ATOMIC_U_MAX (AnId ∷ AnId ∷ AnId ∷ AnId ∷ []) End
    ∷ value op.ATOMIC_AND (AnId ∷ AnId ∷ AnId ∷ AnId ∷ []) End
    ∷ value op.ATOMIC_OR (AnId ∷ AnId ∷ AnId ∷ AnId ∷ []) End
    ∷ value op.ATOMIC_XOR (AnId ∷ AnId ∷ AnId ∷ AnId ∷ []) End
    ∷ plain op.LOOP_MERGE (AnId ∷ AnId ∷ OneOf controls ∷ []) End
    ∷ plain op.SELECTION_MERGE (AnId ∷ OneOf controls ∷ []) End
    ∷ result op.LABEL [] End
    ∷ plain op.BRANCH (AnId ∷ []) End
    ∷ plain op.BRANCH_CONDITIONAL (AnId ∷ AnId ∷ AnId ∷ []) End
    ∷ plain op.SWITCH (AnId ∷ AnId ∷ []) AnyPairs
    ∷ plain op.RETURN [] End
    ∷ plain op.RETURN_VALUE (AnId ∷ []) End
    ∷ plain op.UNREACHABLE [] End
    ∷ []

abbrev pub is_row : ℕ → Row → Bool
is_row n r = r.opcode == n

-- The row of an opcode. It stays closed where the opcode is a variable: open it by `unfolding row_of` where it's a number.
unfoldable pub row_of : ℕ → Option Row
row_of n = find (is_row n) table

-- ---- whether the operands of an instruction are such as its row wants

abbrev pub all_words : List Operand → Bool
all_words [] = true
all_words (o ∷ os) = is_kind AnyWord o && all_words os

abbrev pub all_ids : List Operand → Bool
all_ids [] = true
all_ids (o ∷ os) = is_kind AnId o && all_ids os

abbrev pub all_pairs : List Operand → Bool
all_pairs [] = true
all_pairs (o ∷ []) = false
all_pairs (o ∷ p ∷ os) = is_kind AnyWord o && is_kind AnId p && all_pairs os

abbrev pub are_literals : Option Decoration → List Operand → Bool
are_literals None os = false
are_literals (Some d) os = are_kinds d.literals os

abbrev pub is_decoration_with : Operand → List Operand → Bool
is_decoration_with (Word n) os = are_literals (find (is_decoration n) decorations) os
is_decoration_with _ os = false

abbrev pub fits_rest : Rest → List Operand → Bool
fits_rest End os = are_kinds [] os
fits_rest MaybeWord [] = true
fits_rest MaybeWord (o ∷ os) = are_kinds (AnyWord ∷ []) (o ∷ os)
fits_rest AnyWords os = all_words os
fits_rest AnyIds os = all_ids os
fits_rest AnyPairs os = all_pairs os
fits_rest ADecoration [] = false
fits_rest ADecoration (o ∷ os) = is_decoration_with o os

abbrev pub fits : List Kind → Rest → List Operand → Bool
fits [] r os = fits_rest r os
fits (k ∷ ks) r [] = false
fits (k ∷ ks) r (o ∷ os) = is_kind k o && fits ks r os

abbrev pub id_if : Bool → List Kind
id_if true = AnId ∷ []
id_if false = []

abbrev pub kinds_of : Row → List Kind
kinds_of r = id_if r.typed ++ id_if r.makes ++ r.kinds

abbrev pub fits_row : Option Row → List Operand → Bool
fits_row None os = false
fits_row (Some r) os = fits (kinds_of r) r.rest os

-- The operands are such as the table wants for the opcode: their kinds, enumerants and number. It says nothing yet of the bound
-- of ids and of what stands in strings.
abbrev pub has_form : ℕ → List Operand → Bool
has_form n os = fits_row (row_of n) os

-- ---- the form of a row, as the code has it

abbrev pub slot_of : Kind → Slot
slot_of AnId = slot.Id
slot_of AnyWord = slot.Word
slot_of (OneOf ns) = slot.Word
slot_of AText = slot.Str

-- the decoration itself is a word that always stands
abbrev pub rest_slots : Rest → List Slot
rest_slots ADecoration = slot.Word ∷ []
rest_slots _ = []

abbrev pub last_of : Rest → Last
last_of End = last.Nothing
last_of MaybeWord = last.OneWord
last_of AnyWords = last.Words
last_of AnyIds = last.Ids
last_of AnyPairs = last.Pairs
last_of ADecoration = last.Words

abbrev pub slots_of : Row → List Slot
slots_of r = map slot_of r.kinds ++ rest_slots r.rest

abbrev pub filled : List Slot → List Slot
filled ss = take 6 (ss ++ slot.Id ∷ slot.Id ∷ slot.Id ∷ slot.Id ∷ slot.Id ∷ slot.Id ∷ [])

abbrev pub form_of_row : Row → Form
form_of_row r = record { typed = r.typed; makes = r.makes; slots = filled (slots_of r); count = length (slots_of r); last = last_of r.rest }

-- the form of an opcode: none exactly where the table has no row for it
abbrev pub form_of : ℕ → Option Form
form_of n = option_map form_of_row (row_of n)
