-- Rules 0 to 5: opcodes, sections, memory model, capabilities, extensions, imports (SPIR-V 2.4 and 2.16).
use Rattle.std.specs.Prelude.{ℕ, Bool, true, false, not, ◌==◌, ◌&&◌, ◌||◌, nat_le, if◌then◌else◌, List, [], ◌∷◌, codes, Option, Some, None, bytes_eq}
use Rattle.std.specs.List.{list_any, list_all}
use Rattle.spv_module.specs.declared.op.TheConstants as op
use Rattle.spv_module.specs.declared.enumerant.capability.TheConstants as capability
use Rattle.spv_module.specs.declared.enumerant.storage_class.TheConstants as storage_class
use Rattle.spv_module.specs.declared.enumerant.addressing_model.TheConstants as addressing_model
use Rattle.spv_module.specs.declared.enumerant.memory_model.TheConstants as memory_model
use Rattle.spv_module.specs.Grammar.{is_among, capabilities}
use Rattle.spv_types_rules.specs.Lines.{Line, Whole, Spot, on, has_op, first, pointee, is_int, within}

-- Rule 0. Each opcode is one that the compiler's modules use so far. (The rule goes once all are in use.)
abbrev pub built_opcodes : List ℕ
built_opcodes =
    op.EXT_INST ∷ op.CONSTANT ∷ op.SPEC_CONSTANT ∷ op.SPEC_CONSTANT_COMPOSITE ∷ op.FUNCTION ∷ op.VARIABLE ∷ op.LOAD ∷ op.ACCESS_CHAIN ∷ op.COMPOSITE_EXTRACT ∷ op.I_ADD
    ∷ op.STRING ∷ op.EXT_INST_IMPORT ∷ op.LABEL ∷ op.TYPE_VOID ∷ op.TYPE_INT ∷ op.TYPE_VECTOR ∷ op.TYPE_RUNTIME_ARRAY ∷ op.TYPE_STRUCT ∷ op.TYPE_POINTER ∷ op.TYPE_FUNCTION
    ∷ op.EXTENSION ∷ op.MEMORY_MODEL ∷ op.ENTRY_POINT ∷ op.CAPABILITY ∷ op.FUNCTION_END ∷ op.STORE ∷ op.DECORATE ∷ op.MEMBER_DECORATE ∷ op.RETURN ∷ []

abbrev pub is_built : Spot → Bool
is_built s = is_among built_opcodes s.here.op

-- Rule 1. The sections stand in order (SPIR-V 2.4): capabilities, extensions, imports, memory model, entry points, modes, strings, names, decorations, types with constants and globals, functions, reflection. A variable outside functions is a global; an OpUndef is a line of functions. The later of two lines in the wrong order breaks the rule.
abbrev pub section_in : List (ℕ × ℕ) → ℕ → ℕ → ℕ
section_in [] code other = other
section_in (row ∷ rows) code other = if row.0 == code then row.1 else section_in rows code other

abbrev pub sections : List (ℕ × ℕ)
sections =
    (op.CAPABILITY, 1) ∷ (op.EXTENSION, 2) ∷ (op.EXT_INST_IMPORT, 3) ∷ (op.MEMORY_MODEL, 4) ∷ (op.ENTRY_POINT, 5) ∷ (op.EXECUTION_MODE, 6) ∷ (op.STRING, 7)
    ∷ (op.NAME, 8) ∷ (op.MEMBER_NAME, 8) ∷ (op.DECORATE, 9) ∷ (op.MEMBER_DECORATE, 9)
    ∷ (op.TYPE_VOID, 10) ∷ (op.TYPE_BOOL, 10) ∷ (op.TYPE_INT, 10) ∷ (op.TYPE_VECTOR, 10) ∷ (op.TYPE_ARRAY, 10) ∷ (op.TYPE_RUNTIME_ARRAY, 10) ∷ (op.TYPE_STRUCT, 10) ∷ (op.TYPE_POINTER, 10) ∷ (op.TYPE_FUNCTION, 10)
    ∷ (op.CONSTANT, 10) ∷ (op.SPEC_CONSTANT, 10) ∷ (op.SPEC_CONSTANT_COMPOSITE, 10) ∷ (op.CONSTANT_TRUE, 10) ∷ (op.CONSTANT_FALSE, 10) ∷ (op.CONSTANT_COMPOSITE, 10) ∷ (op.CONSTANT_NULL, 10)
    ∷ (op.EXT_INST, 12) ∷ []

abbrev pub globals_section : ℕ
globals_section = 10

abbrev pub functions_section : ℕ
functions_section = 11

abbrev pub section : Line → ℕ
section l = if has_op op.VARIABLE l && not l.inside then globals_section else section_in sections l.op functions_section

abbrev pub follows : List Line → Line → Bool
follows [] l = true
follows (p ∷ ps) l = nat_le (section p) (section l) && follows ps l

abbrev pub is_in_order : Spot → Bool
is_in_order s = follows s.before s.here

-- Rule 2. There is one memory model: Logical, GLSL450 (SPIR-V 2.16.1; Vulkan, A.1).
abbrev pub is_the_model : List ℕ → Bool
is_the_model (a ∷ m ∷ []) = (a == addressing_model.LOGICAL) && (m == memory_model.GLSL450)
is_the_model _ = false

abbrev pub keeps_model : Spot → Bool
keeps_model = on op.MEMORY_MODEL (λ s. is_the_model s.here.numbers && not (list_any (has_op op.MEMORY_MODEL) s.before))

abbrev pub has_model : Whole → Bool
has_model w = list_any (has_op op.MEMORY_MODEL) w.lines

-- Rule 3. The capabilities are distinct, and are those that are needed: Shader; those of the int types of 64, 16 and 8 bits; and those of ints of 8 or 16 bits within a variable in storage buffers or push constants (SPIR-V 3.31).
abbrev pub is_int_line : ℕ → Line → Bool
is_int_line width l = has_op op.TYPE_INT l && (first l.numbers == width)

abbrev pub any_within : Whole → ℕ → Option ℕ → Bool
any_within w width None = false
any_within w width (Some t) = list_any (is_int w width) (within w t)

abbrev pub holds_int : Whole → ℕ → ℕ → Line → Bool
holds_int w storage width v = (first v.numbers == storage) && any_within w width (pointee w v.type)

abbrev pub is_needed : Whole → ℕ → Bool
is_needed w c =
    (c == capability.SHADER)
    || ((c == capability.INT64) && list_any (is_int_line 64) w.types)
    || ((c == capability.INT16) && list_any (is_int_line 16) w.types)
    || ((c == capability.INT8) && list_any (is_int_line 8) w.types)
    || ((c == capability.STORAGE_BUFFER16_BIT_ACCESS) && list_any (holds_int w storage_class.STORAGE_BUFFER 16) w.variables)
    || ((c == capability.STORAGE_PUSH_CONSTANT16) && list_any (holds_int w storage_class.PUSH_CONSTANT 16) w.variables)
    || ((c == capability.STORAGE_BUFFER8_BIT_ACCESS) && list_any (holds_int w storage_class.STORAGE_BUFFER 8) w.variables)
    || ((c == capability.STORAGE_PUSH_CONSTANT8) && list_any (holds_int w storage_class.PUSH_CONSTANT 8) w.variables)

abbrev pub is_capability : ℕ → Line → Bool
is_capability c l = has_op op.CAPABILITY l && (first l.numbers == c)

abbrev pub keeps_capability : Spot → Bool
keeps_capability = on op.CAPABILITY (λ s. is_needed s.whole (first s.here.numbers) && not (list_any (is_capability (first s.here.numbers)) s.before))

abbrev pub is_declared : Whole → ℕ → Bool
is_declared w c = list_any (is_capability c) w.capabilities

abbrev pub is_given : Whole → ℕ → Bool
is_given w c = not (is_needed w c) || is_declared w c

abbrev pub has_capabilities : Whole → Bool
has_capabilities w = list_all (is_given w) capabilities

-- Rule 4. The extensions are SPV_KHR_non_semantic_info, and SPV_KHR_8bit_storage where a capability of ints of 8 bits in storage stands, each once.
abbrev pub non_semantic : List ℕ
non_semantic = codes "SPV_KHR_non_semantic_info"

abbrev pub storage_of_bytes : List ℕ
storage_of_bytes = codes "SPV_KHR_8bit_storage"

abbrev pub is_text : List ℕ → List (List ℕ) → Bool
is_text name (t ∷ []) = bytes_eq t name
is_text name _ = false

abbrev pub is_extension : List ℕ → Line → Bool
is_extension name l = has_op op.EXTENSION l && is_text name l.texts

abbrev pub needs_bytes : Whole → Bool
needs_bytes w = is_declared w capability.STORAGE_BUFFER8_BIT_ACCESS || is_declared w capability.STORAGE_PUSH_CONSTANT8

abbrev pub is_first_extension : List ℕ → Spot → Bool
is_first_extension name s = is_extension name s.here && not (list_any (is_extension name) s.before)

abbrev pub keeps_extension : Spot → Bool
keeps_extension = on op.EXTENSION (λ s. is_first_extension non_semantic s || (needs_bytes s.whole && is_first_extension storage_of_bytes s))

abbrev pub has_extensions : Whole → Bool
has_extensions w = list_any (is_extension non_semantic) w.lines && (not (needs_bytes w) || list_any (is_extension storage_of_bytes) w.lines)

-- Rule 5. There is one import, of NonSemantic.ClspvReflection.1.
abbrev pub keeps_import : Spot → Bool
keeps_import = on op.EXT_INST_IMPORT (λ s. is_text (codes "NonSemantic.ClspvReflection.1") s.here.texts && not (list_any (has_op op.EXT_INST_IMPORT) s.before))

abbrev pub has_import : Whole → Bool
has_import w = list_any (has_op op.EXT_INST_IMPORT) w.lines
