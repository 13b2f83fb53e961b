-- The module that the compiler makes of a kernel.
use Rattle.std.specs.Prelude.{ℕ, ◌+◌, ◌*◌, List, [], ◌∷◌, ◌++◌, length, codes}
use Rattle.spv_module.specs.declared.module.Inst.{Inst}
use Rattle.spv_module.specs.declared.module.Module.{Module}
use Rattle.spv_module.specs.declared.module.Operand.{Operand}
use Rattle.spv_module.specs.declared.module.Operand.TheVariants.{Id, Word, Str}
use Rattle.spv_module.specs.declared.op.TheConstants as op
use Rattle.spv_module.specs.declared.enumerant.capability.TheConstants as capability
use Rattle.spv_module.specs.declared.enumerant.storage_class.TheConstants as storage_class
use Rattle.spv_module.specs.declared.enumerant.decoration.TheConstants as decoration
use Rattle.spv_module.specs.declared.enumerant.built_in.TheConstants as built_in
use Rattle.spv_module.specs.declared.enumerant.execution_model.TheConstants as execution_model
use Rattle.spv_module.specs.declared.enumerant.addressing_model.TheConstants as addressing_model
use Rattle.spv_module.specs.declared.enumerant.memory_model.TheConstants as memory_model
use Rattle.spv_module.specs.declared.enumerant.control.TheConstants as control
use Rattle.clv_engine.specs.declared.form.Kernel.{Kernel}
use Rattle.clv_engine.specs.declared.form.Term.{Term}
use Rattle.clv_engine.specs.declared.form.Term.TheVariants.{GlobalId, Literal}
use Rattle.clv_engine.specs.declared.id.TheConstants as id

abbrev pub inst : ℕ → List Operand → Inst
inst code operands = record { op = code; operands = operands }

abbrev pub preamble : Kernel → List Inst
preamble k =
    inst op.CAPABILITY (Word capability.SHADER ∷ [])
    ∷ inst op.EXTENSION (Str (codes "SPV_KHR_non_semantic_info") ∷ [])
    ∷ inst op.EXT_INST_IMPORT (Id id.REFLECTION ∷ Str (codes "NonSemantic.ClspvReflection.1") ∷ [])
    ∷ inst op.MEMORY_MODEL (Word addressing_model.LOGICAL ∷ Word memory_model.GLSL450 ∷ [])
    ∷ inst op.ENTRY_POINT (Word execution_model.GL_COMPUTE ∷ Id id.MAIN ∷ Str (k.name ∷ []) ∷ Id id.GLOBAL_ID ∷ [])
    ∷ []

abbrev pub strings : Kernel → List Inst
strings k =
    inst op.STRING (Id id.KERNEL_NAME ∷ Str (k.name ∷ []) ∷ [])
    ∷ inst op.STRING (Id id.ARGUMENT_NAME ∷ Str (k.argument ∷ []) ∷ [])
    ∷ []

abbrev pub type_decorations : List Inst
type_decorations =
    inst op.DECORATE (Id id.GLOBAL_ID ∷ Word decoration.BUILT_IN ∷ Word built_in.GLOBAL_INVOCATION_ID ∷ [])
    ∷ inst op.DECORATE (Id id.ELEMENTS ∷ Word decoration.ARRAY_STRIDE ∷ Word 4 ∷ [])
    ∷ inst op.MEMBER_DECORATE (Id id.BLOCK ∷ Word 0 ∷ Word decoration.OFFSET ∷ Word 0 ∷ [])
    ∷ inst op.DECORATE (Id id.BLOCK ∷ Word decoration.BLOCK ∷ [])
    ∷ []

abbrev pub buffer_decorations : List Inst
buffer_decorations =
    inst op.DECORATE (Id id.BUFFER ∷ Word decoration.DESCRIPTOR_SET ∷ Word 0 ∷ [])
    ∷ inst op.DECORATE (Id id.BUFFER ∷ Word decoration.BINDING ∷ Word 0 ∷ [])
    ∷ inst op.DECORATE (Id id.BUFFER ∷ Word decoration.ALIASED ∷ [])
    ∷ []

abbrev pub size_decorations : List Inst
size_decorations =
    inst op.DECORATE (Id id.SIZE_X ∷ Word decoration.SPEC_ID ∷ Word 0 ∷ [])
    ∷ inst op.DECORATE (Id id.SIZE_Y ∷ Word decoration.SPEC_ID ∷ Word 1 ∷ [])
    ∷ inst op.DECORATE (Id id.SIZE_Z ∷ Word decoration.SPEC_ID ∷ Word 2 ∷ [])
    ∷ inst op.DECORATE (Id id.GROUP_SIZE ∷ Word decoration.BUILT_IN ∷ Word built_in.WORKGROUP_SIZE ∷ [])
    ∷ []

abbrev pub plain_types : List Inst
plain_types =
    inst op.TYPE_VOID (Id id.VOID ∷ [])
    ∷ inst op.TYPE_FUNCTION (Id id.MAIN_TYPE ∷ Id id.VOID ∷ [])
    ∷ inst op.TYPE_INT (Id id.UINT ∷ Word 32 ∷ Word 0 ∷ [])
    ∷ inst op.TYPE_VECTOR (Id id.UINT3 ∷ Id id.UINT ∷ Word 3 ∷ [])
    ∷ inst op.TYPE_RUNTIME_ARRAY (Id id.ELEMENTS ∷ Id id.UINT ∷ [])
    ∷ []

abbrev pub pointer_types : List Inst
pointer_types =
    inst op.TYPE_STRUCT (Id id.BLOCK ∷ Id id.ELEMENTS ∷ [])
    ∷ inst op.TYPE_POINTER (Id id.BLOCK_POINTER ∷ Word storage_class.STORAGE_BUFFER ∷ Id id.BLOCK ∷ [])
    ∷ inst op.TYPE_POINTER (Id id.UINT_POINTER ∷ Word storage_class.STORAGE_BUFFER ∷ Id id.UINT ∷ [])
    ∷ inst op.TYPE_POINTER (Id id.INPUT_POINTER ∷ Word storage_class.INPUT ∷ Id id.UINT3 ∷ [])
    ∷ []

abbrev pub sizes : List Inst
sizes =
    inst op.SPEC_CONSTANT (Id id.UINT ∷ Id id.SIZE_X ∷ Word 1 ∷ [])
    ∷ inst op.SPEC_CONSTANT (Id id.UINT ∷ Id id.SIZE_Y ∷ Word 1 ∷ [])
    ∷ inst op.SPEC_CONSTANT (Id id.UINT ∷ Id id.SIZE_Z ∷ Word 1 ∷ [])
    ∷ inst op.SPEC_CONSTANT_COMPOSITE (Id id.UINT3 ∷ Id id.GROUP_SIZE ∷ Id id.SIZE_X ∷ Id id.SIZE_Y ∷ Id id.SIZE_Z ∷ [])
    ∷ []

abbrev pub globals : List Inst
globals =
    inst op.CONSTANT (Id id.UINT ∷ Id id.ZERO ∷ Word 0 ∷ [])
    ∷ inst op.CONSTANT (Id id.UINT ∷ Id id.ONE ∷ Word 1 ∷ [])
    ∷ inst op.CONSTANT (Id id.UINT ∷ Id id.TWO ∷ Word 2 ∷ [])
    ∷ inst op.VARIABLE (Id id.INPUT_POINTER ∷ Id id.GLOBAL_ID ∷ Word storage_class.INPUT ∷ [])
    ∷ inst op.VARIABLE (Id id.BLOCK_POINTER ∷ Id id.BUFFER ∷ Word storage_class.STORAGE_BUFFER ∷ [])
    ∷ []

-- all that stands before the terms' constants
abbrev pub head : Kernel → List Inst
head k = preamble k ++ (strings k ++ (type_decorations ++ (buffer_decorations ++ (size_decorations ++ (plain_types ++ (pointer_types ++ (sizes ++ globals)))))))

-- Each term has three ids from `next` on: of its constant or its load, of the id taken out of the load, and of the sum with it.
abbrev pub constants_from : ℕ → List Term → List Inst
constants_from next [] = []
constants_from next (GlobalId ∷ ts) = constants_from (next + 3) ts
constants_from next (Literal n ∷ ts) = inst op.CONSTANT (Id id.UINT ∷ Id next ∷ Word n ∷ []) ∷ constants_from (next + 3) ts

abbrev pub function_begin : List Inst
function_begin =
    inst op.FUNCTION (Id id.VOID ∷ Id id.MAIN ∷ Word control.NONE ∷ Id id.MAIN_TYPE ∷ [])
    ∷ inst op.LABEL (Id id.ENTRY ∷ [])
    ∷ []

-- get_global_id(0): r and r + 1 are the ids of the vector and of its first component
abbrev pub global_id : ℕ → List Inst
global_id r =
    inst op.LOAD (Id id.UINT3 ∷ Id r ∷ Id id.GLOBAL_ID ∷ [])
    ∷ inst op.COMPOSITE_EXTRACT (Id id.UINT ∷ Id (r + 1) ∷ Id r ∷ Word 0 ∷ [])
    ∷ []

abbrev pub term : ℕ → Term → List Inst
term next GlobalId = global_id next
term next (Literal n) = []

-- the id of a term's value
abbrev pub value : ℕ → Term → ℕ
value next GlobalId = next + 1
value next (Literal n) = next

-- the sum so far, whose id is `sum`, with each further term
abbrev pub sums_from : ℕ → ℕ → List Term → List Inst
sums_from next sum [] = []
sums_from next sum (t ∷ ts) = term next t ++ inst op.I_ADD (Id id.UINT ∷ Id (next + 2) ∷ Id sum ∷ Id (value next t) ∷ []) ∷ sums_from (next + 3) (next + 2) ts

abbrev pub sum_from : ℕ → ℕ → List Term → ℕ
sum_from next sum [] = sum
sum_from next sum (t ∷ ts) = sum_from (next + 3) (next + 2) ts

-- the terms' code, and the id of their sum
abbrev pub terms : List Term → List Inst
terms [] = []
terms (t ∷ ts) = term id.TERMS t ++ sums_from (id.TERMS + 3) (value id.TERMS t) ts

abbrev pub sum : List Term → ℕ
sum [] = id.ZERO
sum (t ∷ ts) = sum_from (id.TERMS + 3) (value id.TERMS t) ts

abbrev pub function_end : ℕ → List Inst
function_end result =
    inst op.ACCESS_CHAIN (Id id.UINT_POINTER ∷ Id id.ELEMENT ∷ Id id.BUFFER ∷ Id id.ZERO ∷ Id (id.PLACE + 1) ∷ [])
    ∷ inst op.STORE (Id id.ELEMENT ∷ Id result ∷ [])
    ∷ inst op.RETURN []
    ∷ inst op.FUNCTION_END []
    ∷ []

-- reflection: the kernel, its argument's name, its argument, and the sizes
abbrev pub reflection : List Inst
reflection =
    inst op.EXT_INST (Id id.VOID ∷ Id id.KERNEL_LINE ∷ Id id.REFLECTION ∷ Word 1 ∷ Id id.MAIN ∷ Id id.KERNEL_NAME ∷ [])
    ∷ inst op.EXT_INST (Id id.VOID ∷ Id id.NAME_LINE ∷ Id id.REFLECTION ∷ Word 2 ∷ Id id.ARGUMENT_NAME ∷ [])
    ∷ inst op.EXT_INST (Id id.VOID ∷ Id id.BUFFER_LINE ∷ Id id.REFLECTION ∷ Word 3 ∷ Id id.KERNEL_LINE ∷ Id id.ZERO ∷ Id id.ZERO ∷ Id id.ZERO ∷ Id id.NAME_LINE ∷ [])
    ∷ inst op.EXT_INST (Id id.VOID ∷ Id id.SIZES_LINE ∷ Id id.REFLECTION ∷ Word 12 ∷ Id id.ZERO ∷ Id id.ONE ∷ Id id.TWO ∷ [])
    ∷ []

abbrev pub body_of : Kernel → List Inst
body_of k = head k ++ (constants_from id.TERMS k.terms ++ (function_begin ++ (global_id id.PLACE ++ (terms k.terms ++ (function_end (sum k.terms) ++ reflection)))))

abbrev pub bound_of : Kernel → ℕ
bound_of k = id.TERMS + 3 * length k.terms

abbrev pub module_of : Kernel → Module
module_of k = record { version = 66304; generator = 0; bound = bound_of k; body = body_of k }
