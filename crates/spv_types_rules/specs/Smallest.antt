-- A smallest valid module: one entry point `k`, whose function returns at once. It shows that valid modules exist, and the tests use it.
use Rattle.std.specs.Prelude.{ℕ, List, [], ◌∷◌, ◌++◌, codes}
use Rattle.spv_module.specs.declared.module.Inst.{Inst}
use Rattle.spv_module.specs.declared.module.Module.{Module}
use Rattle.spv_module.specs.declared.module.Operand.{Operand}
use Rattle.spv_module.specs.declared.module.Operand.TheVariants.{Id, Word, Str}
use Rattle.spv_module.specs.declared.op.TheConstants as op

abbrev pub inst : ℕ → List Operand → Inst
inst code operands = record { op = code; operands = operands }

abbrev pub preamble : List Inst
preamble =
    inst op.CAPABILITY (Word 1 ∷ [])
    ∷ inst op.EXTENSION (Str (codes "SPV_KHR_non_semantic_info") ∷ [])
    ∷ inst op.EXT_INST_IMPORT (Id 1 ∷ Str (codes "NonSemantic.ClspvReflection.1") ∷ [])
    ∷ inst op.MEMORY_MODEL (Word 0 ∷ Word 1 ∷ [])
    ∷ inst op.ENTRY_POINT (Word 5 ∷ Id 2 ∷ Str (codes "k") ∷ [])
    ∷ []

abbrev pub decorations : List Inst
decorations =
    inst op.DECORATE (Id 3 ∷ Word 1 ∷ Word 0 ∷ [])
    ∷ inst op.DECORATE (Id 4 ∷ Word 1 ∷ Word 1 ∷ [])
    ∷ inst op.DECORATE (Id 5 ∷ Word 1 ∷ Word 2 ∷ [])
    ∷ inst op.DECORATE (Id 6 ∷ Word 11 ∷ Word 25 ∷ [])
    ∷ []

abbrev pub types : List Inst
types =
    inst op.TYPE_VOID (Id 7 ∷ [])
    ∷ inst op.TYPE_FUNCTION (Id 8 ∷ Id 7 ∷ [])
    ∷ inst op.TYPE_INT (Id 9 ∷ Word 32 ∷ Word 0 ∷ [])
    ∷ inst op.TYPE_VECTOR (Id 10 ∷ Id 9 ∷ Word 3 ∷ [])
    ∷ []

abbrev pub sizes : List Inst
sizes =
    inst op.SPEC_CONSTANT (Id 9 ∷ Id 3 ∷ Word 1 ∷ [])
    ∷ inst op.SPEC_CONSTANT (Id 9 ∷ Id 4 ∷ Word 1 ∷ [])
    ∷ inst op.SPEC_CONSTANT (Id 9 ∷ Id 5 ∷ Word 1 ∷ [])
    ∷ inst op.SPEC_CONSTANT_COMPOSITE (Id 10 ∷ Id 6 ∷ Id 3 ∷ Id 4 ∷ Id 5 ∷ [])
    ∷ []

abbrev pub function : List Inst
function =
    inst op.FUNCTION (Id 7 ∷ Id 2 ∷ Word 0 ∷ Id 8 ∷ [])
    ∷ inst op.LABEL (Id 11 ∷ [])
    ∷ inst op.RETURN []
    ∷ inst op.FUNCTION_END []
    ∷ []

abbrev pub smallest_body : List Inst
smallest_body = preamble ++ (decorations ++ (types ++ (sizes ++ function)))

abbrev pub smallest : Module
smallest = record { version = 66304; generator = 0; bound = 12; body = smallest_body }
