-- Cells of a small function.
use Rattle.std.proofs.Common.{◌≡◌, ℕ, List, [], ◌∷◌, refl}
use Rattle.spv_module.specs.declared.module.Inst.{Inst}
use Rattle.spv_module.specs.declared.module.Operand.{Operand}
use Rattle.spv_module.specs.declared.module.Operand.TheVariants.{Id, Word}
use Rattle.spv_module.specs.declared.op.TheConstants as op
use Rattle.spv_meaning.specs.Start.{Start}
use Rattle.spv_meaning.specs.Cells.{cells_of, group_cells_of, cells_needed}

abbrev inst : ℕ → List Operand → Inst
inst code operands = record { op = code; operands = operands }

-- Types 1 to 5: an int, a vector of 3, a struct of both, and pointers to the struct and to the vector. Variables 6 and 7 are the group's, and the function names one of them.
abbrev body : List Inst
body =
    inst op.TYPE_INT (Id 1 ∷ Word 32 ∷ Word 0 ∷ [])
    ∷ inst op.TYPE_VECTOR (Id 2 ∷ Id 1 ∷ Word 3 ∷ [])
    ∷ inst op.TYPE_STRUCT (Id 3 ∷ Id 1 ∷ Id 2 ∷ [])
    ∷ inst op.TYPE_POINTER (Id 4 ∷ Word 7 ∷ Id 3 ∷ [])
    ∷ inst op.TYPE_POINTER (Id 5 ∷ Word 4 ∷ Id 2 ∷ [])
    ∷ inst op.VARIABLE (Id 5 ∷ Id 6 ∷ Word 4 ∷ [])
    ∷ inst op.VARIABLE (Id 5 ∷ Id 7 ∷ Word 4 ∷ [])
    ∷ inst op.FUNCTION (Id 8 ∷ Id 10 ∷ Word 0 ∷ Id 9 ∷ [])
    ∷ inst op.LABEL (Id 11 ∷ [])
    ∷ inst op.VARIABLE (Id 4 ∷ Id 12 ∷ Word 7 ∷ [])
    ∷ inst op.LOAD (Id 2 ∷ Id 13 ∷ Id 6 ∷ [])
    ∷ inst op.ACCESS_CHAIN (Id 5 ∷ Id 14 ∷ Id 12 ∷ Id 1 ∷ [])
    ∷ inst op.LABEL (Id 15 ∷ [])
    ∷ inst op.LOAD (Id 1 ∷ Id 16 ∷ Id 12 ∷ [])
    ∷ inst op.RETURN []
    ∷ inst op.FUNCTION_END []
    ∷ inst op.LOAD (Id 2 ∷ Id 17 ∷ Id 7 ∷ [])
    ∷ []

-- one for the call, 4 for the variable, and 3 and 2 in the first block
each_item : cells_of body 10 ≡ 10
each_item = refl

each_group : group_cells_of body 10 ≡ 3
each_group = refl

abbrev start : Start
start = record { function = 10; global = record { x = 4; y = 2; z = 1 }; local = record { x = 2; y = 1; z = 1 }; buffers = []; bound = []; specialised = [] }

-- 8 items and 4 groups
all : cells_needed body start ≡ 92
all = refl
