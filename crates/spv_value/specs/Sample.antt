-- The types of `struct { char c; int3 v; short s; }`: 1 is char, 2 int, 3 short, 4 int3 and 5 the struct, with c at 0, v at 16 and s at 32. 6 is an array of such structs.
use Rattle.std.specs.Prelude.{ℕ, List, [], ◌∷◌}
use Rattle.spv_module.specs.declared.module.Inst.{Inst}
use Rattle.spv_module.specs.declared.module.Operand.{Operand}
use Rattle.spv_module.specs.declared.module.Operand.TheVariants.{Id, Word}

abbrev pub inst : ℕ → List Operand → Inst
inst code operands = record { op = code; operands = operands }

abbrev pub offset : ℕ → ℕ → Inst
offset member at = inst 72 (Id 5 ∷ Word member ∷ Word 35 ∷ Word at ∷ [])

abbrev pub int : ℕ → ℕ → Inst
int id width = inst 21 (Id id ∷ Word width ∷ Word 0 ∷ [])

abbrev pub sample : List Inst
sample =
    offset 0 0 ∷ offset 1 16 ∷ offset 2 32 ∷ int 1 8 ∷ int 2 32 ∷ int 3 16
    ∷ inst 23 (Id 4 ∷ Id 2 ∷ Word 3 ∷ []) ∷ inst 30 (Id 5 ∷ Id 1 ∷ Id 4 ∷ Id 3 ∷ []) ∷ inst 29 (Id 6 ∷ Id 5 ∷ []) ∷ []
