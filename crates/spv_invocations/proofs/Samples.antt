-- What the definitions say of small modules.
use Rattle.std.proofs.Common.{◌≡◌, ℕ, zero, suc, true, if◌then◌else◌, nat_eq, List, [], ◌∷◌, map, Option, Some, None, refl}
use Rattle.clv_steps.specs.Machines.{Status, Runs, Asks, Ends, Fails}
use Rattle.spv_module.specs.declared.module.Inst.{Inst}
use Rattle.spv_module.specs.declared.module.Operand.{Operand}
use Rattle.spv_module.specs.declared.module.Operand.TheVariants.{Id, Word}
use Rattle.spv_module.specs.declared.op.TheConstants as op
use Rattle.launch_text.specs.declared.launch.Schedule.TheVariants.{Robin, Mixed}
use Rattle.spv_meaning.specs.declared.trap.TrapKind.{TrapKind}
use Rattle.spv_meaning.specs.declared.trap.TrapKind.TheVariants.{Range, Divide, Shift, Unreachable}
use Rattle.spv_invocations.specs.Events.{InBuffer, InGroup, Event, Read, Write, Atomic, Barrier, Asked}
use Rattle.spv_invocations.specs.Start.{Start, Given}
use Rattle.spv_invocations.specs.Invocation.{Run, status, next, first_run, given_of, trap_of}
use Rattle.spv_invocations.specs.Worlds.{Memory, first_memory, denied, answer_of, after_event}
use Rattle.spv_invocations.specs.Schedule.{turn_of, members_of, settled_of, GoesOn, Opens, Mismatches}
use Rattle.spv_invocations.specs.Cells.{cells_needed}

abbrev inst : ℕ → List Operand → Inst
inst code operands = record { op = code; operands = operands }

-- ---- an item by itself, with these answers and one number for all its own steps

record Walk : Type 0 where
  asked : List Event
  steps : ℕ
  run : Run
  stands : Status Asked

abbrev stopped : ℕ → Run → Status Asked → Walk
stopped steps r s = record { asked = []; steps = steps; run = r; stands = s }

abbrev with_asked : Event → Walk → Walk
with_asked e w = record { asked = e ∷ w.asked; steps = w.steps; run = w.run; stands = w.stands }

abbrev first_answer : List ℕ → ℕ
first_answer [] = 0
first_answer (x ∷ xs) = x

abbrev other_answers : List ℕ → List ℕ
other_answers [] = []
other_answers (x ∷ xs) = xs

abbrev walk : ℕ → Given → ℕ → List ℕ → ℕ → Run → Walk
walk zero g free answers steps r = stopped steps r Runs
walk (suc fuel) g free answers steps r = elim (status g r) [
  | Runs ↦ walk fuel g free answers (suc steps) (next g free r)
  | Asks a ↦ with_asked a.event (walk fuel g free (other_answers answers) (suc steps) (next g (first_answer answers) r))
  | Ends ↦ stopped steps r Ends
  | Fails ↦ stopped steps r Fails
]

abbrev walked : List Inst → Start → ℕ → ℕ → List ℕ → Walk
walked body start item free answers = walk 1000 (given_of body start item) free answers 0 (first_run (given_of body start item))

abbrev written : List Event → List (ℕ × ℕ)
written [] = []
written (Write (InBuffer b offset bits) n ∷ es) = (offset, n) ∷ written es
written (_ ∷ es) = written es

abbrev writes : Walk → List (ℕ × ℕ)
writes w = written w.asked

abbrev values_written : Walk → List ℕ
values_written w = map (λ p. p.1) (writes w)

-- each operation on numbers and bools, whose results are written one behind the other
abbrev operations : List Inst
operations =
    inst op.DECORATE (Id 3 ∷ Word 6 ∷ Word 4 ∷ []) ∷ inst op.MEMBER_DECORATE (Id 4 ∷ Word 0 ∷ Word 35 ∷ Word 0 ∷ []) ∷ inst op.DECORATE (Id 6 ∷ Word 34 ∷ Word 0 ∷ [])
    ∷ inst op.DECORATE (Id 6 ∷ Word 33 ∷ Word 0 ∷ []) ∷ inst op.TYPE_INT (Id 2 ∷ Word 32 ∷ Word 0 ∷ []) ∷ inst op.TYPE_RUNTIME_ARRAY (Id 3 ∷ Id 2 ∷ [])
    ∷ inst op.TYPE_STRUCT (Id 4 ∷ Id 3 ∷ []) ∷ inst op.TYPE_POINTER (Id 5 ∷ Word 12 ∷ Id 4 ∷ []) ∷ inst op.VARIABLE (Id 5 ∷ Id 6 ∷ Word 12 ∷ [])
    ∷ inst op.TYPE_VOID (Id 7 ∷ []) ∷ inst op.TYPE_FUNCTION (Id 8 ∷ Id 7 ∷ []) ∷ inst op.TYPE_BOOL (Id 13 ∷ []) ∷ inst op.CONSTANT (Id 2 ∷ Id 14 ∷ Word 7 ∷ [])
    ∷ inst op.CONSTANT (Id 2 ∷ Id 15 ∷ Word 4294967293 ∷ []) ∷ inst op.CONSTANT (Id 2 ∷ Id 17 ∷ Word 0 ∷ []) ∷ inst op.TYPE_POINTER (Id 18 ∷ Word 12 ∷ Id 2 ∷ [])
    ∷ inst op.CONSTANT (Id 2 ∷ Id 20 ∷ Word 3 ∷ []) ∷ inst op.CONSTANT (Id 2 ∷ Id 21 ∷ Word 5 ∷ []) ∷ inst op.CONSTANT (Id 2 ∷ Id 23 ∷ Word 1 ∷ [])
    ∷ inst op.CONSTANT (Id 2 ∷ Id 25 ∷ Word 65536 ∷ []) ∷ inst op.CONSTANT (Id 2 ∷ Id 26 ∷ Word 65537 ∷ []) ∷ inst op.CONSTANT (Id 2 ∷ Id 28 ∷ Word 2 ∷ [])
    ∷ inst op.CONSTANT (Id 2 ∷ Id 30 ∷ Word 4294967295 ∷ []) ∷ inst op.CONSTANT (Id 2 ∷ Id 31 ∷ Word 10 ∷ []) ∷ inst op.CONSTANT (Id 2 ∷ Id 34 ∷ Word 4294967289 ∷ [])
    ∷ inst op.CONSTANT (Id 2 ∷ Id 36 ∷ Word 4 ∷ []) ∷ inst op.CONSTANT (Id 2 ∷ Id 41 ∷ Word 6 ∷ []) ∷ inst op.CONSTANT (Id 2 ∷ Id 43 ∷ Word 4294967280 ∷ [])
    ∷ inst op.CONSTANT (Id 2 ∷ Id 47 ∷ Word 8 ∷ []) ∷ inst op.CONSTANT (Id 2 ∷ Id 49 ∷ Word 31 ∷ []) ∷ inst op.CONSTANT (Id 2 ∷ Id 51 ∷ Word 9 ∷ [])
    ∷ inst op.CONSTANT (Id 2 ∷ Id 53 ∷ Word 12 ∷ []) ∷ inst op.CONSTANT (Id 2 ∷ Id 57 ∷ Word 11 ∷ []) ∷ inst op.CONSTANT (Id 2 ∷ Id 63 ∷ Word 13 ∷ [])
    ∷ inst op.CONSTANT (Id 2 ∷ Id 67 ∷ Word 14 ∷ []) ∷ inst op.CONSTANT (Id 2 ∷ Id 71 ∷ Word 15 ∷ []) ∷ inst op.CONSTANT (Id 2 ∷ Id 75 ∷ Word 16 ∷ [])
    ∷ inst op.CONSTANT (Id 2 ∷ Id 79 ∷ Word 17 ∷ []) ∷ inst op.CONSTANT (Id 2 ∷ Id 83 ∷ Word 18 ∷ []) ∷ inst op.CONSTANT (Id 2 ∷ Id 87 ∷ Word 19 ∷ [])
    ∷ inst op.CONSTANT (Id 2 ∷ Id 91 ∷ Word 20 ∷ []) ∷ inst op.CONSTANT (Id 2 ∷ Id 95 ∷ Word 21 ∷ []) ∷ inst op.CONSTANT (Id 2 ∷ Id 99 ∷ Word 22 ∷ [])
    ∷ inst op.CONSTANT (Id 2 ∷ Id 102 ∷ Word 23 ∷ []) ∷ inst op.CONSTANT (Id 2 ∷ Id 105 ∷ Word 24 ∷ []) ∷ inst op.CONSTANT_TRUE (Id 13 ∷ Id 107 ∷ [])
    ∷ inst op.CONSTANT (Id 2 ∷ Id 110 ∷ Word 25 ∷ []) ∷ inst op.CONSTANT_FALSE (Id 13 ∷ Id 112 ∷ []) ∷ inst op.CONSTANT (Id 2 ∷ Id 115 ∷ Word 26 ∷ [])
    ∷ inst op.CONSTANT (Id 2 ∷ Id 119 ∷ Word 27 ∷ []) ∷ inst op.TYPE_INT (Id 121 ∷ Word 8 ∷ Word 0 ∷ []) ∷ inst op.CONSTANT (Id 121 ∷ Id 122 ∷ Word 200 ∷ [])
    ∷ inst op.CONSTANT (Id 2 ∷ Id 124 ∷ Word 28 ∷ []) ∷ inst op.CONSTANT (Id 2 ∷ Id 127 ∷ Word 29 ∷ []) ∷ inst op.TYPE_INT (Id 129 ∷ Word 64 ∷ Word 0 ∷ [])
    ∷ inst op.CONSTANT (Id 129 ∷ Id 130 ∷ Word 9 ∷ Word 5 ∷ []) ∷ inst op.CONSTANT (Id 2 ∷ Id 132 ∷ Word 30 ∷ []) ∷ inst op.TYPE_INT (Id 134 ∷ Word 16 ∷ Word 0 ∷ [])
    ∷ inst op.TYPE_VECTOR (Id 135 ∷ Id 134 ∷ Word 2 ∷ []) ∷ inst op.CONSTANT (Id 134 ∷ Id 136 ∷ Word 1 ∷ []) ∷ inst op.CONSTANT (Id 134 ∷ Id 137 ∷ Word 2 ∷ [])
    ∷ inst op.CONSTANT_COMPOSITE (Id 135 ∷ Id 138 ∷ Id 136 ∷ Id 137 ∷ []) ∷ inst op.FUNCTION (Id 7 ∷ Id 9 ∷ Word 0 ∷ Id 8 ∷ []) ∷ inst op.LABEL (Id 10 ∷ [])
    ∷ inst op.I_ADD (Id 2 ∷ Id 16 ∷ Id 14 ∷ Id 15 ∷ []) ∷ inst op.ACCESS_CHAIN (Id 18 ∷ Id 19 ∷ Id 6 ∷ Id 17 ∷ Id 17 ∷ []) ∷ inst op.STORE (Id 19 ∷ Id 16 ∷ [])
    ∷ inst op.I_SUB (Id 2 ∷ Id 22 ∷ Id 20 ∷ Id 21 ∷ []) ∷ inst op.ACCESS_CHAIN (Id 18 ∷ Id 24 ∷ Id 6 ∷ Id 17 ∷ Id 23 ∷ []) ∷ inst op.STORE (Id 24 ∷ Id 22 ∷ [])
    ∷ inst op.I_MUL (Id 2 ∷ Id 27 ∷ Id 25 ∷ Id 26 ∷ []) ∷ inst op.ACCESS_CHAIN (Id 18 ∷ Id 29 ∷ Id 6 ∷ Id 17 ∷ Id 28 ∷ []) ∷ inst op.STORE (Id 29 ∷ Id 27 ∷ [])
    ∷ inst op.U_DIV (Id 2 ∷ Id 32 ∷ Id 30 ∷ Id 31 ∷ []) ∷ inst op.ACCESS_CHAIN (Id 18 ∷ Id 33 ∷ Id 6 ∷ Id 17 ∷ Id 20 ∷ []) ∷ inst op.STORE (Id 33 ∷ Id 32 ∷ [])
    ∷ inst op.S_DIV (Id 2 ∷ Id 35 ∷ Id 34 ∷ Id 28 ∷ []) ∷ inst op.ACCESS_CHAIN (Id 18 ∷ Id 37 ∷ Id 6 ∷ Id 17 ∷ Id 36 ∷ []) ∷ inst op.STORE (Id 37 ∷ Id 35 ∷ [])
    ∷ inst op.U_MOD (Id 2 ∷ Id 38 ∷ Id 30 ∷ Id 31 ∷ []) ∷ inst op.ACCESS_CHAIN (Id 18 ∷ Id 39 ∷ Id 6 ∷ Id 17 ∷ Id 21 ∷ []) ∷ inst op.STORE (Id 39 ∷ Id 38 ∷ [])
    ∷ inst op.S_REM (Id 2 ∷ Id 40 ∷ Id 34 ∷ Id 28 ∷ []) ∷ inst op.ACCESS_CHAIN (Id 18 ∷ Id 42 ∷ Id 6 ∷ Id 17 ∷ Id 41 ∷ []) ∷ inst op.STORE (Id 42 ∷ Id 40 ∷ [])
    ∷ inst op.SHIFT_RIGHT_LOGICAL (Id 2 ∷ Id 44 ∷ Id 43 ∷ Id 28 ∷ []) ∷ inst op.ACCESS_CHAIN (Id 18 ∷ Id 45 ∷ Id 6 ∷ Id 17 ∷ Id 14 ∷ []) ∷ inst op.STORE (Id 45 ∷ Id 44 ∷ [])
    ∷ inst op.SHIFT_RIGHT_ARITHMETIC (Id 2 ∷ Id 46 ∷ Id 43 ∷ Id 28 ∷ []) ∷ inst op.ACCESS_CHAIN (Id 18 ∷ Id 48 ∷ Id 6 ∷ Id 17 ∷ Id 47 ∷ []) ∷ inst op.STORE (Id 48 ∷ Id 46 ∷ [])
    ∷ inst op.SHIFT_LEFT_LOGICAL (Id 2 ∷ Id 50 ∷ Id 20 ∷ Id 49 ∷ []) ∷ inst op.ACCESS_CHAIN (Id 18 ∷ Id 52 ∷ Id 6 ∷ Id 17 ∷ Id 51 ∷ []) ∷ inst op.STORE (Id 52 ∷ Id 50 ∷ [])
    ∷ inst op.BITWISE_OR (Id 2 ∷ Id 54 ∷ Id 53 ∷ Id 31 ∷ []) ∷ inst op.ACCESS_CHAIN (Id 18 ∷ Id 55 ∷ Id 6 ∷ Id 17 ∷ Id 31 ∷ []) ∷ inst op.STORE (Id 55 ∷ Id 54 ∷ [])
    ∷ inst op.BITWISE_XOR (Id 2 ∷ Id 56 ∷ Id 53 ∷ Id 31 ∷ []) ∷ inst op.ACCESS_CHAIN (Id 18 ∷ Id 58 ∷ Id 6 ∷ Id 17 ∷ Id 57 ∷ []) ∷ inst op.STORE (Id 58 ∷ Id 56 ∷ [])
    ∷ inst op.BITWISE_AND (Id 2 ∷ Id 59 ∷ Id 53 ∷ Id 31 ∷ []) ∷ inst op.ACCESS_CHAIN (Id 18 ∷ Id 60 ∷ Id 6 ∷ Id 17 ∷ Id 53 ∷ []) ∷ inst op.STORE (Id 60 ∷ Id 59 ∷ [])
    ∷ inst op.I_EQUAL (Id 13 ∷ Id 61 ∷ Id 21 ∷ Id 21 ∷ []) ∷ inst op.SELECT (Id 2 ∷ Id 62 ∷ Id 61 ∷ Id 23 ∷ Id 17 ∷ []) ∷ inst op.ACCESS_CHAIN (Id 18 ∷ Id 64 ∷ Id 6 ∷ Id 17 ∷ Id 63 ∷ [])
    ∷ inst op.STORE (Id 64 ∷ Id 62 ∷ []) ∷ inst op.I_NOT_EQUAL (Id 13 ∷ Id 65 ∷ Id 21 ∷ Id 21 ∷ []) ∷ inst op.SELECT (Id 2 ∷ Id 66 ∷ Id 65 ∷ Id 23 ∷ Id 17 ∷ [])
    ∷ inst op.ACCESS_CHAIN (Id 18 ∷ Id 68 ∷ Id 6 ∷ Id 17 ∷ Id 67 ∷ []) ∷ inst op.STORE (Id 68 ∷ Id 66 ∷ []) ∷ inst op.U_GREATER_THAN (Id 13 ∷ Id 69 ∷ Id 30 ∷ Id 23 ∷ [])
    ∷ inst op.SELECT (Id 2 ∷ Id 70 ∷ Id 69 ∷ Id 23 ∷ Id 17 ∷ []) ∷ inst op.ACCESS_CHAIN (Id 18 ∷ Id 72 ∷ Id 6 ∷ Id 17 ∷ Id 71 ∷ []) ∷ inst op.STORE (Id 72 ∷ Id 70 ∷ [])
    ∷ inst op.S_GREATER_THAN (Id 13 ∷ Id 73 ∷ Id 30 ∷ Id 23 ∷ []) ∷ inst op.SELECT (Id 2 ∷ Id 74 ∷ Id 73 ∷ Id 23 ∷ Id 17 ∷ []) ∷ inst op.ACCESS_CHAIN (Id 18 ∷ Id 76 ∷ Id 6 ∷ Id 17 ∷ Id 75 ∷ [])
    ∷ inst op.STORE (Id 76 ∷ Id 74 ∷ []) ∷ inst op.U_GREATER_THAN_EQUAL (Id 13 ∷ Id 77 ∷ Id 36 ∷ Id 36 ∷ []) ∷ inst op.SELECT (Id 2 ∷ Id 78 ∷ Id 77 ∷ Id 23 ∷ Id 17 ∷ [])
    ∷ inst op.ACCESS_CHAIN (Id 18 ∷ Id 80 ∷ Id 6 ∷ Id 17 ∷ Id 79 ∷ []) ∷ inst op.STORE (Id 80 ∷ Id 78 ∷ []) ∷ inst op.S_GREATER_THAN_EQUAL (Id 13 ∷ Id 81 ∷ Id 30 ∷ Id 17 ∷ [])
    ∷ inst op.SELECT (Id 2 ∷ Id 82 ∷ Id 81 ∷ Id 23 ∷ Id 17 ∷ []) ∷ inst op.ACCESS_CHAIN (Id 18 ∷ Id 84 ∷ Id 6 ∷ Id 17 ∷ Id 83 ∷ []) ∷ inst op.STORE (Id 84 ∷ Id 82 ∷ [])
    ∷ inst op.U_LESS_THAN (Id 13 ∷ Id 85 ∷ Id 30 ∷ Id 23 ∷ []) ∷ inst op.SELECT (Id 2 ∷ Id 86 ∷ Id 85 ∷ Id 23 ∷ Id 17 ∷ []) ∷ inst op.ACCESS_CHAIN (Id 18 ∷ Id 88 ∷ Id 6 ∷ Id 17 ∷ Id 87 ∷ [])
    ∷ inst op.STORE (Id 88 ∷ Id 86 ∷ []) ∷ inst op.S_LESS_THAN (Id 13 ∷ Id 89 ∷ Id 30 ∷ Id 23 ∷ []) ∷ inst op.SELECT (Id 2 ∷ Id 90 ∷ Id 89 ∷ Id 23 ∷ Id 17 ∷ [])
    ∷ inst op.ACCESS_CHAIN (Id 18 ∷ Id 92 ∷ Id 6 ∷ Id 17 ∷ Id 91 ∷ []) ∷ inst op.STORE (Id 92 ∷ Id 90 ∷ []) ∷ inst op.U_LESS_THAN_EQUAL (Id 13 ∷ Id 93 ∷ Id 36 ∷ Id 36 ∷ [])
    ∷ inst op.SELECT (Id 2 ∷ Id 94 ∷ Id 93 ∷ Id 23 ∷ Id 17 ∷ []) ∷ inst op.ACCESS_CHAIN (Id 18 ∷ Id 96 ∷ Id 6 ∷ Id 17 ∷ Id 95 ∷ []) ∷ inst op.STORE (Id 96 ∷ Id 94 ∷ [])
    ∷ inst op.S_LESS_THAN_EQUAL (Id 13 ∷ Id 97 ∷ Id 30 ∷ Id 17 ∷ []) ∷ inst op.SELECT (Id 2 ∷ Id 98 ∷ Id 97 ∷ Id 23 ∷ Id 17 ∷ []) ∷ inst op.ACCESS_CHAIN (Id 18 ∷ Id 100 ∷ Id 6 ∷ Id 17 ∷ Id 99 ∷ [])
    ∷ inst op.STORE (Id 100 ∷ Id 98 ∷ []) ∷ inst op.S_NEGATE (Id 2 ∷ Id 101 ∷ Id 21 ∷ []) ∷ inst op.ACCESS_CHAIN (Id 18 ∷ Id 103 ∷ Id 6 ∷ Id 17 ∷ Id 102 ∷ [])
    ∷ inst op.STORE (Id 103 ∷ Id 101 ∷ []) ∷ inst op.NOT (Id 2 ∷ Id 104 ∷ Id 21 ∷ []) ∷ inst op.ACCESS_CHAIN (Id 18 ∷ Id 106 ∷ Id 6 ∷ Id 17 ∷ Id 105 ∷ [])
    ∷ inst op.STORE (Id 106 ∷ Id 104 ∷ []) ∷ inst op.LOGICAL_NOT (Id 13 ∷ Id 108 ∷ Id 107 ∷ []) ∷ inst op.SELECT (Id 2 ∷ Id 109 ∷ Id 108 ∷ Id 20 ∷ Id 36 ∷ [])
    ∷ inst op.ACCESS_CHAIN (Id 18 ∷ Id 111 ∷ Id 6 ∷ Id 17 ∷ Id 110 ∷ []) ∷ inst op.STORE (Id 111 ∷ Id 109 ∷ []) ∷ inst op.LOGICAL_OR (Id 13 ∷ Id 113 ∷ Id 107 ∷ Id 112 ∷ [])
    ∷ inst op.SELECT (Id 2 ∷ Id 114 ∷ Id 113 ∷ Id 20 ∷ Id 36 ∷ []) ∷ inst op.ACCESS_CHAIN (Id 18 ∷ Id 116 ∷ Id 6 ∷ Id 17 ∷ Id 115 ∷ []) ∷ inst op.STORE (Id 116 ∷ Id 114 ∷ [])
    ∷ inst op.LOGICAL_AND (Id 13 ∷ Id 117 ∷ Id 107 ∷ Id 112 ∷ []) ∷ inst op.SELECT (Id 2 ∷ Id 118 ∷ Id 117 ∷ Id 20 ∷ Id 36 ∷ []) ∷ inst op.ACCESS_CHAIN (Id 18 ∷ Id 120 ∷ Id 6 ∷ Id 17 ∷ Id 119 ∷ [])
    ∷ inst op.STORE (Id 120 ∷ Id 118 ∷ []) ∷ inst op.U_CONVERT (Id 2 ∷ Id 123 ∷ Id 122 ∷ []) ∷ inst op.ACCESS_CHAIN (Id 18 ∷ Id 125 ∷ Id 6 ∷ Id 17 ∷ Id 124 ∷ [])
    ∷ inst op.STORE (Id 125 ∷ Id 123 ∷ []) ∷ inst op.S_CONVERT (Id 2 ∷ Id 126 ∷ Id 122 ∷ []) ∷ inst op.ACCESS_CHAIN (Id 18 ∷ Id 128 ∷ Id 6 ∷ Id 17 ∷ Id 127 ∷ [])
    ∷ inst op.STORE (Id 128 ∷ Id 126 ∷ []) ∷ inst op.U_CONVERT (Id 2 ∷ Id 131 ∷ Id 130 ∷ []) ∷ inst op.ACCESS_CHAIN (Id 18 ∷ Id 133 ∷ Id 6 ∷ Id 17 ∷ Id 132 ∷ [])
    ∷ inst op.STORE (Id 133 ∷ Id 131 ∷ []) ∷ inst op.BITCAST (Id 2 ∷ Id 139 ∷ Id 138 ∷ []) ∷ inst op.ACCESS_CHAIN (Id 18 ∷ Id 140 ∷ Id 6 ∷ Id 17 ∷ Id 49 ∷ [])
    ∷ inst op.STORE (Id 140 ∷ Id 139 ∷ []) ∷ inst op.RETURN ([]) ∷ inst op.FUNCTION_END ([])
    ∷ []

abbrev operations_start : Start
operations_start = record { function = 9; global = record { x = 1; y = 1; z = 1 }; local = record { x = 1; y = 1; z = 1 }; buffers = (0 ∷ 0 ∷ 0 ∷ 0 ∷ 0 ∷ 0 ∷ 0 ∷ 0 ∷ 0 ∷ 0 ∷ 0 ∷ 0 ∷ 0 ∷ 0 ∷ 0 ∷ 0 ∷ 0 ∷ 0 ∷ 0 ∷ 0 ∷ 0 ∷ 0 ∷ 0 ∷ 0 ∷ 0 ∷ 0 ∷ 0 ∷ 0 ∷ 0 ∷ 0 ∷ 0 ∷ 0 ∷ 0 ∷ 0 ∷ 0 ∷ 0 ∷ 0 ∷ 0 ∷ 0 ∷ 0 ∷ 0 ∷ 0 ∷ 0 ∷ 0 ∷ 0 ∷ 0 ∷ 0 ∷ 0 ∷ 0 ∷ 0 ∷ 0 ∷ 0 ∷ 0 ∷ 0 ∷ 0 ∷ 0 ∷ 0 ∷ 0 ∷ 0 ∷ 0 ∷ 0 ∷ 0 ∷ 0 ∷ 0 ∷ 0 ∷ 0 ∷ 0 ∷ 0 ∷ 0 ∷ 0 ∷ 0 ∷ 0 ∷ 0 ∷ 0 ∷ 0 ∷ 0 ∷ 0 ∷ 0 ∷ 0 ∷ 0 ∷ 0 ∷ 0 ∷ 0 ∷ 0 ∷ 0 ∷ 0 ∷ 0 ∷ 0 ∷ 0 ∷ 0 ∷ 0 ∷ 0 ∷ 0 ∷ 0 ∷ 0 ∷ 0 ∷ 0 ∷ 0 ∷ 0 ∷ 0 ∷ 0 ∷ 0 ∷ 0 ∷ 0 ∷ 0 ∷ 0 ∷ 0 ∷ 0 ∷ 0 ∷ 0 ∷ 0 ∷ 0 ∷ 0 ∷ 0 ∷ 0 ∷ 0 ∷ 0 ∷ 0 ∷ 0 ∷ 0 ∷ 0 ∷ 0 ∷ 0 ∷ 0 ∷ 0 ∷ 0 ∷ 0 ∷ 0 ∷ []) ∷ []; shared = 1; bound = record { set = 0; binding = 0; buffer = 0 } ∷ []; push = []; specialised = [] }

operations_give : values_written (walked operations operations_start 0 0 []) ≡ 4 ∷ 4294967294 ∷ 65536 ∷ 429496729 ∷ 4294967293 ∷ 5 ∷ 4294967295 ∷ 1073741820 ∷ 4294967292 ∷ 2147483648 ∷ 14 ∷ 6 ∷ 8 ∷ 1 ∷ 0 ∷ 1 ∷ 0 ∷ 1 ∷ 0 ∷ 0 ∷ 1 ∷ 1 ∷ 1 ∷ 4294967291 ∷ 4294967290 ∷ 4 ∷ 3 ∷ 4 ∷ 200 ∷ 4294967240 ∷ 9 ∷ 131073 ∷ []
operations_give = refl

-- for (i = 0; i < n; i++) switch (i) { case 0: s += 1; case 2: s += 10; break; default: if (i == 4) return s; continue; } s += 100; of 9, and of 0: then 7
abbrev control : List Inst
control =
    inst op.DECORATE (Id 3 ∷ Word 6 ∷ Word 4 ∷ []) ∷ inst op.MEMBER_DECORATE (Id 4 ∷ Word 0 ∷ Word 35 ∷ Word 0 ∷ []) ∷ inst op.DECORATE (Id 6 ∷ Word 34 ∷ Word 0 ∷ [])
    ∷ inst op.DECORATE (Id 6 ∷ Word 33 ∷ Word 0 ∷ []) ∷ inst op.TYPE_INT (Id 2 ∷ Word 32 ∷ Word 0 ∷ []) ∷ inst op.TYPE_RUNTIME_ARRAY (Id 3 ∷ Id 2 ∷ [])
    ∷ inst op.TYPE_STRUCT (Id 4 ∷ Id 3 ∷ []) ∷ inst op.TYPE_POINTER (Id 5 ∷ Word 12 ∷ Id 4 ∷ []) ∷ inst op.VARIABLE (Id 5 ∷ Id 6 ∷ Word 12 ∷ [])
    ∷ inst op.TYPE_VOID (Id 7 ∷ []) ∷ inst op.TYPE_FUNCTION (Id 8 ∷ Id 7 ∷ []) ∷ inst op.TYPE_POINTER (Id 13 ∷ Word 7 ∷ Id 2 ∷ []) ∷ inst op.TYPE_FUNCTION (Id 14 ∷ Id 7 ∷ Id 13 ∷ Id 2 ∷ [])
    ∷ inst op.TYPE_FUNCTION (Id 21 ∷ Id 2 ∷ Id 2 ∷ []) ∷ inst op.CONSTANT (Id 2 ∷ Id 27 ∷ Word 0 ∷ []) ∷ inst op.TYPE_BOOL (Id 33 ∷ []) ∷ inst op.CONSTANT (Id 2 ∷ Id 42 ∷ Word 1 ∷ [])
    ∷ inst op.CONSTANT (Id 2 ∷ Id 44 ∷ Word 10 ∷ []) ∷ inst op.CONSTANT (Id 2 ∷ Id 47 ∷ Word 4 ∷ []) ∷ inst op.CONSTANT (Id 2 ∷ Id 52 ∷ Word 100 ∷ [])
    ∷ inst op.CONSTANT (Id 2 ∷ Id 56 ∷ Word 7 ∷ []) ∷ inst op.TYPE_POINTER (Id 57 ∷ Word 12 ∷ Id 2 ∷ []) ∷ inst op.CONSTANT (Id 2 ∷ Id 59 ∷ Word 9 ∷ [])
    ∷ inst op.FUNCTION (Id 7 ∷ Id 9 ∷ Word 0 ∷ Id 8 ∷ []) ∷ inst op.LABEL (Id 10 ∷ []) ∷ inst op.ACCESS_CHAIN (Id 57 ∷ Id 58 ∷ Id 6 ∷ Id 27 ∷ Id 27 ∷ [])
    ∷ inst op.FUNCTION_CALL (Id 2 ∷ Id 60 ∷ Id 22 ∷ Id 59 ∷ []) ∷ inst op.STORE (Id 58 ∷ Id 60 ∷ []) ∷ inst op.ACCESS_CHAIN (Id 57 ∷ Id 61 ∷ Id 6 ∷ Id 27 ∷ Id 42 ∷ [])
    ∷ inst op.FUNCTION_CALL (Id 2 ∷ Id 62 ∷ Id 22 ∷ Id 27 ∷ []) ∷ inst op.STORE (Id 61 ∷ Id 62 ∷ []) ∷ inst op.RETURN ([]) ∷ inst op.FUNCTION_END ([])
    ∷ inst op.FUNCTION (Id 7 ∷ Id 15 ∷ Word 0 ∷ Id 14 ∷ []) ∷ inst op.FUNCTION_PARAMETER (Id 13 ∷ Id 16 ∷ []) ∷ inst op.FUNCTION_PARAMETER (Id 2 ∷ Id 17 ∷ [])
    ∷ inst op.LABEL (Id 18 ∷ []) ∷ inst op.LOAD (Id 2 ∷ Id 19 ∷ Id 16 ∷ []) ∷ inst op.I_ADD (Id 2 ∷ Id 20 ∷ Id 19 ∷ Id 17 ∷ []) ∷ inst op.STORE (Id 16 ∷ Id 20 ∷ [])
    ∷ inst op.RETURN ([]) ∷ inst op.FUNCTION_END ([]) ∷ inst op.FUNCTION (Id 2 ∷ Id 22 ∷ Word 0 ∷ Id 21 ∷ []) ∷ inst op.FUNCTION_PARAMETER (Id 2 ∷ Id 23 ∷ [])
    ∷ inst op.LABEL (Id 24 ∷ []) ∷ inst op.VARIABLE (Id 13 ∷ Id 25 ∷ Word 7 ∷ []) ∷ inst op.VARIABLE (Id 13 ∷ Id 26 ∷ Word 7 ∷ []) ∷ inst op.STORE (Id 25 ∷ Id 27 ∷ [])
    ∷ inst op.STORE (Id 26 ∷ Id 27 ∷ []) ∷ inst op.BRANCH (Id 28 ∷ []) ∷ inst op.LABEL (Id 28 ∷ []) ∷ inst op.LOOP_MERGE (Id 32 ∷ Id 31 ∷ Word 0 ∷ [])
    ∷ inst op.BRANCH (Id 29 ∷ []) ∷ inst op.LABEL (Id 29 ∷ []) ∷ inst op.LOAD (Id 2 ∷ Id 34 ∷ Id 25 ∷ []) ∷ inst op.U_LESS_THAN (Id 33 ∷ Id 35 ∷ Id 34 ∷ Id 23 ∷ [])
    ∷ inst op.SELECTION_MERGE (Id 36 ∷ Word 0 ∷ []) ∷ inst op.BRANCH_CONDITIONAL (Id 35 ∷ Id 36 ∷ Id 30 ∷ []) ∷ inst op.LABEL (Id 30 ∷ []) ∷ inst op.BRANCH (Id 32 ∷ [])
    ∷ inst op.LABEL (Id 36 ∷ []) ∷ inst op.LOAD (Id 2 ∷ Id 41 ∷ Id 25 ∷ []) ∷ inst op.SELECTION_MERGE (Id 37 ∷ Word 0 ∷ []) ∷ inst op.SWITCH (Id 41 ∷ Id 40 ∷ Word 0 ∷ Id 38 ∷ Word 2 ∷ Id 39 ∷ [])
    ∷ inst op.LABEL (Id 38 ∷ []) ∷ inst op.FUNCTION_CALL (Id 7 ∷ Id 43 ∷ Id 15 ∷ Id 26 ∷ Id 42 ∷ []) ∷ inst op.BRANCH (Id 39 ∷ []) ∷ inst op.LABEL (Id 39 ∷ [])
    ∷ inst op.FUNCTION_CALL (Id 7 ∷ Id 45 ∷ Id 15 ∷ Id 26 ∷ Id 44 ∷ []) ∷ inst op.BRANCH (Id 37 ∷ []) ∷ inst op.LABEL (Id 40 ∷ []) ∷ inst op.LOAD (Id 2 ∷ Id 46 ∷ Id 25 ∷ [])
    ∷ inst op.I_EQUAL (Id 33 ∷ Id 48 ∷ Id 46 ∷ Id 47 ∷ []) ∷ inst op.SELECTION_MERGE (Id 49 ∷ Word 0 ∷ []) ∷ inst op.BRANCH_CONDITIONAL (Id 48 ∷ Id 50 ∷ Id 49 ∷ [])
    ∷ inst op.LABEL (Id 50 ∷ []) ∷ inst op.LOAD (Id 2 ∷ Id 51 ∷ Id 26 ∷ []) ∷ inst op.RETURN_VALUE (Id 51 ∷ []) ∷ inst op.LABEL (Id 49 ∷ []) ∷ inst op.BRANCH (Id 31 ∷ [])
    ∷ inst op.LABEL (Id 37 ∷ []) ∷ inst op.FUNCTION_CALL (Id 7 ∷ Id 53 ∷ Id 15 ∷ Id 26 ∷ Id 52 ∷ []) ∷ inst op.BRANCH (Id 31 ∷ []) ∷ inst op.LABEL (Id 31 ∷ [])
    ∷ inst op.LOAD (Id 2 ∷ Id 54 ∷ Id 25 ∷ []) ∷ inst op.I_ADD (Id 2 ∷ Id 55 ∷ Id 54 ∷ Id 42 ∷ []) ∷ inst op.STORE (Id 25 ∷ Id 55 ∷ []) ∷ inst op.BRANCH (Id 28 ∷ [])
    ∷ inst op.LABEL (Id 32 ∷ []) ∷ inst op.RETURN_VALUE (Id 56 ∷ []) ∷ inst op.FUNCTION_END ([])
    ∷ []

abbrev control_start : Start
control_start = record { function = 9; global = record { x = 1; y = 1; z = 1 }; local = record { x = 1; y = 1; z = 1 }; buffers = (0 ∷ 0 ∷ 0 ∷ 0 ∷ 0 ∷ 0 ∷ 0 ∷ 0 ∷ []) ∷ []; shared = 1; bound = record { set = 0; binding = 0; buffer = 0 } ∷ []; push = []; specialised = [] }

control_gives : writes (walked control control_start 0 0 []) ≡ (0, 221) ∷ (4, 7) ∷ []
control_gives = refl

control_ends : (walked control control_start 0 0 []).stands ≡ Ends
control_ends = refl

-- struct S { char c; int3 v; short s; }: a load and a store of one, scalar by scalar, in a buffer, and of its parts in a variable that is partly unset
abbrev composites : List Inst
composites =
    inst op.MEMBER_DECORATE (Id 6 ∷ Word 0 ∷ Word 35 ∷ Word 0 ∷ []) ∷ inst op.MEMBER_DECORATE (Id 6 ∷ Word 1 ∷ Word 35 ∷ Word 16 ∷ []) ∷ inst op.MEMBER_DECORATE (Id 6 ∷ Word 2 ∷ Word 35 ∷ Word 32 ∷ [])
    ∷ inst op.DECORATE (Id 7 ∷ Word 6 ∷ Word 48 ∷ []) ∷ inst op.MEMBER_DECORATE (Id 8 ∷ Word 0 ∷ Word 35 ∷ Word 0 ∷ []) ∷ inst op.DECORATE (Id 10 ∷ Word 34 ∷ Word 0 ∷ [])
    ∷ inst op.DECORATE (Id 10 ∷ Word 33 ∷ Word 0 ∷ []) ∷ inst op.DECORATE (Id 11 ∷ Word 6 ∷ Word 4 ∷ []) ∷ inst op.MEMBER_DECORATE (Id 12 ∷ Word 0 ∷ Word 35 ∷ Word 0 ∷ [])
    ∷ inst op.DECORATE (Id 14 ∷ Word 34 ∷ Word 0 ∷ []) ∷ inst op.DECORATE (Id 14 ∷ Word 33 ∷ Word 1 ∷ []) ∷ inst op.TYPE_INT (Id 2 ∷ Word 32 ∷ Word 0 ∷ [])
    ∷ inst op.TYPE_INT (Id 3 ∷ Word 8 ∷ Word 0 ∷ []) ∷ inst op.TYPE_INT (Id 4 ∷ Word 16 ∷ Word 0 ∷ []) ∷ inst op.TYPE_VECTOR (Id 5 ∷ Id 2 ∷ Word 3 ∷ [])
    ∷ inst op.TYPE_STRUCT (Id 6 ∷ Id 3 ∷ Id 5 ∷ Id 4 ∷ []) ∷ inst op.TYPE_RUNTIME_ARRAY (Id 7 ∷ Id 6 ∷ []) ∷ inst op.TYPE_STRUCT (Id 8 ∷ Id 7 ∷ [])
    ∷ inst op.TYPE_POINTER (Id 9 ∷ Word 12 ∷ Id 8 ∷ []) ∷ inst op.VARIABLE (Id 9 ∷ Id 10 ∷ Word 12 ∷ []) ∷ inst op.TYPE_RUNTIME_ARRAY (Id 11 ∷ Id 2 ∷ [])
    ∷ inst op.TYPE_STRUCT (Id 12 ∷ Id 11 ∷ []) ∷ inst op.TYPE_POINTER (Id 13 ∷ Word 12 ∷ Id 12 ∷ []) ∷ inst op.VARIABLE (Id 13 ∷ Id 14 ∷ Word 12 ∷ [])
    ∷ inst op.TYPE_VOID (Id 15 ∷ []) ∷ inst op.TYPE_FUNCTION (Id 16 ∷ Id 15 ∷ []) ∷ inst op.TYPE_STRUCT (Id 21 ∷ Id 3 ∷ Id 5 ∷ Id 4 ∷ []) ∷ inst op.CONSTANT (Id 2 ∷ Id 22 ∷ Word 2 ∷ [])
    ∷ inst op.TYPE_ARRAY (Id 23 ∷ Id 21 ∷ Id 22 ∷ []) ∷ inst op.TYPE_POINTER (Id 25 ∷ Word 7 ∷ Id 23 ∷ []) ∷ inst op.CONSTANT (Id 2 ∷ Id 26 ∷ Word 0 ∷ [])
    ∷ inst op.CONSTANT (Id 2 ∷ Id 27 ∷ Word 1 ∷ []) ∷ inst op.TYPE_POINTER (Id 28 ∷ Word 12 ∷ Id 6 ∷ []) ∷ inst op.TYPE_POINTER (Id 32 ∷ Word 7 ∷ Id 5 ∷ [])
    ∷ inst op.TYPE_POINTER (Id 34 ∷ Word 7 ∷ Id 2 ∷ []) ∷ inst op.CONSTANT (Id 2 ∷ Id 38 ∷ Word 7 ∷ []) ∷ inst op.CONSTANT (Id 2 ∷ Id 39 ∷ Word 8 ∷ [])
    ∷ inst op.CONSTANT (Id 2 ∷ Id 40 ∷ Word 9 ∷ []) ∷ inst op.CONSTANT_COMPOSITE (Id 5 ∷ Id 41 ∷ Id 38 ∷ Id 39 ∷ Id 40 ∷ []) ∷ inst op.CONSTANT (Id 2 ∷ Id 44 ∷ Word 77 ∷ [])
    ∷ inst op.TYPE_VECTOR (Id 46 ∷ Id 2 ∷ Word 2 ∷ []) ∷ inst op.CONSTANT (Id 2 ∷ Id 48 ∷ Word 5 ∷ []) ∷ inst op.TYPE_POINTER (Id 54 ∷ Word 12 ∷ Id 2 ∷ [])
    ∷ inst op.CONSTANT_NULL (Id 5 ∷ Id 58 ∷ []) ∷ inst op.FUNCTION (Id 15 ∷ Id 17 ∷ Word 0 ∷ Id 16 ∷ []) ∷ inst op.LABEL (Id 18 ∷ []) ∷ inst op.VARIABLE (Id 25 ∷ Id 24 ∷ Word 7 ∷ [])
    ∷ inst op.ACCESS_CHAIN (Id 28 ∷ Id 29 ∷ Id 10 ∷ Id 26 ∷ Id 27 ∷ []) ∷ inst op.LOAD (Id 6 ∷ Id 30 ∷ Id 29 ∷ []) ∷ inst op.COMPOSITE_EXTRACT (Id 5 ∷ Id 31 ∷ Id 30 ∷ Word 1 ∷ [])
    ∷ inst op.ACCESS_CHAIN (Id 32 ∷ Id 33 ∷ Id 24 ∷ Id 27 ∷ Id 27 ∷ []) ∷ inst op.STORE (Id 33 ∷ Id 31 ∷ []) ∷ inst op.ACCESS_CHAIN (Id 34 ∷ Id 35 ∷ Id 24 ∷ Id 27 ∷ Id 27 ∷ Id 22 ∷ [])
    ∷ inst op.LOAD (Id 2 ∷ Id 36 ∷ Id 35 ∷ []) ∷ inst op.UNDEF (Id 5 ∷ Id 37 ∷ []) ∷ inst op.VECTOR_SHUFFLE (Id 5 ∷ Id 42 ∷ Id 31 ∷ Id 41 ∷ Word 5 ∷ Word 0 ∷ Word 2 ∷ [])
    ∷ inst op.VECTOR_EXTRACT_DYNAMIC (Id 2 ∷ Id 43 ∷ Id 42 ∷ Id 27 ∷ []) ∷ inst op.VECTOR_INSERT_DYNAMIC (Id 5 ∷ Id 45 ∷ Id 42 ∷ Id 44 ∷ Id 22 ∷ [])
    ∷ inst op.COMPOSITE_CONSTRUCT (Id 46 ∷ Id 47 ∷ Id 43 ∷ Id 36 ∷ []) ∷ inst op.COMPOSITE_CONSTRUCT (Id 5 ∷ Id 49 ∷ Id 47 ∷ Id 48 ∷ []) ∷ inst op.COMPOSITE_INSERT (Id 6 ∷ Id 50 ∷ Id 45 ∷ Id 30 ∷ Word 1 ∷ [])
    ∷ inst op.COMPOSITE_EXTRACT (Id 2 ∷ Id 51 ∷ Id 49 ∷ Word 1 ∷ []) ∷ inst op.COMPOSITE_INSERT (Id 6 ∷ Id 52 ∷ Id 51 ∷ Id 50 ∷ Word 1 ∷ Word 0 ∷ [])
    ∷ inst op.ACCESS_CHAIN (Id 28 ∷ Id 53 ∷ Id 10 ∷ Id 26 ∷ Id 26 ∷ []) ∷ inst op.STORE (Id 53 ∷ Id 52 ∷ []) ∷ inst op.ACCESS_CHAIN (Id 54 ∷ Id 55 ∷ Id 14 ∷ Id 26 ∷ Id 26 ∷ [])
    ∷ inst op.COMPOSITE_EXTRACT (Id 2 ∷ Id 56 ∷ Id 37 ∷ Word 1 ∷ []) ∷ inst op.STORE (Id 55 ∷ Id 56 ∷ []) ∷ inst op.ACCESS_CHAIN (Id 54 ∷ Id 57 ∷ Id 14 ∷ Id 26 ∷ Id 27 ∷ [])
    ∷ inst op.COMPOSITE_EXTRACT (Id 2 ∷ Id 59 ∷ Id 58 ∷ Word 2 ∷ []) ∷ inst op.STORE (Id 57 ∷ Id 59 ∷ []) ∷ inst op.ACCESS_CHAIN (Id 54 ∷ Id 60 ∷ Id 14 ∷ Id 26 ∷ Id 22 ∷ [])
    ∷ inst op.ACCESS_CHAIN (Id 34 ∷ Id 61 ∷ Id 24 ∷ Id 26 ∷ Id 27 ∷ Id 26 ∷ []) ∷ inst op.LOAD (Id 2 ∷ Id 62 ∷ Id 61 ∷ []) ∷ inst op.STORE (Id 60 ∷ Id 62 ∷ [])
    ∷ inst op.RETURN ([]) ∷ inst op.FUNCTION_END ([])
    ∷ []

abbrev composites_start : Start
composites_start = record { function = 17; global = record { x = 1; y = 1; z = 1 }; local = record { x = 1; y = 1; z = 1 }; buffers = (238 ∷ 238 ∷ 238 ∷ 238 ∷ 238 ∷ 238 ∷ 238 ∷ 238 ∷ 238 ∷ 238 ∷ 238 ∷ 238 ∷ 238 ∷ 238 ∷ 238 ∷ 238 ∷ 238 ∷ 238 ∷ 238 ∷ 238 ∷ 238 ∷ 238 ∷ 238 ∷ 238 ∷ 238 ∷ 238 ∷ 238 ∷ 238 ∷ 238 ∷ 238 ∷ 238 ∷ 238 ∷ 238 ∷ 238 ∷ 238 ∷ 238 ∷ 238 ∷ 238 ∷ 238 ∷ 238 ∷ 238 ∷ 238 ∷ 238 ∷ 238 ∷ 238 ∷ 238 ∷ 238 ∷ 238 ∷ 238 ∷ 238 ∷ 238 ∷ 238 ∷ 238 ∷ 238 ∷ 238 ∷ 238 ∷ 238 ∷ 238 ∷ 238 ∷ 238 ∷ 238 ∷ 238 ∷ 238 ∷ 238 ∷ 238 ∷ 238 ∷ 238 ∷ 238 ∷ 238 ∷ 238 ∷ 238 ∷ 238 ∷ 238 ∷ 238 ∷ 238 ∷ 238 ∷ 238 ∷ 238 ∷ 238 ∷ 238 ∷ 238 ∷ 238 ∷ 238 ∷ 238 ∷ 238 ∷ 238 ∷ 238 ∷ 238 ∷ 238 ∷ 238 ∷ 238 ∷ 238 ∷ 238 ∷ 238 ∷ 238 ∷ 238 ∷ []) ∷ (0 ∷ 0 ∷ 0 ∷ 0 ∷ 0 ∷ 0 ∷ 0 ∷ 0 ∷ 0 ∷ 0 ∷ 0 ∷ 0 ∷ []) ∷ []; shared = 2; bound = record { set = 0; binding = 0; buffer = 0 } ∷ record { set = 0; binding = 1; buffer = 1 } ∷ []; push = []; specialised = [] }

-- it reads the second element's scalars; what isn't set is what the steps bring, here the low 32 bits of 2 ^ 32 * 6 + 1, and the second component of what is undefined the bits above these
composites_ask : (walked composites composites_start 0 25769803777 (1 ∷ 2 ∷ 3 ∷ 4 ∷ 5 ∷ [])).asked ≡
    Read (InBuffer 0 48 8) ∷ Read (InBuffer 0 64 32) ∷ Read (InBuffer 0 68 32) ∷ Read (InBuffer 0 72 32) ∷ Read (InBuffer 0 80 16)
    ∷ Write (InBuffer 0 0 8) 1 ∷ Write (InBuffer 0 16 32) 4 ∷ Write (InBuffer 0 20 32) 2 ∷ Write (InBuffer 0 24 32) 77 ∷ Write (InBuffer 0 32 16) 5
    ∷ Write (InBuffer 1 0 32) 6 ∷ Write (InBuffer 1 4 32) 0 ∷ Write (InBuffer 1 8 32) 1 ∷ []
composites_ask = refl

-- what is given: input variables, a block of plain arguments, push constants, a specialised constant
abbrev given : List Inst
given =
    inst op.DECORATE (Id 3 ∷ Word 6 ∷ Word 4 ∷ []) ∷ inst op.MEMBER_DECORATE (Id 4 ∷ Word 0 ∷ Word 35 ∷ Word 0 ∷ []) ∷ inst op.DECORATE (Id 6 ∷ Word 34 ∷ Word 0 ∷ [])
    ∷ inst op.DECORATE (Id 6 ∷ Word 33 ∷ Word 0 ∷ []) ∷ inst op.MEMBER_DECORATE (Id 8 ∷ Word 0 ∷ Word 35 ∷ Word 0 ∷ []) ∷ inst op.MEMBER_DECORATE (Id 8 ∷ Word 1 ∷ Word 35 ∷ Word 4 ∷ [])
    ∷ inst op.DECORATE (Id 10 ∷ Word 34 ∷ Word 0 ∷ []) ∷ inst op.DECORATE (Id 10 ∷ Word 33 ∷ Word 1 ∷ []) ∷ inst op.MEMBER_DECORATE (Id 12 ∷ Word 0 ∷ Word 35 ∷ Word 0 ∷ [])
    ∷ inst op.MEMBER_DECORATE (Id 12 ∷ Word 1 ∷ Word 35 ∷ Word 8 ∷ []) ∷ inst op.DECORATE (Id 23 ∷ Word 11 ∷ Word 24 ∷ []) ∷ inst op.DECORATE (Id 29 ∷ Word 11 ∷ Word 26 ∷ [])
    ∷ inst op.DECORATE (Id 34 ∷ Word 11 ∷ Word 27 ∷ []) ∷ inst op.DECORATE (Id 39 ∷ Word 11 ∷ Word 28 ∷ []) ∷ inst op.DECORATE (Id 54 ∷ Word 1 ∷ Word 3 ∷ [])
    ∷ inst op.TYPE_INT (Id 2 ∷ Word 32 ∷ Word 0 ∷ []) ∷ inst op.TYPE_RUNTIME_ARRAY (Id 3 ∷ Id 2 ∷ []) ∷ inst op.TYPE_STRUCT (Id 4 ∷ Id 3 ∷ []) ∷ inst op.TYPE_POINTER (Id 5 ∷ Word 12 ∷ Id 4 ∷ [])
    ∷ inst op.VARIABLE (Id 5 ∷ Id 6 ∷ Word 12 ∷ []) ∷ inst op.TYPE_INT (Id 7 ∷ Word 8 ∷ Word 0 ∷ []) ∷ inst op.TYPE_STRUCT (Id 8 ∷ Id 7 ∷ Id 2 ∷ [])
    ∷ inst op.TYPE_POINTER (Id 9 ∷ Word 12 ∷ Id 8 ∷ []) ∷ inst op.VARIABLE (Id 9 ∷ Id 10 ∷ Word 12 ∷ []) ∷ inst op.TYPE_INT (Id 11 ∷ Word 64 ∷ Word 0 ∷ [])
    ∷ inst op.TYPE_STRUCT (Id 12 ∷ Id 2 ∷ Id 11 ∷ []) ∷ inst op.TYPE_POINTER (Id 13 ∷ Word 9 ∷ Id 12 ∷ []) ∷ inst op.VARIABLE (Id 13 ∷ Id 14 ∷ Word 9 ∷ [])
    ∷ inst op.TYPE_VOID (Id 15 ∷ []) ∷ inst op.TYPE_FUNCTION (Id 16 ∷ Id 15 ∷ []) ∷ inst op.TYPE_VECTOR (Id 21 ∷ Id 2 ∷ Word 3 ∷ []) ∷ inst op.TYPE_POINTER (Id 22 ∷ Word 1 ∷ Id 21 ∷ [])
    ∷ inst op.VARIABLE (Id 22 ∷ Id 23 ∷ Word 1 ∷ []) ∷ inst op.CONSTANT (Id 2 ∷ Id 26 ∷ Word 0 ∷ []) ∷ inst op.TYPE_POINTER (Id 27 ∷ Word 12 ∷ Id 2 ∷ [])
    ∷ inst op.VARIABLE (Id 22 ∷ Id 29 ∷ Word 1 ∷ []) ∷ inst op.CONSTANT (Id 2 ∷ Id 32 ∷ Word 1 ∷ []) ∷ inst op.VARIABLE (Id 22 ∷ Id 34 ∷ Word 1 ∷ [])
    ∷ inst op.CONSTANT (Id 2 ∷ Id 37 ∷ Word 2 ∷ []) ∷ inst op.VARIABLE (Id 22 ∷ Id 39 ∷ Word 1 ∷ []) ∷ inst op.CONSTANT (Id 2 ∷ Id 42 ∷ Word 3 ∷ [])
    ∷ inst op.CONSTANT (Id 2 ∷ Id 46 ∷ Word 4 ∷ []) ∷ inst op.TYPE_POINTER (Id 48 ∷ Word 9 ∷ Id 11 ∷ []) ∷ inst op.CONSTANT (Id 2 ∷ Id 52 ∷ Word 5 ∷ [])
    ∷ inst op.SPEC_CONSTANT (Id 2 ∷ Id 54 ∷ Word 1 ∷ []) ∷ inst op.CONSTANT (Id 2 ∷ Id 55 ∷ Word 6 ∷ []) ∷ inst op.FUNCTION (Id 15 ∷ Id 17 ∷ Word 0 ∷ Id 16 ∷ [])
    ∷ inst op.LABEL (Id 18 ∷ []) ∷ inst op.LOAD (Id 21 ∷ Id 24 ∷ Id 23 ∷ []) ∷ inst op.COMPOSITE_EXTRACT (Id 2 ∷ Id 25 ∷ Id 24 ∷ Word 1 ∷ []) ∷ inst op.ACCESS_CHAIN (Id 27 ∷ Id 28 ∷ Id 6 ∷ Id 26 ∷ Id 26 ∷ [])
    ∷ inst op.STORE (Id 28 ∷ Id 25 ∷ []) ∷ inst op.LOAD (Id 21 ∷ Id 30 ∷ Id 29 ∷ []) ∷ inst op.COMPOSITE_EXTRACT (Id 2 ∷ Id 31 ∷ Id 30 ∷ Word 1 ∷ [])
    ∷ inst op.ACCESS_CHAIN (Id 27 ∷ Id 33 ∷ Id 6 ∷ Id 26 ∷ Id 32 ∷ []) ∷ inst op.STORE (Id 33 ∷ Id 31 ∷ []) ∷ inst op.LOAD (Id 21 ∷ Id 35 ∷ Id 34 ∷ [])
    ∷ inst op.COMPOSITE_EXTRACT (Id 2 ∷ Id 36 ∷ Id 35 ∷ Word 1 ∷ []) ∷ inst op.ACCESS_CHAIN (Id 27 ∷ Id 38 ∷ Id 6 ∷ Id 26 ∷ Id 37 ∷ []) ∷ inst op.STORE (Id 38 ∷ Id 36 ∷ [])
    ∷ inst op.LOAD (Id 21 ∷ Id 40 ∷ Id 39 ∷ []) ∷ inst op.COMPOSITE_EXTRACT (Id 2 ∷ Id 41 ∷ Id 40 ∷ Word 1 ∷ []) ∷ inst op.ACCESS_CHAIN (Id 27 ∷ Id 43 ∷ Id 6 ∷ Id 26 ∷ Id 42 ∷ [])
    ∷ inst op.STORE (Id 43 ∷ Id 41 ∷ []) ∷ inst op.ACCESS_CHAIN (Id 27 ∷ Id 44 ∷ Id 10 ∷ Id 32 ∷ []) ∷ inst op.LOAD (Id 2 ∷ Id 45 ∷ Id 44 ∷ [])
    ∷ inst op.ACCESS_CHAIN (Id 27 ∷ Id 47 ∷ Id 6 ∷ Id 26 ∷ Id 46 ∷ []) ∷ inst op.STORE (Id 47 ∷ Id 45 ∷ []) ∷ inst op.ACCESS_CHAIN (Id 48 ∷ Id 49 ∷ Id 14 ∷ Id 32 ∷ [])
    ∷ inst op.LOAD (Id 11 ∷ Id 50 ∷ Id 49 ∷ []) ∷ inst op.U_CONVERT (Id 2 ∷ Id 51 ∷ Id 50 ∷ []) ∷ inst op.ACCESS_CHAIN (Id 27 ∷ Id 53 ∷ Id 6 ∷ Id 26 ∷ Id 52 ∷ [])
    ∷ inst op.STORE (Id 53 ∷ Id 51 ∷ []) ∷ inst op.ACCESS_CHAIN (Id 27 ∷ Id 56 ∷ Id 6 ∷ Id 26 ∷ Id 55 ∷ []) ∷ inst op.STORE (Id 56 ∷ Id 54 ∷ [])
    ∷ inst op.RETURN ([]) ∷ inst op.FUNCTION_END ([])
    ∷ []

abbrev given_start : Start
given_start = record { function = 17; global = record { x = 4; y = 6; z = 1 }; local = record { x = 2; y = 2; z = 1 }; buffers = (0 ∷ 0 ∷ 0 ∷ 0 ∷ 0 ∷ 0 ∷ 0 ∷ 0 ∷ 0 ∷ 0 ∷ 0 ∷ 0 ∷ 0 ∷ 0 ∷ 0 ∷ 0 ∷ 0 ∷ 0 ∷ 0 ∷ 0 ∷ 0 ∷ 0 ∷ 0 ∷ 0 ∷ 0 ∷ 0 ∷ 0 ∷ 0 ∷ []) ∷ (9 ∷ 0 ∷ 0 ∷ 0 ∷ 1 ∷ 2 ∷ 0 ∷ 0 ∷ []) ∷ []; shared = 1; bound = record { set = 0; binding = 0; buffer = 0 } ∷ record { set = 0; binding = 1; buffer = 1 } ∷ []; push = 0 ∷ 0 ∷ 0 ∷ 0 ∷ 0 ∷ 0 ∷ 0 ∷ 0 ∷ 5 ∷ 1 ∷ 0 ∷ 0 ∷ 9 ∷ 9 ∷ 9 ∷ 9 ∷ []; specialised = record { id = 3; value = 12 } ∷ [] }

-- the item at (2, 3): no read is asked
given_gives : (walked given given_start 14 0 []).asked ≡ Write (InBuffer 0 0 32) 3 ∷ Write (InBuffer 0 4 32) 1 ∷ Write (InBuffer 0 8 32) 1 ∷ Write (InBuffer 0 12 32) 3 ∷ Write (InBuffer 0 16 32) 513 ∷ Write (InBuffer 0 20 32) 261 ∷ Write (InBuffer 0 24 32) 12 ∷ []
given_gives = refl

-- t[i] = i + 40; a barrier in a call; a[0] += t[0]; t[2]++, which was never set
abbrev groups : List Inst
groups =
    inst op.DECORATE (Id 3 ∷ Word 6 ∷ Word 4 ∷ []) ∷ inst op.MEMBER_DECORATE (Id 4 ∷ Word 0 ∷ Word 35 ∷ Word 0 ∷ []) ∷ inst op.DECORATE (Id 6 ∷ Word 34 ∷ Word 0 ∷ [])
    ∷ inst op.DECORATE (Id 6 ∷ Word 33 ∷ Word 0 ∷ []) ∷ inst op.DECORATE (Id 7 ∷ Word 1 ∷ Word 3 ∷ []) ∷ inst op.DECORATE (Id 25 ∷ Word 11 ∷ Word 27 ∷ [])
    ∷ inst op.TYPE_INT (Id 2 ∷ Word 32 ∷ Word 0 ∷ []) ∷ inst op.TYPE_RUNTIME_ARRAY (Id 3 ∷ Id 2 ∷ []) ∷ inst op.TYPE_STRUCT (Id 4 ∷ Id 3 ∷ []) ∷ inst op.TYPE_POINTER (Id 5 ∷ Word 12 ∷ Id 4 ∷ [])
    ∷ inst op.VARIABLE (Id 5 ∷ Id 6 ∷ Word 12 ∷ []) ∷ inst op.SPEC_CONSTANT (Id 2 ∷ Id 7 ∷ Word 1 ∷ []) ∷ inst op.TYPE_ARRAY (Id 8 ∷ Id 2 ∷ Id 7 ∷ [])
    ∷ inst op.TYPE_POINTER (Id 9 ∷ Word 4 ∷ Id 8 ∷ []) ∷ inst op.VARIABLE (Id 9 ∷ Id 10 ∷ Word 4 ∷ []) ∷ inst op.TYPE_VOID (Id 11 ∷ []) ∷ inst op.TYPE_FUNCTION (Id 12 ∷ Id 11 ∷ [])
    ∷ inst op.TYPE_FUNCTION (Id 17 ∷ Id 11 ∷ Id 2 ∷ []) ∷ inst op.CONSTANT (Id 2 ∷ Id 21 ∷ Word 2 ∷ []) ∷ inst op.CONSTANT (Id 2 ∷ Id 22 ∷ Word 264 ∷ [])
    ∷ inst op.TYPE_VECTOR (Id 23 ∷ Id 2 ∷ Word 3 ∷ []) ∷ inst op.TYPE_POINTER (Id 24 ∷ Word 1 ∷ Id 23 ∷ []) ∷ inst op.VARIABLE (Id 24 ∷ Id 25 ∷ Word 1 ∷ [])
    ∷ inst op.TYPE_POINTER (Id 28 ∷ Word 4 ∷ Id 2 ∷ []) ∷ inst op.CONSTANT (Id 2 ∷ Id 30 ∷ Word 40 ∷ []) ∷ inst op.CONSTANT (Id 2 ∷ Id 33 ∷ Word 0 ∷ [])
    ∷ inst op.TYPE_POINTER (Id 36 ∷ Word 12 ∷ Id 2 ∷ []) ∷ inst op.CONSTANT (Id 2 ∷ Id 38 ∷ Word 1 ∷ []) ∷ inst op.FUNCTION (Id 11 ∷ Id 13 ∷ Word 0 ∷ Id 12 ∷ [])
    ∷ inst op.LABEL (Id 14 ∷ []) ∷ inst op.LOAD (Id 23 ∷ Id 26 ∷ Id 25 ∷ []) ∷ inst op.COMPOSITE_EXTRACT (Id 2 ∷ Id 27 ∷ Id 26 ∷ Word 0 ∷ []) ∷ inst op.ACCESS_CHAIN (Id 28 ∷ Id 29 ∷ Id 10 ∷ Id 27 ∷ [])
    ∷ inst op.I_ADD (Id 2 ∷ Id 31 ∷ Id 27 ∷ Id 30 ∷ []) ∷ inst op.STORE (Id 29 ∷ Id 31 ∷ []) ∷ inst op.MEMORY_BARRIER (Id 21 ∷ Id 22 ∷ []) ∷ inst op.FUNCTION_CALL (Id 11 ∷ Id 32 ∷ Id 18 ∷ Id 27 ∷ [])
    ∷ inst op.ACCESS_CHAIN (Id 28 ∷ Id 34 ∷ Id 10 ∷ Id 33 ∷ []) ∷ inst op.LOAD (Id 2 ∷ Id 35 ∷ Id 34 ∷ []) ∷ inst op.ACCESS_CHAIN (Id 36 ∷ Id 37 ∷ Id 6 ∷ Id 33 ∷ Id 33 ∷ [])
    ∷ inst op.ATOMIC_I_ADD (Id 2 ∷ Id 39 ∷ Id 37 ∷ Id 38 ∷ Id 33 ∷ Id 35 ∷ []) ∷ inst op.ACCESS_CHAIN (Id 28 ∷ Id 40 ∷ Id 10 ∷ Id 21 ∷ []) ∷ inst op.ATOMIC_I_INCREMENT (Id 2 ∷ Id 41 ∷ Id 40 ∷ Id 21 ∷ Id 33 ∷ [])
    ∷ inst op.RETURN ([]) ∷ inst op.FUNCTION_END ([]) ∷ inst op.FUNCTION (Id 11 ∷ Id 18 ∷ Word 0 ∷ Id 17 ∷ []) ∷ inst op.FUNCTION_PARAMETER (Id 2 ∷ Id 19 ∷ [])
    ∷ inst op.LABEL (Id 20 ∷ []) ∷ inst op.CONTROL_BARRIER (Id 21 ∷ Id 21 ∷ Id 22 ∷ []) ∷ inst op.RETURN ([]) ∷ inst op.FUNCTION_END ([])
    ∷ []

abbrev groups_start : Start
groups_start = record { function = 13; global = record { x = 4; y = 1; z = 1 }; local = record { x = 2; y = 1; z = 1 }; buffers = (5 ∷ 0 ∷ 0 ∷ 0 ∷ []) ∷ []; shared = 1; bound = record { set = 0; binding = 0; buffer = 0 } ∷ []; push = []; specialised = record { id = 3; value = 3 } ∷ [] }

-- the second item of the second group; the barrier's chain is the call's word and its own
abbrev group_events : List Event
group_events = Write (InGroup 10 (1 ∷ []) 32) 41 ∷ Barrier (145 ∷ 195 ∷ []) ∷ Read (InGroup 10 (0 ∷ []) 32) ∷ Atomic op.ATOMIC_I_ADD (InBuffer 0 0 32) (40 ∷ []) ∷ Atomic op.ATOMIC_I_INCREMENT (InGroup 10 (2 ∷ []) 32) [] ∷ []

groups_ask : (walked groups groups_start 3 0 (0 ∷ 0 ∷ 40 ∷ 5 ∷ 7 ∷ [])).asked ≡ group_events
groups_ask = refl

abbrev group_memory : Memory
group_memory = first_memory groups groups_start

-- The group's variable is unset at first, and another group's write doesn't set it. An atomic on what is unset takes any number.
unset : denied group_memory 1 (Read (InGroup 10 (0 ∷ []) 32)) ≡ true
unset = refl

other_group : denied (after_event 0 (Write (InGroup 10 (0 ∷ []) 32) 40) 0 group_memory) 1 (Read (InGroup 10 (0 ∷ []) 32)) ≡ true
other_group = refl

own_group : answer_of (after_event 1 (Write (InGroup 10 (0 ∷ []) 32) 40) 0 group_memory) 1 (Read (InGroup 10 (0 ∷ []) 32)) ≡ 40
own_group = refl

atomic_unset : answer_of (after_event 1 (Atomic op.ATOMIC_I_INCREMENT (InGroup 10 (2 ∷ []) 32) []) 7 group_memory) 1 (Read (InGroup 10 (2 ∷ []) 32)) ≡ 8
atomic_unset = refl

atomic_bytes : (after_event 1 (Atomic op.ATOMIC_I_ADD (InBuffer 0 0 32) (255 ∷ [])) 5 group_memory).buffers ≡ (4 ∷ 1 ∷ 0 ∷ 0 ∷ []) ∷ []
atomic_bytes = refl

-- Items 2 and 3 are the second group. It goes on while one of them is in the queue; it opens where both wait at one barrier; and else the least that waits is named.
abbrev two_chains : Option (List ℕ) → Option (List ℕ) → ℕ → Option (List ℕ)
two_chains a b n = if nat_eq n 2 then a else (if nat_eq n 3 then b else None)

members : members_of groups_start 1 ≡ 2 ∷ 3 ∷ []
members = refl

still_moves : settled_of (two_chains (Some (9 ∷ [])) None) (0 ∷ 3 ∷ []) (2 ∷ 3 ∷ []) ≡ GoesOn
still_moves = refl

meets : settled_of (two_chains (Some (9 ∷ [])) (Some (9 ∷ []))) (0 ∷ []) (2 ∷ 3 ∷ []) ≡ Opens
meets = refl

other_barrier : settled_of (two_chains (Some (9 ∷ [])) (Some (8 ∷ 9 ∷ []))) (0 ∷ []) (2 ∷ 3 ∷ []) ≡ Mismatches 2
other_barrier = refl

one_ended : settled_of (two_chains None (Some (9 ∷ []))) (0 ∷ []) (2 ∷ 3 ∷ []) ≡ Mismatches 3
one_ended = refl

both_ended : settled_of (two_chains None None) [] (2 ∷ 3 ∷ []) ≡ GoesOn
both_ended = refl

-- An item: the kernel has 1 for its call and 16 for the results of its block, and the function in it 1 and its parameter. A group: three numbers.
groups_cells : cells_needed groups groups_start ≡ 82
groups_cells = refl

-- an item for each trap, and one that does nothing
abbrev trapping : List Inst
trapping =
    inst op.DECORATE (Id 3 ∷ Word 6 ∷ Word 4 ∷ []) ∷ inst op.MEMBER_DECORATE (Id 4 ∷ Word 0 ∷ Word 35 ∷ Word 0 ∷ []) ∷ inst op.DECORATE (Id 6 ∷ Word 34 ∷ Word 0 ∷ [])
    ∷ inst op.DECORATE (Id 6 ∷ Word 33 ∷ Word 0 ∷ []) ∷ inst op.DECORATE (Id 15 ∷ Word 11 ∷ Word 28 ∷ []) ∷ inst op.TYPE_INT (Id 2 ∷ Word 32 ∷ Word 0 ∷ [])
    ∷ inst op.TYPE_RUNTIME_ARRAY (Id 3 ∷ Id 2 ∷ []) ∷ inst op.TYPE_STRUCT (Id 4 ∷ Id 3 ∷ []) ∷ inst op.TYPE_POINTER (Id 5 ∷ Word 12 ∷ Id 4 ∷ [])
    ∷ inst op.VARIABLE (Id 5 ∷ Id 6 ∷ Word 12 ∷ []) ∷ inst op.TYPE_VOID (Id 7 ∷ []) ∷ inst op.TYPE_FUNCTION (Id 8 ∷ Id 7 ∷ []) ∷ inst op.TYPE_VECTOR (Id 13 ∷ Id 2 ∷ Word 3 ∷ [])
    ∷ inst op.TYPE_POINTER (Id 14 ∷ Word 1 ∷ Id 13 ∷ []) ∷ inst op.VARIABLE (Id 14 ∷ Id 15 ∷ Word 1 ∷ []) ∷ inst op.CONSTANT (Id 2 ∷ Id 27 ∷ Word 1 ∷ [])
    ∷ inst op.CONSTANT (Id 2 ∷ Id 28 ∷ Word 0 ∷ []) ∷ inst op.CONSTANT (Id 2 ∷ Id 30 ∷ Word 2147483648 ∷ []) ∷ inst op.CONSTANT (Id 2 ∷ Id 31 ∷ Word 4294967295 ∷ [])
    ∷ inst op.CONSTANT (Id 2 ∷ Id 34 ∷ Word 32 ∷ []) ∷ inst op.CONSTANT (Id 2 ∷ Id 36 ∷ Word 4 ∷ []) ∷ inst op.TYPE_POINTER (Id 37 ∷ Word 12 ∷ Id 2 ∷ [])
    ∷ inst op.CONSTANT_NULL (Id 13 ∷ Id 39 ∷ []) ∷ inst op.CONSTANT (Id 2 ∷ Id 40 ∷ Word 3 ∷ []) ∷ inst op.FUNCTION (Id 7 ∷ Id 9 ∷ Word 0 ∷ Id 8 ∷ [])
    ∷ inst op.LABEL (Id 10 ∷ []) ∷ inst op.LOAD (Id 13 ∷ Id 16 ∷ Id 15 ∷ []) ∷ inst op.COMPOSITE_EXTRACT (Id 2 ∷ Id 17 ∷ Id 16 ∷ Word 0 ∷ []) ∷ inst op.SELECTION_MERGE (Id 18 ∷ Word 0 ∷ [])
    ∷ inst op.SWITCH (Id 17 ∷ Id 18 ∷ Word 0 ∷ Id 19 ∷ Word 1 ∷ Id 20 ∷ Word 2 ∷ Id 21 ∷ Word 3 ∷ Id 22 ∷ Word 4 ∷ Id 23 ∷ Word 5 ∷ Id 24 ∷ Word 6 ∷ Id 25 ∷ [])
    ∷ inst op.LABEL (Id 19 ∷ []) ∷ inst op.U_DIV (Id 2 ∷ Id 29 ∷ Id 27 ∷ Id 28 ∷ []) ∷ inst op.BRANCH (Id 18 ∷ []) ∷ inst op.LABEL (Id 20 ∷ []) ∷ inst op.S_DIV (Id 2 ∷ Id 32 ∷ Id 30 ∷ Id 31 ∷ [])
    ∷ inst op.BRANCH (Id 18 ∷ []) ∷ inst op.LABEL (Id 21 ∷ []) ∷ inst op.S_REM (Id 2 ∷ Id 33 ∷ Id 30 ∷ Id 31 ∷ []) ∷ inst op.BRANCH (Id 18 ∷ []) ∷ inst op.LABEL (Id 22 ∷ [])
    ∷ inst op.SHIFT_LEFT_LOGICAL (Id 2 ∷ Id 35 ∷ Id 27 ∷ Id 34 ∷ []) ∷ inst op.BRANCH (Id 18 ∷ []) ∷ inst op.LABEL (Id 23 ∷ []) ∷ inst op.ACCESS_CHAIN (Id 37 ∷ Id 38 ∷ Id 6 ∷ Id 28 ∷ Id 36 ∷ [])
    ∷ inst op.BRANCH (Id 18 ∷ []) ∷ inst op.LABEL (Id 24 ∷ []) ∷ inst op.VECTOR_EXTRACT_DYNAMIC (Id 2 ∷ Id 41 ∷ Id 39 ∷ Id 40 ∷ []) ∷ inst op.BRANCH (Id 18 ∷ [])
    ∷ inst op.LABEL (Id 25 ∷ []) ∷ inst op.UNREACHABLE ([]) ∷ inst op.LABEL (Id 18 ∷ []) ∷ inst op.RETURN ([]) ∷ inst op.FUNCTION_END ([])
    ∷ []

abbrev trapping_start : Start
trapping_start = record { function = 9; global = record { x = 8; y = 1; z = 1 }; local = record { x = 1; y = 1; z = 1 }; buffers = (0 ∷ 0 ∷ 0 ∷ 0 ∷ 0 ∷ 0 ∷ 0 ∷ 0 ∷ 0 ∷ 0 ∷ 0 ∷ 0 ∷ 0 ∷ 0 ∷ 0 ∷ 0 ∷ []) ∷ []; shared = 1; bound = record { set = 0; binding = 0; buffer = 0 } ∷ []; push = []; specialised = [] }

abbrev trap_in : ℕ → Option TrapKind
trap_in item = trap_of (given_of trapping trapping_start item) (walked trapping trapping_start item 0 []).run

traps_are : map trap_in (0 ∷ 1 ∷ 2 ∷ 3 ∷ 4 ∷ 5 ∷ 6 ∷ 7 ∷ []) ≡ Some Divide ∷ Some Divide ∷ Some Divide ∷ Some Shift ∷ Some Range ∷ Some Range ∷ Some Unreachable ∷ None ∷ []
traps_are = refl

-- ---- turns by a seed: x * 6364136223846793005 + 1442695040888963407 of 3 modulo 2 ^ 64, and so on

robin : turn_of (Robin 5) 9 ≡ 5
robin = refl

first_turns : turn_of (Mixed 3) 0 ∷ turn_of (Mixed 3) 1 ∷ turn_of (Mixed 3) 2 ∷ [] ≡ 4 ∷ 60 ∷ 4 ∷ []
first_turns = refl
