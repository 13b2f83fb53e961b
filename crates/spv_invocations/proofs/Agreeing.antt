-- A kernel a[i] = i + c by these definitions and by those of `spv_meaning`, which have rows for the instructions of such modules alone: they ask the same, in as many steps, and trap alike. In the cases c is a constant or may be specialised, the buffer is bound or isn't, and what is added has a value or has none.
use Rattle.std.proofs.Common.{◌≡◌, ℕ, zero, suc, List, [], ◌∷◌, ◌++◌, map, Option, Some, None, refl}
use Rattle.clv_steps.specs.Machines.{Runs, Asks, Ends, Fails, Machine}
use Rattle.spv_module.specs.declared.module.Inst.{Inst}
use Rattle.spv_module.specs.declared.module.Operand.{Operand}
use Rattle.spv_module.specs.declared.module.Operand.TheVariants.{Id, Word}
use Rattle.spv_module.specs.declared.op.TheConstants as op
use Rattle.launch_text.specs.WorkItems.{Sizes}
use Rattle.spv_meaning.specs.declared.trap.TrapKind.{TrapKind}
use Rattle.spv_meaning.specs.declared.trap.TrapKind.TheVariants.{Range, Unreachable}
use Rattle.spv_meaning.specs.Start.{Bound, Specialised, Start as FirstStart}
use Rattle.spv_meaning.specs.Events as first
use Rattle.spv_meaning.specs.Invocation as before
use Rattle.spv_meaning.specs.Cells as cells_before
use Rattle.spv_invocations.specs.Start.{Start}
use Rattle.spv_invocations.specs.Events.{InBuffer, Event, Write, Asked}
use Rattle.spv_invocations.specs.Invocation.{Run, invocation, first_run, given_of, trap_of}
use Rattle.spv_invocations.specs.Cells.{cells_needed}

abbrev inst : ℕ → List Operand → Inst
inst code operands = record { op = code; operands = operands }

-- A kernel with what decorates its constant, the line of that constant, and the id of what is added.
abbrev kernel : List Inst → Inst → ℕ → List Inst
kernel decorations constant added =
    inst op.DECORATE (Id 3 ∷ Word 6 ∷ Word 4 ∷ []) ∷ inst op.DECORATE (Id 4 ∷ Word 2 ∷ []) ∷ inst op.MEMBER_DECORATE (Id 4 ∷ Word 0 ∷ Word 35 ∷ Word 0 ∷ [])
    ∷ inst op.DECORATE (Id 6 ∷ Word 34 ∷ Word 0 ∷ []) ∷ inst op.DECORATE (Id 6 ∷ Word 33 ∷ Word 0 ∷ []) ∷ inst op.DECORATE (Id 6 ∷ Word 20 ∷ [])
    ∷ inst op.DECORATE (Id 15 ∷ Word 11 ∷ Word 28 ∷ [])
    ∷ decorations
    ++ inst op.TYPE_INT (Id 2 ∷ Word 32 ∷ Word 0 ∷ []) ∷ inst op.TYPE_RUNTIME_ARRAY (Id 3 ∷ Id 2 ∷ [])
    ∷ inst op.TYPE_STRUCT (Id 4 ∷ Id 3 ∷ []) ∷ inst op.TYPE_POINTER (Id 5 ∷ Word 12 ∷ Id 4 ∷ []) ∷ inst op.VARIABLE (Id 5 ∷ Id 6 ∷ Word 12 ∷ [])
    ∷ inst op.TYPE_VOID (Id 7 ∷ []) ∷ inst op.TYPE_FUNCTION (Id 8 ∷ Id 7 ∷ []) ∷ inst op.TYPE_VECTOR (Id 13 ∷ Id 2 ∷ Word 3 ∷ []) ∷ inst op.TYPE_POINTER (Id 14 ∷ Word 1 ∷ Id 13 ∷ [])
    ∷ inst op.VARIABLE (Id 14 ∷ Id 15 ∷ Word 1 ∷ []) ∷ inst op.CONSTANT (Id 2 ∷ Id 18 ∷ Word 0 ∷ []) ∷ inst op.TYPE_POINTER (Id 19 ∷ Word 12 ∷ Id 2 ∷ [])
    ∷ constant ∷ inst op.FUNCTION (Id 7 ∷ Id 9 ∷ Word 0 ∷ Id 8 ∷ []) ∷ inst op.LABEL (Id 10 ∷ []) ∷ inst op.LOAD (Id 13 ∷ Id 16 ∷ Id 15 ∷ [])
    ∷ inst op.COMPOSITE_EXTRACT (Id 2 ∷ Id 17 ∷ Id 16 ∷ Word 0 ∷ []) ∷ inst op.ACCESS_CHAIN (Id 19 ∷ Id 20 ∷ Id 6 ∷ Id 18 ∷ Id 17 ∷ []) ∷ inst op.I_ADD (Id 2 ∷ Id 22 ∷ Id 17 ∷ Id added ∷ [])
    ∷ inst op.STORE (Id 20 ∷ Id 22 ∷ []) ∷ inst op.RETURN ([]) ∷ inst op.FUNCTION_END ([])
    ∷ []

abbrev adds_seven : List Inst
adds_seven = kernel [] (inst op.CONSTANT (Id 2 ∷ Id 21 ∷ Word 7 ∷ [])) 21

abbrev adds_specialised : List Inst
adds_specialised = kernel (inst op.DECORATE (Id 21 ∷ Word 1 ∷ Word 3 ∷ []) ∷ []) (inst op.SPEC_CONSTANT (Id 2 ∷ Id 21 ∷ Word 7 ∷ [])) 21

-- no line gives 99 a value
abbrev adds_nothing : List Inst
adds_nothing = kernel [] (inst op.CONSTANT (Id 2 ∷ Id 21 ∷ Word 7 ∷ [])) 99

abbrev sizes : ℕ → Sizes
sizes x = record { x = x; y = 1; z = 1 }

abbrev bound : List Bound
bound = record { set = 0; binding = 0; buffer = 0 } ∷ []

-- three elements for four items
abbrev bytes : List ℕ
bytes = 0 ∷ 0 ∷ 0 ∷ 0 ∷ 0 ∷ 0 ∷ 0 ∷ 0 ∷ 0 ∷ 0 ∷ 0 ∷ 0 ∷ []

-- A module, what is bound, and what is specialised.
record Case : Type 0 where
  body : List Inst
  bound : List Bound
  specialised : List Specialised

abbrev start_before : Case → FirstStart
start_before c = record { function = 9; global = sizes 4; local = sizes 2; buffers = bytes ∷ []; bound = c.bound; specialised = c.specialised }

abbrev start : Case → Start
start c = record { function = 9; global = sizes 4; local = sizes 2; buffers = bytes ∷ []; shared = 1; bound = c.bound; push = []; specialised = c.specialised }

-- how a run stands: ended, trapped, or neither
data End : Type 0 where
  HasEnded : End
  HasFailed : End
  IsGoing : End

-- the state after so many steps at the most, with the questions asked, the last first, and the number of steps
record Went (S E : Type 0) : Type 0 where
  state : S
  asked : List E
  steps : ℕ
  ending : End

abbrev stands : {S E : Type 0} → S → List E → ℕ → End → Went S E
stands s asked steps ending = record { state = s; asked = asked; steps = steps; ending = ending }

abbrev went : {S E : Type 0} → Machine S E → ℕ → List E → ℕ → S → Went S E
went m zero asked steps s = stands s asked steps IsGoing
went m (suc fuel) asked steps s = elim (m.status s) [
  | Runs ↦ went m fuel asked (suc steps) (m.next 0 s)
  | Asks e ↦ went m fuel (e ∷ asked) (suc steps) (m.next 0 s)
  | Ends ↦ stands s asked steps HasEnded
  | Fails ↦ stands s asked steps HasFailed
]

abbrev event_by : first.Event → Event
event_by (first.Write at n) = Write (InBuffer at.buffer at.offset at.bits) n

abbrev asked_by : first.Asked → Asked
asked_by a = record { function = a.function; event = event_by a.event }

-- how an item's run ends, and what it did
record Told : Type 0 where
  asked : List Asked
  steps : ℕ
  ending : End
  trap : Option TrapKind

abbrev told_before : Case → ℕ → Told
told_before c item =
    let g = before.given_of c.body (start_before c) item in
    let w = went (before.invocation g) 100 [] 0 (before.first_run g) in
    record { asked = map asked_by w.asked; steps = w.steps; ending = w.ending; trap = before.trap_of g w.state }

abbrev told : Case → ℕ → Told
told c item =
    let g = given_of c.body (start c) item in
    let w = went (invocation g) 100 [] 0 (first_run g) in
    record { asked = w.asked; steps = w.steps; ending = w.ending; trap = trap_of g w.state }

abbrev items : List ℕ
items = 0 ∷ 1 ∷ 2 ∷ 3 ∷ []

abbrev plain : Case
plain = record { body = adds_seven; bound = bound; specialised = [] }

abbrev by_default : Case
by_default = record { body = adds_specialised; bound = bound; specialised = [] }

-- 2^32 - 1 is added
abbrev specialised : Case
specialised = record { body = adds_specialised; bound = bound; specialised = record { id = 2; value = 5 } ∷ record { id = 3; value = 4294967295 } ∷ [] }

abbrev unbound : Case
unbound = record { body = adds_seven; bound = []; specialised = [] }

abbrev without_a_value : Case
without_a_value = record { body = adds_nothing; bound = bound; specialised = [] }

abbrev cases : List Case
cases = plain ∷ by_default ∷ specialised ∷ unbound ∷ without_a_value ∷ []

agree : map (λ c. map (told c) items) cases ≡ map (λ c. map (told_before c) items) cases
agree = refl

need_the_same_cells : map (λ c. cells_needed c.body (start c)) cases ≡ map (λ c. cells_before.cells_needed c.body (start_before c)) cases
need_the_same_cells = refl

abbrev written : Case → ℕ → List Event
written c item = map (λ a. a.event) (told c item).asked

third_writes : map (λ c. written c 2) cases ≡ (Write (InBuffer 0 8 32) 9 ∷ []) ∷ (Write (InBuffer 0 8 32) 9 ∷ []) ∷ (Write (InBuffer 0 8 32) 1 ∷ []) ∷ [] ∷ [] ∷ []
third_writes = refl

-- the last item's element is past the array's end
last_traps : map (λ c. (told c 3).trap) cases ≡ Some Range ∷ Some Range ∷ Some Range ∷ Some Unreachable ∷ Some Range ∷ []
last_traps = refl

first_traps : map (λ c. (told c 0).trap) cases ≡ None ∷ None ∷ None ∷ Some Unreachable ∷ Some Unreachable ∷ []
first_traps = refl
