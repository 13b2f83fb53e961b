-- What comes of a task (C99, 6.5 and 6.8; OpenCL C 1.2, 6.3 and 6.12).
use Rattle.std.specs.Prelude.{ℕ, ◌+◌, nat_eq, max, not, Bool, true, false, if◌then◌else◌, List, [], ◌∷◌, ◌++◌, map, reverse, length, drop, Option, Some, None, slice_get, slice_index}
use Rattle.cl_types.specs.declared.types.ClType.{ClType}
use Rattle.cl_types.specs.declared.operator.BinOp.{BinOp}
use Rattle.cl_types.specs.declared.builtin.Builtin.{Builtin}
use Rattle.cl_builtins.specs.declared.kind.Gentype.{Gentype}
use Rattle.cl_builtins.specs.Kinds.{alike}
use Rattle.cl_tree.specs.declared.event.NodeId.{NodeId}
use Rattle.cl_tree.specs.declared.event.Event.{Event}
use Rattle.cl_tree.specs.declared.event.Event.TheVariants as event
use Rattle.cl_tree.specs.declared.shape.Shape.{Shape}
use Rattle.cl_tree.specs.declared.shape.Shape.TheVariants as shape
use Rattle.cl_tree.specs.Shapes.{shape_of}
use Rattle.cl_tree.specs.Constants.{number_by, truth}
use Rattle.cl_common.specs.Operators.{cut, grid_value, arguments_of}
use Rattle.obj_tree.specs.Code.{Expr, Stmts, Label, Default, Case, Sections, NoSection, AndSection, Code}
use Rattle.obj_tree.specs.Places.{Object, InShared, InPrivate, Place, Lies, Extent, There, accessed}
use Rattle.obj_tree.specs.Operations.{Entry, Value, Placed, newest, index_of, operated, Convert}
use Rattle.obj_tree.specs.Tasks.{Act, Reach, Pass, Operate, Aim, Read, Write, Component, Enter, Leave, WorkItem, Wait, Atomic, Unless, Choose, Unset, Set, Decide, SelectSection, Test, Loop, LoopOnce, Break, Continue, Other, Task, quiet, steps}
use Rattle.obj_tree.specs.Expressions.{type_of, uses, may_drop}
use Rattle.obj_tree.specs.Statements.{stmts_tasks, body_tasks, switch_tasks, test_tasks, copy_tasks}
use Rattle.obj_tree.specs.States.{Surroundings, Around, InLoop, InSwitch, Caller, Item, no_cells, with_cell, with_object, without_own, with_whole, with_params, private_name, whole_private, first_variable, place_in, hops_on, indices_in}

-- What a task comes to: a new state; one by an unspecified value of so many bits; one by the answer to what is asked; or undefined behaviour.
pub data Effect : Type 0 where
  Goes : (to : Item) → Effect
  Picks : (bits : ℕ) (to : ℕ → Item) → Effect
  Questions : (event : Event) (to : ℕ → Item) → Effect
  Undefined : Effect

abbrev pub with_stack : List Entry → Item → Item
with_stack st i = record i { stack = st }

-- the newest value has one scalar more
abbrev pub appended : List ℕ → List Entry → Item → ℕ → Item
appended v st i n = with_stack (Value (v ++ n ∷ []) ∷ st) i

abbrev pub operate_effect : Item → Option (List Entry) → Effect
operate_effect i None = Undefined
operate_effect i (Some st) = Goes (with_stack st i)

-- ---- places

abbrev pub aimed : List Entry → Item → Option Place → Effect
aimed st i None = Undefined
aimed st i (Some p) = Goes (with_stack (Placed p ∷ st) i)

abbrev pub found : (ℕ → Item) → Option ℕ → Effect
found to None = Undefined
found to (Some n) = Goes (to n)

-- In shared memory a scalar is asked for, and the answer cut to its bits; in private memory it must be set.
abbrev pub reads_in : Object → (ℕ → Item) → Item → Option Lies → Effect
reads_in object to i None = Undefined
reads_in (InShared o) to i (Some at) = Questions (event.Read (record { object = o; offset = at.offset; bits = at.bits })) (λ x. to (cut at.bits x))
reads_in (InPrivate name) to i (Some at) = found to (i.memory name at.offset)

abbrev pub writes_in : Object → ℕ → Item → Option Lies → Effect
writes_in object n i None = Undefined
writes_in (InShared o) n i (Some at) = Questions (event.Write (record { object = o; offset = at.offset; bits = at.bits }) n) (λ x. i)
writes_in (InPrivate name) n i (Some at) = Goes (record i { memory = with_object name (with_cell at.offset n (i.memory name)) i.memory })

-- An access where an index isn't below its length is undefined, before any of its scalars.
abbrev pub read_effect : List ClType → Extent → ℕ → Item → List Entry → Effect
read_effect cs extent k i (Value v ∷ Placed p ∷ st) = reads_in p.object (appended v (Placed p ∷ st) i) i (accessed cs extent k p)
read_effect cs extent k i st = Goes i

abbrev pub write_effect : List ClType → Extent → ℕ → Item → List Entry → Effect
write_effect cs extent k i (Value v ∷ Placed p ∷ st) = writes_in p.object (slice_index v k) i (accessed cs extent k p)
write_effect cs extent k i st = Goes i

-- A quotient or remainder by zero or out of range is unspecified.
abbrev pub specified : ℕ → (ℕ → Item) → Option ℕ → Effect
specified bits to None = Picks bits (λ x. to (cut bits x))
specified bits to (Some n) = Goes (to n)

abbrev pub component_effect : BinOp → Gentype → ℕ → Item → List Entry → Effect
component_effect op t k i (Value v ∷ Value b ∷ Value a ∷ st) =
    specified t.bits (appended v (Value b ∷ Value a ∷ st) i) (number_by op t (slice_index a k) (slice_index b k))
component_effect op t k i st = Goes i

-- ---- variables

abbrev pub scalars_on : List Entry → List ℕ
scalars_on (Value v ∷ st) = v
scalars_on _ = []

-- the newest, which is a number, and the item without it
abbrev pub number_on : List Entry → ℕ
number_on (Value (n ∷ []) ∷ st) = n
number_on _ = 0

abbrev pub is_true : Item → Bool
is_true i = not (nat_eq (number_on i.stack) 0)

abbrev pub popped : Item → Item
popped i = with_stack (drop 1 i.stack) i

abbrev pub code_in : Surroundings → Item → Option Code
code_in s i = slice_get s.copies i.frame.copy

abbrev pub unset : Surroundings → List ℕ → Item → Item
unset s [] i = i
unset s (k ∷ ks) i = unset s ks (record i { memory = with_object (private_name i.frame (first_variable (code_in s i) + k)) no_cells i.memory })

abbrev pub set_one : Surroundings → ℕ → List ℕ → Item → Item
set_one s k v i = let name = private_name i.frame k in record i { memory = with_object name (with_whole s.types (whole_private (code_in s i) k) v (i.memory name)) i.memory }

-- only one variable has an initialiser
abbrev pub set : Surroundings → List ℕ → List ℕ → Item → Item
set s (k ∷ []) v i = set_one s (first_variable (code_in s i) + k) v i
set s _ v i = i

-- ---- calls

abbrev pub indices_of : List Shape → List (List ℕ) → List (List ℕ)
indices_of (s ∷ ss) ((n ∷ []) ∷ vs) = (index_of s n ∷ []) ∷ indices_of ss vs
indices_of _ _ = []

-- the arguments in order: those that are no pointers, and the indices, converted
abbrev pub arguments_in : ℕ → List Shape → List Entry → List (List ℕ)
arguments_in plain indices st = newest plain (drop (length indices) st) ++ indices_of indices (newest (length indices) st)

-- The copy's own objects are unset but for its parameters.
abbrev pub entered : List ClType → ℕ → ℕ → List Shape → List ℕ → NodeId → ℕ → Item → Option Code → Item
entered cs copy plain indices privates from least i None = i
entered cs copy plain indices privates from least i (Some code) =
    let calls = from ∷ i.frame.calls in
    record {
      todo = copy_tasks cs code;
      stack = drop (plain + length indices) i.stack;
      memory = with_params cs calls code (arguments_in plain indices i.stack) (without_own calls i.memory);
      frame = record { copy = copy; calls = calls; passed = map (private_name i.frame) privates };
      around = [];
      callers = record { todo = i.todo; around = i.around; frame = i.frame; least = least } ∷ i.callers;
    }

-- Back to the caller, whose node makes the scalars of the result. The kernel ends.
abbrev pub left : Item → List Caller → Item
left i [] = record i { todo = []; around = [] }
left i (c ∷ cs) = record i { todo = steps Other (max c.least (length (scalars_on i.stack))) ++ c.todo; frame = c.frame; around = c.around; callers = cs }

abbrev pub work_item_effect : Surroundings → Builtin → Item → Effect
work_item_effect s f i = Goes (with_stack (Value (grid_value s.launch s.item f (number_on i.stack) ∷ []) ∷ drop (arguments_of f) i.stack) i)

-- A barrier is told from others by its node and the calls that lead there; its flags are passed.
abbrev pub wait_effect : NodeId → Item → Effect
wait_effect from i = Questions (event.Barrier (reverse (from ∷ i.frame.calls))) (λ x. with_stack (Value [] ∷ drop 1 i.stack) i)

-- Atomics act on ints and uints in global and local memory (6.12.11), and give the old value.
abbrev pub atomic_at : Builtin → Bool → List ℕ → List Entry → Item → Object → Option Lies → Effect
atomic_at f signed args st i object None = Undefined
atomic_at f signed args st i (InShared o) (Some at) = Questions (event.Atomic f signed (record { object = o; offset = at.offset; bits = at.bits }) args) (λ x. with_stack (Value (cut at.bits x ∷ []) ∷ st) i)
atomic_at f signed args st i (InPrivate name) (Some at) = Goes i

abbrev pub atomic_effect : List ClType → Builtin → Bool → List ℕ → Item → List Entry → Effect
atomic_effect cs f signed args i (Placed p ∷ st) = atomic_at f signed args st i p.object (accessed cs There 0 p)
atomic_effect cs f signed args i st = Goes i

abbrev pub arguments_on : ℕ → List Entry → List ℕ
arguments_on n st = map (λ v. slice_index v 0) (newest n st)

-- ---- control

-- these tasks first
abbrev pub first : List Task → Item → Item
first ts i = record i { todo = ts ++ i.todo }

abbrev pub pushed_truth : Bool → Item → Item
pushed_truth b i = with_stack (Value (truth b ∷ []) ∷ i.stack) i

-- the other operand of `&&` or `||` counts by whether it is 0
abbrev pub unless_effect : List ClType → Bool → Expr → Item → Effect
unless_effect cs decided other i =
    Goes (if alike decided (is_true i) then pushed_truth decided (popped i) else first (uses cs other ++ quiet (Convert (shape_of cs (type_of other)) shape.Bool) ∷ []) (popped i))

-- What is behind the innermost loop or switch; what the innermost loop does next, switches being passed by.
abbrev pub broken : List Around → Item → Item
broken [] i = i
broken (InLoop again behind ∷ rest) i = record i { todo = behind; around = rest }
broken (InSwitch behind ∷ rest) i = record i { todo = behind; around = rest }

abbrev pub continued : List Around → Item → Item
continued [] i = i
continued (InLoop again behind ∷ rest) i = record i { todo = again; around = InLoop again behind ∷ rest }
continued (InSwitch behind ∷ rest) i = continued rest i

abbrev pub looped : List Task → List Task → Item → Item
looped begin again i = record i { todo = begin; around = InLoop again i.todo ∷ i.around }

abbrev pub tested : List ClType → Stmts → Item → Item
tested cs body i = if is_true i then record (popped i) { todo = body_tasks cs body } else broken i.around (popped i)

-- The sections from that of the case on which is this number, or else from that of `default` (C99, 6.8.4.2); none where there is no such section.
abbrev pub is_case : ℕ → Label → Bool
is_case n Default = false
is_case n (Case None) = false
is_case n (Case (Some m)) = nat_eq n m

abbrev pub is_default : Label → Bool
is_default Default = true
is_default _ = false

abbrev pub some_label : (Label → Bool) → List Label → Bool
some_label is [] = false
some_label is (l ∷ ls) = if is l then true else some_label is ls

abbrev pub from_label : (Label → Bool) → Sections → Sections
from_label is NoSection = NoSection
from_label is (AndSection labels body rest) = if some_label is labels then AndSection labels body rest else from_label is rest

abbrev pub or_else : Sections → Sections → Sections
or_else NoSection other = other
or_else sections other = sections

abbrev pub switched : List ClType → Sections → Item → Item
switched cs NoSection i = i
switched cs sections i = record i { todo = switch_tasks cs sections; around = InSwitch i.todo ∷ i.around }

abbrev pub select_effect : List ClType → Sections → Item → Effect
select_effect cs sections i = Goes (switched cs (or_else (from_label (is_case (number_on i.stack)) sections) (from_label is_default sections)) (popped i))

-- ---- the acts

-- What an act comes to; the item's tasks are those behind it. An act that the item doesn't fit, which comes in no program, does nothing.
abbrev pub effect_of : Surroundings → Act → Item → Effect
effect_of s Reach i = Goes i
effect_of s Pass i = Goes i
effect_of s (Operate op) i = operate_effect i (operated s.types op i.stack)
effect_of s (Aim root wants) i = aimed (drop (indices_in wants) i.stack) i (place_in s i.frame root (hops_on wants i.stack))
effect_of s (Read extent k) i = read_effect s.types extent k i i.stack
effect_of s (Write extent k) i = write_effect s.types extent k i i.stack
effect_of s (Component op t k) i = component_effect op t k i i.stack
effect_of s (Enter copy plain indices privates from least) i = Goes (entered s.types copy plain indices privates from least i (slice_get s.copies copy))
effect_of s Leave i = Goes (left i i.callers)
effect_of s (WorkItem f) i = work_item_effect s f i
effect_of s (Wait from) i = wait_effect from i
effect_of s (Atomic f signed args) i = atomic_effect s.types f signed (arguments_on args i.stack) i (drop args i.stack)
effect_of s (Unless decided other) i = unless_effect s.types decided other i
effect_of s (Choose on_true on_false) i = Goes (first (uses s.types (if is_true i then on_true else on_false)) (popped i))
effect_of s (Unset vars) i = Goes (unset s vars i)
effect_of s (Set vars) i = Goes (set s vars (scalars_on i.stack) (popped i))
effect_of s (Decide on_true on_false) i = Goes (first (stmts_tasks s.types (if is_true i then on_true else on_false)) (popped i))
effect_of s (SelectSection sections) i = select_effect s.types sections i
effect_of s (Test body) i = Goes (tested s.types body i)
effect_of s (Loop test next body) i = Goes (looped (test_tasks s.types test body) (may_drop s.types next ++ test_tasks s.types test body) i)
effect_of s (LoopOnce body test) i = Goes (looped (body_tasks s.types body) (test_tasks s.types test body) i)
effect_of s Break i = Goes (broken i.around i)
effect_of s Continue i = Goes (continued i.around i)
