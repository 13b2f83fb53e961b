-- What comes of a task (C99, 6.5 and 6.8; OpenCL C 1.2, 6.3 and 6.12).
use Rattle.std.specs.Prelude.{ℕ, suc, ◌+◌, ◌*◌, ◌/◌, nat_eq, nat_le, ◌&&◌, max, not, Bool, true, false, if◌then◌else◌, List, [], ◌∷◌, ◌++◌, map, reverse, length, drop, Option, Some, None, slice_get, slice_index}
use Rattle.cl_types.specs.declared.types.ClType.{ClType}
use Rattle.cl_types.specs.declared.types.TypeId.{TypeId}
use Rattle.cl_types.specs.declared.operator.BinOp.{BinOp}
use Rattle.cl_types.specs.declared.builtin.Builtin.{Builtin}
use Rattle.cl_types.specs.declared.scalars.Scalar.{Scalar as Slot}
use Rattle.cl_builtins.specs.declared.kind.Gentype.{Gentype}
use Rattle.cl_builtins.specs.Kinds.{alike}
use Rattle.cl_tree.specs.declared.shape.Shape.TheVariants as shape
use Rattle.cl_tree.specs.Shapes.{shape_of}
use Rattle.cl_tree.specs.Constants.{number_by, truth}
use Rattle.cl_common.specs.Operators.{cut, grid_value, arguments_of}
use Rattle.cl_meaning.specs.Code.{Expr, Stmts, Label, Default, Case, Sections, NoSection, AndSection, Code}
use Rattle.cl_tree.specs.declared.event.Event.{Event}
use Rattle.cl_tree.specs.declared.event.Event.TheVariants as event
use Rattle.cl_common.specs.Bytes.{number_at, with_number}
use Rattle.cl_common.specs.Types.{size_at, slots_at}
use Rattle.cl_meaning.specs.Values.{Name, Object, InShared, InPrivate, Pointer, whole_of, is_inside, Scalar, Pattern, Points, patterns_in, Entry, Value, Place}
use Rattle.cl_meaning.specs.Operations.{newest, operated, Convert}
use Rattle.cl_meaning.specs.Tasks.{Act, Reach, Pass, Operate, Variable, Recall, Point, Read, Write, Component, Enter, Leave, WorkItem, Wait, Atomic, Unless, Choose, Unset, Set, Decide, SelectSection, Test, Loop, LoopOnce, Break, Continue, Task, quiet, steps}
use Rattle.cl_meaning.specs.Expressions.{type_of, uses, may_drop}
use Rattle.cl_meaning.specs.Statements.{stmts_tasks, body_tasks, switch_tasks, test_tasks, function_tasks}
use Rattle.cl_meaning.specs.States.{Surroundings, Around, InLoop, InSwitch, Caller, Item, own, with_bytes, with_pointer, without, without_own, with_value, with_params}

-- What a task comes to: a new state; one by an unspecified value of so many bits; one by the answer to what is asked; or undefined behaviour.
pub data Effect : Type 0 where
  Goes : (to : Item) → Effect
  Picks : (bits : ℕ) (to : ℕ → Item) → Effect
  Questions : (event : Event) (to : ℕ → Item) → Effect
  Undefined : Effect

-- ---- reading and writing

-- A scalar of what is accessed: so far behind the place, of so many bits.
pub record Part : Type 0 where
  pub far : ℕ
  pub bits : ℕ

abbrev pub bits_in : List Slot → ℕ
bits_in [] = 0
bits_in (s ∷ ss) = s.bits

abbrev pub greatest : List ℕ → ℕ
greatest [] = 0
greatest (n ∷ ns) = max n (greatest ns)

abbrev pub part_by : Option Slot → Part
part_by None = record { far = 0; bits = 0 }
part_by (Some s) = record { far = s.offset; bits = s.bits }

-- scalar k of a type, or of the components that are selected of a vector
abbrev pub part_in : List ClType → TypeId → Option (List ℕ) → ℕ → Part
part_in cs ty None k = part_by (slice_get (slots_at cs ty) k)
part_in cs ty (Some at) k = let bits = bits_in (slots_at cs ty) in record { far = slice_index at k * (bits / 8); bits = bits }

-- how many bytes are accessed
abbrev pub extent_of : List ClType → TypeId → Option (List ℕ) → ℕ
extent_of cs ty None = size_at cs ty
extent_of cs ty (Some at) = suc (greatest at) * (bits_in (slots_at cs ty) / 8)

abbrev pub with_stack : List Entry → Item → Item
with_stack st i = record i { stack = st }

-- the newest value has one scalar more
abbrev pub appended : List Scalar → List Entry → Item → ℕ → Item
appended v st i n = with_stack (Value (v ++ Pattern n ∷ []) ∷ st) i

abbrev pub found : (ℕ → Item) → Option ℕ → Effect
found to None = Undefined
found to (Some n) = Goes (to n)

-- In shared memory a scalar is asked for, and the answer cut to its bits; in private memory it must be set.
abbrev pub reads_in : Object → ℕ → ℕ → (ℕ → Item) → Item → Effect
reads_in (InShared o) at bits to i = Questions (event.Read (record { object = o; offset = at; bits = bits })) (λ x. to (cut bits x))
reads_in (InPrivate name) at bits to i = found to (number_at (i.memory.bytes name) at (bits / 8))

abbrev pub writes_in : Object → ℕ → ℕ → ℕ → Item → Effect
writes_in (InShared o) at bits n i = Questions (event.Write (record { object = o; offset = at; bits = bits }) n) (λ x. i)
writes_in (InPrivate name) at bits n i = Goes (record i { memory = with_bytes name (with_number at (bits / 8) n (i.memory.bytes name)) i.memory })

-- An access outside of the array is undefined, before any of its scalars; each of these lies inside of what is accessed.
abbrev pub is_part_of : ℕ → Part → Bool
is_part_of extent part = nat_le (part.far + part.bits / 8) extent

abbrev pub read_effect : List ClType → TypeId → ℕ → Item → List Entry → Effect
read_effect cs ty k i (Value v ∷ Place p at ∷ st) =
    let part = part_in cs ty at k in
    if is_inside (extent_of cs ty at) p && is_part_of (extent_of cs ty at) part then reads_in p.object (p.offset + part.far) part.bits (appended v (Place p at ∷ st) i) i else Undefined
read_effect cs ty k i st = Goes i

abbrev pub write_effect : List ClType → TypeId → ℕ → Item → List Entry → Effect
write_effect cs ty k i (Value v ∷ Place p at ∷ st) =
    let part = part_in cs ty at k in
    if is_inside (extent_of cs ty at) p && is_part_of (extent_of cs ty at) part then writes_in p.object (p.offset + part.far) part.bits (slice_index (patterns_in v) k) i else Undefined
write_effect cs ty k i st = Goes i

-- A quotient or remainder by zero or out of range is unspecified.
abbrev pub specified : ℕ → (ℕ → Item) → Option ℕ → Effect
specified bits to None = Picks bits (λ x. to (cut bits x))
specified bits to (Some n) = Goes (to n)

abbrev pub component_effect : BinOp → Gentype → ℕ → Item → List Entry → Effect
component_effect op t k i (Value v ∷ Value b ∷ Value a ∷ st) =
    specified t.bits (appended v (Value b ∷ Value a ∷ st) i) (number_by op t (slice_index (patterns_in a) k) (slice_index (patterns_in b) k))
component_effect op t k i st = Goes i

abbrev pub operate_effect : Item → Option (List Entry) → Effect
operate_effect i None = Undefined
operate_effect i (Some st) = Goes (with_stack st i)

-- ---- pointer variables

abbrev pub recall_effect : Item → Option Pointer → Effect
recall_effect i None = Undefined
recall_effect i (Some p) = Goes (with_stack (Value (Points p ∷ []) ∷ i.stack) i)

abbrev pub scalars_on : List Entry → List Scalar
scalars_on (Value v ∷ st) = v
scalars_on _ = []

abbrev pub pointing : Name → Item → List Scalar → Item
pointing name i (Points p ∷ []) = record i { memory = with_pointer name (Some p) i.memory }
pointing name i v = i

-- ---- calls

-- The callee's own objects are unset but for its parameters.
abbrev pub entered : List ClType → ℕ → ℕ → ℕ → ℕ → Item → Option Code → Item
entered cs f number args least i None = i
entered cs f number args least i (Some code) =
    let calls = record { function = i.frame.function; node = number } ∷ i.frame.calls in
    record {
      todo = function_tasks cs code;
      stack = drop args i.stack;
      memory = with_params cs calls 0 code.params (newest args i.stack) (without_own calls i.memory);
      frame = record { function = f; calls = calls };
      around = [];
      callers = record { todo = i.todo; around = i.around; frame = i.frame; least = least } ∷ i.callers;
    }

-- Back to the caller, whose node makes the scalars of the result. The kernel ends.
abbrev pub left : Item → List Caller → Item
left i [] = record i { todo = []; around = [] }
left i (c ∷ cs) = record i { todo = steps (max c.least (length (scalars_on i.stack))) ++ c.todo; frame = c.frame; around = c.around; callers = cs }

abbrev pub number_on : List Entry → ℕ
number_on (Value (Pattern n ∷ []) ∷ st) = n
number_on _ = 0

abbrev pub work_item_effect : Surroundings → Builtin → Item → Effect
work_item_effect s f i = Goes (with_stack (Value (Pattern (grid_value s.launch s.item f (number_on i.stack)) ∷ []) ∷ drop (arguments_of f) i.stack) i)

-- A barrier is told from others by its node and the calls that lead there; its flags are passed.
abbrev pub wait_effect : ℕ → Item → Effect
wait_effect number i = Questions (event.Barrier (reverse (record { function = i.frame.function; node = number } ∷ i.frame.calls))) (λ x. with_stack (Value [] ∷ drop 1 i.stack) i)

-- Atomics act on ints and uints in global and local memory (6.12.11), and give the old value.
abbrev pub atomic_at : Builtin → Bool → List ℕ → List Entry → Item → Object → Pointer → Effect
atomic_at f signed args st i (InShared o) p =
    if is_inside 4 p then Questions (event.Atomic f signed (record { object = o; offset = p.offset; bits = 32 }) args) (λ x. with_stack (Value (Pattern (cut 32 x) ∷ []) ∷ st) i) else Undefined
atomic_at f signed args st i (InPrivate name) p = Goes i

abbrev pub atomic_effect : Builtin → Bool → List ℕ → Item → List Entry → Effect
atomic_effect f signed args i (Value (Points p ∷ []) ∷ st) = atomic_at f signed args st i p.object p
atomic_effect f signed args i st = Goes i

abbrev pub arguments_on : ℕ → List Entry → List ℕ
arguments_on n st = map (λ v. slice_index (patterns_in v) 0) (newest n st)

-- ---- control

-- the newest, which is a number, and the item without it
abbrev pub is_true : Item → Bool
is_true i = not (nat_eq (number_on i.stack) 0)

abbrev pub popped : Item → Item
popped i = with_stack (drop 1 i.stack) i

-- these tasks first
abbrev pub first : List Task → Item → Item
first ts i = record i { todo = ts ++ i.todo }

abbrev pub pushed_truth : Bool → Item → Item
pushed_truth b i = with_stack (Value (Pattern (truth b) ∷ []) ∷ i.stack) i

-- the other operand of `&&` or `||` counts by whether it is 0
abbrev pub unless_effect : List ClType → Bool → Expr → Item → Effect
unless_effect cs decided other i =
    Goes (if alike decided (is_true i) then pushed_truth decided (popped i) else first (uses cs other ++ quiet (Convert (shape_of cs (type_of other)) shape.Bool) ∷ []) (popped i))

-- What is behind the innermost loop or switch; what the innermost loop does next, switches being passed by.
abbrev pub broken : List Around → Item → Item
broken [] i = i
broken (InLoop again behind ∷ rest) i = record i { todo = behind; around = rest }
broken (InSwitch behind ∷ rest) i = record i { todo = behind; around = rest }

abbrev pub continued : List Around → Item → Item
continued [] i = i
continued (InLoop again behind ∷ rest) i = record i { todo = again; around = InLoop again behind ∷ rest }
continued (InSwitch behind ∷ rest) i = continued rest i

abbrev pub looped : List Task → List Task → Item → Item
looped begin again i = record i { todo = begin; around = InLoop again i.todo ∷ i.around }

abbrev pub tested : List ClType → Stmts → Item → Item
tested cs body i = if is_true i then record (popped i) { todo = body_tasks cs body } else broken i.around (popped i)

-- The section of the case that is this number, or else of `default` (C99, 6.8.4.2); none where there is no such section.
abbrev pub is_case : ℕ → Label → Bool
is_case n Default = false
is_case n (Case None) = false
is_case n (Case (Some m)) = nat_eq n m

abbrev pub is_default : Label → Bool
is_default Default = true
is_default _ = false

abbrev pub some_label : (Label → Bool) → List Label → Bool
some_label is [] = false
some_label is (l ∷ ls) = if is l then true else some_label is ls

abbrev pub from_label : (Label → Bool) → Sections → Sections
from_label is NoSection = NoSection
from_label is (AndSection labels body rest) = if some_label is labels then AndSection labels body rest else from_label is rest

abbrev pub or_else : Sections → Sections → Sections
or_else NoSection other = other
or_else sections other = sections

abbrev pub switched : List ClType → Sections → Item → Item
switched cs NoSection i = i
switched cs sections i = record i { todo = switch_tasks cs sections; around = InSwitch i.todo ∷ i.around }

abbrev pub select_effect : List ClType → Sections → Item → Effect
select_effect cs sections i = Goes (switched cs (or_else (from_label (is_case (number_on i.stack)) sections) (from_label is_default sections)) (popped i))

-- ---- the acts

-- What an act comes to; the item's tasks are those behind it. An act that the item doesn't fit, which comes in no unit, does nothing.
abbrev pub effect_of : Surroundings → Act → Item → Effect
effect_of s Reach i = Goes i
effect_of s Pass i = Goes i
effect_of s (Operate op) i = operate_effect i (operated s.types op i.stack)
effect_of s (Variable is_param k size) i = Goes (with_stack (Place (whole_of (InPrivate (own i is_param k)) size) None ∷ i.stack) i)
effect_of s (Recall is_param k) i = recall_effect i (i.memory.pointers (own i is_param k))
effect_of s (Point is_param k) i = Goes (pointing (own i is_param k) i (scalars_on i.stack))
effect_of s (Read ty k) i = read_effect s.types ty k i i.stack
effect_of s (Write ty k) i = write_effect s.types ty k i i.stack
effect_of s (Component op t k) i = component_effect op t k i i.stack
effect_of s (Enter f number args least) i = Goes (entered s.types f number args least i (slice_get s.functions f))
effect_of s Leave i = Goes (left i i.callers)
effect_of s (WorkItem f) i = work_item_effect s f i
effect_of s (Wait number) i = wait_effect number i
effect_of s (Atomic f signed args) i = atomic_effect f signed (arguments_on args i.stack) i (drop args i.stack)
effect_of s (Unless decided other) i = unless_effect s.types decided other i
effect_of s (Choose on_true on_false) i = Goes (first (uses s.types (if is_true i then on_true else on_false)) (popped i))
effect_of s (Unset k) i = Goes (record i { memory = without (own i false k) i.memory })
effect_of s (Set k ty) i = Goes (record (popped i) { memory = with_value s.types (own i false k) ty (scalars_on i.stack) i.memory })
effect_of s (Decide on_true on_false) i = Goes (first (stmts_tasks s.types (if is_true i then on_true else on_false)) (popped i))
effect_of s (SelectSection sections) i = select_effect s.types sections i
effect_of s (Test body) i = Goes (tested s.types body i)
effect_of s (Loop test next body) i = Goes (looped (test_tasks s.types test body) (may_drop s.types next ++ test_tasks s.types test body) i)
effect_of s (LoopOnce body test) i = Goes (looped (body_tasks s.types body) (test_tasks s.types test body) i)
effect_of s Break i = Goes (broken i.around i)
effect_of s Continue i = Goes (continued i.around i)
