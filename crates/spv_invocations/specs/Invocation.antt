-- What an invocation of a module does, one instruction after another (SPIR-V 1.3, 2.2 and 3.32).
use Rattle.std.specs.Prelude.{ℕ, zero, suc, ◌+◌, ◌-◌, ◌*◌, ◌/◌, ◌%◌, ◌^◌, Bool, ◌&&◌, nat_lt, nat_eq, if◌then◌else◌, List, [], ◌∷◌, ◌++◌, map, length, drop, Option, Some, None, slice_get}
use Rattle.clv_steps.specs.Machines.{Status, Runs, Asks, Ends, Fails, Machine}
use Rattle.spv_module.specs.declared.module.Inst.{Inst}
use Rattle.spv_module.specs.declared.op.TheConstants as op
use Rattle.spv_module.specs.declared.enumerant.storage_class.TheConstants as storage_class
use Rattle.spv_module.specs.declared.enumerant.decoration.TheConstants as decoration
use Rattle.spv_module.specs.declared.enumerant.built_in.TheConstants as built_in
use Rattle.spv_module.specs.Options.{◌>>=◌, or_else, only_if, or_default, for_each}
use Rattle.spv_module.specs.Interface.{is_bound_at, is_number, word_at}
use Rattle.spv_module.specs.Instructions.{VectorType, Constant, SpecConstant, SpecComposite, Variable, Load, Store, AccessChain, Extract, Add, Label, Return, decoration_in}
use Rattle.spv_value.specs.Views.{number_at}
use Rattle.launch_text.specs.WorkItems.{Sizes, place_in}
use Rattle.launch_text.specs.Rules.{size_of}
use Rattle.spv_meaning.specs.declared.trap.TrapKind.{TrapKind}
use Rattle.spv_meaning.specs.declared.trap.TrapKind.TheVariants.{Range, Unreachable}
use Rattle.spv_invocations.specs.Events.{Spot, InBuffer, InGroup, bits_of, Event, Read, Write, Atomic, Barrier, Asked}
use Rattle.spv_meaning.specs.Start.{Bound}
use Rattle.spv_invocations.specs.Start.{Start, Given}
use Rattle.spv_invocations.specs.Reading.{Line, Basic, TruthConstant, LongConstant, CompositeConstant, NullConstant, Makes, Undefined, Call, ExtractAt, InsertAt, Shuffle, Construct, Insert, Bitcast, Operation, Atomic as AtomicOn, ControlBarrier, MemoryBarrier, Merge, Branch, BranchConditional, Switch, ReturnValue, Making, line_at, line_in, type_in, pointee_in, parameters_of, first_place, variables_of, count_variables, place_of}
use Rattle.spv_invocations.specs.Values.{Block, Buffer, Push, Cells, Group, Own, Input, Place, InBytes, InCells, Value, Number, Unset, PointsAt, Parts, listed, composite, scalars_in, leaves_of, numbers_of, part_at, with_part, filled, widths_of, dealt, joined, zeros}
use Rattle.spv_invocations.specs.Types.{DEPTH, specialised_as, shape_of, width_in, laid_at, Led, ToPart, PastEnd, led}
use Rattle.spv_invocations.specs.Operations.{Lanes, Each, Stops, lanes_from}

-- ---- states

-- A call: the id of its function, the place of its next instruction in the module, its parameters, and the values of the block, the newest first.
pub record Frame : Type 0 where
  pub function : ℕ
  pub place : ℕ
  pub parameters : List (ℕ × Value)
  pub values : List (ℕ × Value)

-- A call that waits for one that it has made, and the id that has the result.
pub record Pending : Type 0 where
  pub result : ℕ
  pub frame : Frame

-- A variable of a call: the number of calls that are below that one, its id, and what it holds.
pub record Private : Type 0 where
  pub depth : ℕ
  pub variable : ℕ
  pub holds : Value

-- The call that goes on, the scalars that a load or a store has moved so far, the variables of all calls, and the calls that wait, the newest first.
pub record Going : Type 0 where
  pub frame : Frame
  pub part : List ℕ
  pub privates : List Private
  pub callers : List Pending

-- Or the entry function has returned.
pub data Run : Type 0 where
  run : (at : Going) → Run
  over : Run

-- What an instruction does: a step, a question and then a step, or a trap. The number is the answer, or the unspecified value that the step needs.
pub data Row : Type 0 where
  Steps : (to : ℕ → Run) → Row
  Questions : (event : Event) (to : ℕ → Run) → Row
  Traps : (kind : TrapKind) → Row

abbrev pub depth_of : Going → ℕ
depth_of s = length s.callers

-- ---- values

abbrev pub value_among : List (ℕ × Value) → ℕ → Option Value
value_among [] id = None
value_among (v ∷ vs) id = if nat_eq v.0 id then Some v.1 else value_among vs id

abbrev pub null_by : Option Value → Option Value
null_by (Some shape) = Some (filled shape (zeros (widths_of shape)))
null_by None = None

-- the value of a constant, where those of its parts are known
abbrev pub constant_by : Given → (ℕ → Option Value) → Option Line → Option Value
constant_by g inner (Some (Basic (Constant t r value))) = Some (Number value)
constant_by g inner (Some (Basic (SpecConstant t r default))) = Some (Number (specialised_as g r default))
constant_by g inner (Some (Basic (SpecComposite t r parts))) = for_each inner parts >>= λ vs. Some (composite vs)
constant_by g inner (Some (CompositeConstant t r parts)) = for_each inner parts >>= λ vs. Some (composite vs)
constant_by g inner (Some (TruthConstant t r n)) = Some (Number n)
constant_by g inner (Some (LongConstant t r low high)) = Some (Number (low + 2 ^ 32 * high))
constant_by g inner (Some (NullConstant t r)) = null_by (shape_of g t)
constant_by g inner _ = None

abbrev pub constant_within : ℕ → Given → ℕ → Option Value
constant_within zero g id = None
constant_within (suc depth) g id = constant_by g (constant_within depth g) (line_in g.body id)

-- the buffer that a storage buffer variable is bound to
abbrev pub buffer_among : List Inst → ℕ → List Bound → Option ℕ
buffer_among body v [] = None
buffer_among body v (b ∷ bs) = if is_bound_at body v b.set b.binding then Some b.buffer else buffer_among body v bs

abbrev pub block_of : Given → ℕ → ℕ → Option Block
block_of g v storage =
    if nat_eq storage storage_class.STORAGE_BUFFER then (buffer_among g.body v g.start.bound >>= λ b. Some (Buffer b)) else only_if (nat_eq storage storage_class.PUSH_CONSTANT) Push

abbrev pub cells_by : ℕ → ℕ → ℕ → Option Cells
cells_by depth v storage =
    if nat_eq storage storage_class.FUNCTION then Some (Own depth v) else (if nat_eq storage storage_class.WORKGROUP then Some (Group v) else only_if (nat_eq storage storage_class.INPUT) (Input v))

-- a pointer to a variable, where so many calls are below
abbrev pub pointer_by : Given → ℕ → Option Line → Option Value
pointer_by g depth (Some (Basic (Variable t r storage))) =
    pointee_in g.body t >>= λ pointee. or_else (block_of g r storage >>= λ b. Some (PointsAt (InBytes b 0 pointee))) (cells_by depth r storage >>= λ c. Some (PointsAt (InCells c [] pointee)))
pointer_by g depth _ = None

-- Constants nest as deep as types.
abbrev pub global_at : Given → ℕ → ℕ → Option Value
global_at g depth id = or_else (constant_within DEPTH g id) (pointer_by g depth (line_in g.body id))

abbrev pub value_at : Given → Going → ℕ → Option Value
value_at g s id = or_else (value_among s.frame.values id) (or_else (value_among s.frame.parameters id) (global_at g (depth_of s) id))

abbrev pub values_at : Given → Going → List ℕ → Option (List Value)
values_at g s ids = for_each (value_at g s) ids

abbrev pub number_by : Option Value → Option ℕ
number_by (Some (Number n)) = Some n
number_by _ = None

abbrev pub number_of : Given → Going → ℕ → Option ℕ
number_of g s id = number_by (value_at g s id)

abbrev pub place_by : Option Value → Option Place
place_by (Some (PointsAt at)) = Some at
place_by _ = None

abbrev pub place_at : Given → Going → ℕ → Option Place
place_at g s id = place_by (value_at g s id)

-- ---- memory

-- what an input variable holds
abbrev pub of_sizes : Sizes → Value
of_sizes p = composite (Number p.x ∷ Number p.y ∷ Number p.z ∷ [])

abbrev pub each_size : (ℕ → ℕ → ℕ) → Sizes → Sizes → Sizes
each_size f a b = record { x = f a.x b.x; y = f a.y b.y; z = f a.z b.z }

abbrev pub input_by : Given → Option (List ℕ) → Option Value
input_by g built =
    if is_number built built_in.GLOBAL_INVOCATION_ID then Some (of_sizes g.place)
    else (if is_number built built_in.LOCAL_INVOCATION_ID then Some (of_sizes (each_size (λ a b. a % b) g.place g.start.local))
    else (if is_number built built_in.WORKGROUP_ID then Some (of_sizes (each_size (λ a b. a / b) g.place g.start.local))
    else only_if (is_number built built_in.NUM_WORKGROUPS) (of_sizes (each_size (λ a b. a / b) g.start.global g.start.local))))

abbrev pub input_of : Given → ℕ → Option Value
input_of g v = input_by g (decoration_in g.body v decoration.BUILT_IN)

abbrev pub is_private : ℕ → ℕ → Private → Bool
is_private depth variable p = nat_eq p.depth depth && nat_eq p.variable variable

abbrev pub held_among : List Private → ℕ → ℕ → Option Value
held_among [] depth variable = None
held_among (p ∷ ps) depth variable = if is_private depth variable p then Some p.holds else held_among ps depth variable

-- the variables with one scalar of one of them set
abbrev pub with_scalar : ℕ → ℕ → List ℕ → ℕ → List Private → List Private
with_scalar depth variable path n [] = []
with_scalar depth variable path n (p ∷ ps) =
    if is_private depth variable p then record p { holds = with_part p.holds path (Number n) } ∷ ps else p ∷ with_scalar depth variable path n ps

-- A scalar in memory: a number that never changes; one of the invocation's own, set or unset; or one that is shared.
pub data Scalar : Type 0 where
  Fixed : (n : ℕ) → Scalar
  OfCall : (depth variable : ℕ) (path : List ℕ) (holds : Value) → Scalar
  Shared : (at : Spot) → Scalar

abbrev pub fixed_at : List ℕ → ℕ × ℕ → Scalar
fixed_at bytes o = Fixed (number_at bytes o.0 (o.1 / 8))

abbrev pub shared_at : ℕ → ℕ × ℕ → Scalar
shared_at buffer o = Shared (InBuffer buffer o.0 o.1)

abbrev pub block_scalars : Given → Block → List (ℕ × ℕ) → Option (List Scalar)
block_scalars g Push laid = Some (map (fixed_at g.start.push) laid)
block_scalars g (Buffer b) laid = if nat_lt b g.start.shared then Some (map (shared_at b) laid) else (slice_get g.start.buffers b >>= λ bytes. Some (map (fixed_at bytes) laid))

abbrev pub leaf_width : Value → ℕ
leaf_width (Unset bits) = bits
leaf_width _ = 0

abbrev pub group_scalar : ℕ → List ℕ → List ℕ × Value → Scalar
group_scalar variable path leaf = Shared (InGroup variable (path ++ leaf.0) (leaf_width leaf.1))

abbrev pub own_scalar : ℕ → ℕ → List ℕ → List ℕ × Value → Scalar
own_scalar depth variable path leaf = OfCall depth variable (path ++ leaf.0) leaf.1

abbrev pub cell_scalars : Given → Going → Cells → List ℕ → ℕ → Option (List Scalar)
cell_scalars g s (Group v) path t = shape_of g t >>= λ shape. Some (map (group_scalar v path) (scalars_in shape))
cell_scalars g s (Own depth v) path t = held_among s.privates depth v >>= λ whole. part_at whole path >>= λ part. Some (map (own_scalar depth v path) (scalars_in part))
cell_scalars g s (Input v) path t = input_of g v >>= λ whole. part_at whole path >>= λ part. Some (map Fixed (numbers_of part))

-- the scalars at a place, in order
abbrev pub scalars_at : Given → Going → Place → Option (List Scalar)
scalars_at g s (InBytes block offset t) = laid_at g t offset >>= λ laid. block_scalars g block laid
scalars_at g s (InCells cells path t) = cell_scalars g s cells path t

abbrev pub scalars_of : Given → Going → Option Place → Option (List Scalar)
scalars_of g s (Some at) = scalars_at g s at
scalars_of g s None = None

-- ---- access chains

-- Where indices have come to: a place; past an array's end; or where there is no such way.
pub data Reached : Type 0 where
  Inside : (at : Place) → Reached
  Beyond : Reached
  NoWay : Reached

abbrev pub entered : Place → ℕ → Led → Reached
entered (InBytes block offset t) i (ToPart type (Some distance)) = Inside (InBytes block (offset + distance) type)
entered (InCells cells path t) i (ToPart type distance) = Inside (InCells cells (path ++ i ∷ []) type)
entered at i PastEnd = Beyond
entered at i _ = NoWay

abbrev pub block_size : Given → Block → ℕ
block_size g Push = length g.start.push
block_size g (Buffer b) = or_default (size_of g.start.buffers b) 0

-- one index further; a runtime array has the bytes that are left to the block's end
abbrev pub enter : Given → Place → ℕ → Reached
enter g (InBytes block offset t) i = entered (InBytes block offset t) i (led g (block_size g block - offset) t i)
enter g (InCells cells path t) i = entered (InCells cells path t) i (led g 0 t i)

abbrev pub reached : Given → Reached → List ℕ → Reached
reached g (Inside at) (i ∷ is) = reached g (enter g at i) is
reached g at [] = at
reached g at (i ∷ is) = at

abbrev pub chain_by : Given → Option Place → Option (List ℕ) → Reached
chain_by g (Some at) (Some is) = reached g (Inside at) is
chain_by g _ _ = NoWay

abbrev pub indices_at : Given → Going → List ℕ → Option (List ℕ)
indices_at g s ids = for_each (number_of g s) ids

-- ---- what follows a step

abbrev pub at_place : Going → ℕ → Going
at_place s place = record s { frame = record s.frame { place = place }; part = [] }

abbrev pub behind : Going → Run
behind s = run (at_place s (s.frame.place + 1))

abbrev pub named : Frame → ℕ → Value → Frame
named f r v = record f { values = (r, v) ∷ f.values }

abbrev pub given : Going → ℕ → Value → Run
given s r v = behind (record s { frame = named s.frame r v })

-- a step that gives an id its value; where there is none the invocation traps
abbrev pub giving : TrapKind → Going → ℕ → Option Value → Row
giving kind s r (Some v) = Steps (λ _. given s r v)
giving kind s r None = Traps kind

-- ---- loads, stores and atomics

-- One scalar is moved in a step; the last gives the result.
abbrev pub with_moved : Going → ℕ → Going
with_moved s n = record s { part = s.part ++ n ∷ [] }

abbrev pub is_last : Going → ℕ → Bool
is_last s count = nat_eq (length s.part + 1) count

abbrev pub loaded : Going → ℕ → Value → ℕ → ℕ → Run
loaded s r shape count n = if is_last s count then given s r (filled shape (s.part ++ n ∷ [])) else run (with_moved s n)

abbrev pub loading_scalar : (ℕ → Run) → Option Scalar → Row
loading_scalar to (Some (Fixed n)) = Steps (λ _. to n)
loading_scalar to (Some (OfCall depth variable path (Number n))) = Steps (λ _. to n)
loading_scalar to (Some (OfCall depth variable path (Unset bits))) = Steps (λ x. to (x % 2 ^ bits))
loading_scalar to (Some (Shared at)) = Questions (Read at) (λ x. to (x % 2 ^ bits_of at))
loading_scalar to _ = Traps Unreachable

abbrev pub loading : Going → ℕ → Option Value → Option (List Scalar) → Row
loading s r (Some shape) (Some scalars) = loading_scalar (loaded s r shape (length scalars)) (slice_get scalars (length s.part))
loading s r _ _ = Traps Unreachable

abbrev pub stored : Going → ℕ → ℕ → Run
stored s count n = if is_last s count then behind s else run (with_moved s n)

abbrev pub storing_scalar : Going → ℕ → Option Scalar → Option ℕ → Row
storing_scalar s count (Some (OfCall depth variable path holds)) (Some n) = Steps (λ _. stored (record s { privates = with_scalar depth variable path n s.privates }) count n)
storing_scalar s count (Some (Shared at)) (Some n) = Questions (Write at n) (λ _. stored s count n)
storing_scalar s count _ _ = Traps Unreachable

abbrev pub storing : Going → Option (List Scalar) → Option Value → Row
storing s (Some scalars) (Some v) = storing_scalar s (length scalars) (slice_get scalars (length s.part)) (slice_get (numbers_of v) (length s.part))
storing s _ _ = Traps Unreachable

-- An atomic gives the old number.
abbrev pub changing : Going → ℕ → ℕ → Option (List Scalar) → Option (List ℕ) → Row
changing s r code (Some (Shared at ∷ [])) (Some ns) = Questions (Atomic code at ns) (λ x. given s r (Number (x % 2 ^ bits_of at)))
changing s r code _ _ = Traps Unreachable

-- ---- operations and composites

abbrev pub giving_lanes : Going → ℕ → Value → Lanes → Row
giving_lanes s r shape (Each ns) = Steps (λ _. given s r (filled shape ns))
giving_lanes s r shape (Stops kind) = Traps kind

abbrev pub operating : Going → ℕ → ℕ → Option Value → Option ℕ → Option ℕ → Option (List Value) → Row
operating s r code (Some shape) (Some from) (Some to) (Some vs) = giving_lanes s r shape (lanes_from code from to (map numbers_of vs) 0 (length (scalars_in shape)))
operating s r code _ _ _ _ = Traps Unreachable

-- the width of the components of an id's value; a bool's is 1
abbrev pub width_or_one : Option ℕ → ℕ
width_or_one (Some width) = width
width_or_one None = 1

abbrev pub width_of_id : Given → ℕ → Option ℕ
width_of_id g id = type_in g.body id >>= λ t. Some (width_or_one (width_in g t))

abbrev pub width_of_first : Given → List ℕ → Option ℕ
width_of_first g [] = None
width_of_first g (id ∷ ids) = width_of_id g id

abbrev pub operation : Given → Going → ℕ → ℕ → ℕ → List ℕ → Row
operation g s t r code ids = operating s r code (shape_of g t) (width_of_first g ids) (Some (width_or_one (width_in g t))) (values_at g s ids)

-- the same bits, the first component in the lowest
abbrev pub cast_by : Option Value → Option ℕ → Option Value → Option Value
cast_by (Some shape) (Some width) (Some v) = Some (filled shape (dealt (widths_of shape) (joined width (numbers_of v))))
cast_by _ _ _ = None

-- An unspecified value has one number for each scalar, dealt out of the one that the step takes.
abbrev pub undefined : Going → ℕ → Option Value → Row
undefined s r (Some shape) = Steps (λ x. given s r (filled shape (dealt (widths_of shape) x)))
undefined s r None = Traps Unreachable

-- a component by an index that isn't constant
abbrev pub extracting : Going → ℕ → Option Value → Option ℕ → Row
extracting s r (Some (Parts parts)) (Some i) = giving Range s r (slice_get (listed parts) i)
extracting s r _ _ = Traps Unreachable

abbrev pub inserting : Going → ℕ → Option Value → Option Value → Option ℕ → Row
inserting s r (Some (Parts parts)) (Some v) (Some i) = giving Range s r (only_if (nat_lt i (length (listed parts))) (with_part (Parts parts) (i ∷ []) v))
inserting s r _ _ _ = Traps Unreachable

-- components of two vectors, by their numbers in both
abbrev pub shuffled : Option Value → Option Value → List ℕ → Option Value
shuffled (Some a) (Some b) components = for_each (slice_get (leaves_of a ++ leaves_of b)) components >>= λ vs. Some (composite vs)
shuffled _ _ components = None

-- a vector is made of the components of its parts, and each other composite of its parts
abbrev pub leaves_of_all : List Value → List Value
leaves_of_all [] = []
leaves_of_all (v ∷ vs) = leaves_of v ++ leaves_of_all vs

abbrev pub constructed_by : Option Line → List Value → Value
constructed_by (Some (Basic (VectorType r component count))) vs = composite (leaves_of_all vs)
constructed_by _ vs = composite vs

abbrev pub inserted : Option Value → Option Value → List ℕ → Option Value
inserted (Some object) (Some whole) at = part_at whole at >>= λ old. Some (with_part whole at object)
inserted _ _ at = None

-- ---- calls and branches

-- the variables of a call, unset
abbrev pub made_by : ℕ → ℕ → Option Value → List Private → List Private
made_by depth v (Some shape) ps = record { depth = depth; variable = v; holds = shape } ∷ ps
made_by depth v None ps = ps

abbrev pub shape_of_variable : Given → ℕ → Option Value
shape_of_variable g t = pointee_in g.body t >>= λ pointee. shape_of g pointee

abbrev pub made_among : Given → ℕ → List (ℕ × ℕ) → List Private
made_among g depth [] = []
made_among g depth (v ∷ vs) = made_by depth v.0 (shape_of_variable g v.1) (made_among g depth vs)

abbrev pub paired : List (ℕ × ℕ) → List Value → List (ℕ × Value)
paired (p ∷ ps) (v ∷ vs) = (p.0, v) ∷ paired ps vs
paired _ _ = []

abbrev pub frame_of : Given → ℕ → List Value → Frame
frame_of g function arguments = record { function = function; place = first_place g.body function; parameters = paired (parameters_of g.body function) arguments; values = [] }

abbrev pub called : Given → Going → ℕ → ℕ → List Value → Run
called g s r function arguments =
    run (record { frame = frame_of g function arguments; part = []; privates = made_among g (depth_of s + 1) (variables_of g.body function) ++ s.privates; callers = record { result = r; frame = s.frame } ∷ s.callers })

abbrev pub calling : Given → Going → ℕ → ℕ → Option (List Value) → Row
calling g s r function (Some vs) = Steps (λ _. called g s r function vs)
calling g s r function None = Traps Unreachable

-- the variables without those of a call
abbrev pub without : ℕ → List Private → List Private
without depth [] = []
without depth (p ∷ ps) = if nat_eq p.depth depth then without depth ps else p ∷ without depth ps

abbrev pub with_result : Frame → ℕ → Option Value → Frame
with_result f r (Some v) = named f r v
with_result f r None = f

abbrev pub returned : Going → Option Value → List Pending → Run
returned s v [] = over
returned s v (p ∷ ps) = behind (record { frame = with_result p.frame p.result v; part = []; privates = without (depth_of s) s.privates; callers = ps })

abbrev pub returning : Going → Option Value → Row
returning s (Some v) = Steps (λ _. returned s (Some v) s.callers)
returning s None = Traps Unreachable

abbrev pub branching : Given → Going → Option ℕ → Row
branching g s (Some target) = Steps (λ _. run (at_place s (place_of g.body target)))
branching g s None = Traps Unreachable

abbrev pub chosen : ℕ → ℕ → Option ℕ → Option ℕ
chosen on_true on_false (Some n) = Some (if nat_eq n 0 then on_false else on_true)
chosen on_true on_false None = None

abbrev pub case_among : List (ℕ × ℕ) → ℕ → ℕ → ℕ
case_among [] default n = default
case_among (c ∷ cs) default n = if nat_eq c.0 n then c.1 else case_among cs default n

abbrev pub case_of : List (ℕ × ℕ) → ℕ → Option ℕ → Option ℕ
case_of cases default (Some n) = Some (case_among cases default n)
case_of cases default None = None

-- Where a block begins its values are lost, and the variables behind its label are there already.
abbrev pub begun : Given → Going → Run
begun g s = run (record s { frame = record s.frame { place = s.frame.place + 1 + count_variables (drop (s.frame.place + 1) g.body); values = [] }; part = [] })

-- the words of the calls that wait, the oldest first, and then these
abbrev pub words_before : List Inst → List Pending → List ℕ → List ℕ
words_before body [] words = words
words_before body (p ∷ ps) words = words_before body ps (word_at body p.frame.place ∷ words)

abbrev pub chain_of : Given → Going → List ℕ
chain_of g s = words_before g.body s.callers (word_at g.body s.frame.place ∷ [])

-- ---- the rows

-- what makes a value
abbrev pub row_of_making : Given → Going → ℕ → ℕ → Making → Row
row_of_making g s t r Undefined = undefined s r (shape_of g t)
row_of_making g s t r (Call function ids) = calling g s r function (values_at g s ids)
row_of_making g s t r (ExtractAt vector index) = extracting s r (value_at g s vector) (number_of g s index)
row_of_making g s t r (InsertAt vector component index) = inserting s r (value_at g s vector) (value_at g s component) (number_of g s index)
row_of_making g s t r (Shuffle a b components) = giving Unreachable s r (shuffled (value_at g s a) (value_at g s b) components)
row_of_making g s t r (Construct ids) = giving Unreachable s r (values_at g s ids >>= λ vs. Some (constructed_by (line_in g.body t) vs))
row_of_making g s t r (Insert object whole at) = giving Unreachable s r (inserted (value_at g s object) (value_at g s whole) at)
row_of_making g s t r (Bitcast a) = giving Unreachable s r (cast_by (shape_of g t) (width_of_id g a) (value_at g s a))
row_of_making g s t r (Operation code ids) = operation g s t r code ids
row_of_making g s t r (AtomicOn code pointer ids) = changing s r code (scalars_of g s (place_at g s pointer)) (indices_at g s ids)

-- Past an array's end a chain traps by its range.
abbrev pub pointing : Going → ℕ → Reached → Row
pointing s r (Inside at) = Steps (λ _. given s r (PointsAt at))
pointing s r Beyond = Traps Range
pointing s r NoWay = Traps Unreachable

-- One row for each instruction. What has no row here, or an operand that has no value, is a trap as where control can't come.
abbrev pub row_by : Given → Going → Option Line → Row
row_by g s (Some (Basic (Label r))) = Steps (λ _. begun g s)
row_by g s (Some (Basic (Load t r pointer))) = loading s r (shape_of g t) (scalars_of g s (place_at g s pointer))
row_by g s (Some (Basic (Store pointer value))) = storing s (scalars_of g s (place_at g s pointer)) (value_at g s value)
row_by g s (Some (Basic (AccessChain t r base indices))) = pointing s r (chain_by g (place_at g s base) (indices_at g s indices))
row_by g s (Some (Basic (Extract t r whole at))) = giving Unreachable s r (value_at g s whole >>= λ v. part_at v at)
row_by g s (Some (Basic (Add t r a b))) = operation g s t r op.I_ADD (a ∷ b ∷ [])
row_by g s (Some (Basic Return)) = Steps (λ _. returned s None s.callers)
row_by g s (Some (Makes t r making)) = row_of_making g s t r making
row_by g s (Some ControlBarrier) = Questions (Barrier (chain_of g s)) (λ _. behind s)
row_by g s (Some MemoryBarrier) = Steps (λ _. behind s)
row_by g s (Some Merge) = Steps (λ _. behind s)
row_by g s (Some (Branch target)) = branching g s (Some target)
row_by g s (Some (BranchConditional condition on_true on_false)) = branching g s (chosen on_true on_false (number_of g s condition))
row_by g s (Some (Switch selector default cases)) = branching g s (case_of cases default (number_of g s selector))
row_by g s (Some (ReturnValue value)) = returning s (value_at g s value)
row_by g s _ = Traps Unreachable

abbrev pub row_at : Given → Going → Row
row_at g s = row_by g s (line_at g.body s.frame.place)

-- ---- the machine

abbrev pub status_by : ℕ → Row → Status Asked
status_by function (Steps to) = Runs
status_by function (Questions event to) = Asks (record { function = function; event = event })
status_by function (Traps kind) = Fails

abbrev pub next_by : ℕ → Row → Run
next_by x (Steps to) = to x
next_by x (Questions event to) = to x
next_by x (Traps kind) = over

abbrev pub status : Given → Run → Status Asked
status g (run s) = status_by s.frame.function (row_at g s)
status g over = Ends

abbrev pub next : Given → ℕ → Run → Run
next g x (run s) = next_by x (row_at g s)
next g x over = over

abbrev pub invocation : Given → Machine Run Asked
invocation g = record { status = status g; next = next g }

-- the call of the entry function
abbrev pub first_run : Given → Run
first_run g = run (record { frame = frame_of g g.start.function []; part = []; privates = made_among g 0 (variables_of g.body g.start.function); callers = [] })

-- why an invocation that fails does
abbrev pub kind_by : Row → Option TrapKind
kind_by (Traps kind) = Some kind
kind_by _ = None

abbrev pub trap_of : Given → Run → Option TrapKind
trap_of g (run s) = kind_by (row_at g s)
trap_of g over = None

-- the invocation of an item
abbrev pub given_of : List Inst → Start → ℕ → Given
given_of body start item = record { body = body; start = start; place = place_in start.global item }
