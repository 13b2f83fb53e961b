-- What an invocation of a module does, one instruction after another (SPIR-V 1.3, 2.2 and 3.32).
use Rattle.std.specs.Prelude.{ℕ, ◌+◌, ◌-◌, ◌*◌, ◌/◌, Bool, false, nat_lt, nat_eq, if◌then◌else◌, List, [], ◌∷◌, ◌++◌, length, Option, Some, None, slice_get, slice_index}
use Rattle.clv_num.specs.Numbers.{add_of}
use Rattle.clv_steps.specs.Machines.{Status, Runs, Asks, Ends, Fails, Machine}
use Rattle.spv_module.specs.declared.module.Inst.{Inst}
use Rattle.spv_module.specs.declared.enumerant.storage_class.TheConstants as storage_class
use Rattle.spv_module.specs.declared.enumerant.decoration.TheConstants as decoration
use Rattle.spv_module.specs.declared.enumerant.built_in.TheConstants as built_in
use Rattle.spv_module.specs.Options.{◌>>=◌, or_else, only_if, or_default}
use Rattle.launch_text.specs.WorkItems.{Sizes, place_in}
use Rattle.launch_text.specs.Rules.{size_of}
use Rattle.spv_meaning.specs.declared.trap.TrapKind.{TrapKind}
use Rattle.spv_meaning.specs.declared.trap.TrapKind.TheVariants.{Range, Unreachable}
use Rattle.spv_meaning.specs.Events.{Spot, Event, Write, Asked}
use Rattle.spv_meaning.specs.Start.{Bound, Specialised, Start}
use Rattle.spv_module.specs.Interface.{is_bound_at, is_number, pointee_by, number_of}
use Rattle.spv_module.specs.Instructions.{Said, IntType, RuntimeArray, StructType, Constant, SpecConstant, Function, Variable, Load, Store, AccessChain, Extract, Add, Label, Return, said, definition_in, decoration_in, member_decoration_in}

-- Numbers in order, one for each scalar of a type, or a pointer to one scalar of a buffer.
pub data Value : Type 0 where
  Scalars : (ns : List ℕ) → Value
  PointsAt : (at : Spot) → Value

-- The id of the function, the place of the next instruction in the module, the scalars that a load has moved so far, and the values of the block, the newest first. Or the entry function has returned.
pub data Run : Type 0 where
  run : (function place : ℕ) (part : List ℕ) (values : List (ℕ × Value)) → Run
  over : Run

-- What an instruction does: a step, a question and then a step, or a trap. The number is the answer.
pub data Row : Type 0 where
  Steps : (to : ℕ → Run) → Row
  Questions : (event : Event) (to : ℕ → Run) → Row
  Traps : (kind : TrapKind) → Row

-- What an invocation is given: the module's instructions, where the launch begins, and its place in the grid.
pub record Given : Type 0 where
  pub body : List Inst
  pub start : Start
  pub place : Sizes

abbrev pub value_among : List (ℕ × Value) → ℕ → Option Value
value_among [] id = None
value_among (v ∷ vs) id = if nat_eq v.0 id then Some v.1 else value_among vs id

abbrev pub specialised_to : List Specialised → Option (List ℕ) → Option ℕ
specialised_to (s ∷ ss) (Some (id ∷ [])) = if nat_eq s.id id then Some s.value else specialised_to ss (Some (id ∷ []))
specialised_to _ _ = None

-- the value of a constant
abbrev pub constant_by : Given → Option Said → Option Value
constant_by g (Some (Constant t r value)) = Some (Scalars (value ∷ []))
constant_by g (Some (SpecConstant t r default)) = Some (Scalars (or_default (specialised_to g.start.specialised (decoration_in g.body r decoration.SPEC_ID)) default ∷ []))
constant_by g _ = None

abbrev pub value_at : Given → List (ℕ × Value) → ℕ → Option Value
value_at g values id = or_else (value_among values id) (constant_by g (definition_in g.body id))

abbrev pub scalar_by : Option Value → Option ℕ
scalar_by (Some (Scalars (n ∷ []))) = Some n
scalar_by _ = None

abbrev pub scalar_at : Given → List (ℕ × Value) → ℕ → Option ℕ
scalar_at g values id = scalar_by (value_at g values id)

abbrev pub scalars_at : Given → List (ℕ × Value) → List ℕ → Option (List ℕ)
scalars_at g values [] = Some []
scalars_at g values (id ∷ ids) = scalar_at g values id >>= λ n. scalars_at g values ids >>= λ ns. Some (n ∷ ns)

-- the scalars of an input variable
abbrev pub input_by : Given → Option (List ℕ) → Option (List ℕ)
input_by g built = only_if (is_number built built_in.GLOBAL_INVOCATION_ID) (g.place.x ∷ g.place.y ∷ g.place.z ∷ [])

abbrev pub input_of : Given → Option Said → Option (List ℕ)
input_of g (Some (Variable t r storage)) = if nat_eq storage storage_class.INPUT then input_by g (decoration_in g.body r decoration.BUILT_IN) else None
input_of g _ = None

-- the buffer that a storage buffer variable is bound to
abbrev pub buffer_among : List Inst → ℕ → List Bound → Option ℕ
buffer_among body v [] = None
buffer_among body v (b ∷ bs) = if is_bound_at body v b.set b.binding then Some b.buffer else buffer_among body v bs

-- Where the indices of an access chain have come to in a buffer: a type and an offset in bytes; past an array's end; or where there is no such way.
pub data Reached : Type 0 where
  Inside : (type offset : ℕ) → Reached
  Beyond : Reached
  NoWay : Reached

abbrev pub member_at : Option ℕ → Option ℕ → ℕ → Reached
member_at (Some type) (Some at) offset = Inside type (offset + at)
member_at _ _ offset = NoWay

-- A runtime array goes on to the end of the buffer, in whole elements.
abbrev pub element_at : ℕ → ℕ → ℕ → ℕ → Option ℕ → Reached
element_at size element offset i (Some stride) = if nat_lt i ((size - offset) / stride) then Inside element (offset + stride * i) else Beyond
element_at size element offset i None = NoWay

abbrev pub enter_by : List Inst → ℕ → ℕ → ℕ → Option Said → Reached
enter_by body size offset i (Some (StructType r members)) = member_at (slice_get members i) (number_of (member_decoration_in body r i decoration.OFFSET)) offset
enter_by body size offset i (Some (RuntimeArray r element)) = element_at size element offset i (number_of (decoration_in body r decoration.ARRAY_STRIDE))
enter_by body size offset i _ = NoWay

abbrev pub reached : List Inst → ℕ → Reached → List ℕ → Reached
reached body size (Inside type offset) (i ∷ is) = reached body size (enter_by body size offset i (definition_in body type)) is
reached body size at [] = at
reached body size at (i ∷ is) = at

abbrev pub width_by : Option Said → Option ℕ
width_by (Some (IntType r width signedness)) = Some width
width_by _ = None

-- the scalar that a chain points at
abbrev pub spot_by : List Inst → ℕ → Reached → Option Spot
spot_by body buffer (Inside type offset) = width_by (definition_in body type) >>= λ bits. Some (record { buffer = buffer; offset = offset; bits = bits })
spot_by body buffer _ = None

-- where an access chain has come to, by the numbers of its indices, and in which buffer
abbrev pub chain_reached : Given → ℕ → Option (List ℕ) → Option (ℕ × Reached)
chain_reached g base indices =
    buffer_among g.body base g.start.bound >>= λ buffer. size_of g.start.buffers buffer >>= λ size. pointee_by (definition_in g.body base) >>= λ pointer. pointee_by (definition_in g.body pointer) >>= λ block. indices >>= λ is. Some (buffer, reached g.body size (Inside block 0) is)

abbrev pub chain_spot : Given → ℕ → Option (List ℕ) → Option Spot
chain_spot g base indices = chain_reached g base indices >>= λ c. spot_by g.body c.0 c.1

-- Past an array's end it traps by its range.
abbrev pub trap_by : Option (ℕ × Reached) → TrapKind
trap_by (Some (buffer, Beyond)) = Range
trap_by _ = Unreachable

abbrev pub chain_trap : Given → ℕ → Option (List ℕ) → TrapKind
chain_trap g base indices = trap_by (chain_reached g base indices)

-- a step that gives an id its value; where there is none the invocation traps
abbrev pub giving : TrapKind → ℕ → ℕ → List (ℕ × Value) → ℕ → Option Value → Row
giving kind function place values r (Some v) = Steps (λ _. run function (place + 1) [] ((r, v) ∷ values))
giving kind function place values r None = Traps kind

-- One scalar is moved in a step; the last gives the result.
abbrev pub loading : ℕ → ℕ → List ℕ → List (ℕ × Value) → ℕ → Option (List ℕ) → Row
loading function place part values r (Some ns) =
    if nat_lt (length part + 1) (length ns) then Steps (λ _. run function place (part ++ slice_index ns (length part) ∷ []) values) else giving Unreachable function place values r (Some (Scalars (part ++ slice_index ns (length part) ∷ [])))
loading function place part values r None = Traps Unreachable

abbrev pub storing : ℕ → ℕ → List (ℕ × Value) → Option Value → Option ℕ → Row
storing function place values (Some (PointsAt at)) (Some n) = Questions (Write at n) (λ _. run function (place + 1) [] values)
storing function place values _ _ = Traps Unreachable

abbrev pub extracted : Option Value → List ℕ → Option Value
extracted (Some (Scalars ns)) (i ∷ []) = slice_get ns i >>= λ n. Some (Scalars (n ∷ []))
extracted _ _ = None

abbrev pub as_scalar : Option ℕ → Option Value
as_scalar (Some n) = Some (Scalars (n ∷ []))
as_scalar None = None

abbrev pub as_pointer : Option Spot → Option Value
as_pointer (Some at) = Some (PointsAt at)
as_pointer None = None

-- One row for each instruction. The values of a block are lost at the next label. What has no row here, or an operand that has no value, is a trap as where control can't come.
abbrev pub row_by : Given → ℕ → ℕ → List ℕ → List (ℕ × Value) → Option Said → Row
row_by g function place part values (Some (Label r)) = Steps (λ _. run function (place + 1) [] [])
row_by g function place part values (Some (Load t r pointer)) = loading function place part values r (input_of g (definition_in g.body pointer))
row_by g function place part values (Some (Extract t r composite at)) = giving Unreachable function place values r (extracted (value_at g values composite) at)
row_by g function place part values (Some (Add t r a b)) = giving Unreachable function place values r (as_scalar (scalar_at g values a >>= λ m. scalar_at g values b >>= λ n. Some (add_of 32 m n)))
row_by g function place part values (Some (AccessChain t r base indices)) = giving (chain_trap g base (scalars_at g values indices)) function place values r (as_pointer (chain_spot g base (scalars_at g values indices)))
row_by g function place part values (Some (Store pointer value)) = storing function place values (value_at g values pointer) (scalar_at g values value)
row_by g function place part values (Some Return) = Steps (λ _. over)
row_by g function place part values _ = Traps Unreachable

abbrev pub said_at : List Inst → ℕ → Option Said
said_at body place = slice_get body place >>= λ i. Some (said i)

abbrev pub status_by : ℕ → Row → Status Asked
status_by function (Steps to) = Runs
status_by function (Questions event to) = Asks (record { function = function; event = event })
status_by function (Traps kind) = Fails

abbrev pub next_by : ℕ → Row → Run
next_by x (Steps to) = to x
next_by x (Questions event to) = to x
next_by x (Traps kind) = over

abbrev pub status : Given → Run → Status Asked
status g (run function place part values) = status_by function (row_by g function place part values (said_at g.body place))
status g over = Ends

abbrev pub next : Given → ℕ → Run → Run
next g x (run function place part values) = next_by x (row_by g function place part values (said_at g.body place))
next g x over = over

abbrev pub invocation : Given → Machine Run Asked
invocation g = record { status = status g; next = next g }

-- a function begins behind its line
abbrev pub is_function : Said → ℕ → Bool
is_function (Function t r type) id = nat_eq r id
is_function _ id = false

abbrev pub place_after : List Inst → ℕ → ℕ
place_after [] id = 0
place_after (i ∷ is) id = if is_function (said i) id then 1 else (1 + place_after is id)

abbrev pub first_run : Given → Run
first_run g = run g.start.function (place_after g.body g.start.function) [] []

-- why an invocation that fails does
abbrev pub kind_by : Row → Option TrapKind
kind_by (Traps kind) = Some kind
kind_by _ = None

abbrev pub trap_of : Given → Run → Option TrapKind
trap_of g (run function place part values) = kind_by (row_by g function place part values (said_at g.body place))
trap_of g over = None

-- the invocation of an item
abbrev pub given_of : List Inst → Start → ℕ → Given
given_of body start item = record { body = body; start = start; place = place_in start.global item }
