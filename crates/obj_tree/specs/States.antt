-- The state of a work-item, and its private memory (C99, 6.2.4 and 6.9.1; OpenCL C 1.2, 6.5).
use Rattle.std.specs.Prelude.{ℕ, suc, ◌+◌, ◌/◌, nat_eq, if◌then◌else◌, List, [], ◌∷◌, ◌++◌, map, length, replicate, Option, Some, None, slice_get}
use Rattle.cl_types.specs.declared.types.ClType.{ClType}
use Rattle.cl_types.specs.declared.types.TypeId.{TypeId}
use Rattle.cl_types.specs.declared.scalars.Scalar.{Scalar as Slot}
use Rattle.launch_text.specs.declared.launch.ArgSize.{ArgSize}
use Rattle.launch_text.specs.declared.launch.ArgSize.TheVariants as argument
use Rattle.launch_text.specs.declared.launch.LaunchSizes.{LaunchSizes}
use Rattle.cl_tree.specs.declared.event.NodeId.{NodeId}
use Rattle.cl_tree.specs.declared.event.Shared.TheVariants as shared
use Rattle.cl_tree.specs.declared.shape.Shape.{Shape}
use Rattle.cl_tree.specs.declared.shape.Shape.TheVariants as shape
use Rattle.cl_tree.specs.Shapes.{shape_of}
use Rattle.cl_common.specs.Events.{same_nodes}
use Rattle.obj_tree.specs.declared.object.Root.{Root}
use Rattle.obj_tree.specs.declared.object.Root.TheVariants as root
use Rattle.obj_tree.specs.Code.{Code}
use Rattle.cl_common.specs.Types.{size_at, slots_at}
use Rattle.obj_tree.specs.Places.{Name, same_name, Object, InShared, InPrivate, Whole, Elements, OneValue, OneIndex, Hop, Member, Index, Single, Components, Place}
use Rattle.obj_tree.specs.Operations.{Entry, Value, index_of}
use Rattle.obj_tree.specs.Tasks.{Want, IntoMember, ByIndex, BySingle, IntoComponents, Task}

-- ---- states

-- What an item sees: the types, constants and copies of its program, by their types; its kernel's parameters and variables in local memory; the sizes and
-- plain arguments of the launch, and its own number there.
pub record Surroundings : Type 0 where
  pub types : List ClType
  pub constants : List TypeId
  pub copies : List Code
  pub params : List TypeId
  pub locals : List TypeId
  pub launch : LaunchSizes
  pub item : ℕ

-- The scalars of an object by their offsets, each set or unset.
abbrev pub Cells : Type 0
Cells = ℕ → Option ℕ

abbrev pub Memory : Type 0
Memory = Name → Cells

-- the copy that runs, the nodes of the calls that lead there, the innermost first, and the private objects that it was passed
pub record Frame : Type 0 where
  pub copy : ℕ
  pub calls : List NodeId
  pub passed : List Name

-- A loop or a switch of this call: what is done after `break`; of a loop also what is done after `continue`.
pub data Around : Type 0 where
  InLoop : (again behind : List Task) → Around
  InSwitch : (behind : List Task) → Around

-- A call that is pending: what its caller goes on with, and the steps that its node takes at least behind it.
pub record Caller : Type 0 where
  pub todo : List Task
  pub around : List Around
  pub frame : Frame
  pub least : ℕ

-- What is left to do in this call; what was evaluated, the newest first; the private objects; where it is; and the loops and switches around
-- it and the pending calls, the innermost first.
pub record Item : Type 0 where
  pub todo : List Task
  pub stack : List Entry
  pub memory : Memory
  pub frame : Frame
  pub around : List Around
  pub callers : List Caller

-- ---- private objects of a copy, by their numbers there

-- what they are: those that are passed, parameters, indices and variables
abbrev pub privates_of : Code → List Whole
privates_of c = map OneValue c.privates ++ (map OneValue c.plain ++ (replicate c.indices OneIndex ++ map OneValue c.vars))

abbrev pub whole_or : Option Whole → Whole
whole_or None = OneIndex
whole_or (Some w) = w

abbrev pub whole_private : Option Code → ℕ → Whole
whole_private None k = OneIndex
whole_private (Some c) k = whole_or (slice_get (privates_of c) k)

-- the number of the first variable
abbrev pub first_variable : Option Code → ℕ
first_variable None = 0
first_variable (Some c) = length c.privates + (length c.plain + c.indices)

-- An object that was passed, or else one of the call's own.
abbrev pub named : Frame → ℕ → Option Name → Name
named f k None = record { calls = f.calls; number = k }
named f k (Some name) = name

abbrev pub private_name : Frame → ℕ → Name
private_name f k = named f k (slice_get f.passed k)

-- ---- objects of all memories

-- of an argument that is a pointer: as many elements as its bytes hold
abbrev pub elements_of : List ClType → Shape → ℕ → Whole
elements_of cs (shape.Pointer space to readonly restricted) bytes = Elements to (bytes / size_at cs to)
elements_of cs s bytes = OneIndex

abbrev pub argument_place : List ClType → ℕ → Shape → Option ArgSize → List Hop → Option Place
argument_place cs k s (Some (argument.Buffer file bytes)) hops = Some (record { object = InShared (shared.Buffer file); whole = elements_of cs s bytes; hops = hops })
argument_place cs k s (Some (argument.Local bytes)) hops = Some (record { object = InShared (shared.LocalArgument k); whole = elements_of cs s bytes; hops = hops })
argument_place cs k s _ hops = None

abbrev pub shape_at : List ClType → Option TypeId → Shape
shape_at cs None = shape.Void
shape_at cs (Some t) = shape_of cs t

abbrev pub of_type : Object → Option TypeId → List Hop → Option Place
of_type object None hops = None
of_type object (Some t) hops = Some (record { object = object; whole = OneValue t; hops = hops })

-- The place in an object of the copy that runs; None for what is no object of it.
abbrev pub place_in : Surroundings → Frame → Root → List Hop → Option Place
place_in s f (root.Argument k) hops = argument_place s.types k (shape_at s.types (slice_get s.params k)) (slice_get s.launch.args k) hops
place_in s f (root.Constant k) hops = of_type (InShared (shared.Constant k)) (slice_get s.constants k) hops
place_in s f (root.Local k) hops = of_type (InShared (shared.LocalVariable k)) (slice_get s.locals k) hops
place_in s f (root.Private k) hops = Some (record { object = InPrivate (private_name f k); whole = whole_private (slice_get s.copies f.copy) k; hops = hops })

-- The steps with the numbers that were evaluated, the last first, as these are.
abbrev pub hops_on : List Want → List Entry → List Hop
hops_on (IntoMember k ∷ ws) st = Member k ∷ hops_on ws st
hops_on (IntoComponents at ∷ ws) st = Components at ∷ hops_on ws st
hops_on (ByIndex s ∷ ws) (Value (n ∷ []) ∷ st) = Index (index_of s n) ∷ hops_on ws st
hops_on (BySingle s ∷ ws) (Value (n ∷ []) ∷ st) = Single (index_of s n) ∷ hops_on ws st
hops_on _ st = []

abbrev pub indices_in : List Want → ℕ
indices_in [] = 0
indices_in (ByIndex s ∷ ws) = suc (indices_in ws)
indices_in (BySingle s ∷ ws) = suc (indices_in ws)
indices_in (w ∷ ws) = indices_in ws

-- ---- private memory

abbrev pub no_cells : Cells
no_cells at = None

abbrev pub with_cell : ℕ → ℕ → Cells → Cells
with_cell at n cells o = if nat_eq o at then Some n else cells o

abbrev pub with_object : Name → Cells → Memory → Memory
with_object name cells m n = if same_name n name then cells else m n

-- nothing is set of what these calls lead to
abbrev pub without_own : List NodeId → Memory → Memory
without_own calls m n = if same_nodes n.calls calls then no_cells else m n

abbrev pub with_scalars : List Slot → List ℕ → Cells → Cells
with_scalars (s ∷ ss) (n ∷ ns) cells = with_scalars ss ns (with_cell s.offset n cells)
with_scalars _ _ cells = cells

-- an object that is no element of an argument is set to a value
abbrev pub with_whole : List ClType → Whole → List ℕ → Cells → Cells
with_whole cs (OneValue ty) v cells = with_scalars (slots_at cs ty) v cells
with_whole cs OneIndex (n ∷ ns) cells = with_cell 0 n cells
with_whole cs _ v cells = cells

-- objects of these calls, which were unset, from a number on are set
abbrev pub with_values : List ClType → List NodeId → ℕ → List Whole → List (List ℕ) → Memory → Memory
with_values cs calls k (w ∷ ws) (v ∷ vs) m = with_values cs calls (suc k) ws vs (with_object (record { calls = calls; number = k }) (with_whole cs w v no_cells) m)
with_values cs calls k _ _ m = m

-- parameters and indices, which stand behind the objects that are passed
abbrev pub with_params : List ClType → List NodeId → Code → List (List ℕ) → Memory → Memory
with_params cs calls c vs m = with_values cs calls (length c.privates) (map OneValue c.plain ++ replicate c.indices OneIndex) vs m
