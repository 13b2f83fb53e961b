-- What fits a copy and what doesn't, to see that well-formedness means what it says.
use Rattle.std.proofs.Common.{◌≡◌, ℕ, Bool, true, false, List, [], ◌∷◌, Option, Some, None, refl}
use Rattle.std.specs.Prelude.{is_some}
use Rattle.cl_types.specs.declared.types.ClType.{ClType}
use Rattle.cl_types.specs.declared.types.ClType.TheVariants as ty
use Rattle.cl_types.specs.declared.types.TypeId.{TypeId}
use Rattle.cl_types.specs.declared.space.Space.{Space}
use Rattle.cl_types.specs.declared.space.Space.TheVariants as space
use Rattle.cl_types.specs.declared.operator.BinOp.TheVariants as bin
use Rattle.cl_types.specs.declared.builtin.Builtin.TheVariants as builtin
use Rattle.cl_tree.specs.declared.event.NodeId.{NodeId}
use Rattle.cl_tree.specs.declared.expression.Facts.{Facts}
use Rattle.cl_tree.specs.Facts.{value}
use Rattle.obj_tree.specs.declared.object.Root.TheVariants as root
use Rattle.obj_tree.specs.declared.object.Mark.TheVariants as mark
use Rattle.obj_tree.specs.Places.{OneValue, OneIndex, OneOf}
use Rattle.obj_tree.specs.Typing.{Scope, Callee, Aimed, Given, root_at, reads_at, assigned, called, at_place, built_in_from}
use Rattle.obj_tree.specs.declared.object.Where.{Where}
use Rattle.obj_tree.specs.declared.program.Copy.{Copy}
use Rattle.obj_tree.specs.declared.statement.OStmt.{OStmt}
use Rattle.obj_tree.specs.Programs.{leads, is_own_copy, all_indices, are_places}
use Rattle.obj_tree.specs.Sites.{all_differ}

abbrev t : ℕ → TypeId
t n = record { 0 = n }

abbrev void : TypeId
void = t 0

abbrev int : TypeId
int = t 1

abbrev uint : TypeId
uint = t 2

-- pointers into global memory and into constant memory
abbrev ints : TypeId
ints = t 3

abbrev const_ints : TypeId
const_ints = t 4

abbrev two_ints : TypeId
two_ints = t 5

abbrev long : TypeId
long = t 6

abbrev int2 : TypeId
int2 = t 7

abbrev types : List ClType
types = ty.Void ∷ ty.Int 32 true ∷ ty.Int 32 false ∷ ty.Pointer space.Global int false false ∷ ty.Pointer space.Constant int true false ∷ ty.Array int 2 ∷ ty.Int 64 true ∷ ty.Vector int 2 ∷ []

-- Copy 0 is the kernel's own; copy 1 takes a private int, a long and one index; copy 2 is another kernel's. The copy here has an int that was passed, an
-- index and an array.
abbrev callee : ℕ → Bool → Callee
callee kernel is_own = record { kernel = kernel; is_own = is_own; privates = int ∷ []; plain = long ∷ []; indices = 1; result = int }

abbrev scope : Scope
scope = record {
  types = types;
  constants = int ∷ [];
  params = ints ∷ const_ints ∷ int ∷ [];
  locals = two_ints ∷ [];
  privates = OneValue int ∷ OneIndex ∷ OneValue two_ints ∷ [];
  kernel = 0;
  copies = callee 0 true ∷ callee 0 false ∷ callee 1 false ∷ [];
}

abbrev given : TypeId → Given
given ty s = Some (value ty)

-- ---- places

-- a plain parameter of the kernel is no object of this kind
plain_argument : root_at scope (root.Argument 2) ≡ None
plain_argument = refl

no_private : root_at scope (root.Private 3) ≡ None
no_private = refl

-- the shape of a pointer into an argument, and of one to an element
into_argument : leads scope (mark.Index ∷ []) (root_at scope (root.Argument 0)) ≡ true
into_argument = refl

into_element : leads scope (mark.Index ∷ mark.Single ∷ []) (root_at scope (root.Private 2)) ≡ true
into_element = refl

twice_into : leads scope (mark.Index ∷ mark.Index ∷ []) (root_at scope (root.Private 2)) ≡ false
twice_into = refl

-- an object without steps is no element; an int may be read as a uint, through a pointer that was cast, and not as a long
whole_argument : reads_at scope int (root_at scope (root.Argument 0)) ≡ false
whole_argument = refl

as_uint : reads_at scope uint (root_at scope (root.Private 0)) ≡ true
as_uint = refl

as_long : reads_at scope long (root_at scope (root.Private 0)) ≡ false
as_long = refl

-- an index is a number of 32 bits
index_as_int : reads_at scope int (root_at scope (root.Private 1)) ≡ true
index_as_int = refl

-- constants are read and not written
reads_constant : reads_at scope int (root_at scope (root.Constant 0)) ≡ true
reads_constant = refl

writes_constant : assigned None scope int (root_at scope (root.Constant 0)) (value int ∷ []) ≡ None
writes_constant = refl

writes_own : assigned (Some bin.Add) scope int (root_at scope (root.Private 0)) (value int ∷ []) ≡ Some (value int)
writes_own = refl

-- ---- calls

abbrev calls : Option Callee → List Facts → List Given → List ℕ → Bool
calls c plain indices privates = is_some (called scope int c plain indices privates)

takes_all : calls (Some (callee 0 false)) (value long ∷ []) (given uint ∷ []) (0 ∷ []) ≡ true
takes_all = refl

not_own : calls (Some (callee 0 true)) (value long ∷ []) (given uint ∷ []) (0 ∷ []) ≡ false
not_own = refl

not_of_another : calls (Some (callee 1 false)) (value long ∷ []) (given uint ∷ []) (0 ∷ []) ≡ false
not_of_another = refl

without_index : calls (Some (callee 0 false)) (value long ∷ []) [] (0 ∷ []) ≡ false
without_index = refl

-- the array is no int
other_private : calls (Some (callee 0 false)) (value long ∷ []) (given uint ∷ []) (2 ∷ []) ≡ false
other_private = refl

-- ---- built-in functions with places

abbrev element : Space → Aimed
element s = record { part = OneOf int; space = s; is_element = true }

loads_two : at_place (builtin.Vload 2) scope int2 (element space.Constant) [] ≡ true
loads_two = refl

stores_two : at_place (builtin.Vstore 2) scope void (element space.Local) (value int2 ∷ []) ≡ true
stores_two = refl

stores_no_constant : at_place (builtin.Vstore 2) scope void (element space.Constant) (value int2 ∷ []) ≡ false
stores_no_constant = refl

-- what has no others behind it
loads_no_member : at_place (builtin.Vload 2) scope int2 (record { part = OneOf int; space = space.Global; is_element = false }) [] ≡ false
loads_no_member = refl

adds_atomically : at_place builtin.AtomicAdd scope int (element space.Global) (value int ∷ []) ≡ true
adds_atomically = refl

adds_no_private : at_place builtin.AtomicAdd scope int (element space.Private) (value int ∷ []) ≡ false
adds_no_private = refl

-- a barrier has a node of the text, and nothing else has
abbrev node : NodeId
node = record { function = 0; node = 0 }

barrier_from : built_in_from builtin.Barrier (Some node) scope void None (value uint ∷ []) ≡ Some (value void)
barrier_from = refl

barrier_without : built_in_from builtin.Barrier None scope void None (value uint ∷ []) ≡ None
barrier_without = refl

other_from : built_in_from builtin.GetGlobalId (Some node) scope uint None (value uint ∷ []) ≡ None
other_from = refl

one_node : all_differ (node ∷ node ∷ []) ≡ false
one_node = refl

-- ---- copies and their pointers

abbrev own_copy : OStmt → List TypeId → Copy
own_copy body plain = record { kernel = 0; function = 0; pointers = (record { root = root.Argument 0; shape = mark.Index ∷ [] } ∷ []) ∷ []; plain = plain; indices = 1; privates = []; vars = []; result = void; body = body }

takes_plain : (body : OStmt) → is_own_copy types 0 (ints ∷ int ∷ []) (Some (own_copy body (int ∷ []))) ≡ true
takes_plain body = refl

takes_other : (body : OStmt) → is_own_copy types 0 (ints ∷ int ∷ []) (Some (own_copy body (long ∷ []))) ≡ false
takes_other body = refl

of_another : (body : OStmt) → is_own_copy types 1 (ints ∷ int ∷ []) (Some (own_copy body (int ∷ []))) ≡ false
of_another body = refl

-- one index, and two; of two alternatives the greater number and one more
abbrev element_of_row : Where
element_of_row = record { root = root.Private 0; shape = mark.Index ∷ mark.Member 1 ∷ mark.Index ∷ [] }

abbrev first_argument : Where
first_argument = record { root = root.Argument 0; shape = mark.Index ∷ [] }

counts_indices : all_indices ((first_argument ∷ []) ∷ (element_of_row ∷ []) ∷ []) ≡ 3
counts_indices = refl

counts_alternatives : all_indices ((first_argument ∷ element_of_row ∷ []) ∷ []) ≡ 3
counts_alternatives = refl

-- a pointer parameter names no private object but the ones that are passed
beyond_passed : are_places scope (record { root = root.Private 3; shape = [] } ∷ []) ≡ false
beyond_passed = refl
