-- Which expressions of a copy are typed by their operands, and which places they may name (C99, 6.5; OpenCL C 1.2, 6.2, 6.3 and 6.5).
use Rattle.std.specs.Prelude.{ℕ, nat_eq, not, ◌&&◌, ◌||◌, Bool, true, false, if◌then◌else◌, List, [], ◌∷◌, ◌++◌, length, map, Option, Some, None, slice_get, slice_index}
use Rattle.cl_types.specs.declared.types.ClType.{ClType}
use Rattle.cl_types.specs.declared.types.Member.{Member as StructMember}
use Rattle.cl_types.specs.declared.types.TypeId.{TypeId}
use Rattle.cl_types.specs.declared.space.Space.{Space}
use Rattle.cl_types.specs.declared.space.Space.TheVariants as space
use Rattle.cl_types.specs.declared.builtin.Builtin.{Builtin}
use Rattle.cl_types.specs.declared.builtin.Builtin.TheVariants as builtin
use Rattle.cl_types.specs.declared.operator.UnOp.{UnOp}
use Rattle.cl_types.specs.declared.operator.UnOp.TheVariants as un
use Rattle.cl_types.specs.declared.operator.BinOp.{BinOp}
use Rattle.cl_builtins.specs.declared.kind.Gentype.{Gentype}
use Rattle.cl_builtins.specs.declared.kind.Kind.{Kind}
use Rattle.cl_builtins.specs.declared.kind.Kind.TheVariants as kind
use Rattle.cl_builtins.specs.Kinds.{uint, element_of, kind_of}
use Rattle.cl_tree.specs.declared.event.NodeId.{NodeId}
use Rattle.cl_tree.specs.declared.expression.Facts.{Facts}
use Rattle.cl_tree.specs.declared.shape.Shape.{Shape}
use Rattle.cl_tree.specs.declared.shape.Shape.TheVariants as shape
use Rattle.cl_tree.specs.BuiltinCalls.{fits_call}
use Rattle.cl_tree.specs.Shapes.{shape_of, same_type, is_number, is_pointer, is_steppable, members_of}
use Rattle.cl_tree.specs.Facts.{Lists, when, bind, before, value, is_writable, are_below, same_types, sets, number, converted, unary, binary_at, chosen, vector, indexed, member, selected, filled, comma}
use Rattle.obj_tree.specs.declared.object.Root.{Root}
use Rattle.obj_tree.specs.declared.object.Root.TheVariants as root
use Rattle.obj_tree.specs.declared.expression.OExpr.{OExpr}
use Rattle.obj_tree.specs.declared.expression.ONode.TheOpen.{ONode-F, OExpr-F, Access-F, Step-F}
use Rattle.obj_tree.specs.declared.expression.ONode.TheOpen as node
use Rattle.obj_tree.specs.declared.expression.ONode.TheFolds.{fold-OExpr}
use Rattle.obj_tree.specs.Places.{Whole, OneValue, Part, InRow, OneOf, Selected, Word, at_start}

-- ---- what numbers are numbers of

-- a copy as a call sees it: its kernel, and whether it is the kernel's own
pub record Callee : Type 0 where
  pub kernel : ℕ
  pub is_own : Bool
  pub privates : List TypeId
  pub plain : List TypeId
  pub indices : ℕ
  pub result : TypeId

-- The types of the program and of its constants, those of the kernel's parameters and of its variables in local memory, the private objects of the copy, and
-- all copies.
pub record Scope : Type 0 where
  pub types : List ClType
  pub constants : List TypeId
  pub params : List TypeId
  pub locals : List TypeId
  pub privates : List Whole
  pub kernel : ℕ
  pub copies : List Callee

-- what is typed as in a tree is typed without names
abbrev pub unnamed : Scope → Lists
unnamed s = record { types = s.types; params = []; vars = []; constants = []; functions = [] }

-- ---- places

-- What a place has: the part that it is and its address space; and whether an index or a single step leads there, so that others lie behind it.
pub record Aimed : Type 0 where
  pub part : Part
  pub space : Space
  pub is_element : Bool

abbrev pub whole_in : Space → Whole → Aimed
whole_in s w = record { part = at_start w; space = s; is_element = false }

abbrev pub valued : Space → Option TypeId → Option Aimed
valued s None = None
valued s (Some t) = Some (whole_in s (OneValue t))

abbrev pub pointed : Shape → Option Aimed
pointed (shape.Pointer s to readonly restricted) = Some (record { part = InRow to 0; space = s; is_element = false })
pointed _ = None

abbrev pub pointed_by : Scope → Option TypeId → Option Aimed
pointed_by s None = None
pointed_by s (Some t) = pointed (shape_of s.types t)

abbrev pub private_at : Option Whole → Option Aimed
private_at None = None
private_at (Some w) = Some (whole_in space.Private w)

-- the object of a root, where its number is one of the list
abbrev pub root_at : Scope → Root → Option Aimed
root_at s (root.Argument k) = pointed_by s (slice_get s.params k)
root_at s (root.Constant k) = valued space.Constant (slice_get s.constants k)
root_at s (root.Local k) = valued space.Local (slice_get s.locals k)
root_at s (root.Private k) = private_at (slice_get s.privates k)

abbrev pub into : Bool → Aimed → Part → Aimed
into is_element a part = record a { part = part; is_element = is_element }

abbrev pub element_of_shape : Shape → Option Part
element_of_shape (shape.Array elem len nested) = Some (OneOf elem)
element_of_shape _ = None

abbrev pub element_part : Scope → Part → Option Part
element_part s (InRow t count) = Some (OneOf t)
element_part s (OneOf t) = element_of_shape (shape_of s.types t)
element_part s _ = None

abbrev pub single_part : Part → Option Part
single_part (OneOf t) = Some (OneOf t)
single_part _ = None

abbrev pub type_of_member : Option StructMember → Option Part
type_of_member None = None
type_of_member (Some m) = Some (OneOf m.ty)

abbrev pub member_part : Scope → ℕ → Part → Option Part
member_part s k (OneOf t) = type_of_member (slice_get (members_of s.types t) k)
member_part s k _ = None

abbrev pub has_components : List ℕ → Shape → Bool
has_components at (shape.Integers t) = not (nat_eq t.count 1) && are_below t.count at
has_components at _ = false

abbrev pub components_part : Scope → List ℕ → Part → Option Part
components_part s at (OneOf t) = when (has_components at (shape_of s.types t)) (Selected t at)
components_part s at (Selected t old) = when (are_below (length old) at) (Selected t (map (slice_index old) at))
components_part s at _ = None

abbrev pub stepped : Bool → Aimed → Option Part → Option Aimed
stepped is_element a None = None
stepped is_element a (Some part) = Some (into is_element a part)

-- Types of equal width and count, between which pointers may be cast, have the same scalars (OpenCL C 1.2, 6.2.5).
abbrev pub same_scalars : ℕ → ℕ → Shape → Bool
same_scalars bits count (shape.Integers t) = nat_eq t.bits bits && nat_eq t.count count
same_scalars bits count _ = false

abbrev pub is_cast_of : Shape → Shape → Bool
is_cast_of (shape.Integers t) to = same_scalars t.bits t.count to
is_cast_of from to = false

abbrev pub components_fit : List ℕ → Shape → Shape → Bool
components_fit at (shape.Integers t) to = same_scalars t.bits (length at) to
components_fit at _ to = false

-- whether a value of this type stands in a part
abbrev pub stands_in : Scope → TypeId → Part → Bool
stands_in s ty (OneOf t) = same_type t ty || is_cast_of (shape_of s.types t) (shape_of s.types ty)
stands_in s ty (Selected t at) = components_fit at (shape_of s.types t) (shape_of s.types ty)
stands_in s ty Word = same_scalars 32 1 (shape_of s.types ty)
stands_in s ty (InRow t count) = false

abbrev pub part_shape : Scope → Part → Shape
part_shape s (OneOf t) = shape_of s.types t
part_shape s _ = shape.Void

-- ---- nodes

-- the facts of an expression by the scope; of a node by its type besides
abbrev pub Given : Type 0
Given = Scope → Option Facts

abbrev pub GivenType : Type 0
GivenType = Scope → TypeId → Option Facts

abbrev pub Stepping : Type 0
Stepping = Scope → Aimed → Option Aimed

abbrev pub Aiming : Type 0
Aiming = Scope → Option Aimed

abbrev pub each : Scope → List Given → Option (List Facts)
each s [] = Some []
each s (g ∷ gs) = bind (g s) (before (each s gs))

abbrev pub is_index : Scope → Option Facts → Bool
is_index s None = false
is_index s (Some f) = is_number (shape_of s.types f.ty)

abbrev pub are_indices : Scope → List Given → Bool
are_indices s [] = true
are_indices s (g ∷ gs) = is_index s (g s) && are_indices s gs

abbrev pub step_over : Step-F GivenType Stepping Aiming Given → Stepping
step_over (node.Step::Member k) s a = stepped false a (member_part s k a.part)
step_over (node.Step::Index e) s a = if is_index s (e s) then stepped true a (element_part s a.part) else None
step_over (node.Single e) s a = if is_index s (e s) then stepped true a (single_part a.part) else None
step_over (node.Step::Components at) s a = stepped false a (components_part s at a.part)

abbrev pub along : Scope → List Stepping → Option Aimed → Option Aimed
along s fs None = None
along s [] (Some a) = Some a
along s (f ∷ fs) (Some a) = along s fs (f s a)

abbrev pub access_over : Access-F GivenType Stepping Aiming Given → Aiming
access_over a s = along s a.steps.items (root_at s a.root)

-- a place that is read, or written, as a value of this type
abbrev pub reads_at : Scope → TypeId → Option Aimed → Bool
reads_at s ty None = false
reads_at s ty (Some a) = stands_in s ty a.part

abbrev pub writes_at : Scope → TypeId → Option Aimed → Bool
writes_at s ty None = false
writes_at s ty (Some a) = stands_in s ty a.part && is_writable (Some a.space)

abbrev pub assigned : Option BinOp → Scope → TypeId → Option Aimed → List Facts → Option Facts
assigned op s ty a (v ∷ []) = when (writes_at s ty a && sets op (unnamed s) (value ty) v) (value ty)
assigned op s ty a _ = None

-- `++` and `--` have a place alone
abbrev pub counted : Scope → TypeId → Option Aimed → List Facts → Option Facts
counted s ty a [] = when (writes_at s ty a && is_steppable (shape_of s.types ty)) (value ty)
counted s ty a _ = None

-- the other operators have an operand alone
abbrev pub negated : UnOp → Scope → TypeId → Option Aiming → List Facts → Option Facts
negated op s ty None (f ∷ []) = unary op (unnamed s) ty f
negated op s ty _ _ = None

abbrev pub aimed_at : Scope → Option Aiming → Option Aimed
aimed_at s None = None
aimed_at s (Some f) = f s

abbrev pub unary_at : UnOp → Scope → TypeId → Option Aiming → List Facts → Option Facts
unary_at un.Plus s ty at fs = negated un.Plus s ty at fs
unary_at un.Minus s ty at fs = negated un.Minus s ty at fs
unary_at un.Not s ty at fs = negated un.Not s ty at fs
unary_at un.LogicalNot s ty at fs = negated un.LogicalNot s ty at fs
unary_at un.PreInc s ty at fs = counted s ty (aimed_at s at) fs
unary_at un.PreDec s ty at fs = counted s ty (aimed_at s at) fs
unary_at un.PostInc s ty at fs = counted s ty (aimed_at s at) fs
unary_at un.PostDec s ty at fs = counted s ty (aimed_at s at) fs
unary_at _ s ty at fs = None

-- ---- calls

-- a private object of the caller, which is of this type
abbrev pub is_of_type : TypeId → Option Whole → Bool
is_of_type t (Some (OneValue own)) = same_type t own
is_of_type t _ = false

abbrev pub are_passed : Scope → List TypeId → List ℕ → Bool
are_passed s [] [] = true
are_passed s (t ∷ ts) (k ∷ ks) = is_of_type t (slice_get s.privates k) && are_passed s ts ks
are_passed s [] (k ∷ ks) = false
are_passed s (t ∷ ts) [] = false

-- Another copy of the same kernel, but not the kernel's own, is called with what it takes.
abbrev pub called : Scope → TypeId → Option Callee → List Facts → List Given → List ℕ → Option Facts
called s ty None fs indices privates = None
called s ty (Some c) fs indices privates =
    when (nat_eq c.kernel s.kernel && not c.is_own && same_type ty c.result && same_types c.plain fs
    && nat_eq (length indices) c.indices && are_indices s indices && are_passed s c.privates privates) (value ty)

abbrev pub kind_at : Scope → Facts → Kind
kind_at s f = kind_of s.types f.ty

-- In place of a pointer to this type, as the forms of built-in functions know it, there is a place.
abbrev pub pointer_to : Space → Gentype → Kind
pointer_to s t = kind.Pointer (record { 0 = 0 }) s false t

abbrev pub gentype_of : Shape → Gentype
gentype_of (shape.Integers t) = t
gentype_of _ = uint

abbrev pub result_type : Scope → TypeId → Gentype
result_type s ty = gentype_of (shape_of s.types ty)

-- elements of this type stand at a place and behind it
abbrev pub has_elements : Scope → Gentype → Aimed → Bool
has_elements s t a = a.is_element && same_scalars t.bits 1 (part_shape s a.part)

abbrev pub first_type : Scope → List Facts → Gentype
first_type s [] = uint
first_type s (f ∷ fs) = result_type s f.ty

-- vloadN and vstoreN, of which the place holds the offset too (OpenCL C 1.2, 6.12.7), and atomics (6.12.11)
abbrev pub at_place : Builtin → Scope → TypeId → Aimed → List Facts → Bool
at_place (builtin.Vload n) s ty a fs =
    has_elements s (result_type s ty) a && fits_call (builtin.Vload n) (map (kind_at s) fs ++ kind.Integers uint ∷ pointer_to a.space (element_of (result_type s ty)) ∷ []) (kind_of s.types ty)
at_place (builtin.Vstore n) s ty a fs =
    has_elements s (first_type s fs) a && fits_call (builtin.Vstore n) (map (kind_at s) fs ++ kind.Integers uint ∷ pointer_to a.space (element_of (first_type s fs)) ∷ []) (kind_of s.types ty)
at_place f s ty a fs = stands_in s ty a.part && fits_call f (pointer_to a.space (result_type s ty) ∷ map (kind_at s) fs) (kind_of s.types ty)

abbrev pub with_place : Builtin → Scope → TypeId → Option Aimed → List Facts → Option Facts
with_place f s ty None fs = None
with_place f s ty (Some a) fs = when (at_place f s ty a fs) (value ty)

-- the node of the text is that of a barrier
abbrev pub is_barrier : Builtin → Bool
is_barrier builtin.Barrier = true
is_barrier _ = false

abbrev pub built_in : Builtin → Scope → TypeId → Option Aiming → List Facts → Option Facts
built_in f s ty None fs = when (fits_call f (map (kind_at s) fs) (kind_of s.types ty)) (value ty)
built_in f s ty (Some a) fs = with_place f s ty (a s) fs

abbrev pub built_in_from : Builtin → Option NodeId → Scope → TypeId → Option Aiming → List Facts → Option Facts
built_in_from f None s ty at fs = if is_barrier f then None else built_in f s ty at fs
built_in_from f (Some from) s ty at fs = if is_barrier f then built_in f s ty at fs else None

-- ---- expressions

abbrev pub node_over : ONode-F GivenType Stepping Aiming Given → GivenType
node_over (node.Read at) s ty = when (reads_at s ty (at s)) (value ty)
node_over (node.Assign op to args) s ty = bind (each s args.items) (assigned op s ty (to s))
node_over (node.Number bits) s ty = number (unnamed s) ty bits.width
node_over (node.Convert args) s ty = bind (each s args.items) (converted (unnamed s) ty)
node_over (node.Unary op at args) s ty = bind (each s args.items) (unary_at op s ty at)
node_over (node.Binary op args) s ty = bind (each s args.items) (binary_at op (unnamed s) ty)
node_over (node.Cond args) s ty = bind (each s args.items) (chosen (unnamed s) ty)
node_over (node.Vector args) s ty = bind (each s args.items) (vector (unnamed s) ty)
node_over (node.Call copy plain indices privates from) s ty = bind (each s plain.items) (λ fs. called s ty (slice_get s.copies copy) fs indices.items privates)
node_over (node.Builtin f at args from) s ty = bind (each s args.items) (built_in_from f from s ty at)
node_over (node.ONode::Index args) s ty = bind (each s args.items) (indexed (unnamed s) ty)
node_over (node.ONode::Member k args) s ty = bind (each s args.items) (member k (unnamed s) ty)
node_over (node.ONode::Components at args) s ty = bind (each s args.items) (selected at (unnamed s) ty)
node_over (node.Fill args) s ty = bind (each s args.items) (filled (unnamed s) ty)
node_over (node.Comma args) s ty = bind (each s args.items) (comma (unnamed s) ty)

-- no node is a pointer
abbrev pub expr_over : OExpr-F GivenType Stepping Aiming Given → Given
expr_over e s = if is_pointer (shape_of s.types e.ty) then None else e.node s e.ty

abbrev pub facts_of : OExpr → Given
facts_of = fold-OExpr GivenType Stepping Aiming Given node_over step_over access_over expr_over
