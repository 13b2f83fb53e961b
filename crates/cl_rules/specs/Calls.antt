-- The rules of calls, casts, vector literals and `sizeof` (C99, 6.5; OpenCL C 1.2, 6.1.6, 6.2 and 6.3).
use Rattle.std.specs.Prelude.{ℕ, ◌+◌, nat_eq, not, ◌&&◌, ◌||◌, Bool, true, false, if◌then◌else◌, List, [], ◌∷◌, length, map, Option, Some, None, is_some}
use Rattle.cl_types.specs.declared.types.TypeId.{TypeId}
use Rattle.cl_types.specs.declared.space.Space.{Space}
use Rattle.cl_builtins.specs.declared.kind.Gentype.{Gentype}
use Rattle.cl_builtins.specs.Kinds.{is_same, element_of}
use Rattle.cl_tree.specs.declared.shape.Shape.{Shape}
use Rattle.cl_tree.specs.Shapes.{same_space, is_void, is_bool, is_array, is_pointer, is_number, is_vector, converts}
use Rattle.cl_rules.specs.declared.rule.Operand.{Operand}
use Rattle.cl_rules.specs.declared.rule.Target.{Target}
use Rattle.cl_rules.specs.declared.rule.Want.{Want}
use Rattle.cl_rules.specs.declared.rule.Judged.{Judged}
use Rattle.cl_rules.specs.declared.rule.Judged.TheVariants.{Broken}
use Rattle.cl_rules.specs.declared.rule.Qualified.{Qualified}
use Rattle.cl_scope.specs.declared.scope.Signature.{Signature}
use Rattle.cl_tree.specs.declared.shape.Shape.TheVariants as shape
use Rattle.cl_rules.specs.declared.rule.Want.TheVariants as want
use Rattle.cl_rules.specs.declared.rule.Head.TheVariants as head
use Rattle.cl_rules.specs.Operands.{unless, value, integers, seen, type_of, no_value, no_pointer}
use Rattle.cl_rules.specs.Operators.{space_or_private}

-- ---- calls of functions

-- 311 and 333: an argument doesn't convert to its parameter's type
abbrev pub some_no_value : List Operand → List Target → Bool
some_no_value (o ∷ os) (t ∷ ts) = no_value o t || some_no_value os ts
some_no_value _ _ = false

abbrev pub some_no_pointer : List Operand → List Target → Bool
some_no_pointer (o ∷ os) (t ∷ ts) = no_pointer o t || some_no_pointer os ts
some_no_pointer _ _ = false

abbrev pub wants_of : List TypeId → List Want
wants_of ts = map want.Type ts

-- A call of a function whose parameters have these types. 315: the wrong number of arguments; 316: a kernel; 317: a function that has no
-- body in the unit
abbrev pub call_of : List Operand → List Target → Signature → Judged
call_of os ts f =
    unless ((311, some_no_value os ts) ∷ (315, not (nat_eq (length os) (length ts))) ∷ (316, f.kernel) ∷ (317, not f.body) ∷ (333, some_no_pointer os ts) ∷ [])
    (value (wants_of f.params) (head.Call f.number) (want.Type f.result))

-- ---- types in expressions

-- 303: a pointer to void, bool, an array or a pointer
abbrev pub is_no_pointee : Shape → Bool
is_no_pointee s = is_void s || is_bool s || is_array s || is_pointer s

-- what a type's words say where a `*` stands behind them
abbrev pub pointer_to : Qualified → Bool → Shape
pointer_to q restricted = shape.Pointer (space_or_private q.space) q.ty q.readonly restricted

-- 326: two address spaces, or one where no `*` stands
abbrev pub no_space : Qualified → Bool → Bool
no_space q star = q.clash || (not star && is_some q.space)

abbrev pub in_space : Space → Shape → Bool
in_space s (shape.Pointer s2 to readonly restricted) = same_space s s2
in_space s _ = false

-- A cast to a pointer is judged by address spaces alone: whether it may change what it points to is told where objects are known.
abbrev pub cast_pointer : Qualified → Bool → Operand → Judged
cast_pointer q restricted o =
    unless ((303, is_no_pointee q.shape) ∷ (311, not (is_pointer (seen o))) ∷ (326, no_space q true) ∷ (333, is_pointer (seen o) && not (in_space (space_or_private q.space) (seen o))) ∷ [])
    (value (want.Own ∷ []) head.Convert (want.Of (pointer_to q restricted)))

abbrev pub no_cast : Qualified → Operand → Bool
no_cast q o = if is_pointer q.shape then not (is_pointer (seen o)) else not (converts o.shape o.facts.ty q.shape q.ty)

abbrev pub alike_spaces : Shape → Shape → Bool
alike_spaces (shape.Pointer s to ro re) p = in_space s p
alike_spaces _ p = false

abbrev pub other_space : Qualified → Operand → Bool
other_space q o = is_pointer q.shape && is_pointer (seen o) && not (alike_spaces q.shape (seen o))

-- 303: a cast to void or an array; 311: no conversion; 333: a pointer type by its own name, of another address space
abbrev pub cast_value : Qualified → Operand → Judged
cast_value q o =
    unless ((303, is_void q.shape || is_array q.shape) ∷ (311, no_cast q o) ∷ (326, no_space q false) ∷ (333, other_space q o) ∷ [])
    (value (want.Own ∷ []) head.Convert (want.Type q.ty))

-- where a `*` stands, whether it is `restrict`; a cast has one operand
abbrev pub cast_rule : Qualified → Option Bool → List Operand → Judged
cast_rule q None (o ∷ []) = cast_value q o
cast_rule q (Some restricted) (o ∷ []) = cast_pointer q restricted o
cast_rule q star _ = Broken 308

-- a part of a vector literal: a number, which converts to the components' type, or a vector of them
abbrev pub part_want : Gentype → Shape → Want
part_want t s = if is_number s then integers (element_of t) else want.Own

abbrev pub is_part : Gentype → Shape → Bool
is_part t s = is_number s || (is_vector s && is_same (element_of t) (element_of (type_of s)))

abbrev pub part_count : Shape → ℕ
part_count s = if is_vector s then (type_of s).count else 1

abbrev pub want_of : Gentype → Operand → Want
want_of t o = part_want t o.shape

abbrev pub part_wants : Gentype → List Operand → List Want
part_wants t os = map (want_of t) os

abbrev pub some_no_part : Gentype → List Operand → Bool
some_no_part t [] = false
some_no_part t (o ∷ os) = not (is_part t o.shape) || some_no_part t os

abbrev pub parts_count : List Operand → ℕ
parts_count [] = 0
parts_count (o ∷ os) = part_count o.shape + parts_count os

abbrev pub is_single : List Operand → Bool
is_single (o ∷ []) = is_number o.shape
is_single _ = false

-- 303: no vector; 311: a part of another type; 326: an address space; 331: neither one number nor the right number of components
abbrev pub vector : Qualified → List Operand → Judged
vector q os =
    unless ((303, not (is_vector q.shape)) ∷ (311, some_no_part (type_of q.shape) os) ∷ (326, no_space q false)
    ∷ (331, not (nat_eq (parts_count os) (type_of q.shape).count) && not (is_single os)) ∷ [])
    (value (part_wants (type_of q.shape) os) head.Vector (want.Type q.ty))

abbrev pub literal : Qualified → Option Bool → List Operand → Judged
literal q (Some restricted) os = Broken 303
literal q None os = vector q os

-- 303: the size of void, or of an array whose length isn't known yet
abbrev pub no_size : Operand → Bool
no_size o = is_void o.shape || not o.complete

-- 303 and 326: the size of a type
abbrev pub size_tests : Qualified → Option Bool → List (ℕ × Bool)
size_tests q None = (303, is_void q.shape) ∷ (326, no_space q false) ∷ []
size_tests q (Some restricted) = (303, is_no_pointee q.shape) ∷ (326, no_space q true) ∷ []
