-- The form of a typing rule; operands, and the types to which they convert by themselves (C99, 6.3; OpenCL C 1.2, 6.2).
use Rattle.std.specs.Prelude.{ℕ, not, ◌&&◌, ◌||◌, Bool, true, false, if◌then◌else◌, List, [], ◌∷◌, Option, Some, None, is_some}
use Rattle.cl_types.specs.declared.space.Space.{Space}
use Rattle.cl_builtins.specs.declared.kind.Gentype.{Gentype}
use Rattle.cl_builtins.specs.Kinds.{int}
use Rattle.cl_tree.specs.declared.shape.Shape.{Shape}
use Rattle.cl_tree.specs.Shapes.{same_type, same_space, is_pointer, converts, arithmetic}
use Rattle.cl_rules.specs.declared.rule.Operand.{Operand}
use Rattle.cl_rules.specs.declared.rule.Target.{Target}
use Rattle.cl_rules.specs.declared.rule.Want.{Want}
use Rattle.cl_rules.specs.declared.rule.Head.{Head}
use Rattle.cl_rules.specs.declared.rule.Made.{Made}
use Rattle.cl_rules.specs.declared.rule.Judged.{Judged}
use Rattle.cl_rules.specs.declared.rule.Judged.TheVariants.{Broken, Makes}
use Rattle.cl_tree.specs.declared.shape.Shape.TheVariants as shape
use Rattle.cl_rules.specs.declared.rule.Want.TheVariants as want

-- ---- the form of a rule: codes in ascending order, each with whether its rule is broken

abbrev pub first_broken : List (ℕ × Bool) → Option ℕ
first_broken [] = None
first_broken (t ∷ ts) = if t.1 then Some t.0 else first_broken ts

abbrev pub unless_at : Option ℕ → Made → Judged
unless_at None made = Makes made
unless_at (Some code) made = Broken code

abbrev pub unless : List (ℕ × Bool) → Made → Judged
unless tests made = unless_at (first_broken tests) made

-- ---- what nodes make: a value, a place, and a part of an operand, which is a place where that is one

abbrev pub value : List Want → Head → Want → Made
value wants h gives = record { wants = wants; head = h; gives = gives; lies = None; component = false; readonly = false }

abbrev pub place : List Want → Head → Want → Space → Bool → Made
place wants h gives s readonly = record { wants = wants; head = h; gives = gives; lies = Some s; component = false; readonly = readonly }

abbrev pub part : List Want → Head → Want → Operand → Made
part wants h gives o = record { wants = wants; head = h; gives = gives; lies = o.facts.lies; component = false; readonly = o.readonly }

abbrev pub component : Head → Want → Operand → Made
component h gives o = record { wants = want.Own ∷ []; head = h; gives = gives; lies = o.facts.lies; component = true; readonly = o.readonly }

abbrev pub integers : Gentype → Want
integers t = want.Of (shape.Integers t)

-- ---- operands

-- An array that is a place stands for a pointer to its first element (C99, 6.3.2.1).
abbrev pub pointer_from : Option Space → Bool → Shape → Shape
pointer_from (Some s) readonly (shape.Array elem len nested) = shape.Pointer s elem readonly false
pointer_from lies readonly s = s

abbrev pub seen : Operand → Shape
seen o = pointer_from o.facts.lies o.readonly o.shape

-- Pointers to arrays are left out of the language: what would be one is the name of an array of arrays.
abbrev pub is_nested : Shape → Bool
is_nested (shape.Array elem len nested) = nested
is_nested _ = false

abbrev pub to_array : Operand → Bool
to_array o = is_some o.facts.lies && is_nested o.shape

-- pointers to one type, in one address space
abbrev pub same_target : Shape → Shape → Bool
same_target (shape.Pointer s to ro re) (shape.Pointer s2 to2 ro2 re2) = same_space s s2 && same_type to to2
same_target _ _ = false

-- the type of two pointers that meet
abbrev pub common : Shape → Shape → Shape
common (shape.Pointer s to ro re) (shape.Pointer s2 to2 ro2 re2) = shape.Pointer s to (ro || ro2) (re && re2)
common p _ = p

-- a pointer converts to one with the same target that is const too
abbrev pub adds_const : Shape → Shape → Bool
adds_const (shape.Pointer s to ro re) (shape.Pointer s2 to2 ro2 re2) = same_space s s2 && same_type to to2 && (ro2 || not ro)
adds_const _ _ = false

-- the integer type of an operand, where it has one; a bool's is int
abbrev pub integer_of : Option Gentype → Gentype
integer_of None = int
integer_of (Some t) = t

abbrev pub type_of : Shape → Gentype
type_of s = integer_of (arithmetic s)

abbrev pub is_arithmetic : Shape → Bool
is_arithmetic s = is_some (arithmetic s)

-- ---- implicit conversions to a type that is wanted: 311 where there is none, 333 between pointers

abbrev pub no_value : Operand → Target → Bool
no_value o t = if is_pointer t.shape then not (is_pointer (seen o)) else not (converts o.shape o.facts.ty t.shape t.ty)

abbrev pub no_pointer : Operand → Target → Bool
no_pointer o t = is_pointer t.shape && is_pointer (seen o) && not (adds_const (seen o) t.shape)

-- the type of an operand
abbrev pub type_at : Operand → Target
type_at o = record { ty = o.facts.ty; shape = o.shape }
