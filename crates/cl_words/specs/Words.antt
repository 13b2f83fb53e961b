-- The types that words and declared names name (C99, 6.7.2, 6.7.3 and 6.7.5; OpenCL C 1.2, 6.5).
use Rattle.std.specs.Prelude.{ℕ, nat_eq, nat_lt, not, ◌&&◌, ◌||◌, Bool, true, false, if◌then◌else◌, List, [], ◌∷◌, Option, Some, None, is_some, bytes_eq}
use Rattle.cl_types.specs.declared.types.ClType.{ClType}
use Rattle.cl_types.specs.declared.types.ClType.TheVariants as ty
use Rattle.cl_types.specs.declared.types.Member.{Member}
use Rattle.cl_types.specs.declared.space.Space.{Space}
use Rattle.cl_types.specs.declared.space.Space.TheVariants as space
use Rattle.cl_types.specs.Layout.{TypeTree, Scalar, Array, size_of, depth_of, is_width, is_count}
use Rattle.cl_types.specs.Table.{tree_of, tree_from, trees}
use Rattle.cl_builtins.specs.Kinds.{int}
use Rattle.cl_ast.specs.declared.expression.Qual.{Qual}
use Rattle.cl_ast.specs.declared.expression.Qual.TheVariants as qual
use Rattle.cl_ast.specs.declared.expression.Base.{Base}
use Rattle.cl_ast.specs.declared.expression.Base.TheVariants as base
use Rattle.cl_tree.specs.declared.shape.Shape.{Shape}
use Rattle.cl_tree.specs.declared.shape.Shape.TheVariants as shape
use Rattle.cl_tree.specs.Shapes.{same_space, is_void, is_bool, is_array, is_pointer}
use Rattle.cl_words.specs.declared.naming.Length.{Length}
use Rattle.cl_words.specs.declared.naming.Length.TheVariants.{Long, Open, Wrong}
use Rattle.cl_rules.specs.declared.rule.Qualified.{Qualified}
use Rattle.cl_words.specs.declared.naming.Sketch.{Sketch}
use Rattle.cl_rules.specs.declared.rule.Target.{Target}
use Rattle.cl_rules.specs.declared.rule.Want.{Want}
use Rattle.cl_rules.specs.declared.rule.Want.TheVariants as want
use Rattle.cl_rules.specs.Calls.{is_no_pointee, pointer_to}

-- ---- words

-- The type that a word names by itself. No text has a word for another width or number of components; it would count as int.
abbrev pub integers : ℕ → Bool → ℕ → Shape
integers bits signed n = if is_width bits && (nat_eq n 1 || is_count n) then shape.Integers (record { bits = bits; signed = signed; count = n }) else shape.Integers int

abbrev pub word_shape : Base → Option Shape
word_shape base.Void = Some shape.Void
word_shape base.Bool = Some shape.Bool
word_shape (base.Int bits signed) = Some (integers bits signed 1)
word_shape (base.Vector bits signed n) = Some (integers bits signed n)
word_shape (base.Sized signed) = Some (integers 32 signed 1)
word_shape _ = None

abbrev pub is_sized : Base → Bool
is_sized (base.Sized signed) = true
is_sized _ = false

-- ---- qualifiers

abbrev pub is_const : Qual → Bool
is_const qual.Const = true
is_const _ = false

abbrev pub has_const : List Qual → Bool
has_const [] = false
has_const (q ∷ qs) = is_const q || has_const qs

abbrev pub is_restrict : Qual → Bool
is_restrict qual.Restrict = true
is_restrict _ = false

abbrev pub has_restrict : List Qual → Bool
has_restrict [] = false
has_restrict (q ∷ qs) = is_restrict q || has_restrict qs

abbrev pub restrict_behind : Option (List Qual) → Option Bool
restrict_behind None = None
restrict_behind (Some qs) = Some (has_restrict qs)

-- an address space that is named, beside the ones so far
abbrev pub with_space_at : Space → Qualified → Option Space → Qualified
with_space_at s q None = record q { space = Some s }
with_space_at s q (Some own) = record q { clash = q.clash || not (same_space s own) }

abbrev pub with_space : Space → Qualified → Qualified
with_space s q = with_space_at s q q.space

abbrev pub with_qual : Qual → Qualified → Qualified
with_qual qual.Const q = record q { readonly = true }
with_qual qual.Volatile q = q
with_qual qual.Restrict q = q
with_qual (qual.Space s) q = with_space s q

-- what qualifiers say, in text order
abbrev pub qualify : List Qual → Qualified → Qualified
qualify [] q = q
qualify (k ∷ ks) q = qualify ks (with_qual k q)

-- a type without qualifiers; what a typedef's name says, whose address space is private where it names none
abbrev pub plain : Target → Bool → Qualified
plain t sized = record { ty = t.ty; shape = t.shape; readonly = false; space = None; clash = false; sized = sized }

abbrev pub unless_private : Space → Option Space
unless_private space.Private = None
unless_private s = Some s

abbrev pub named_type : Target → Bool → Space → Qualified
named_type t readonly s = record { ty = t.ty; shape = t.shape; readonly = readonly; space = unless_private s; clash = false; sized = false }

-- ---- declared names

-- a length that is written: none where it is no positive constant
abbrev pub length_from : Option ℕ → Length
length_from None = Wrong
length_from (Some n) = Long n

-- a declared name behind a type, with its `*` and its lengths
abbrev pub sketch : Qualified → Option (List Qual) → List Length → Sketch
sketch q None ls = record { of = want.Type q.ty; shape = q.shape; no_type = false; lengths = ls; space = q.space; clash = q.clash; readonly = q.readonly }
sketch q (Some qs) ls =
    record { of = want.Of (pointer_to q (has_restrict qs)); shape = pointer_to q (has_restrict qs); no_type = is_no_pointee q.shape; lengths = ls; space = None; clash = q.clash; readonly = has_const qs }

-- the layout of the type before `[`, which is one of the table or a pointer
abbrev pub layout_of : List ClType → Want → TypeTree
layout_of cs (want.Type t) = tree_of cs t.0
layout_of cs w = Scalar 32

abbrev pub is_long : Length → Bool
is_long (Long n) = true
is_long _ = false

abbrev pub is_wrong : Length → Bool
is_wrong Wrong = true
is_wrong _ = false

abbrev pub some_wrong : List Length → Bool
some_wrong [] = false
some_wrong (l ∷ ls) = is_wrong l || some_wrong ls

-- the first length is missing
abbrev pub is_open : List Length → Bool
is_open (Open ∷ ls) = true
is_open _ = false

abbrev pub has_lengths : List Length → Bool
has_lengths [] = false
has_lengths (l ∷ ls) = true

-- no array has elements of this type (303)
abbrev pub is_no_element : Shape → Bool
is_no_element s = is_void s || is_bool s || is_pointer s

abbrev pub no_declared_type : Sketch → Bool
no_declared_type k = k.no_type || (has_lengths k.lengths && is_no_element k.shape)

-- what is declared is an array, a void, a bool or a pointer
abbrev pub is_declared_array : Sketch → Bool
is_declared_array k = has_lengths k.lengths || is_array k.shape

abbrev pub is_declared : (Shape → Bool) → Sketch → Bool
is_declared kind k = not (has_lengths k.lengths) && kind k.shape

-- The numbers of elements. A first length that is missing counts as so many; a wrong one as 1, since it is refused before anything is
-- asked of the type.
abbrev pub number_in : ℕ → Length → ℕ
number_in first (Long n) = n
number_in first Open = first
number_in first Wrong = 1

abbrev pub numbers : ℕ → List Length → List ℕ
numbers first [] = []
numbers first (l ∷ ls) = number_in first l ∷ numbers 1 ls

-- the layout of an array of arrays, the outermost length first
abbrev pub array_tree : TypeTree → List ℕ → TypeTree
array_tree t [] = t
array_tree t (n ∷ ns) = Array (array_tree t ns) n

-- 501: over 65,536 bytes; 502: over 16 deep
abbrev pub is_large : TypeTree → Bool
is_large t = nat_lt 65536 (size_of t)

abbrev pub is_deep : TypeTree → Bool
is_deep t = nat_lt 16 (depth_of t)

abbrev pub limits : TypeTree → List (ℕ × Bool)
limits t = (501, is_large t) ∷ (502, is_deep t) ∷ []

-- An array of which the first length is missing has at least one element.
abbrev pub declared_tree : List ClType → Sketch → ℕ → TypeTree
declared_tree cs k first = array_tree (layout_of cs k.of) (numbers first k.lengths)

abbrev pub declared_limits_at : List ClType → Sketch → ℕ → List (ℕ × Bool)
declared_limits_at cs k first = limits (declared_tree cs k first)

abbrev pub declared_limits : List ClType → Sketch → List (ℕ × Bool)
declared_limits cs k = declared_limits_at cs k 1

-- ---- structs

abbrev pub has_member : List ℕ → List Member → Bool
has_member name [] = false
has_member name (m ∷ ms) = bytes_eq name m.name || has_member name ms

-- A member: 302: one of this name stands before it; 303: void, bool or a pointer; 304: a wrong length; 326: an address space; 501, 502: too
-- large, too deep.
abbrev pub member_tests_at : Sketch → Bool → Bool → Bool → List (ℕ × Bool)
member_tests_at k repeated large deep =
    (302, repeated) ∷ (303, no_declared_type k || is_declared is_no_element k) ∷ (304, some_wrong k.lengths) ∷ (326, k.clash || is_some k.space)
    ∷ (501, large) ∷ (502, deep) ∷ []

abbrev pub member_tests : List ClType → Sketch → Bool → List (ℕ × Bool)
member_tests cs k repeated = member_tests_at k repeated (is_large (declared_tree cs k 1)) (is_deep (declared_tree cs k 1))

abbrev pub is_empty : List Member → Bool
is_empty [] = true
is_empty (m ∷ ms) = false

-- A struct: 302: the innermost block has a struct of this tag; 303: it has no members, which stands in no text; 501, 502.
abbrev pub struct_tests : List ClType → List Member → Bool → List (ℕ × Bool)
struct_tests cs members repeated = (302, repeated) ∷ (303, is_empty members) ∷ limits (tree_from (trees cs) (ty.Struct [] members))

abbrev pub name_or_none : Option (List ℕ) → List ℕ
name_or_none None = []
name_or_none (Some name) = name
