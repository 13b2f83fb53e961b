-- The rules of `?:`, `[]`, the comma, members and components (C99, 6.5; OpenCL C 1.2, 6.1.7 and 6.3).
use Rattle.std.specs.Prelude.{ℕ, suc, ◌≤◌, nat_eq, nat_lt, nat_le, not, ◌&&◌, ◌||◌, Bool, true, false, if◌then◌else◌, List, [], ◌∷◌, length, map, Option, Some, None, is_some, bytes_eq, codes}
use Rattle.std.specs.List.{list_all}
use Rattle.cl_types.specs.declared.types.Member.{Member}
use Rattle.cl_types.specs.declared.types.TypeId.{TypeId}
use Rattle.cl_builtins.specs.declared.kind.Gentype.{Gentype}
use Rattle.cl_tree.specs.declared.shape.Shape.{Shape}
use Rattle.cl_tree.specs.Shapes.{same_type, is_void, is_array, is_struct, is_pointer, is_number, is_vector}
use Rattle.cl_tree.specs.Facts.{are_below}
use Rattle.cl_rules.specs.declared.rule.Operand.{Operand}
use Rattle.cl_rules.specs.declared.rule.Want.{Want}
use Rattle.cl_rules.specs.declared.rule.Made.{Made}
use Rattle.cl_rules.specs.declared.rule.Judged.{Judged}
use Rattle.cl_rules.specs.declared.rule.Meeting.{Meeting}
use Rattle.cl_rules.specs.declared.rule.Judged.TheVariants.{Broken, Makes}
use Rattle.cl_tree.specs.declared.shape.Shape.TheVariants as shape
use Rattle.cl_rules.specs.declared.rule.Want.TheVariants as want
use Rattle.cl_rules.specs.declared.rule.Head.TheVariants as head
use Rattle.cl_rules.specs.Operands.{unless, value, place, part, component, integers, seen, to_array, common, type_of}
use Rattle.cl_rules.specs.Operators.{meet, met, meets, own_types, pointers_meet}

-- ---- the other operators

-- 318: the test is no number; the arms: two pointers; two structs of one type, or both void; or as for an operator
abbrev pub chosen_tests : Operand → List (ℕ × Bool) → List (ℕ × Bool)
chosen_tests test [] = (318, not (is_number test.shape)) ∷ []
chosen_tests test (t ∷ ts) = t ∷ chosen_tests test ts

abbrev pub choice : Want → Made
choice w = value (want.Own ∷ w ∷ w ∷ []) head.Cond w

abbrev pub is_plain : Shape → Bool
is_plain s = is_struct s || is_void s

abbrev pub two_pointers : Operand → Operand → List (ℕ × Bool)
two_pointers a b = if is_pointer (seen a) && is_pointer (seen b) then pointers_meet a b else (308, true) ∷ []

abbrev pub chosen_pointers : Operand → Operand → Operand → Judged
chosen_pointers test a b = unless (chosen_tests test (two_pointers a b)) (choice (want.Of (common (seen a) (seen b))))

abbrev pub chosen_alike : Operand → Operand → Judged
chosen_alike test a = unless (chosen_tests test []) (choice (want.Type a.facts.ty))

abbrev pub chosen_numbers : Operand → Meeting → Judged
chosen_numbers test m = unless (chosen_tests test (meets m)) (choice (integers (met m)))

abbrev pub chosen : Operand → Operand → Operand → Judged
chosen test a b =
    if is_pointer (seen a) || is_pointer (seen b) then chosen_pointers test a b
    else if is_plain a.shape && same_type a.facts.ty b.facts.ty then chosen_alike test a
    else chosen_numbers test (meet a.shape b.shape)

-- 313: no pointer and no array before `[`; 308: the index is no number
abbrev pub at_index : Operand → Shape → Shape → Judged
at_index p (shape.Pointer s to readonly restricted) n = unless ((308, not (is_number n)) ∷ []) (place own_types head.Index (want.Type to) s readonly)
at_index p (shape.Array elem len nested) n = unless ((308, not (is_number n)) ∷ []) (part own_types head.Index (want.Type elem) p)
at_index p _ n = Broken 313

-- the component of a vector with a constant index is a rule of its own
abbrev pub indexed : Operand → Operand → Option Judged
indexed p i = if is_vector p.shape then None else Some (at_index p p.shape i.shape)

-- 303: the last operand is an array of arrays; an array stands for a pointer
abbrev pub comma_at : List Want → Operand → Judged
comma_at wants o =
    if is_array o.shape && is_some o.facts.lies then unless ((303, to_array o) ∷ []) (value wants head.Comma (want.Of (seen o)))
    else Makes (value wants head.Comma (want.Type o.facts.ty))

abbrev pub last_want : Operand → Want
last_want o = if is_array o.shape && is_some o.facts.lies then want.Of (seen o) else want.Own

abbrev pub comma_wants : Operand → List Operand → List Want
comma_wants o [] = last_want o ∷ []
comma_wants o (p ∷ ps) = want.Own ∷ comma_wants p ps

abbrev pub last_of : Operand → List Operand → Operand
last_of o [] = o
last_of o (p ∷ ps) = last_of p ps

-- of one operand or more
abbrev pub comma : List Operand → Option Judged
comma [] = None
comma (o ∷ os) = Some (comma_at (comma_wants o os) (last_of o os))

-- ---- members and components

-- x y z w, or the digits behind `s`
abbrev pub letter : ℕ → Option ℕ
letter c = if nat_eq c 120 then Some 0 else if nat_eq c 121 then Some 1 else if nat_eq c 122 then Some 2 else if nat_eq c 119 then Some 3 else None

abbrev pub digit : ℕ → Option ℕ
digit c = if nat_eq c 48 then Some 0 else if nat_eq c 49 then Some 1 else if nat_eq c 50 then Some 2 else if nat_eq c 51 then Some 3 else None

abbrev pub named_at : Bool → ℕ → Option ℕ
named_at true c = digit c
named_at false c = letter c

abbrev pub is_named : Bool → ℕ → Bool
is_named digits c = is_some (named_at digits c)

abbrev pub number_in : Option ℕ → ℕ
number_in None = 0
number_in (Some k) = k

abbrev pub number_at : Bool → ℕ → ℕ
number_at digits c = number_in (named_at digits c)

-- the components that these bytes name, by digits or by letters
abbrev pub named : Bool → List ℕ → Option (List ℕ)
named digits name = if list_all (is_named digits) name then Some (map (number_at digits) name) else None

-- the components of a half, or of every second one (OpenCL C 1.2, 6.1.7)
abbrev pub half_of : ℕ → ℕ → ℕ → ℕ → List ℕ
half_of n alone first second = if nat_eq n 2 then alone ∷ [] else first ∷ second ∷ []

abbrev pub half : ℕ → List ℕ → Option (List ℕ)
half n name =
    if bytes_eq name (codes "lo") then Some (half_of n 0 0 1)
    else if bytes_eq name (codes "hi") then Some (half_of n 1 2 3)
    else if bytes_eq name (codes "even") then Some (half_of n 0 0 2)
    else if bytes_eq name (codes "odd") then Some (half_of n 1 1 3)
    else None

abbrev pub is_half : List ℕ → Bool
is_half name = is_some (half 4 name)

-- an `s` stands before digits
abbrev pub spelled : List ℕ → Option (List ℕ)
spelled (c ∷ d ∷ cs) = if nat_eq c 115 then named true (d ∷ cs) else named false (c ∷ d ∷ cs)
spelled cs = named false cs

-- as many components as there may be in a vector
abbrev pub is_few : ℕ → Bool
is_few n = nat_lt 0 n && nat_le n 4

abbrev pub AreFew : Option (List ℕ) → Type 0
AreFew None = Unit {0}
AreFew (Some at) = length at ≤ 4

abbrev pub within : ℕ → Option (List ℕ) → Option (List ℕ)
within n None = None
within n (Some at) = if is_few (length at) && are_below n at then Some at else None

-- the components that a name selects of a vector of n
abbrev pub selection : ℕ → List ℕ → Option (List ℕ)
selection n name = if is_half name then (if nat_eq n 3 then None else half n name) else within n (spelled name)

abbrev pub is_among : ℕ → List ℕ → Bool
is_among k [] = false
is_among k (j ∷ js) = nat_eq k j || is_among k js

abbrev pub repeats : List ℕ → Bool
repeats [] = false
repeats (k ∷ ks) = is_among k ks || repeats ks

-- 307: no selection of this vector, or one with a component twice on the left of an assignment
abbrev pub selected : Bool → Operand → Gentype → Option (List ℕ) → Judged
selected left o t None = Broken 307
selected left o t (Some at) = unless ((307, left && repeats at) ∷ []) (component (head.Components at) (integers (record t { count = length at })) o)

-- 306: no such member
abbrev pub member_from : ℕ → List ℕ → List Member → Option (ℕ × TypeId)
member_from k name [] = None
member_from k name (m ∷ ms) = if bytes_eq name m.name then Some (k, m.ty) else member_from (suc k) name ms

abbrev pub member_at : Operand → Option (ℕ × TypeId) → Judged
member_at o None = Broken 306
member_at o (Some m) = Makes (part (want.Own ∷ []) (head.Member m.0) (want.Type m.1) o)

-- a member of an operand that has these
abbrev pub member : Bool → List Member → List ℕ → Operand → Judged
member left members name o =
    if is_vector o.shape then selected left o (type_of o.shape) (selection (type_of o.shape).count name)
    else member_at o (member_from 0 name members)
